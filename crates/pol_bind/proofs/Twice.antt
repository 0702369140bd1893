-- A tag that is bound twice, whatever order the earlier roles have.
use Rattle.std.proofs.Common.{◌≡◌, ℕ, Bool, true, false, List, [], ◌∷◌, ◌++◌, Option, Some, None, refl, sym, ap, ◌∙◌}
use Rattle.std.specs.Prelude.{◌||◌, filter_map}
use Rattle.std.proofs.Math.Bool.{or_assoc, or-false}
use Rattle.std.specs.List.{cons_option}
use Rattle.std.specs.Option.{option_or}
use Rattle.std.specs.Str.{bytes_eq}
use Rattle.mtp_codes.specs.Faults.{when}
use Rattle.mtp_codes.specs.Names.{is_among}
use Rattle.pol_bind.specs.Roles.{twice_from}
use Rattle.pol_events.specs.BindRules.{is_bound_before, one_module_twice, twice}
use Rattle.pol_events.specs.Bound.{bound_tag}
use Rattle.pol_events.specs.declared.answer.Rule.TheVariants.{OneModuleTwice}
use Rattle.pol_events.specs.declared.event.Bind.{Bind}

-- it is the same which of two comes first
or_swap : (one other : Bool) → (one || (other || false)) ≡ (other || one)
or_swap true true = refl
or_swap true false = refl
or_swap false true = refl
or_swap false false = refl

-- a tag is bound to one of two lists of roles
before_append : (binds : List Bind) (front : List (List ℕ)) (role tag : List ℕ) →
    is_bound_before binds (front ++ role ∷ []) tag
    ≡ (is_bound_before binds front tag || is_bound_before binds (role ∷ []) tag)
before_append binds [] role tag = refl
before_append binds (first ∷ front) role tag = go (bound_tag binds first) (before_append binds front role tag)
  where
    go : (found : Option (List ℕ)) → is_bound_before binds (front ++ role ∷ []) tag
        ≡ (is_bound_before binds front tag || is_bound_before binds (role ∷ []) tag) →
        is_among (cons_option found (filter_map (bound_tag binds) (front ++ role ∷ []))) tag
        ≡ (is_among (cons_option found (filter_map (bound_tag binds) front)) tag || is_bound_before binds
        (role ∷ []) tag)
    go None rest = rest
    go (Some other) rest =
        ap (λ later. bytes_eq other tag || later) rest
        ∙ sym (or_assoc (bytes_eq other tag) (is_bound_before binds front tag) (is_bound_before binds (role ∷ []) tag))

-- it is bound to one role
before_one : (binds : List Bind) (earlier : List (List ℕ)) (role tag : List ℕ) →
    (is_bound_before binds earlier tag || is_bound_before binds (role ∷ []) tag)
    ≡ is_bound_before binds (role ∷ earlier) tag
before_one binds earlier role tag = go (bound_tag binds role)
  where
    go : (found : Option (List ℕ)) →
        (is_bound_before binds earlier tag || is_among (cons_option found []) tag)
        ≡ is_among (cons_option found (filter_map (bound_tag binds) earlier)) tag
    go None = or-false (is_bound_before binds earlier tag)
    go (Some other) = or_swap (is_bound_before binds earlier tag) (bytes_eq other tag)

-- a tag is bound twice whatever order the earlier roles have
twice_as : (binds : List Bind) (front earlier : List (List ℕ)) →
    ((tag : List ℕ) → is_bound_before binds front tag ≡ is_bound_before binds earlier tag) →
    (found : Option (List ℕ)) → twice binds front found ≡ twice binds earlier found
twice_as binds front earlier same None = refl
twice_as binds front earlier same (Some tag) = ap (λ before. when before (OneModuleTwice tag)) (same tag)

-- so the first such tag is the same
twice_same : (binds : List Bind) (front earlier roles : List (List ℕ)) →
    ((tag : List ℕ) → is_bound_before binds front tag ≡ is_bound_before binds earlier tag) →
    twice_from binds front roles ≡ one_module_twice binds earlier roles
twice_same binds front earlier [] same = refl
twice_same binds front earlier (role ∷ roles) same =
    ap (λ found. option_or found (twice_from binds (front ++ role ∷ []) roles))
    (twice_as binds front earlier same (bound_tag binds role))
    ∙ ap (option_or (twice binds earlier (bound_tag binds role)))
    (twice_same binds (front ++ role ∷ []) (role ∷ earlier) roles
    (λ tag. before_append binds front role tag ∙ ap (λ before. before || is_bound_before binds (role ∷ []) tag)
    (same tag) ∙ before_one binds earlier role tag))

-- as where no role is earlier
pub twice_in_order : (binds : List Bind) (roles : List (List ℕ))
    → twice_from binds [] roles ≡ one_module_twice binds [] roles
twice_in_order binds roles = twice_same binds [] [] roles (λ tag. refl)
