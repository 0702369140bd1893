-- Binds in byte order of their roles say the same as in another order.
use Rattle.std.proofs.Common.{◌≡◌, ℕ, Bool, true, false, not, cond, Option, Some, None, List, [], ◌∷◌, refl, sym, ◌∙◌}
use Rattle.std.proofs.Common.{ap, subst, inl, inr, ◌⊎◌, Ordering, Less, Equal, Greater}
use Rattle.std.specs.Prelude.{find, option_map}
use Rattle.std.specs.Cmp.Lexicographic.{slice_cmp}
use Rattle.std.specs.List.{Contains, list_all}
use Rattle.std.specs.Ordering.{match_ordering, nat_cmp}
use Rattle.std.specs.Str.{bytes_eq}
use Rattle.std.proofs.lemmas.Bool.{and_parts, not-true}
use Rattle.std.proofs.lemmas.Cmp.{nat_list_eq_equiv}
use Rattle.std.proofs.lemmas.Map.Lookups.{exact_bytes}
use Rattle.mtp_codes.proofs.Names.{same_true, same_refl}
use Rattle.chart_core.proofs.Lawful.{member_cases}
use Rattle.pol_events.specs.ByRole.{by_role, with_bind}
use Rattle.pol_events.specs.Bound.{bound_tag}
use Rattle.pol_events.specs.Orderly.{roles_once}
use Rattle.pol_events.specs.declared.event.Bind.{Bind}
use Rattle.pol_events.proofs.Lists.{member_first, member_later, no_member}

-- the first bind's tag where it has the role, else that of the others
pub first_bound : (bind : Bind) (binds : List Bind) (role : List ℕ) →
    bound_tag (bind ∷ binds) role ≡ cond (bytes_eq bind.role role) (Some bind.tag) (bound_tag binds role)
first_bound bind binds role = go (bytes_eq bind.role role)
  where
    go : (same : Bool) →
        option_map (λ (each : Bind). each.tag) (cond same (Some bind) (find (λ each. bytes_eq each.role role) binds))
        ≡ cond same (Some bind.tag) (bound_tag binds role)
    go true = refl
    go false = refl

-- one more bind of a role that has none gives the role its tag, and no other role another
bound_with : (bind : Bind) (binds : List Bind) (role : List ℕ) → bound_tag binds bind.role ≡ None →
    bound_tag (with_bind bind binds) role ≡ bound_tag (bind ∷ binds) role
bound_with bind [] role none = refl
bound_with bind (next ∷ binds) role none =
    go (slice_cmp nat_cmp bind.role next.role) refl (bytes_eq next.role bind.role) refl (bound_with bind binds role)
  where
    swapped : (one other : Bool) (tag last : List ℕ) (rest : Option (List ℕ)) → (one ≡ true → other ≡ true → ⊥) →
        cond one (Some tag) (cond other (Some last) rest) ≡ cond other (Some last) (cond one (Some tag) rest)
    swapped true true tag last rest apart = absurd (apart refl refl)
    swapped true false tag last rest apart = refl
    swapped false other tag last rest apart = refl

    go : (order : Ordering) → slice_cmp nat_cmp bind.role next.role ≡ order → (same : Bool) →
        bytes_eq next.role bind.role ≡ same →
        (bound_tag binds bind.role ≡ None → bound_tag (with_bind bind binds) role ≡ bound_tag (bind ∷ binds) role) →
        bound_tag
        (match_ordering order (bind ∷ next ∷ binds) (next ∷ binds) (next ∷ with_bind bind binds)) role
        ≡ bound_tag (bind ∷ next ∷ binds) role
    go order is true same rest =
        let found : Some next.tag ≡ None =
        ap (λ same. cond same (Some next.tag) (bound_tag binds bind.role)) (sym same)
        ∙ sym (first_bound next binds bind.role) ∙ none in
        absurd cc
    go Less is false differs rest = refl
    go Equal is false differs rest =
        let clash : true ≡ false =
        sym (same_refl bind.role) ∙ ap (λ name. bytes_eq name bind.role) (exact_bytes bind.role next.role is)
        ∙ differs in
        absurd cc
    go Greater is false differs rest =
        let later : bound_tag binds bind.role ≡ None =
        ap (λ same. cond same (Some next.tag) (bound_tag binds bind.role)) (sym differs)
        ∙ sym (first_bound next binds bind.role) ∙ none in
        first_bound next (with_bind bind binds) role
        ∙ ap (λ tag. cond (bytes_eq next.role role) (Some next.tag) tag)
        (rest later ∙ first_bound bind binds role)
        ∙ swapped (bytes_eq next.role role) (bytes_eq bind.role role) next.tag bind.tag (bound_tag binds role)
        (λ one other.
        let clash : true ≡ false =
        sym (ap (λ name. bytes_eq name bind.role) (same_true next.role role one
        ∙ sym (same_true bind.role role other)) ∙ same_refl bind.role) ∙ differs in
        cc)
        ∙ ap (λ tag. cond (bytes_eq bind.role role) (Some bind.tag) tag) (sym (first_bound next binds role))
        ∙ sym (first_bound bind (next ∷ binds) role)

-- a role that no later bind has, has no tag among them
none_bound : (binds : List Bind) (role : List ℕ) → list_all (λ other. not (bytes_eq role other.role)) binds ≡ true →
    bound_tag binds role ≡ None
none_bound [] role none = refl
none_bound (bind ∷ binds) role none =
    let parts = and_parts (not (bytes_eq role bind.role)) (list_all (λ other. not (bytes_eq role other.role)) binds)
    none in
    first_bound bind binds role
    ∙ ap (λ same. cond same (Some bind.tag) (bound_tag binds role))
    (nat_list_eq_equiv.symm bind.role role ∙ not-true (bytes_eq role bind.role) parts.0)
    ∙ none_bound binds role parts.1

-- where no role is bound twice, each role has the same tag
pub same_bound : (binds : List Bind) → roles_once binds ≡ true → (role : List ℕ) →
    bound_tag (by_role binds) role ≡ bound_tag binds role
same_bound [] once role = refl
same_bound (bind ∷ binds) once role =
    let parts = and_parts (list_all (λ other. not (bytes_eq bind.role other.role)) binds) (roles_once binds) once in
    bound_with bind (by_role binds) role
    (same_bound binds parts.1 bind.role ∙ none_bound binds bind.role parts.0)
    ∙ first_bound bind (by_role binds) role
    ∙ ap (λ tag. cond (bytes_eq bind.role role) (Some bind.tag) tag) (same_bound binds parts.1 role)
    ∙ sym (first_bound bind binds role)

-- a bind of those with one more is that one or one of them
with_cases : (bind : Bind) (binds : List Bind) (other : Bind) → Contains (with_bind bind binds) other →
    (bind ≡ other) ⊎ Contains binds other
with_cases bind [] other inside = member_cases bind other [] inside
with_cases bind (next ∷ binds) other inside =
    go (slice_cmp nat_cmp bind.role next.role) inside (with_cases bind binds other)
  where
    go : (order : Ordering) →
        Contains (match_ordering order (bind ∷ next ∷ binds) (next ∷ binds) (next ∷ with_bind bind binds)) other →
        (Contains (with_bind bind binds) other → (bind ≡ other) ⊎ Contains binds other) →
        (bind ≡ other) ⊎ Contains (next ∷ binds) other
    go Less inside rest = member_cases bind other (next ∷ binds) inside
    go Equal inside rest = inr inside
    go Greater inside rest =
        elim (member_cases next other (with_bind bind binds) inside) [
          | inl same ↦ inr (subst (Contains (next ∷ binds)) same (member_first next binds))
          | inr later ↦ elim (rest later) [
            | inl same ↦ inl same
            | inr behind ↦ inr (member_later next other binds behind)
          ]
        ]

-- the binds in order are among them
pub by_role_member : (binds : List Bind) (bind : Bind) → Contains (by_role binds) bind → Contains binds bind
by_role_member [] bind inside = no_member bind inside
by_role_member (first ∷ binds) bind inside =
    elim (with_cases first (by_role binds) bind inside) [
      | inl same ↦ subst (Contains (first ∷ binds)) same (member_first first binds)
      | inr later ↦ member_later first bind binds (by_role_member binds bind later)
    ]
