-- The binds of a start: those of the modules that it holds, and those of the modules that it watches.
use Rattle.std.proofs.Common.{◌≡◌, ℕ, Bool, true, false, not, cond, ◌&&◌, List, [], ◌∷◌, ◌++◌, Some, refl}
use Rattle.std.specs.Prelude.{find, is_some, length, nat_le, option_map}
use Rattle.mtp_codes.specs.declared.limits.TheConstants.{MOST_BINDS}
use Rattle.mtp_codes.proofs.Names.{apart_back}
use Rattle.std.specs.List.{list_all, list_any}
use Rattle.std.specs.Option.{option_or}
use Rattle.std.specs.Str.{bytes_eq}
use Rattle.std.proofs.lemmas.Bool.{and_parts, or_parts, not-true}
use Rattle.std.proofs.lemmas.List.Folds.{list_all-append}
use Rattle.pol_events.specs.Bound.{PlainAllocation, bound_role, bound_tag, given, shares_a_role}
use Rattle.pol_events.specs.Orderly.{are_listed, is_allocation, rise, roles_once}
use Rattle.pol_events.specs.declared.event.Bind.{Bind}
use Rattle.pol_events.proofs.Lists.{found_append}
use Rattle.pol_events.proofs.Rising.{rising_distinct}

-- a role has the tag that is held, else the one that is watched
pub tag_given : (binds : PlainAllocation) (role : List ℕ)
    → bound_tag (given binds) role ≡ option_or (bound_tag binds.held role) (bound_tag binds.watched role)
tag_given binds role = found_append (λ bind. bind.tag) (λ bind. bytes_eq bind.role role) binds.held binds.watched

-- a tag has the role of a module that is held, else of one that is watched
pub role_given : (binds : PlainAllocation) (tag : List ℕ)
    → bound_role (given binds) tag ≡ option_or (bound_role binds.held tag) (bound_role binds.watched tag)
role_given binds tag = found_append (λ bind. bind.role) (λ bind. bytes_eq bind.tag tag) binds.held binds.watched

-- ---- no role occurs twice

-- where no bind has the role, each bind's role is another
none_has : (role : List ℕ) (binds : List Bind) → is_some (bound_tag binds role) ≡ false
    → list_all (λ other. not (bytes_eq role other.role)) binds ≡ true
none_has role [] none = refl
none_has role (bind ∷ binds) none = go (bytes_eq bind.role role) refl none (none_has role binds)
  where
    go : (same : Bool) → bytes_eq bind.role role ≡ same →
        is_some (option_map (λ bind. bind.tag) (cond same (Some bind)
        (find (λ bind. bytes_eq bind.role role) binds))) ≡ false →
        (is_some (bound_tag binds role) ≡ false → list_all (λ other. not (bytes_eq role other.role)) binds ≡ true) →
        (not (bytes_eq role bind.role) && list_all (λ other. not (bytes_eq role other.role)) binds) ≡ true
    go true is none rest = cc
    go false is none rest = rw (apart_back bind.role role is, rest none) refl

-- two lists of which no role occurs twice, nor in both, make one of which none does
once_both : (held watched : List Bind) → roles_once held ≡ true → roles_once watched ≡ true
    → list_any (λ bind. is_some (bound_tag watched bind.role)) held ≡ false → roles_once (held ++ watched) ≡ true
once_both [] watched one other apart = other
once_both (bind ∷ held) watched one other apart =
    let firsts = and_parts (list_all (λ other. not (bytes_eq bind.role other.role)) held) (roles_once held) one in
    let aparts = or_parts (is_some (bound_tag watched bind.role))
    (list_any (λ bind. is_some (bound_tag watched bind.role)) held) apart in
    rw (
      list_all-append (λ other. not (bytes_eq bind.role other.role)) held watched,
      firsts.0,
      none_has bind.role watched aparts.0,
      once_both held watched firsts.1 other aparts.1,
    ) refl

-- what an orderly start holds and watches
pub allocation_parts : (binds : PlainAllocation) → is_allocation binds ≡ true
    → (are_listed binds.held ≡ true) × (are_listed binds.watched ≡ true) × (shares_a_role binds ≡ false)
allocation_parts binds is =
    let first = and_parts (are_listed binds.held) (are_listed binds.watched && not (shares_a_role binds)) is in
    let second = and_parts (are_listed binds.watched) (not (shares_a_role binds)) first.1 in
    (first.0, second.0, not-true (shares_a_role binds) second.1)

-- no role of an orderly list stands twice
listed_once : (binds : List Bind) → are_listed binds ≡ true → roles_once binds ≡ true
listed_once binds is = rising_distinct binds (and_parts (nat_le (length binds) MOST_BINDS) (rise binds) is).1

-- nor of the modules that an orderly start holds
pub held_once : (binds : PlainAllocation) → is_allocation binds ≡ true → roles_once binds.held ≡ true
held_once binds is = listed_once binds.held (allocation_parts binds is).0

-- nor of those that it watches
pub watched_once : (binds : PlainAllocation) → is_allocation binds ≡ true → roles_once binds.watched ≡ true
watched_once binds is = listed_once binds.watched (allocation_parts binds is).1

-- nor of all of them
pub given_once : (binds : PlainAllocation) → is_allocation binds ≡ true → roles_once (given binds) ≡ true
given_once binds is =
    let parts = allocation_parts binds is in
    once_both binds.held binds.watched (listed_once binds.held parts.0) (listed_once binds.watched parts.1) parts.2
