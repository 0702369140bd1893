-- The loops over groups: to which each leads, and what is given to their members.
use Rattle.std.proofs.Common.{ℕ, suc, ◌≡◌, ◌+◌, ◌<◌, ◌≤◌, ◌||◌, ◌&&◌, Bool, List, [], ◌∷◌, ◌++◌, length, get_or, take, drop, refl, sym, ap, ◌∙◌, arith}
use Rattle.std.specs.List.{list_any}
use Rattle.std.proofs.Math.Seq.{drop-cons}
use Rattle.std.proofs.lemmas.List.{append-nil, drop_all, take_all, get_or_default}
use Rattle.std.proofs.lemmas.List.Folds.{list_any_more}
use Rattle.pol_policy.specs.Deciding.{leads_through}
use Rattle.pol_policy.specs.Names.{name_has}
use Rattle.pol_policy.specs.Places.{IsPlacesOf, has}
use Rattle.pol_policy.specs.Tables.{IsReach, is_next_group}
use Rattle.pol_policy.specs.declared.name_index.NameIndex.{NameIndex}
use Rattle.pol_policy.specs.declared.parts.Group.{Group}
use Rattle.pol_policy.specs.declared.place_set.PlaceSet.{PlaceSet}
use Rattle.pol_policy.proofs.Passing.{passes_either, passes_within}

-- ---- lists that grow beside another

-- ---- to which each group leads

-- through no group it leads to those next to it
pub reach_none : (groups : List Group) (sets : List PlaceSet) → length sets ≡ length groups
    → ((from : ℕ) (group : Group) (set : PlaceSet) → from < length groups
    → IsPlacesOf (is_next_group (get_or groups from group)) groups (get_or sets from set))
    → IsReach [] groups sets
unfolding leads_through
reach_none groups sets whole each = record { whole = whole; each = each }

-- through one more group it leads to what that one leads to
pub reach_next : (groups : List Group) (sets sets' : List PlaceSet) (through : ℕ) → through < length groups
    → IsReach (drop (through + 1) groups) groups sets → length sets' ≡ length sets
    → ((from : ℕ) (set : PlaceSet) → from < length sets → (other : ℕ)
    → has (get_or sets' from set) other
    ≡ (has (get_or sets from set) other || (has (get_or sets from set) through && has (get_or sets through set) other)))
    → IsReach (drop through groups) groups sets'
unfolding leads_through
reach_next groups sets sets' through inside before whole each =
    record {
      whole = whole ∙ before.whole;
      each = λ from group set within place.
          let item : Group = get_or groups through group in
          let first : Group = get_or groups from group in
          let next : through + 1 ≡ suc through = omega arith in
          let cut : drop through groups ≡ item ∷ drop (through + 1) groups =
          drop-cons groups through group inside ∙ ap (λ n. item ∷ drop n groups) (sym next) in
          let here : has (get_or sets from set) through ≡ leads_through is_next_group (drop
          (through + 1) groups) first item =
          before.each from group set within through
          ∙ passes_within (leads_through is_next_group (drop (through + 1) groups) first) groups through item inside
          (get_or_default groups through group item inside) in
          rw (
            each from set (omega (arith, before.whole)) place,
            cut,
            here,
            before.each from group set within place,
            before.each through group set inside place,
          )
          (sym (passes_either (leads_through is_next_group (drop (through + 1) groups) first)
          (leads_through is_next_group (drop (through + 1) groups) item)
          (leads_through is_next_group (drop (through + 1) groups) first item) groups place));
    }

-- a whole list was written through what a vector lent
pub written_whole : (old new : List PlaceSet) (count : ℕ) → count ≡ length old → length new ≡ length old
    → take count (new ++ drop (length new) old) ≡ new
written_whole old new count is whole =
    rw (drop_all (length new) old (omega arith), append-nil new, take_all count new (omega arith)) refl

-- past the last group there is none to go through
pub reach_first : (groups : List Group) (sets : List PlaceSet) (count : ℕ) → length groups ≤ count
    → IsReach [] groups sets → IsReach (drop count groups) groups sets
reach_first groups sets count past reach = rw (drop_all count groups past) reach

-- ---- what is given to members

-- one more group that may lead to the last
pub above_next : (groups : List Group) (sets : List PlaceSet) (index : NameIndex) (last from : ℕ)
    → IsReach groups groups sets → last < length groups → from < length groups
    → (first : Group) → first ≡ get_or groups from first
    → (leads : Bool) (absent : PlaceSet) → leads ≡ has (get_or sets from absent) last
    → (old given new : PlaceSet) (group : Group) (place : ℕ)
    → has given place ≡ (leads && name_has index first.group place)
    → has new place ≡ (has old place || has given place)
    → has old place
    ≡ list_any (λ each. leads_through is_next_group groups each (get_or groups last group)
    && name_has index each.group place)
    (take from groups)
    → has new place
    ≡ list_any (λ each. leads_through is_next_group groups each (get_or groups last group)
    && name_has index each.group place)
    (take (from + 1) groups)
above_next groups sets index last from reach inside within first is leads absent read old given new group place gave
    now before =
    let target : Group = get_or groups last group in
    let here : leads ≡ leads_through is_next_group groups first target =
    read
    ∙ reach.each from first absent within last
    ∙ passes_within (leads_through is_next_group groups (get_or groups from first)) groups last target inside
    (get_or_default groups last group target inside)
    ∙ ap (λ g. leads_through is_next_group groups g target) (sym is) in
    rw (
      now,
      before,
      gave,
      here,
      list_any_more (λ each. leads_through is_next_group groups each target && name_has index each.group place)
          groups from first within,
    )
    (ap (λ g. list_any (λ each. leads_through is_next_group groups each target
    && name_has index each.group place) (take from groups)
    || (leads_through is_next_group groups g target && name_has index g.group place)) is)
