-- The makers of a run's entries are actors of its site.
use Rattle.std.proofs.Common.{◌≡◌, ◌<◌, ℕ, Bool, true, false, List, [], ◌∷◌, length, map, reverse, Option, Some, None}
use Rattle.std.proofs.Common.{refl, ap, sym, ◌∙◌, arith}
use Rattle.std.specs.Prelude.{cond, nat_lt, position}
use Rattle.std.specs.List.{position_or_len}
use Rattle.std.proofs.lemmas.Option.{same_Some}
use Rattle.std.proofs.lemmas.List.{length-map, length-reverse}
use Rattle.std.proofs.lemmas.Bool.{ltb-true}
use Rattle.pol_events.specs.Events.{PlainEntry, plain_history}
use Rattle.pol_events.specs.declared.event.Entry.{Entry}
use Rattle.pol_events.proofs.Histories.{length_history}
use Rattle.pol_actors.specs.Kept.{AreOwners}
use Rattle.pol_site.specs.Actors.{actors, owner_of, owns}
use Rattle.pol_site.specs.Sites.{PlainSite}
use Rattle.pol_live.proofs.OwnParts.{AreWithin}

-- a number that is found only where it is below a bound is below it
found_step : (within : Bool) (first count place : ℕ) → nat_lt first count ≡ within →
    cond within (Some first) None ≡ Some place → place < count
found_step true first count place is e =
    let same : first ≡ place = same_Some first place e in
    let less = ltb-true first count is in omega (arith, same, less)
found_step false first count place is e = cc

-- a place that is found is within the list
position_within : {A : Type 0} (test : A → Bool) (xs : List A) (place : ℕ) → position test xs ≡ Some place
    → place < length xs
position_within test xs place is =
    found_step (nat_lt (position_or_len test xs) (length xs)) (position_or_len test xs) (length xs) place refl is

-- the first item, if there is one
abbrev head : List (Option ℕ) → Option ℕ
head [] = None
head (first ∷ rest) = first

-- the items behind the first
abbrev tail : List (Option ℕ) → List (Option ℕ)
tail [] = []
tail (first ∷ rest) = rest

-- the owners of entries are actors
pub owners_within : (site : PlainSite) (makers : List ℕ) (entries : List PlainEntry) →
    map Some makers ≡ map (λ (entry : PlainEntry). owner_of site entry.event) entries →
    AreWithin 0 (length (actors site)) makers
owners_within site [] entries same = tt
owners_within site (maker ∷ makers) [] same = let long = ap length same in absurd (omega (arith, long))
owners_within site (maker ∷ makers) (entry ∷ entries) same =
    let here : owner_of site entry.event ≡ Some maker = sym (ap head same) in
    let less = position_within (owns entry.event) (actors site) maker here in (
      (omega arith, omega (arith, less)),
      owners_within site makers entries (ap tail same),
    )

-- each entry has its maker
pub owners_long : (site : PlainSite) (entries : List Entry) (makers : List ℕ) →
    AreOwners site (plain_history entries) makers → length makers ≡ length entries
owners_long site entries makers owned =
    let history : List PlainEntry = plain_history entries in
    sym (length-map makers (λ (maker : ℕ). Some maker)) ∙ ap length owned
    ∙ length-map (reverse history) (λ (entry : PlainEntry). owner_of site entry.event) ∙ length-reverse history
    ∙ length_history entries
