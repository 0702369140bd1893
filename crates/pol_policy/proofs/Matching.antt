-- What the tables of a policy find, against its rules.
use Rattle.std.proofs.Common.{ℕ, ◌≡◌, ◌&&◌, Bool, List, map, Option, Some, None, refl, sym, ap, ◌∙◌}
use Rattle.std.specs.List.{find, slice_get}
use Rattle.std.specs.Option.{option_and_then, option_map}
use Rattle.mtp_codes.specs.Names.{same_name}
use Rattle.pol_policy.specs.Allowing.{Request, lists, same_command}
use Rattle.pol_policy.specs.Deciding.{admits_person, matches}
use Rattle.pol_policy.specs.Names.{name_has}
use Rattle.pol_policy.specs.Places.{IsFirstOf, IsPlacesOf, has, passes_at}
use Rattle.pol_policy.specs.Policies.{PlainPolicy}
use Rattle.pol_policy.specs.Tables.{IsTableOf, is_for, places_of_command}
use Rattle.pol_policy.specs.declared.place_set.PlaceSet.{PlaceSet}
use Rattle.pol_policy.specs.declared.rule_table.RuleTable.{RuleTable}
use Rattle.std.proofs.lemmas.Option.{slice_get-map}
use Rattle.pol_policy.proofs.Passing.{first_found, passes_both}

-- the places at which the four tables agree are those of the rules that match
pub table_matches : (policy : PlainPolicy) (table : RuleTable) (request : Request) → IsTableOf policy table
    → (place : ℕ)
    → (is_for table.people request.person place
    && (name_has table.tags request.tag place
    && (name_has table.services request.service place
    && has (places_of_command table.commands request.command) place)))
    ≡ passes_at (matches policy.groups request) policy.rules place
table_matches policy table request made place =
    rw (
      made.people.who request.person place,
      made.tags request.tag place,
      made.services request.service place,
      made.commands request.command place,
    )
    (sym (
    passes_both (λ rule. admits_person policy.groups request.person rule.who)
    (λ rule. lists same_name rule.tags request.tag
    && (lists same_name rule.services request.service && lists same_command rule.commands request.command))
    policy.rules place
    ∙ ap (λ b. passes_at (λ rule. admits_person policy.groups request.person rule.who) policy.rules place && b)
    (passes_both (λ rule. lists same_name rule.tags request.tag)
    (λ rule. lists same_name rule.services request.service && lists same_command rule.commands request.command)
    policy.rules place
    ∙ ap (λ b. passes_at (λ rule. lists same_name rule.tags request.tag) policy.rules place && b)
    (passes_both (λ rule. lists same_name rule.services request.service)
    (λ rule. lists same_command rule.commands request.command) policy.rules place))))

module _ {R Plain : Type 0} (plain : R → Plain) (named : Plain → List ℕ) where
  -- the name of the rule at the first place
  pub name_at_first : (rules : List R) (places : PlaceSet) (first : Option ℕ) → IsFirstOf (has places) first
      → (test : Plain → Bool)
      → IsPlacesOf test (map plain rules) places
      → option_map named (option_and_then (slice_get (map plain rules)) first)
      ≡ option_map named (find test (map plain rules))
  name_at_first rules places first is test same =
      ap (option_map named) (first_found test (map plain rules) (has places) same first is)

  -- a rule has the name of its plain data
  named_of : (found : Option R) → option_map (λ rule. named (plain rule)) found
      ≡ option_map named (option_map plain found)
  named_of None = refl
  named_of (Some rule) = refl

  -- the name of a rule is that of its plain data
  pub named_plain : (rules : List R) (place : Option ℕ)
      → option_map (λ rule. named (plain rule)) (option_and_then (slice_get rules) place)
      ≡ option_map named (option_and_then (slice_get (map plain rules)) place)
  named_plain rules None = refl
  named_plain rules (Some place) =
      named_of (slice_get rules place) ∙ ap (option_map named) (sym (slice_get-map plain rules place))

-- of both kinds of places at once
pub of_kind : {R Plain : Type 0} (plain : R → Plain) (rules : List R) (matching kind both : PlaceSet)
    (matches is_kind : Plain → Bool)
    → ((place : ℕ) → has both place ≡ (has matching place && has kind place))
    → IsPlacesOf matches (map plain rules) matching → IsPlacesOf is_kind (map plain rules) kind
    → IsPlacesOf (λ rule. matches rule && is_kind rule) (map plain rules) both
of_kind plain rules matching kind both matches is_kind joined matching_is kind_is place =
    rw (joined place, matching_is place, kind_is place) (sym (passes_both matches is_kind (map plain rules) place))
