-- The tables of a policy, made of what its rules list and of who belongs to whom.
use Rattle.std.proofs.Common.{ℕ, ◌≡◌, ◌&&◌, Bool, false, List, [], ◌∷◌, map, Option, Some, None, refl, sym, ap, ◌∙◌, ⊎_elim}
use Rattle.std.specs.List.{list_any}
use Rattle.mtp_codes.specs.Names.{same_name, is_among}
use Rattle.mtp_codes.proofs.Lists.{none_any}
use Rattle.mtp_codes.proofs.Repeats.{any_map}
use Rattle.pol_policy.specs.Allowing.{lists}
use Rattle.pol_policy.specs.Deciding.{admits_person, is_next, leads_through}
use Rattle.pol_policy.specs.Names.{name_has}
use Rattle.pol_policy.specs.Places.{passes_at}
use Rattle.pol_policy.specs.Policies.{plain_group}
use Rattle.pol_policy.specs.Tables.{above_has, is_next_group, member_has}
use Rattle.pol_policy.specs.declared.name_index.NameIndex.{NameIndex}
use Rattle.pol_policy.specs.declared.parts.Group.{Group}
use Rattle.pol_policy.proofs.Passing.{and_false, any_alike, at_place, passes_map}

-- groups seen as plain data lead where they lead
leads_map : (through : List Group) (from to : Group)
    → leads_through is_next (map plain_group through) (plain_group from) (plain_group to)
    ≡ leads_through is_next_group through from to
unfolding leads_through
leads_map [] from to = refl
leads_map (group ∷ through) from to =
    rw (leads_map through from to, leads_map through from group, leads_map through group to) refl

-- below groups seen as plain data
below_map : (groups : List Group) (names : List (List ℕ)) (last : Group)
    → list_any (λ first. leads_through is_next (map plain_group groups) first (plain_group last)
    && is_among names first.group)
    (map plain_group groups)
    ≡ list_any (λ first. leads_through is_next_group groups first last && is_among names first.group) groups
below_map groups names last =
    any_map plain_group
    (λ first. leads_through is_next (map plain_group groups) first (plain_group last)
    && is_among names first.group) groups
    ∙ any_alike
    (λ first. leads_through is_next (map plain_group groups) (plain_group first) (plain_group last)
    && is_among names first.group)
    (λ first. leads_through is_next_group groups first last && is_among names first.group) groups
    (λ first. ap (λ b. b && is_among names first.group) (leads_map groups first last))

-- where the index has at a place the names of a list, with its members it has the people who belong to one of them
joined : (groups : List Group) (index : NameIndex) (place : ℕ) (who : Option (List (List ℕ)))
    → ((name : List ℕ) → name_has index name place ≡ lists same_name who name) → (person : List ℕ)
    → member_has groups index person place ≡ admits_person (map plain_group groups) person who
joined groups index place None has_all person = rw (has_all person) refl
joined groups index place (Some names) has_listed person =
    let groups_of = map plain_group groups in
    let below : list_any (λ last. is_among last.members.items person && above_has groups index last place) groups
    ≡ list_any
    (λ last. is_among last.members person
    && list_any (λ first. leads_through is_next groups_of first last && is_among names first.group) groups_of)
    groups_of =
    any_alike
    (λ last. is_among last.members.items person && above_has groups index last place)
    (λ last. is_among last.members.items person
    && list_any (λ first. leads_through is_next groups_of first (plain_group last)
    && is_among names first.group) groups_of)
    groups
    (λ last. ap (λ b. is_among last.members.items person && b)
    (any_alike (λ first. leads_through is_next_group groups first last && name_has index first.group place)
    (λ first. leads_through is_next_group groups first last && is_among names first.group) groups
    (λ first. ap (λ b. leads_through is_next_group groups first last && b) (has_listed first.group))
    ∙ sym (below_map groups names last)))
    ∙ sym (any_map plain_group
    (λ last. is_among last.members person
    && list_any (λ first. leads_through is_next groups_of first last && is_among names first.group) groups_of)
    groups) in
    rw (has_listed person, below) refl

-- where the index has no name at a place, with its members it has none
nobody : (groups : List Group) (index : NameIndex) (place : ℕ) → ((name : List ℕ) → name_has index name place ≡ false)
    → (person : List ℕ) → member_has groups index person place ≡ false
nobody groups index place never person =
    rw (never person)
    (none_any (λ last. is_among last.members.items person && above_has groups index last place) groups
    (λ last.
    ap (λ b. is_among last.members.items person && b)
    (none_any (λ first. leads_through is_next_group groups first last && name_has index first.group place) groups
    (λ first. ap (λ b. leads_through is_next_group groups first last && b) (never first.group)
    ∙ and_false (leads_through is_next_group groups first last)))
    ∙ and_false (is_among last.members.items person)))

-- the table of people
pub who_is : {R Plain : Type 0} (plain : R → Plain) (people : Plain → Option (List (List ℕ))) (groups : List Group)
    (rules : List R) (listed whole : NameIndex)
    → ((name : List ℕ) (place : ℕ) → name_has listed name place
    ≡ passes_at (λ rule. lists same_name (people (plain rule)) name) rules place)
    → ((name : List ℕ) (place : ℕ) → name_has whole name place ≡ member_has groups listed name place)
    → (person : List ℕ) (place : ℕ) → name_has whole person place
    ≡ passes_at (λ rule. admits_person (map plain_group groups) person (people rule)) (map plain rules) place
who_is {R} plain people groups rules listed whole lists_names given person place =
    given person place
    ∙ ⊎_elim
    (λ (here : (rule : R) × ((test : R → Bool) → passes_at test rules place ≡ test rule)).
    joined groups listed place (people (plain here.0))
    (λ name. lists_names name place ∙ here.1 (λ rule. lists same_name (people (plain rule)) name)) person
    ∙ sym (here.1 (λ rule. admits_person (map plain_group groups) person (people (plain rule)))))
    (λ (none : (test : R → Bool) → passes_at test rules place ≡ false).
    nobody groups listed place
    (λ name. lists_names name place ∙ none (λ rule. lists same_name (people (plain rule)) name)) person
    ∙ sym (none (λ rule. admits_person (map plain_group groups) person (people (plain rule)))))
    (at_place rules place)
    ∙ sym (passes_map plain (λ rule. admits_person (map plain_group groups) person (people rule)) rules place)
