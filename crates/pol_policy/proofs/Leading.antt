-- Which groups lead to which: the function against chains of groups.
use Rattle.std.proofs.Common.{ℕ, zero, suc, ◌≡◌, ◌<◌, ◌&&◌, ◌⊎◌, inl, inr, ⊎_elim, Bool, true, List, [], ◌∷◌, ◌++◌, length, get_or, refl, sym, subst, arith}
use Rattle.std.specs.Bool.{Decides}
use Rattle.std.specs.List.{Any, list_any}
use Rattle.std.proofs.lemmas.Bool.{and_from, and_parts, or_cases, or_left, or_right}
use Rattle.std.proofs.lemmas.Slice.Eq.{bytes_eq-Decides}
use Rattle.mtp_codes.specs.Names.{same_name, is_among}
use Rattle.mtp_codes.proofs.Names.{same_name_is}
use Rattle.pol_policy.specs.Belonging.{BelongsTo, IsChain, has_member}
use Rattle.pol_policy.specs.Deciding.{belongs_to_one, is_below, is_next, leads_through}
use Rattle.pol_policy.specs.Policies.{PlainGroup}

-- ---- items of lists

-- the item is one of the list
abbrev pub IsIn : {A : Type 0} → A → List A → Type 0
IsIn item [] = ⊥
IsIn item (first ∷ others) = (item ≡ first) ⊎ IsIn item others

-- an item that passes
pub any_in : {A : Type 0} (test : A → Bool) (items : List A) (item : A) → IsIn item items → test item ≡ true
    → list_any test items ≡ true
any_in test [] item inside passes = absurd inside
any_in test (first ∷ others) item inside passes =
    ⊎_elim
    (λ (is : item ≡ first). or_left (test first) (list_any test others) (subst (λ each. test each ≡ true) is passes))
    (λ (later : IsIn item others). or_right (test first) (list_any test others) (any_in test others item later passes))
    inside

-- some item passes
pub in_any : {A : Type 0} (test : A → Bool) (items : List A) → list_any test items ≡ true
    → (item : A) × IsIn item items × (test item ≡ true)
in_any test [] some = cc
in_any {A} test (first ∷ others) some =
    ⊎_elim
    (λ (here : test first ≡ true). (first, inl refl, here))
    (λ (later : list_any test others ≡ true).
    let found : (item : A) × IsIn item others × (test item ≡ true) = in_any test others later in
    (found.0, inr found.1, found.2))
    (or_cases (test first) (list_any test others) some)

-- an item with a fact, in std's words
pub some_in : {A : Type 0} (Fits : A → Type 0) (items : List A) (item : A) → IsIn item items → Fits item
    → Any Fits items
some_in Fits [] item inside fits = absurd inside
some_in {A} Fits (first ∷ others) item inside fits =
    ⊎_elim
    (λ (is : item ≡ first). (0, first, omega arith, refl, subst Fits is fits))
    (λ (later : IsIn item others).
    let found : Any Fits others = some_in Fits others item later fits in
    (suc found.0, found.1, omega (arith, found.2), found.3, found.4))
    inside

-- the item at a place is in the list
at_in : {A : Type 0} (items : List A) (place : ℕ) (item : A) → place < length items → get_or items place item ≡ item
    → IsIn item items
at_in [] place item inside is = absurd (omega arith)
-- the item at a place is in the list
at_in (first ∷ others) zero item inside is = inl (sym is)
-- the item at a place is in the list
at_in (first ∷ others) (suc place) item inside is = inr (at_in others place item (omega arith) is)

-- of some item that fits, which one it is
pub in_some : {A : Type 0} (Fits : A → Type 0) (items : List A) → Any Fits items
    → (item : A) × IsIn item items × Fits item
in_some Fits items some = (some.1, at_in items some.0 some.1 some.2 some.3, some.4)

-- ---- names

-- names of equal bytes are one name
pub same_is : (name other : List ℕ) → same_name name other ≡ true → name ≡ other
same_is name other same = (bytes_eq-Decides name other).0 same

-- a name in a list is found among its names
pub among_in : (names : List (List ℕ)) (name : List ℕ) → IsIn name names → is_among names name ≡ true
among_in names name inside = any_in (λ each. same_name each name) names name inside (same_name_is name name refl)

-- a name found among the names of a list is in it
pub in_among : (names : List (List ℕ)) (name : List ℕ) → is_among names name ≡ true → IsIn name names
in_among names name among =
    let found = in_any (λ each. same_name each name) names among in
    subst (λ each. IsIn each names) (same_is found.0 name found.2) found.1

-- ---- leading through others

module _ {A : Type 0} (step : A → A → Bool) where
  -- one step leads
  pub leads_once : (through : List A) (from to : A) → step from to ≡ true → leads_through step through from to ≡ true
  unfolding leads_through
  leads_once [] from to once = once
  leads_once (group ∷ others) from to once = or_left _ _ (leads_once others from to once)

  -- what leads to a group that may be gone through leads on from it
  pub leads_on : (through : List A) (from middle to : A) → IsIn middle through
      → leads_through step through from middle ≡ true → leads_through step through middle to ≡ true
      → leads_through step through from to ≡ true
  unfolding leads_through
  leads_on [] from middle to inside first second = absurd inside
  leads_on (group ∷ others) from middle to inside first second =
      let L : A → A → Bool = leads_through step others in
      ⊎_elim
      (λ (is : middle ≡ group).
      let here : L from group ≡ true =
      ⊎_elim
      (λ (direct : L from middle ≡ true). subst (λ each. L from each ≡ true) is direct)
      (λ (twice : (L from group && L group middle) ≡ true). (and_parts (L from group) (L group middle) twice).0)
      (or_cases (L from middle) (L from group && L group middle) first) in
      let there : L group to ≡ true =
      ⊎_elim
      (λ (direct : L middle to ≡ true). subst (λ each. L each to ≡ true) is direct)
      (λ (twice : (L middle group && L group to) ≡ true). (and_parts (L middle group) (L group to) twice).1)
      (or_cases (L middle to) (L middle group && L group to) second) in
      or_right (L from to) (L from group && L group to) (and_from (L from group) (L group to) here there))
      (λ (later : IsIn middle others).
      ⊎_elim
      (λ (before : L from middle ≡ true).
      ⊎_elim
      (λ (after : L middle to ≡ true).
      or_left (L from to) (L from group && L group to) (leads_on others from middle to later before after))
      (λ (twice : (L middle group && L group to) ≡ true).
      let parts = and_parts (L middle group) (L group to) twice in
      or_right (L from to) (L from group && L group to)
      (and_from (L from group) (L group to) (leads_on others from middle group later before parts.0) parts.1))
      (or_cases (L middle to) (L middle group && L group to) second))
      (λ (twice : (L from group && L group middle) ≡ true).
      let parts = and_parts (L from group) (L group middle) twice in
      ⊎_elim
      (λ (after : L middle to ≡ true).
      or_right (L from to) (L from group && L group to)
      (and_from (L from group) (L group to) parts.0 (leads_on others group middle to later parts.1 after)))
      (λ (again : (L middle group && L group to) ≡ true).
      or_right (L from to) (L from group && L group to)
      (and_from (L from group) (L group to) parts.0 (and_parts (L middle group) (L group to) again).1))
      (or_cases (L middle to) (L middle group && L group to) second))
      (or_cases (L from middle) (L from group && L group middle) first))
      inside

-- ---- chains

-- a chain goes on where another begins
chain_on : (groups : List PlainGroup) (name middle last : List ℕ) (front back : List (List ℕ))
    → IsChain groups name front middle → IsChain groups middle back last
    → IsChain groups name (front ++ middle ∷ back) last
chain_on groups name middle last [] back first second = (first, second)
chain_on groups name middle last (next ∷ front) back first second =
    (first.0, chain_on groups next middle last front back first.1 second)

-- who belongs to a name that belongs to another belongs to that one
pub belongs_on : (groups : List PlainGroup) (name middle last : List ℕ)
    → BelongsTo groups middle name → BelongsTo groups last middle → BelongsTo groups last name
belongs_on groups name middle last first second =
    ⊎_elim
    (λ (is : middle ≡ name). subst (λ each. BelongsTo groups last each) is second)
    (λ (chain : (between : List (List ℕ)) × IsChain groups name between middle).
    ⊎_elim
    (λ (is : last ≡ middle). subst (λ each. BelongsTo groups each name) (sym is) (inr chain))
    (λ (other : (between : List (List ℕ)) × IsChain groups middle between last).
    inr (chain.0 ++ middle ∷ other.0, chain_on groups name middle last chain.0 other.0 chain.1 other.1))
    second)
    first

-- a member of a group of the list is a member by the name of the group
member_of : (groups : List PlainGroup) (group : PlainGroup) (name : List ℕ) → IsIn group groups
    → is_among group.members name ≡ true → has_member groups group.group name ≡ true
member_of groups group name inside among =
    any_in (λ each. same_name each.group group.group && is_among each.members name) groups group inside
    (and_from (same_name group.group group.group) (is_among group.members name)
    (same_name_is group.group group.group refl) among)

-- where groups lead there is a chain
pub leads_belongs : (groups through : List PlainGroup) (from to : PlainGroup)
    → ((group : PlainGroup) → IsIn group through → IsIn group groups) → IsIn from groups
    → leads_through is_next through from to ≡ true → BelongsTo groups to.group from.group
unfolding leads_through
leads_belongs groups [] from to known inside leads =
    ⊎_elim
    (λ (same : same_name from.group to.group ≡ true). inl (sym (same_is from.group to.group same)))
    (λ (among : is_among from.members to.group ≡ true). inr ([], member_of groups from to.group inside among))
    (or_cases (same_name from.group to.group) (is_among from.members to.group) leads)
leads_belongs groups (group ∷ through) from to known inside leads =
    let rest : (each : PlainGroup) → IsIn each through → IsIn each groups = λ each later. known each (inr later) in
    ⊎_elim
    (λ (direct : leads_through is_next through from to ≡ true). leads_belongs groups through from to rest inside direct)
    (λ (twice : (leads_through is_next through from group && leads_through is_next through group to) ≡ true).
    let parts = and_parts (leads_through is_next through from group) (leads_through is_next through group to) twice in
    belongs_on groups from.group group.group to.group
    (leads_belongs groups through from group rest inside parts.0)
    (leads_belongs groups through group to rest (known group (inl refl)) parts.1))
    (or_cases (leads_through is_next through from to)
    (leads_through is_next through from group && leads_through is_next through group to) leads)

-- where there is a chain groups lead: from one of the first name to one that has the last as its member
pub record LeadsTo (groups : List PlainGroup) (name person : List ℕ) : Type 0 where
  pub first : PlainGroup
  pub last : PlainGroup
  pub has_first : IsIn first groups
  pub has_last : IsIn last groups
  pub named : first.group ≡ name
  pub among : is_among last.members person ≡ true
  pub leads : leads_through is_next groups first last ≡ true

-- where there is a chain, groups lead from its first name to its last
pub chain_leads : (groups : List PlainGroup) (name : List ℕ) (between : List (List ℕ)) (person : List ℕ)
    → IsChain groups name between person → LeadsTo groups name person
chain_leads groups name [] person chain =
    let found = in_any (λ each. same_name each.group name && is_among each.members person) groups chain in
    let parts = and_parts (same_name found.0.group name) (is_among found.0.members person) found.2 in
    record {
      first = found.0;
      last = found.0;
      has_first = found.1;
      has_last = found.1;
      named = same_is found.0.group name parts.0;
      among = parts.1;
      leads = leads_once is_next groups found.0 found.0
          (or_left (same_name found.0.group found.0.group) (is_among found.0.members found.0.group)
          (same_name_is found.0.group found.0.group refl));
    }
chain_leads groups name (next ∷ between) person chain =
    let found = in_any (λ each. same_name each.group name && is_among each.members next) groups chain.0 in
    let parts = and_parts (same_name found.0.group name) (is_among found.0.members next) found.2 in
    let later : LeadsTo groups next person = chain_leads groups next between person chain.1 in
    let among : is_among found.0.members later.first.group ≡ true =
    subst (λ each. is_among found.0.members each ≡ true) (sym later.named) parts.1 in
    let once : leads_through is_next groups found.0 later.first ≡ true =
    leads_once is_next groups found.0 later.first
    (or_right (same_name found.0.group later.first.group) (is_among found.0.members later.first.group) among) in
    record {
      first = found.0;
      last = later.last;
      has_first = found.1;
      has_last = later.has_last;
      named = same_is found.0.group name parts.0;
      among = later.among;
      leads = leads_on is_next groups found.0 later.first later.last later.has_first once later.leads;
    }

-- ---- the person belongs to one of some names

-- where the function says that a person belongs to one of some names, it is so
pub one_belongs : (groups : List PlainGroup) (names : List (List ℕ)) (person : List ℕ)
    → belongs_to_one groups names person ≡ true → Any (BelongsTo groups person) names
one_belongs groups names person belongs =
    ⊎_elim
    (λ (among : is_among names person ≡ true).
    some_in (BelongsTo groups person) names person (in_among names person among) (inl refl))
    (λ (below : is_below groups names person ≡ true).
    let last = in_any
    (λ last. is_among last.members person
    && list_any (λ first. leads_through is_next groups first last && is_among names first.group) groups)
    groups below in
    let ends = and_parts (is_among last.0.members person)
    (list_any (λ first. leads_through is_next groups first last.0 && is_among names first.group) groups) last.2 in
    let first = in_any (λ first. leads_through is_next groups first last.0
    && is_among names first.group) groups ends.1 in
    let begins = and_parts (leads_through is_next groups first.0 last.0) (is_among names first.0.group) first.2 in
    some_in (BelongsTo groups person) names first.0.group (in_among names first.0.group begins.1)
    (belongs_on groups first.0.group last.0.group person
    (leads_belongs groups groups first.0 last.0 (λ group inside. inside) first.1 begins.0)
    (inr ([], member_of groups last.0 person last.1 ends.0))))
    (or_cases (is_among names person) (is_below groups names person) belongs)

-- and where it is so, the function says it
pub belongs_one : (groups : List PlainGroup) (names : List (List ℕ)) (person : List ℕ)
    → Any (BelongsTo groups person) names → belongs_to_one groups names person ≡ true
belongs_one groups names person some =
    let found = in_some (BelongsTo groups person) names some in
    ⊎_elim
    (λ (is : person ≡ found.0).
    or_left (is_among names person) (is_below groups names person)
    (among_in names person (subst (λ each. IsIn each names) (sym is) found.1)))
    (λ (chain : (between : List (List ℕ)) × IsChain groups found.0 between person).
    let leads : LeadsTo groups found.0 person = chain_leads groups found.0 chain.0 person chain.1 in
    let first : is_among names leads.first.group ≡ true =
    among_in names leads.first.group (subst (λ each. IsIn each names) (sym leads.named) found.1) in
    or_right (is_among names person) (is_below groups names person)
    (any_in
    (λ last. is_among last.members person
    && list_any (λ first. leads_through is_next groups first last && is_among names first.group) groups)
    groups leads.last leads.has_last
    (and_from (is_among leads.last.members person) _ leads.among
    (any_in (λ first. leads_through is_next groups first leads.last && is_among names first.group) groups leads.first
    leads.has_first
    (and_from (leads_through is_next groups leads.first leads.last)
    (is_among names leads.first.group) leads.leads first)))))
    found.2

-- the function decides whether a person belongs to one of some names
pub belongs_decides : (groups : List PlainGroup) (names : List (List ℕ)) (person : List ℕ)
    → Decides (belongs_to_one groups names person) (Any (BelongsTo groups person) names)
belongs_decides groups names person = (one_belongs groups names person, belongs_one groups names person)
