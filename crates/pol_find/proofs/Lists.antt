-- Members of lists.
use Rattle.std.proofs.Common.{◌≡◌, Bool, true, false, cond, not, Option, Some, None, List, [], ◌∷◌, map, refl, ◌∙◌, ap}
use Rattle.std.proofs.Common.{inl, inr}
use Rattle.std.specs.Prelude.{◌||◌, filter, filter_map, find}
use Rattle.std.specs.List.{Contains, cons_option, list_all, list_any}
use Rattle.std.specs.Option.{option_or}
use Rattle.std.proofs.lemmas.Bool.{and_parts}
use Rattle.std.proofs.lemmas.List.Folds.{Any-from_list_any}
use Rattle.mtp_codes.specs.Faults.{first_of}
use Rattle.chart_core.proofs.Lawful.{member_cases}
use Rattle.pol_events.proofs.Lists.{member_first, member_later, no_member}

-- a list that no member passes has nothing to be found
pub none_passes : {X : Type 0} (test : X → Bool) (xs : List X) → ((x : X) → Contains xs x → test x ≡ false) →
    find test xs ≡ None
none_passes test [] fails = refl
none_passes test (x ∷ xs) fails =
    ap (λ passes. cond passes (Some x) (find test xs)) (fails x (member_first x xs))
    ∙ none_passes test xs (λ y inside. fails y (member_later x y xs inside))

-- rules of which none holds of a member have no first that holds
pub no_first : {X Y : Type 0} (rule : X → Option Y) (xs : List X) → ((x : X) → Contains xs x → rule x ≡ None) →
    first_of (map rule xs) ≡ None
no_first rule [] none = refl
no_first rule (x ∷ xs) none =
    ap (λ first. option_or first (first_of (map rule xs))) (none x (member_first x xs))
    ∙ no_first rule xs (λ y inside. none y (member_later x y xs inside))

-- where one passes, there is a member that does
pub one_passes : {X : Type 0} (test : X → Bool) (xs : List X) → list_any test xs ≡ true →
    (x : X) × Contains xs x × (test x ≡ true)
one_passes test xs some =
    let found = Any-from_list_any test xs some in (found.1, (found.0, found.2, found.3), found.4)

-- what is made of some of a list's members is made of one of them
pub made_of : {X Y : Type 0} (make : X → Option Y) (xs : List X) (y : Y) → Contains (filter_map make xs) y →
    (x : X) × Contains xs x × (make x ≡ Some y)
made_of make [] y inside = no_member y inside
made_of {X} {Y} make (x ∷ xs) y inside = go (make x) refl inside (made_of make xs y)
  where
    go : (made : Option Y) → make x ≡ made → Contains (cons_option made (filter_map make xs)) y →
        (Contains (filter_map make xs) y → (x : X) × Contains xs x × (make x ≡ Some y)) →
        (other : X) × Contains (x ∷ xs) other × (make other ≡ Some y)
    go None is inside rest = let (other, later, made) = rest inside in (other, member_later x other xs later, made)
    go (Some first) is inside rest =
        elim (member_cases first y (filter_map make xs) inside) [
          | inl same ↦ (x, member_first x xs, is ∙ ap Some same)
          | inr behind ↦ let (other, later, made) = rest behind in (other, member_later x other xs later, made)
        ]

-- where no member passes, none of all does
pub none_any : {X : Type 0} (test : X → Bool) (xs : List X) → ((x : X) → Contains xs x → test x ≡ false) →
    list_any test xs ≡ false
none_any test [] fails = refl
none_any test (x ∷ xs) fails =
    ap (λ passes. passes || list_any test xs) (fails x (member_first x xs))
    ∙ none_any test xs (λ y inside. fails y (member_later x y xs inside))

-- what all pass, all pass that another test keeps
pub all_kept : {X : Type 0} (test keeps : X → Bool) (xs : List X) → list_all test xs ≡ true →
    list_all test (filter keeps xs) ≡ true
all_kept test keeps [] all = refl
all_kept {X} test keeps (x ∷ xs) all =
    let parts = and_parts (test x) (list_all test xs) all in
    go (keeps x) parts.0 (all_kept test keeps xs parts.1)
  where
    go : (kept : Bool) → test x ≡ true → list_all test (filter keeps xs) ≡ true →
        list_all test (cond kept (x ∷ filter keeps xs) (filter keeps xs)) ≡ true
    go false passes rest = rest
    go true passes rest = rw (passes, rest) refl

-- a test that all pass keeps all
pub whole_kept : {X : Type 0} (test : X → Bool) (xs : List X) → list_all test xs ≡ true → filter test xs ≡ xs
whole_kept test [] all = refl
whole_kept test (x ∷ xs) all =
    let parts = and_parts (test x) (list_all test xs) all in
    rw parts.0 (ap (λ later. x ∷ later) (whole_kept test xs parts.1))

-- and its opposite keeps none
pub none_kept : {X : Type 0} (test : X → Bool) (xs : List X) → list_all test xs ≡ true →
    filter (λ x. not (test x)) xs ≡ []
none_kept test [] all = refl
none_kept test (x ∷ xs) all =
    let parts = and_parts (test x) (list_all test xs) all in
    rw parts.0 (none_kept test xs parts.1)

-- each passes what is always true
pub always : {X : Type 0} (xs : List X) → list_all (λ x. true) xs ≡ true
always [] = refl
always (x ∷ xs) = always xs
