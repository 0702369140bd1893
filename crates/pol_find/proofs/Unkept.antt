-- Candidates that fit no role may be left out: the same is told of the chart.
use Rattle.std.proofs.Common.{◌≡◌, ℕ, Bool, true, false, cond, not, ◌&&◌, ◌||◌, Option, List, [], ◌∷◌, map}
use Rattle.std.proofs.Common.{filter, take, length, refl, sym, ◌∙◌, ap, zero, suc, ◌+◌}
use Rattle.std.specs.Prelude.{is_some, option_map}
use Rattle.std.specs.List.{AllByRecursion, Contains, list_all, list_any, position_or_len, range_with_len}
use Rattle.std.proofs.lemmas.Bool.{and_parts}
use Rattle.std.proofs.lemmas.List.Elements.{filter_agree}
use Rattle.mtp_codes.specs.Faults.{first_of}
use Rattle.mtp_codes.specs.Names.{same_name}
use Rattle.chart_core.specs.Roles.{PlainChart, role_names}
use Rattle.pol_events.specs.BindRules.{has_step}
use Rattle.pol_events.specs.declared.event.Bind.{Bind}
use Rattle.pol_events.proofs.Lists.{member_first, member_kept, member_later}
use Rattle.pol_history.proofs.Binds.{all_member}
use Rattle.pol_history.proofs.Filters.{filter_filter, filter_kept}
use Rattle.pol_match.specs.Bindings.{tags_in}
use Rattle.pol_match.specs.Chosen.{all_but, at_issue, binding_of, can_be_bound, first_too_many, first_way}
use Rattle.pol_match.specs.Chosen.{fits_wanted_alone, is_wanted, others_than, short_roles, short_tags}
use Rattle.pol_match.specs.Fits.{PlainCandidate, fits_role, steps_of}
use Rattle.pol_match.proofs.Shortages.{filter_same}
use Rattle.pol_find.specs.Offers.{is_all_stepped}
use Rattle.pol_find.proofs.Lists.{all_kept, none_any}

-- ---- lists

-- functions that agree make the same list
map_agree : {X Y : Type 0} (one other : X → Y) → ((x : X) → one x ≡ other x) → (xs : List X) →
    map one xs ≡ map other xs
map_agree one other same [] = refl
map_agree one other same (x ∷ xs) = rw (same x, map_agree one other same xs) refl

-- tests that agree pass first at the same place
position_agree : {X : Type 0} (one other : X → Bool) → ((x : X) → one x ≡ other x) → (xs : List X) →
    position_or_len one xs ≡ position_or_len other xs
position_agree one other same [] = refl
position_agree one other same (x ∷ xs) = rw (same x, position_agree one other same xs) refl

-- what all pass, the first ones pass
all_taken : {X : Type 0} (test : X → Bool) (count : ℕ) (xs : List X) → list_all test xs ≡ true →
    list_all test (take count xs) ≡ true
all_taken test zero xs all = refl
all_taken test (suc count) [] all = refl
all_taken test (suc count) (x ∷ xs) all =
    let parts = and_parts (test x) (list_all test xs) all in
    rw (parts.0, all_taken test count xs parts.1) refl

-- what holds of all that pass a test holds of each, where all pass
all_each : {X : Type 0} (test : X → Bool) (P : X → Type 0) → ((x : X) → test x ≡ true → P x) → (xs : List X) →
    list_all test xs ≡ true → AllByRecursion P xs
all_each test P holds [] all = tt
all_each test P holds (x ∷ xs) all =
    let parts = and_parts (test x) (list_all test xs) all in
    (holds x parts.0, all_each test P holds xs parts.1)

-- those that pass anyway may be left out
all_without : {X : Type 0} (test keeps : X → Bool) (xs : List X) →
    ((x : X) → Contains xs x → keeps x ≡ false → test x ≡ true) →
    list_all test (filter keeps xs) ≡ list_all test xs
all_without test keeps [] passes = refl
all_without {X} test keeps (x ∷ xs) passes =
    go (keeps x) refl (all_without test keeps xs (λ y inside. passes y (member_later x y xs inside)))
  where
    go : (kept : Bool) → keeps x ≡ kept → list_all test (filter keeps xs) ≡ list_all test xs →
        list_all test (cond kept (x ∷ filter keeps xs) (filter keeps xs)) ≡ (test x && list_all test xs)
    go true is rest = ap (λ later. test x && later) rest
    go false is rest = rw (passes x (member_first x xs) is) rest

-- what passes is kept, where none fails to be kept that passes
kept_each : {X : Type 0} (passes keeps : X → Bool) (xs : List X) →
    ((x : X) → Contains xs x → keeps x ≡ false → passes x ≡ false) →
    AllByRecursion (λ x. passes x ≡ true → keeps x ≡ true) xs
kept_each passes keeps [] fails = tt
kept_each {X} passes keeps (x ∷ xs) fails = (
  go (keeps x) refl,
  kept_each passes keeps xs (λ y inside. fails y (member_later x y xs inside)),
)
  where
    go : (kept : Bool) → keeps x ≡ kept → passes x ≡ true → kept ≡ true
    go true is passed = refl
    go false is passed =
        let clash : true ≡ false = sym passed ∙ fails x (member_first x xs) is in
        sym clash

-- ---- candidates

module _ (chart : PlainChart) (keeps : PlainCandidate → Bool) where
  -- the role has a step
  abbrev is_stepped : List ℕ → Bool
  is_stepped = has_step (steps_of chart)

  -- those that aren't kept fit no role with a step
  abbrev pub FitNone : List PlainCandidate → Type 0
  FitNone candidates =
      (candidate : PlainCandidate) (role : List ℕ) → Contains candidates candidate → keeps candidate ≡ false
      → is_stepped role ≡ true → fits_role chart role candidate ≡ false

  -- what a role gets where the roles behind it get what is left
  abbrev way : List ℕ → List (List ℕ) → List PlainCandidate → PlainCandidate → Option (List Bind)
  way role roles candidates candidate =
      option_map (λ binds. record { role = role; tag = candidate.tag } ∷ binds)
      (first_way chart roles (others_than candidate.tag candidates))

  -- roles with steps get the same candidates
  same_way : (roles : List (List ℕ)) (candidates : List PlainCandidate) → list_all is_stepped roles ≡ true →
      FitNone candidates → first_way chart roles (filter keeps candidates) ≡ first_way chart roles candidates
  unfolding first_way
  same_way [] candidates stepped none = refl
  same_way (role ∷ roles) candidates stepped none =
      let parts = and_parts (is_stepped role) (list_all is_stepped roles) stepped in
      ap (λ fitting. first_of (map (way role roles (filter keeps candidates)) fitting))
      (filter_kept (fits_role chart role) keeps candidates
      (kept_each (fits_role chart role) keeps candidates
      (λ candidate inside is. none candidate role inside is parts.0)))
      ∙ ap first_of
      (map_agree (way role roles (filter keeps candidates)) (way role roles candidates)
      (λ candidate.
      ap (λ others. option_map (λ binds. record { role = role; tag = candidate.tag } ∷ binds)
      (first_way chart roles others))
      (filter_filter (λ other. not (same_name other.tag candidate.tag)) keeps candidates)
      ∙ ap (option_map (λ binds. record { role = role; tag = candidate.tag } ∷ binds))
      (same_way roles (others_than candidate.tag candidates) parts.1
      (λ other role inside. none other role
      (member_kept (λ each. not (same_name each.tag candidate.tag)) candidates other inside).0)))
      (filter (fits_role chart role) candidates))

  module _ (candidates : List PlainCandidate) (none : FitNone candidates)
      (stepped : is_all_stepped chart ≡ true) where
    abbrev left : List PlainCandidate
    left = filter keeps candidates

    -- the binding
    pub same_binding : binding_of chart left ≡ binding_of chart candidates
    same_binding = same_way (role_names chart) candidates stepped none

    -- the first roles that are too many
    same_many : first_too_many chart left ≡ first_too_many chart candidates
    unfolding first_too_many
    same_many =
        ap (λ count. take count (role_names chart))
        (position_agree (λ count. not (can_be_bound chart left (take count (role_names chart))))
        (λ count. not (can_be_bound chart candidates (take count (role_names chart))))
        (λ count. ap (λ way. not (is_some way))
        (same_way (take count (role_names chart)) candidates
        (all_taken is_stepped count (role_names chart) stepped) none))
        (range_with_len 0 (length (role_names chart) + 1)))

    -- they have steps
    stepped_many : list_all is_stepped (first_too_many chart candidates) ≡ true
    unfolding first_too_many
    stepped_many = all_taken is_stepped _ (role_names chart) stepped

    -- those at issue
    same_issue : at_issue chart left ≡ at_issue chart candidates
    unfolding at_issue
    same_issue =
        ap (λ many. filter (λ role. can_be_bound chart left (all_but role many)) many) same_many
        ∙ filter_agree (λ role. can_be_bound chart left (all_but role (first_too_many chart candidates)))
        (λ role. can_be_bound chart candidates (all_but role (first_too_many chart candidates)))
        (λ role. ap is_some
        (same_way (all_but role (first_too_many chart candidates)) candidates
        (all_kept is_stepped (λ other. not (same_name other role)) (first_too_many chart candidates) stepped_many)
        none))
        (first_too_many chart candidates)

    -- they have steps, too
    stepped_issue : list_all is_stepped (at_issue chart candidates) ≡ true
    unfolding at_issue
    stepped_issue = all_kept is_stepped _ (first_too_many chart candidates) stepped_many

    -- a candidate that isn't kept isn't wanted
    unwanted : (candidate : PlainCandidate) → Contains candidates candidate → keeps candidate ≡ false →
        is_wanted chart candidates candidate ≡ false
    unwanted candidate inside is =
        none_any (λ role. fits_role chart role candidate) (at_issue chart candidates)
        (λ role member. none candidate role inside is
        (all_member is_stepped (at_issue chart candidates) role stepped_issue member))

    -- the tags of the shortage
    pub same_tags : short_tags chart left ≡ short_tags chart candidates
    same_tags =
        ap (λ issue. tags_in (filter (λ candidate. list_any (λ role. fits_role chart role candidate) issue) left))
        same_issue
        ∙ ap tags_in (filter_kept (is_wanted chart candidates) keeps candidates
        (kept_each (is_wanted chart candidates) keeps candidates unwanted))

    -- a role with a step fits wanted ones alone of the one as of the other
    same_alone : (role : List ℕ) → is_stepped role ≡ true →
        fits_wanted_alone chart left role ≡ fits_wanted_alone chart candidates role
    same_alone role has =
        ap (λ issue. list_all (λ candidate. not (fits_role chart role candidate)
        || list_any (λ role. fits_role chart role candidate) issue) left) same_issue
        ∙ all_without (λ candidate. not (fits_role chart role candidate) || is_wanted chart candidates candidate) keeps
        candidates
        (λ candidate inside is.
        ap (λ fit. not fit || is_wanted chart candidates candidate) (none candidate role inside is has))

    -- the roles of the shortage
    pub same_roles : short_roles chart left ≡ short_roles chart candidates
    same_roles =
        filter_same (fits_wanted_alone chart left) (fits_wanted_alone chart candidates) (role_names chart)
        (all_each is_stepped (λ role. fits_wanted_alone chart left role ≡ fits_wanted_alone chart candidates role)
        same_alone (role_names chart) stepped)
