-- The first way to give roles candidates of their own: it is there where there is any, and it is the least.
use Rattle.std.proofs.Common.{◌≡◌, ◌≢◌, ℕ, zero, suc, ◌<◌, Bool, true, false, not, ◌&&◌, Option, Some, None, List, []}
use Rattle.std.proofs.Common.{◌∷◌, map, filter, length, get_or, refl, arith, sym, ◌∙◌, ap, subst, ⊎_elim, Ordering}
use Rattle.std.proofs.Common.{Less, Equal, Greater, drop}
use Rattle.std.specs.List.{list_any, position_or_len}
use Rattle.std.specs.List.Sorted.{IsStrictlySortedBy}
use Rattle.std.specs.Option.{option_map}
use Rattle.std.specs.Ordering.{ordering_then}
use Rattle.std.specs.Str.{bytes_eq}
use Rattle.std.specs.Cmp.Lexicographic.{slice_cmp}
use Rattle.std.proofs.lemmas.Cmp.{lists_total, nat_list_cmp_total}
use Rattle.std.specs.FinMap.{slice_cmp-IsAntisymmetric}
use Rattle.std.specs.Ordering.{ordering_reverse}
use Rattle.std.proofs.lemmas.Bool.{and_parts, cases_Bool, cases_eq, cases_lt}
use Rattle.std.proofs.lemmas.List.{get_or_default, get_or-map, length-map}
use Rattle.std.proofs.lemmas.List.Folds.{list_any_at}
use Rattle.std.proofs.lemmas.List.Kept.{IsStrictlySortedBy-filter}
use Rattle.std.proofs.lemmas.Map.Views.{any-filter_same}
use Rattle.std.proofs.lemmas.Slice.Eq.{bytes_eq-Decides}
use Rattle.mtp_codes.specs.Faults.{first_of}
use Rattle.mtp_codes.specs.Names.{same_name}
use Rattle.chart_core.specs.Roles.{PlainChart, role_names}
use Rattle.pol_events.specs.declared.event.Bind.{Bind}
use Rattle.pol_events.specs.Bound.{tags_of}
use Rattle.pol_match.specs.Bindings.{AreInOrder, HasNoBinding, IsLeastBinding, name_cmp, tags_in}
use Rattle.pol_match.specs.Chosen.{binding_of, first_way, others_than}
use Rattle.pol_match.specs.Fits.{PlainCandidate, fits_role}
use Rattle.pol_match.proofs.BoundTags.{binding_by_bound, bound_by_binding, nobody, tag_of}
use Rattle.pol_match.proofs.Bridges.{AreBound, equal_itself, first_passes, is_well, later_greater, one_name}

-- ---- the first of a list for which there is something

-- where there is nothing for a list, there is nothing for its first element, nor for the rest
none_for_head : {X Y : Type 0} (of : X → Option Y) (x : X) (xs : List X) → first_of (map of (x ∷ xs)) ≡ None
    → (of x ≡ None) × (first_of (map of xs) ≡ None)
none_for_head {X} {Y} of x xs all = by_first (of x) refl
  where
    by_first : (found : Option Y) → of x ≡ found → (of x ≡ None) × (first_of (map of xs) ≡ None)
    by_first None is = (is, rw is at all)
    by_first (Some y) is = let some : Some y ≡ None = rw is at all in absurd cc

-- where there is nothing, there is nothing for any that is kept
none_for_any : {X Y : Type 0} (of : X → Option Y) (keeps : X → Bool) (xs : List X) (k : ℕ) (blank : X)
    → first_of (map of (filter keeps xs)) ≡ None → k < length xs → keeps (get_or xs k blank) ≡ true
    → of (get_or xs k blank) ≡ None
none_for_any of keeps [] k blank none low kept = absurd (omega arith)
none_for_any of keeps (x ∷ xs) k blank none low kept =
    by_test (keeps x) refl k low kept (λ j rest less keep. none_for_any of keeps xs j blank rest less keep)
  where
    by_test : (answer : Bool) → keeps x ≡ answer → (k : ℕ) → k < length (x ∷ xs)
        → keeps (get_or (x ∷ xs) k blank) ≡ true
        → ((j : ℕ) → first_of (map of (filter keeps xs)) ≡ None → j < length xs → keeps (get_or xs j blank) ≡ true
        → of (get_or xs j blank) ≡ None)
        → of (get_or (x ∷ xs) k blank) ≡ None
    by_test true is zero low kept rest = (none_for_head of x (filter keeps xs) (rw is at none)).0
    by_test true is (suc k) low kept rest =
        rest k (none_for_head of x (filter keeps xs) (rw is at none)).1 (omega arith) kept
    by_test false is zero low kept rest = absurd cc
    by_test false is (suc k) low kept rest = rest k (rw is at none) (omega arith) kept

-- where there is something, it is what there is for one that is kept, and for none kept before it
record IsFirst {X Y : Type 0} (of : X → Option Y) (keeps : X → Bool) (xs : List X) (y : Y) : Type 0 where
  at : ℕ
  blank : X
  low : at < length xs
  kept : keeps (get_or xs at blank) ≡ true
  is : of (get_or xs at blank) ≡ Some y
  first : (k : ℕ) → k < at → keeps (get_or xs k blank) ≡ true → of (get_or xs k blank) ≡ None

-- the first element isn't kept, or there is nothing for it
later_first : {X Y : Type 0} (of : X → Option Y) (keeps : X → Bool) (x : X) (xs : List X) (y : Y)
    → (keeps x ≡ true → of x ≡ None) → IsFirst of keeps xs y → IsFirst of keeps (x ∷ xs) y
later_first of keeps x xs y none found =
    record {
      at = suc found.at;
      blank = found.blank;
      low = omega (arith, found.low);
      kept = found.kept;
      is = found.is;
      first = first;
    }
  where
    first : (k : ℕ) → k < suc found.at → keeps (get_or (x ∷ xs) k found.blank) ≡ true
        → of (get_or (x ∷ xs) k found.blank) ≡ None
    first zero low kept = none kept
    first (suc k) low kept = found.first k (omega arith) kept

-- so it is
some_for_first : {X Y : Type 0} (of : X → Option Y) (keeps : X → Bool) (xs : List X) (y : Y)
    → first_of (map of (filter keeps xs)) ≡ Some y → IsFirst of keeps xs y
some_for_first of keeps [] y some = absurd cc
some_for_first {X} {Y} of keeps (x ∷ xs) y some =
    by_test (keeps x) refl (λ rest. some_for_first of keeps xs y rest)
  where
    by_found : keeps x ≡ true → (found : Option Y) → of x ≡ found → first_of (map of (x ∷ filter keeps xs)) ≡ Some y
        → (first_of (map of (filter keeps xs)) ≡ Some y → IsFirst of keeps xs y) → IsFirst of keeps (x ∷ xs) y
    by_found kept None is all rest = later_first of keeps x xs y (λ holds. is) (rest (rw is at all))
    by_found kept (Some z) is all rest =
        let same : Some z ≡ Some y = rw is at all in
        record {
          at = zero;
          blank = x;
          low = omega arith;
          kept = kept;
          is = is ∙ same;
          first = λ k low holds. absurd (omega arith);
        }

    by_test : (answer : Bool) → keeps x ≡ answer
        → (first_of (map of (filter keeps xs)) ≡ Some y → IsFirst of keeps xs y) → IsFirst of keeps (x ∷ xs) y
    by_test true is rest = by_found is (of x) refl (rw is at some) rest
    by_test false is rest = later_first of keeps x xs y (λ holds. absurd cc) (rest (rw is at some))

-- ---- tags for the first role, and for those behind it

-- tags for these roles: of candidates that fit, no two the same
abbrev pub HaveTags : PlainChart → List PlainCandidate → List (List ℕ) → List (List ℕ) → Type 0
HaveTags chart candidates roles bound = AreBound tag_of (fits_role chart) candidates roles bound

-- a candidate fits the role under this tag
abbrev fits_as : PlainChart → List ℕ → List ℕ → PlainCandidate → Bool
fits_as chart role tag = is_well tag_of (fits_role chart) role tag

-- one of other tags fits the role exactly where the tag is another one, and one fits at all
fits_of_others : (chart : PlainChart) (candidates : List PlainCandidate) (role tag gone : List ℕ)
    → list_any (fits_as chart role tag) (others_than gone candidates)
    ≡ (not (same_name tag gone) && list_any (fits_as chart role tag) candidates)
fits_of_others chart candidates role tag gone =
    any-filter_same (fits_as chart role tag) (λ candidate. not (same_name candidate.tag gone))
    (not (same_name tag gone))
    (λ candidate fits.
    let parts = and_parts (bytes_eq candidate.tag tag) (fits_role chart role candidate) fits in
    ap (λ name. not (same_name name gone)) ((bytes_eq-Decides candidate.tag tag).0 parts.0))
    candidates

-- what isn't the same by the test differs
pub differs_by : (name other : List ℕ) → not (same_name name other) ≡ true → name ≢ other
differs_by name other differs equal =
    let same : same_name name other ≡ true = (bytes_eq-Decides name other).1 equal in
    let fails : not (same_name name other) ≡ false = ap not same in
    cc

-- and what differs isn't the same by the test
pub differs_so : (name other : List ℕ) → name ≢ other → not (same_name name other) ≡ true
differs_so name other differs =
    ⊎_elim
    (λ holds. absurd (differs ((bytes_eq-Decides name other).0 holds)))
    (λ fails. ap not fails)
    (cases_Bool (same_name name other))

-- a candidate that fits the first role, and tags for the roles behind it of the others
record IsSplit (chart : PlainChart) (candidates : List PlainCandidate) (role : List ℕ) (roles : List (List ℕ))
    (tag : List ℕ) (bound : List (List ℕ)) : Type 0 where
  at : ℕ
  low : at < length candidates
  tagged : (get_or candidates at nobody).tag ≡ tag
  fits : fits_role chart role (get_or candidates at nobody) ≡ true
  rest : HaveTags chart (others_than tag candidates) roles bound

-- tags for roles are split so
split : (chart : PlainChart) (candidates : List PlainCandidate) (role : List ℕ) (roles : List (List ℕ)) (tag : List ℕ)
    (bound : List (List ℕ)) → HaveTags chart candidates (role ∷ roles) (tag ∷ bound)
    → IsSplit chart candidates role roles tag bound
split chart candidates role roles tag bound have =
    let found = first_passes (fits_as chart role tag) candidates nobody (have.well 0 (omega arith)) in
    let at = position_or_len (fits_as chart role tag) candidates in
    let parts = and_parts (bytes_eq (get_or candidates at nobody).tag tag)
    (fits_role chart role (get_or candidates at nobody)) found.1 in
    record {
      at = at;
      low = found.0;
      tagged = (bytes_eq-Decides (get_or candidates at nobody).tag tag).0 parts.0;
      fits = parts.1;
      rest = record {
        long = omega (arith, have.long);
        well = λ row low.
            let differs : get_or bound row [] ≢ tag = λ equal.
            let same = have.once (suc row) 0 (omega arith) (omega arith) equal in omega (arith, same) in
            fits_of_others chart candidates (get_or roles row []) (get_or bound row []) tag
            ∙ (ap (λ answer. answer && list_any (fits_as chart (get_or roles row []) (get_or bound row [])) candidates)
            (differs_so (get_or bound row []) tag differs) ∙ have.well (suc row) (omega arith));
        once = λ i j low also equal.
            let same = have.once (suc i) (suc j) (omega arith) (omega arith) equal in omega (arith, same);
      };
    }

-- and put together so
joined : (chart : PlainChart) (candidates : List PlainCandidate) (role : List ℕ) (roles : List (List ℕ))
    (bound : List (List ℕ)) (at : ℕ) (blank : PlainCandidate) → at < length candidates
    → fits_role chart role (get_or candidates at blank) ≡ true
    → HaveTags chart (others_than (get_or candidates at blank).tag candidates) roles bound
    → HaveTags chart candidates (role ∷ roles) ((get_or candidates at blank).tag ∷ bound)
joined chart candidates role roles bound at blank low fits rest =
    record { long = omega (arith, rest.long); well = well; once = once }
  where
    tag : List ℕ
    tag = (get_or candidates at blank).tag

    both : (row : ℕ) → row < length roles
        → (not (same_name (get_or bound row []) (get_or candidates at blank).tag) ≡ true)
        × (list_any (fits_as chart (get_or roles row []) (get_or bound row [])) candidates ≡ true)
    both row less =
        and_parts (not (same_name (get_or bound row []) (get_or candidates at blank).tag))
        (list_any (fits_as chart (get_or roles row []) (get_or bound row [])) candidates)
        (sym (fits_of_others chart candidates (get_or roles row []) (get_or bound row [])
        (get_or candidates at blank).tag) ∙ rest.well row less)

    well : (row : ℕ) → row < length (role ∷ roles)
        → list_any (fits_as chart (get_or (role ∷ roles) row [])
        (get_or ((get_or candidates at blank).tag ∷ bound) row [])) candidates ≡ true
    well zero less =
        list_any_at (fits_as chart role (get_or candidates at blank).tag) candidates at blank low
        (rw ((bytes_eq-Decides (get_or candidates at blank).tag (get_or candidates at blank).tag).1 refl) fits)
    well (suc row) less = (both row (omega arith)).1

    once : (i j : ℕ) → i < length (role ∷ roles) → j < length (role ∷ roles)
        → get_or ((get_or candidates at blank).tag ∷ bound) i [] ≡ get_or ((get_or candidates at blank).tag ∷ bound) j []
        → i ≡ j
    once zero zero less also equal = refl
    once zero (suc j) less also equal =
        absurd (differs_by (get_or bound j []) (get_or candidates at blank).tag (both j (omega arith)).0 (sym equal))
    once (suc i) zero less also equal =
        absurd (differs_by (get_or bound i []) (get_or candidates at blank).tag (both i (omega arith)).0 equal)
    once (suc i) (suc j) less also equal = ap suc (rest.once i j (omega arith) (omega arith) equal)

-- ---- the first way

-- where there is something for each of a list of binds, there are such binds
some_mapped : {X Y : Type 0} (change : X → Y) (found : Option X) (y : Y) → option_map change found ≡ Some y
    → (x : X) × (found ≡ Some x) × (change x ≡ y)
some_mapped change None y is = absurd cc
some_mapped change (Some x) y is = (x, refl, cc)

-- and nothing where there is nothing
none_mapped : {X Y : Type 0} (change : X → Y) (found : Option X) → option_map change found ≡ None → found ≡ None
none_mapped change None is = refl
none_mapped change (Some x) is = absurd cc

-- the bind of a candidate before other binds
abbrev bound_first : List ℕ → PlainCandidate → List Bind → List Bind
bound_first role candidate binds = record { role = role; tag = candidate.tag } ∷ binds

-- what the first way is for a candidate of the first role
abbrev way_by : PlainChart → List ℕ → List (List ℕ) → List PlainCandidate → PlainCandidate → Option (List Bind)
way_by chart role roles candidates candidate =
    option_map (bound_first role candidate) (first_way chart roles (others_than candidate.tag candidates))

-- where there is no first way, there are no tags for the roles
pub none_first : (chart : PlainChart) (roles : List (List ℕ)) (candidates : List PlainCandidate)
    (bound : List (List ℕ)) → first_way chart roles candidates ≡ None → HaveTags chart candidates roles bound → ⊥
unfolding first_way
none_first chart [] candidates bound none have = cc
none_first chart (role ∷ roles) candidates [] none have = let long = have.long in absurd (omega (arith, long))
none_first chart (role ∷ roles) candidates (tag ∷ bound) none have =
    let parts = split chart candidates role roles tag bound have in
    let nothing = none_for_any (way_by chart role roles candidates) (fits_role chart role) candidates parts.at nobody
    none parts.low parts.fits in
    let rest = none_mapped (bound_first role (get_or candidates parts.at nobody))
    (first_way chart roles (others_than (get_or candidates parts.at nobody).tag candidates)) nothing in
    none_first chart roles (others_than tag candidates) bound
    (subst (λ (name : List ℕ). first_way chart roles (others_than name candidates) ≡ None) parts.tagged rest) parts.rest

-- what a first way is: binds of these roles, whose tags are the least
pub record IsLeastWay (chart : PlainChart) (roles : List (List ℕ)) (candidates : List PlainCandidate)
    (binds : List Bind) : Type 0 where
  pub roles_of : map (λ bind. bind.role) binds ≡ roles
  pub bound : HaveTags chart candidates roles (tags_of binds)
  pub least : AreInOrder candidates → (others : List (List ℕ)) → HaveTags chart candidates roles others
      → slice_cmp name_cmp (tags_of binds) others ≡ Greater → ⊥

-- the tags of the others are the other tags
tags_of_others : (tag : List ℕ) (candidates : List PlainCandidate)
    → tags_in (others_than tag candidates) ≡ filter (λ name. not (same_name name tag)) (tags_in candidates)
tags_of_others tag [] = refl
tags_of_others tag (candidate ∷ candidates) = by_test (not (same_name candidate.tag tag)) refl
    (tags_of_others tag candidates)
  where
    by_test : (answer : Bool) → not (same_name candidate.tag tag) ≡ answer
        → tags_in (others_than tag candidates) ≡ filter (λ name. not (same_name name tag)) (tags_in candidates)
        → tags_in (others_than tag (candidate ∷ candidates))
        ≡ filter (λ name. not (same_name name tag)) (tags_in (candidate ∷ candidates))
    by_test true is rest = rw is (ap (λ names. candidate.tag ∷ names) rest)
    by_test false is rest = rw is rest

-- the others are in order
others_in_order : (tag : List ℕ) (candidates : List PlainCandidate) → AreInOrder candidates
    → AreInOrder (others_than tag candidates)
others_in_order tag candidates sorted =
    subst (IsStrictlySortedBy name_cmp) (sym (tags_of_others tag candidates))
    (IsStrictlySortedBy-filter name_cmp (λ name. not (same_name name tag)) (tags_in candidates) sorted)

-- the first way for the first candidate of the first role with which there is one is the least
least_by_first : (chart : PlainChart) (role : List ℕ) (roles : List (List ℕ)) (candidates : List PlainCandidate)
    (binds rest : List Bind)
    (found : IsFirst (way_by chart role roles candidates) (fits_role chart role) candidates binds)
    → IsLeastWay chart roles (others_than (get_or candidates found.at found.blank).tag candidates) rest
    → bound_first role (get_or candidates found.at found.blank) rest ≡ binds
    → IsLeastWay chart (role ∷ roles) candidates binds
least_by_first chart role roles candidates binds rest found way is =
    subst (IsLeastWay chart (role ∷ roles) candidates) is
    (record {
      roles_of = ap (λ names. role ∷ names) way.roles_of;
      bound = joined chart candidates role roles (tags_of rest) found.at found.blank found.low found.kept way.bound;
      least = least;
    })
  where
    mine : PlainCandidate
    mine = get_or candidates found.at found.blank

    -- the tag at a place
    tag_is : (k : ℕ) → k < length candidates → get_or (tags_in candidates) k [] ≡ (get_or candidates k found.blank).tag
    tag_is k low = get_or-map (λ candidate. candidate.tag) candidates k found.blank [] low

    tag_there : (tag : List ℕ) (k : ℕ) → k < length candidates → (get_or candidates k nobody).tag ≡ tag
        → (get_or candidates k found.blank).tag ≡ tag
    tag_there tag k low tagged = ap (λ candidate. candidate.tag) (get_or_default candidates k found.blank nobody low)
        ∙ tagged

    -- for a candidate before it there is no way
    none_before : (tag : List ℕ) (others : List (List ℕ)) (parts : IsSplit chart candidates role roles tag others)
        → parts.at < found.at → ⊥
    none_before tag others parts less =
        let theirs = get_or candidates parts.at found.blank in
        let same = get_or_default candidates parts.at found.blank nobody parts.low in
        let nothing = none_mapped (bound_first role theirs) (first_way chart roles (others_than theirs.tag candidates))
        (found.first parts.at less (ap (fits_role chart role) same ∙ parts.fits)) in
        none_first chart roles (others_than tag candidates) others
        (subst (λ (name : List ℕ). first_way chart roles (others_than name candidates) ≡ None)
        (tag_there tag parts.at parts.low parts.tagged) nothing)
        parts.rest

    -- with the same one the tags behind decide
    by_rest : (tag : List ℕ) (others : List (List ℕ)) → AreInOrder candidates
        → HaveTags chart (others_than tag candidates) roles others → (get_or candidates found.at found.blank).tag ≡ tag
        → ordering_then (name_cmp (get_or candidates found.at found.blank).tag tag)
        (slice_cmp name_cmp (tags_of rest) others) ≡ Greater
        → ⊥
    by_rest tag others sorted have equal greater =
        let then = ap (λ order. ordering_then order (slice_cmp name_cmp (tags_of rest) others))
        (equal_itself (get_or candidates found.at found.blank).tag tag equal) in
        way.least (others_in_order (get_or candidates found.at found.blank).tag candidates sorted) others
        (subst (λ (name : List ℕ). HaveTags chart (others_than name candidates) roles others) (sym equal) have)
        (sym then ∙ greater)

    -- one behind it is greater
    by_first : (tag : List ℕ) (others : List (List ℕ)) (k : ℕ) → AreInOrder candidates → found.at < k
        → k < length candidates → (get_or candidates k nobody).tag ≡ tag
        → ordering_then (name_cmp (get_or candidates found.at found.blank).tag tag)
        (slice_cmp name_cmp (tags_of rest) others) ≡ Greater
        → ⊥
    by_first tag others k sorted more low tagged greater =
        let less = later_greater (tags_in candidates) found.at k sorted more
        (omega (arith, length-map candidates (λ candidate. candidate.tag))) in
        let below : name_cmp (get_or candidates found.at found.blank).tag tag ≡ Less =
        sym (ap (λ name. name_cmp name (get_or (tags_in candidates) k [])) (tag_is found.at found.low)
        ∙ ap (λ name. name_cmp (get_or candidates found.at found.blank).tag name)
        (tag_is k low ∙ tag_there tag k low tagged)) ∙ less in
        let then = ap (λ order. ordering_then order (slice_cmp name_cmp (tags_of rest) others)) below in
        cc

    least : AreInOrder candidates → (others : List (List ℕ)) → HaveTags chart candidates (role ∷ roles) others
        → slice_cmp name_cmp (tags_of (bound_first role (get_or candidates found.at found.blank) rest)) others ≡ Greater
        → ⊥
    least sorted [] have greater = let long = have.long in absurd (omega (arith, long))
    least sorted (tag ∷ others) have greater =
        let parts = split chart candidates role roles tag others have in
        ⊎_elim
        (λ less. none_before tag others parts less)
        (λ more. ⊎_elim
        (λ equal. by_rest tag others sorted parts.rest
        (ap (λ at. (get_or candidates at found.blank).tag) (sym equal)
        ∙ tag_there tag parts.at parts.low parts.tagged) greater)
        (λ apart. by_first tag others parts.at sorted (omega arith) parts.low parts.tagged greater)
        (cases_eq parts.at found.at))
        (cases_lt parts.at found.at)

-- so the first way is
pub some_first : (chart : PlainChart) (roles : List (List ℕ)) (candidates : List PlainCandidate) (binds : List Bind)
    → first_way chart roles candidates ≡ Some binds → IsLeastWay chart roles candidates binds
unfolding first_way
some_first chart [] candidates binds some =
    let none : [] ≡ binds = cc in
    subst (IsLeastWay chart [] candidates) none
    (record {
      roles_of = refl;
      bound = record {
        long = refl;
        well = λ row low. absurd (omega arith);
        once = λ i j low also equal. absurd (omega arith);
      };
      least = λ sorted others have greater. no_less others greater;
    })
  where
    no_less : (others : List (List ℕ)) → slice_cmp name_cmp [] others ≡ Greater → ⊥
    no_less [] greater = cc
    no_less (other ∷ others) greater = cc
some_first chart (role ∷ roles) candidates binds some =
    let found = some_for_first (way_by chart role roles candidates) (fits_role chart role) candidates binds some in
    let mine = get_or candidates found.at found.blank in
    let rest = some_mapped (bound_first role mine) (first_way chart roles (others_than mine.tag candidates)) binds
    found.is in
    least_by_first chart role roles candidates binds rest.0 found
    (some_first chart roles (others_than mine.tag candidates) rest.0 rest.1) rest.2

-- ---- the binding that is answered

-- lists of names that compare alike are one
one_list : (names others : List (List ℕ)) → slice_cmp name_cmp names others ≡ Equal → names ≡ others
one_list = slice_cmp-IsAntisymmetric one_name

-- of two lists neither of which is greater each is the other
none_greater : (names others : List (List ℕ)) → (slice_cmp name_cmp names others ≡ Greater → ⊥)
    → (slice_cmp name_cmp others names ≡ Greater → ⊥) → names ≡ others
none_greater names others first second = by_order (slice_cmp name_cmp names others) refl
  where
    by_order : (order : Ordering) → slice_cmp name_cmp names others ≡ order → names ≡ others
    by_order Less is = absurd (second ((lists_total nat_list_cmp_total).antisymm others names ∙ ap ordering_reverse is))
    by_order Equal is = one_list names others is
    by_order Greater is = absurd (first is)

-- binds that have the same roles and the same tags are one list
same_binds : (binds others : List Bind) → map (λ bind. bind.role) binds ≡ map (λ bind. bind.role) others
    → tags_of binds ≡ tags_of others → binds ≡ others
same_binds [] [] roles tags = refl
same_binds [] (other ∷ others) roles tags = absurd (omega (arith, ap length tags))
same_binds (bind ∷ binds) [] roles tags = absurd (omega (arith, ap length tags))
same_binds (bind ∷ binds) (other ∷ others) roles tags =
    let role = ap (λ names. get_or names 0 []) roles in
    let tag = ap (λ names. get_or names 0 []) tags in
    let rest = same_binds binds others (ap (drop 1) roles) (ap (drop 1) tags) in
    ap (λ name. record { role = name; tag = bind.tag } ∷ binds) role
    ∙ (ap (λ name. record { role = other.role; tag = name } ∷ binds) tag
    ∙ ap (λ later. other ∷ later) rest)

-- the binding that is answered is a least one
pub told_least : (chart : PlainChart) (candidates : List PlainCandidate) (binds : List Bind) → AreInOrder candidates
    → binding_of chart candidates ≡ Some binds → IsLeastBinding chart candidates binds
told_least chart candidates binds sorted told =
    let way = some_first chart (role_names chart) candidates binds told in
    record {
      binding = binding_by_bound chart candidates binds way.roles_of way.bound;
      least = λ others binding greater. way.least sorted (tags_of others)
          (bound_by_binding chart candidates others binding) greater;
    }

-- where no binding is answered there is none
pub told_none : (chart : PlainChart) (candidates : List PlainCandidate) → binding_of chart candidates ≡ None
    → HasNoBinding chart candidates
told_none chart candidates told binds binding =
    none_first chart (role_names chart) candidates (tags_of binds) told (bound_by_binding chart candidates binds binding)

-- two least bindings are one
pub one_least : (chart : PlainChart) (candidates : List PlainCandidate) (binds others : List Bind)
    → IsLeastBinding chart candidates binds → IsLeastBinding chart candidates others → binds ≡ others
one_least chart candidates binds others one other =
    same_binds binds others (one.binding.roles ∙ sym other.binding.roles)
    (none_greater (tags_of binds) (tags_of others) (one.least others other.binding) (other.least binds one.binding))

-- the least binding is answered
pub least_told : (chart : PlainChart) (candidates : List PlainCandidate) (binds : List Bind) → AreInOrder candidates
    → IsLeastBinding chart candidates binds → binding_of chart candidates ≡ Some binds
least_told chart candidates binds sorted least = by_told (binding_of chart candidates) refl
  where
    by_told : (told : Option (List Bind)) → binding_of chart candidates ≡ told → binding_of chart candidates ≡ Some binds
    by_told None is = absurd (told_none chart candidates is binds least.binding)
    by_told (Some others) is = is
        ∙ ap Some (one_least chart candidates others binds (told_least chart candidates others sorted is) least)

-- where there is no binding, none is answered
pub none_told : (chart : PlainChart) (candidates : List PlainCandidate) → AreInOrder candidates
    → HasNoBinding chart candidates → binding_of chart candidates ≡ None
none_told chart candidates sorted none = by_told (binding_of chart candidates) refl
  where
    by_told : (told : Option (List Bind)) → binding_of chart candidates ≡ told → binding_of chart candidates ≡ None
    by_told None is = is
    by_told (Some binds) is = absurd (none binds (told_least chart candidates binds sorted is).binding)

pub dummy : ℕ
dummy = 0
