-- Tags in byte order: the order has each tag once, and a tag stands at the place that counts those before it.
use Rattle.std.proofs.Common.{◌≡◌, ℕ, zero, suc, ◌≤◌, ◌==◌, arith, Bool, true, false, cond, ◌||◌, List, [], ◌∷◌, length, Option, Some, None, refl, sym, ap, subst, ◌∙◌, true≢false, eq-eqb}
use Rattle.std.specs.Prelude.{filter, find, slice_get}
use Rattle.std.specs.BTreeSet.{insert_key}
use Rattle.std.specs.Cmp.Lexicographic.{slice_cmp}
use Rattle.std.specs.List.{AllByRecursion, IsDistinct, dedup, dedup_from}
use Rattle.std.specs.List.Sorted.{IsPermutation, IsSorted, IsStrictlySortedBy}
use Rattle.std.specs.Ordering.{match_ordering, nat_cmp, ordering_reverse}
use Rattle.std.specs.Set.{is_member}
use Rattle.std.specs.Str.{bytes_eq}
use Rattle.std.specs.declared.cmp.Ordering.{Ordering}
use Rattle.std.specs.declared.cmp.Ordering.TheVariants.{Less, Equal, Greater}
use Rattle.std.proofs.lemmas.Bool.{eqb-true}
use Rattle.std.proofs.lemmas.Cmp.{nat_list_cmp_total, nat_list_eq_equiv, tied_itself}
use Rattle.std.proofs.lemmas.List.Elements.{All-from_recursion, recursion_from_All}
use Rattle.std.proofs.lemmas.List.Kept.{IsStrictlySortedBy-dedup}
use Rattle.std.proofs.lemmas.List.Sorted.{Contains-permutation, IsPermutation-sym}
use Rattle.std.proofs.lemmas.Map.Keys.{IsDistinct-head, IsDistinct-tail, IsDistinct-IsPermutation}
use Rattle.std.proofs.lemmas.Map.Lookups.{exact_bytes}
use Rattle.std.proofs.lemmas.Map.Made.{is_member-Decides}
use Rattle.std.proofs.lemmas.Map.Text.{is_eq-slice_cmp}
use Rattle.std.proofs.lemmas.Map.Views.{All-insert_key}
use Rattle.std.proofs.lemmas.Slice.Eq.{bytes_eq-Decides}
use Rattle.mtp_codes.proofs.Names.{same_refl, same_true}
use Rattle.pol_table.specs.ByteOrder.{comes_before, in_byte_order, place_among}

-- the order of tags
abbrev order : List ℕ → List ℕ → Ordering
order = slice_cmp nat_cmp

-- a tag that stands after another has that one before it
order_back : (tag other : List ℕ) → order tag other ≡ Greater → order other tag ≡ Less
order_back tag other after = nat_list_cmp_total.antisymm other tag ∙ ap ordering_reverse after

-- a tag that stands before another has that one after it
order_forth : (tag other : List ℕ) → order tag other ≡ Less → order other tag ≡ Greater
order_forth tag other before = nat_list_cmp_total.antisymm other tag ∙ ap ordering_reverse before

-- a tag that stands before another is not that one
apart : (tag other : List ℕ) → order tag other ≡ Less → bytes_eq tag other ≡ false
apart tag other before = go (bytes_eq tag other) refl
  where
    go : (same : Bool) → bytes_eq tag other ≡ same → bytes_eq tag other ≡ false
    go false is = is
    go true is =
        let tied : order tag other ≡ Equal =
        ap (order tag) (sym (same_true tag other is)) ∙ tied_itself nat_list_cmp_total tag in
        cc

-- what stands before the first of some tags stands before those after it
before_more : (tag first : List ℕ) (tags : List (List ℕ)) → order tag first ≡ Less →
    AllByRecursion (λ other. order first other ≡ Less) tags → AllByRecursion (λ other. order tag other ≡ Less) tags
before_more tag first [] before later = tt
before_more tag first (other ∷ tags) before later =
    (nat_list_cmp_total.trans tag first other before later.0, before_more tag first tags before later.1)

-- a tag that stands before each is none of them
none_alike : (tags : List (List ℕ)) (tag : List ℕ) → AllByRecursion (λ other. order tag other ≡ Less) tags →
    is_member bytes_eq tags tag ≡ false
none_alike [] tag before = refl
none_alike (first ∷ tags) tag before =
    ap (λ b. b || is_member bytes_eq tags tag) (apart tag first before.0) ∙ none_alike tags tag before.1

-- ---- a tag that is put at its place

-- of the tags that it then has, one is the new one
members_insert : (tags : List (List ℕ)) (tag other : List ℕ) →
    is_member bytes_eq (insert_key order tags tag) other ≡ bytes_eq other tag || is_member bytes_eq tags other
members_insert [] tag other = refl
members_insert (first ∷ tags) tag other = go (order tag first) refl (members_insert tags tag other)
  where
    twice : (a b : Bool) → a || b ≡ a || (a || b)
    twice true b = refl
    twice false b = refl

    turn : (a b c : Bool) → a || (b || c) ≡ b || (a || c)
    turn true true c = refl
    turn true false c = refl
    turn false b c = refl

    go : (o : Ordering) → order tag first ≡ o →
        is_member bytes_eq (insert_key order tags tag) other ≡ bytes_eq other tag || is_member bytes_eq tags other →
        is_member bytes_eq
        (match_ordering o (tag ∷ first ∷ tags) (first ∷ tags) (first ∷ insert_key order tags tag)) other
        ≡ bytes_eq other tag || is_member bytes_eq (first ∷ tags) other
    go Less is rest = refl
    go Equal is rest =
        let same : bytes_eq other first ≡ bytes_eq other tag = ap (bytes_eq other) (sym (exact_bytes tag first is)) in
        ap (λ b. b || is_member bytes_eq tags other) same
        ∙ twice (bytes_eq other tag) (is_member bytes_eq tags other)
        ∙ ap (λ b. bytes_eq other tag || (b || is_member bytes_eq tags other)) (sym same)
    go Greater is rest =
        ap (λ b. bytes_eq other first || b) rest
        ∙ turn (bytes_eq other first) (bytes_eq other tag) (is_member bytes_eq tags other)

-- they are in order
sorted_insert : (tags : List (List ℕ)) (tag : List ℕ) → IsStrictlySortedBy order tags →
    IsStrictlySortedBy order (insert_key order tags tag)
unfolding IsStrictlySortedBy
sorted_insert [] tag sorted = (tt, tt)
sorted_insert (first ∷ tags) tag sorted = go (order tag first) refl (sorted_insert tags tag sorted.1)
  where
    go : (o : Ordering) → order tag first ≡ o → IsStrictlySortedBy order (insert_key order tags tag) →
        IsStrictlySortedBy order
        (match_ordering o (tag ∷ first ∷ tags) (first ∷ tags) (first ∷ insert_key order tags tag))
    go Less is rest = ((is, before_more tag first tags is sorted.0), sorted)
    go Equal is rest = sorted
    go Greater is rest = (
      recursion_from_All (λ other. order first other ≡ Less) (insert_key order tags tag)
          (All-insert_key order tag (λ other. order first other ≡ Less) tags
          (All-from_recursion (λ other. order first other ≡ Less) tags sorted.0) (order_back tag first is)),
      rest,
    )

-- as many pass a test as before, and the new one where it does
count_insert : (test : List ℕ → Bool) (tags : List (List ℕ)) (tag : List ℕ) → is_member bytes_eq tags tag ≡ false →
    length (filter test (insert_key order tags tag)) ≡ length (filter test (tag ∷ tags))
count_insert test [] tag new = refl
count_insert test (first ∷ tags) tag new =
    let parts = neither (bytes_eq tag first) (is_member bytes_eq tags tag) new in
    go (order tag first) refl parts.0 (count_insert test tags tag parts.1)
  where
    neither : (a b : Bool) → a || b ≡ false → (a ≡ false) × (b ≡ false)
    neither true b is = absurd (true≢false is)
    neither false b is = (refl, is)

    turn : (a b : Bool) (passing : List (List ℕ)) →
        length (cond a (first ∷ cond b (tag ∷ passing) passing) (cond b (tag ∷ passing) passing))
        ≡ length (cond b (tag ∷ cond a (first ∷ passing) passing) (cond a (first ∷ passing) passing))
    turn true true passing = refl
    turn true false passing = refl
    turn false b passing = refl

    more : (a : Bool) (passing others : List (List ℕ)) → length passing ≡ length others →
        length (cond a (first ∷ passing) passing) ≡ length (cond a (first ∷ others) others)
    more true passing others same = ap suc same
    more false passing others same = same

    go : (o : Ordering) → order tag first ≡ o → bytes_eq tag first ≡ false →
        length (filter test (insert_key order tags tag)) ≡ length (filter test (tag ∷ tags)) →
        length (filter test (match_ordering o (tag ∷ first ∷ tags) (first ∷ tags) (first ∷ insert_key order tags tag)))
        ≡ length (filter test (tag ∷ first ∷ tags))
    go Less is differs rest = refl
    go Equal is differs rest =
        absurd (true≢false (sym (same_refl tag) ∙ ap (bytes_eq tag) (exact_bytes tag first is) ∙ differs))
    go Greater is differs rest =
        more (test first) (filter test (insert_key order tags tag)) (filter test (tag ∷ tags)) rest
        ∙ turn (test first) (test tag) (filter test tags)

-- ---- tags in order

-- the order is strict
pub order_sorted : (tags : List (List ℕ)) → IsStrictlySortedBy order (in_byte_order tags)
unfolding in_byte_order IsStrictlySortedBy
order_sorted [] = tt
order_sorted (tag ∷ tags) = sorted_insert (in_byte_order tags) tag (order_sorted tags)

-- it has these tags and no others
pub order_members : (tags : List (List ℕ)) (other : List ℕ) →
    is_member bytes_eq (in_byte_order tags) other ≡ is_member bytes_eq tags other
unfolding in_byte_order
order_members [] other = refl
order_members (tag ∷ tags) other =
    members_insert (in_byte_order tags) tag other ∙ ap (λ b. bytes_eq other tag || b) (order_members tags other)

-- a tag that differs from each is none of them
none_differs : (tags : List (List ℕ)) (tag : List ℕ) → AllByRecursion (λ other. bytes_eq tag other ≡ false) tags →
    is_member bytes_eq tags tag ≡ false
none_differs [] tag all = refl
none_differs (first ∷ tags) tag all = ap (λ b. b || is_member bytes_eq tags tag) all.0 ∙ none_differs tags tag all.1

-- as many of them pass a test, where none is there twice
order_count : (test : List ℕ → Bool) (tags : List (List ℕ)) → IsDistinct bytes_eq tags →
    length (filter test (in_byte_order tags)) ≡ length (filter test tags)
unfolding in_byte_order
order_count test [] distinct = refl
order_count test (tag ∷ tags) distinct =
    let out = order_members tags tag ∙ none_differs tags tag (IsDistinct-head bytes_eq tag tags distinct) in
    count_insert test (in_byte_order tags) tag out
    ∙ more (test tag) (order_count test tags (IsDistinct-tail bytes_eq tag tags distinct))
  where
    more : (a : Bool) → length (filter test (in_byte_order tags)) ≡ length (filter test tags) →
        length (cond a (tag ∷ filter test (in_byte_order tags)) (filter test (in_byte_order tags)))
        ≡ length (cond a (tag ∷ filter test tags) (filter test tags))
    more true same = ap suc same
    more false same = same

-- none of the later tags stands before the first
none_before : (tags : List (List ℕ)) (first : List ℕ) → AllByRecursion (λ other. order first other ≡ Less) tags →
    place_among tags first ≡ 0
none_before [] first later = refl
none_before (tag ∷ tags) first later =
    rw (order_forth first tag later.0) (none_before tags first later.1)

-- in the order a tag stands at the place that counts those before it
place_sorted : (tags : List (List ℕ)) (place : ℕ) (tag : List ℕ) → IsStrictlySortedBy order tags →
    slice_get tags place ≡ Some tag → place_among tags tag ≡ place
unfolding IsStrictlySortedBy
place_sorted [] place tag sorted at = absurd cc
place_sorted (first ∷ tags) zero tag sorted at =
    let same : first ≡ tag = cc in
    ap (place_among (first ∷ tags)) (sym same)
    ∙ rw (tied_itself nat_list_cmp_total first) (none_before tags first sorted.0)
place_sorted (first ∷ tags) (suc place) tag sorted at =
    let rest = place_sorted tags place tag sorted.1 at in
    let before : order first tag ≡ Less = each_get tags place tag sorted.0 at in
    rw before (ap suc rest)
  where
    each_get : (others : List (List ℕ)) (place : ℕ) (tag : List ℕ) →
        AllByRecursion (λ other. order first other ≡ Less) others → slice_get others place ≡ Some tag →
        order first tag ≡ Less
    each_get [] place tag later at = absurd cc
    each_get (other ∷ others) zero tag later at = let same : other ≡ tag = cc in rw (← same) later.0
    each_get (other ∷ others) (suc place) tag later at = each_get others place tag later.1 at

-- a member stands somewhere
member_at : (tags : List (List ℕ)) (tag : List ℕ) → is_member bytes_eq tags tag ≡ true →
    (place : ℕ) × (slice_get tags place ≡ Some tag)
member_at [] tag is = absurd (true≢false (sym is))
member_at (first ∷ tags) tag is = go (bytes_eq tag first) refl is (member_at tags tag)
  where
    go : (same : Bool) → bytes_eq tag first ≡ same → same || is_member bytes_eq tags tag ≡ true →
        (is_member bytes_eq tags tag ≡ true → (place : ℕ) × (slice_get tags place ≡ Some tag)) →
        (place : ℕ) × (slice_get (first ∷ tags) place ≡ Some tag)
    go true same is later = (0, ap Some (sym (same_true tag first same)))
    go false differs is later = let (place, at) = later is in (suc place, at)

-- and what stands somewhere is a member
at_member : (tags : List (List ℕ)) (place : ℕ) (tag : List ℕ) → slice_get tags place ≡ Some tag →
    is_member bytes_eq tags tag ≡ true
at_member [] place tag at = absurd cc
at_member (first ∷ tags) zero tag at =
    let same : first ≡ tag = cc in
    ap (λ b. b || is_member bytes_eq tags tag) (ap (bytes_eq tag) same ∙ same_refl tag)
at_member (first ∷ tags) (suc place) tag at = go (bytes_eq tag first) (at_member tags place tag at)
  where
    go : (same : Bool) → is_member bytes_eq tags tag ≡ true → same || is_member bytes_eq tags tag ≡ true
    go true is = refl
    go false is = is

-- ---- what is found by its place

-- what a test finds, where it passes just the one that is wanted
find_wanted : (test : List ℕ → Bool) (wanted : Option (List ℕ)) (tags : List (List ℕ)) →
    ((tag : List ℕ) → is_member bytes_eq tags tag ≡ true → test tag ≡ true → wanted ≡ Some tag) →
    ((tag : List ℕ) → wanted ≡ Some tag → (is_member bytes_eq tags tag ≡ true) × (test tag ≡ true)) →
    find test tags ≡ wanted
find_wanted test None [] only is = refl
find_wanted test (Some tag) [] only is = absurd (true≢false (sym (is tag refl).0))
find_wanted test wanted (first ∷ tags) only is =
    go (test first) refl (find_wanted test wanted tags (λ tag member. only tag (behind (bytes_eq tag first) member)))
  where
    behind : (same : Bool) {later : Bool} → later ≡ true → same || later ≡ true
    behind true member = refl
    behind false member = member

    -- one that is wanted and isn't the first is among the others
    later : (tag : List ℕ) (same : Bool) → bytes_eq tag first ≡ same → test first ≡ false → test tag ≡ true →
        same || is_member bytes_eq tags tag ≡ true → is_member bytes_eq tags tag ≡ true
    later tag true same fails passes member =
        absurd (true≢false (sym passes ∙ ap test (same_true tag first same) ∙ fails))
    later tag false differs fails passes member = member

    go : (passes : Bool) → test first ≡ passes →
        (((tag : List ℕ) → wanted ≡ Some tag → (is_member bytes_eq tags tag ≡ true) × (test tag ≡ true)) →
        find test tags ≡ wanted) →
        cond passes (Some first) (find test tags) ≡ wanted
    go true passes rest = sym (only first (ap (λ b. b || is_member bytes_eq tags first) (same_refl first)) passes)
    go false fails rest =
        rest (λ tag it. (
          later tag (bytes_eq tag first) refl fails (is tag it).1 (is tag it).0,
          (is tag it).1,
        ))

-- the tag before which so many stand is the one at that place of the order
pub found_at : (tags : List (List ℕ)) (place : ℕ) → IsDistinct bytes_eq tags →
    find (λ tag. place_among tags tag == place) tags ≡ slice_get (in_byte_order tags) place
found_at tags place distinct =
    find_wanted (λ tag. place_among tags tag == place) (slice_get (in_byte_order tags) place) tags only is
  where
    -- a tag has the same place in the order
    same_place : (tag : List ℕ) → place_among (in_byte_order tags) tag ≡ place_among tags tag
    same_place tag = order_count (λ other. comes_before other tag) tags distinct

    only : (tag : List ℕ) → is_member bytes_eq tags tag ≡ true → (place_among tags tag == place) ≡ true →
        slice_get (in_byte_order tags) place ≡ Some tag
    only tag member here =
        let (at, stands) = member_at (in_byte_order tags) tag (order_members tags tag ∙ member) in
        let there = place_sorted (in_byte_order tags) at tag (order_sorted tags) stands in
        let same : at ≡ place = sym there ∙ same_place tag ∙ eqb-true (place_among tags tag) place here in
        ap (slice_get (in_byte_order tags)) (sym same) ∙ stands

    is : (tag : List ℕ) → slice_get (in_byte_order tags) place ≡ Some tag →
        (is_member bytes_eq tags tag ≡ true) × ((place_among tags tag == place) ≡ true)
    is tag stands = (
      sym (order_members tags tag) ∙ at_member (in_byte_order tags) place tag stands,
      eq-eqb (place_among tags tag) place
          (sym (same_place tag) ∙ place_sorted (in_byte_order tags) place tag (order_sorted tags) stands),
    )

-- ---- the order depends only on which tags there are

-- lists in order that have the same members are the same
sorted_same : (tags others : List (List ℕ)) → IsStrictlySortedBy order tags → IsStrictlySortedBy order others →
    ((tag : List ℕ) → is_member bytes_eq tags tag ≡ is_member bytes_eq others tag) → tags ≡ others
unfolding IsStrictlySortedBy
sorted_same [] [] sorted after same = refl
sorted_same [] (other ∷ others) sorted after same =
    absurd (true≢false (sym (ap (λ b. b || is_member bytes_eq others other) (same_refl other)) ∙ sym (same other)))
sorted_same (first ∷ tags) [] sorted after same =
    absurd (true≢false (sym (ap (λ b. b || is_member bytes_eq tags first) (same_refl first)) ∙ same first))
sorted_same (first ∷ tags) (other ∷ others) sorted after same =
    go (order first other) refl (sorted_same tags others sorted.1 after.1)
  where
    -- a first tag that stands before the other first one isn't there
    missing : (one next : List ℕ) (ones nexts : List (List ℕ)) → order one next ≡ Less →
        AllByRecursion (λ later. order next later ≡ Less) nexts →
        is_member bytes_eq (one ∷ ones) one ≡ is_member bytes_eq (next ∷ nexts) one → ⊥
    missing one next ones nexts before later alike =
        true≢false
        (sym (ap (λ b. b || is_member bytes_eq ones one) (same_refl one))
        ∙ alike
        ∙ none_alike (next ∷ nexts) one (before, before_more one next nexts before later))

    -- those behind the same first tag have the same members
    behind : first ≡ other → (tag : List ℕ) (here : Bool) → bytes_eq tag first ≡ here →
        here || is_member bytes_eq tags tag ≡ bytes_eq tag other || is_member bytes_eq others tag →
        is_member bytes_eq tags tag ≡ is_member bytes_eq others tag
    behind is tag true here alike =
        let out = none_alike tags first sorted.0 in
        let out_there = none_alike others first (rw is after.0) in
        ap (is_member bytes_eq tags) (same_true tag first here) ∙ out
        ∙ sym (ap (is_member bytes_eq others) (same_true tag first here) ∙ out_there)
    behind is tag false differs alike =
        alike ∙ ap (λ b. b || is_member bytes_eq others tag) (sym (ap (bytes_eq tag) is) ∙ differs)

    go : (o : Ordering) → order first other ≡ o →
        (((tag : List ℕ) → is_member bytes_eq tags tag ≡ is_member bytes_eq others tag) → tags ≡ others) →
        first ∷ tags ≡ other ∷ others
    go Less is rest = absurd (missing first other tags others is after.0 (same first))
    go Greater is rest =
        absurd (missing other first others tags (order_back first other is) sorted.0 (sym (same other)))
    go Equal is rest =
        let alike = exact_bytes first other is in
        ap (λ tag. tag ∷ tags) alike
        ∙ ap (λ later. other ∷ later)
        (rest (λ tag. behind alike tag (bytes_eq tag first) refl (same tag)))

-- where the same tags are there, the order is the same
pub same_order : (tags others : List (List ℕ)) →
    ((tag : List ℕ) → is_member bytes_eq tags tag ≡ is_member bytes_eq others tag) →
    in_byte_order tags ≡ in_byte_order others
same_order tags others same =
    sorted_same (in_byte_order tags) (in_byte_order others) (order_sorted tags) (order_sorted others)
    (λ tag. order_members tags tag ∙ same tag ∙ sym (order_members others tag))

-- ---- how many there are

-- one more tag makes them at most one more
length_insert : (tags : List (List ℕ)) (tag : List ℕ) → length (insert_key order tags tag) ≤ suc (length tags)
length_insert [] tag = omega arith
length_insert (first ∷ tags) tag = go (order tag first) (length_insert tags tag)
  where
    go : (o : Ordering) → length (insert_key order tags tag) ≤ suc (length tags) →
        length (match_ordering o (tag ∷ first ∷ tags) (first ∷ tags) (first ∷ insert_key order tags tag))
        ≤ suc (length (first ∷ tags))
    go Less rest = omega arith
    go Equal rest = omega arith
    go Greater rest = omega arith

-- in order they are no more
pub order_length : (tags : List (List ℕ)) → length (in_byte_order tags) ≤ length tags
unfolding in_byte_order
order_length [] = omega arith
order_length (tag ∷ tags) = omega (arith, length_insert (in_byte_order tags) tag, order_length tags)

-- ---- tags that were sorted

-- of tags that differ none is passed over as the same as the one before it
kept_all : (first : List ℕ) (tags : List (List ℕ)) → IsDistinct bytes_eq (first ∷ tags) →
    dedup_from bytes_eq first tags ≡ first ∷ tags
unfolding IsDistinct
kept_all first [] distinct = refl
kept_all first (tag ∷ tags) distinct =
    ap (λ same. cond same (dedup_from bytes_eq first tags) (first ∷ dedup_from bytes_eq tag tags))
    (nat_list_eq_equiv.symm tag first ∙ distinct.0.0)
    ∙ ap (λ later. first ∷ later) (kept_all tag tags distinct.1)

-- so they are in strict order, once they are sorted
sorted_strictly : (tags : List (List ℕ)) → IsDistinct bytes_eq tags → IsSorted order tags →
    IsStrictlySortedBy order tags
sorted_strictly tags distinct sorted =
    subst (IsStrictlySortedBy order) (kept tags distinct)
    (IsStrictlySortedBy-dedup nat_list_cmp_total (λ tag other. sym (is_eq-slice_cmp tag other)) tags sorted)
  where
    kept : (tags : List (List ℕ)) → IsDistinct bytes_eq tags → dedup bytes_eq tags ≡ tags
    kept [] distinct = refl
    kept (first ∷ tags) distinct = kept_all first tags distinct

-- the same tags in another order have the same members
moved_members : (tags others : List (List ℕ)) (tag : List ℕ) → IsPermutation tags others →
    is_member bytes_eq others tag ≡ is_member bytes_eq tags tag
moved_members tags others tag moved =
    both (is_member bytes_eq others tag) (is_member bytes_eq tags tag)
    (λ there. (is_member-Decides bytes_eq-Decides tags tag).1
    (Contains-permutation others tags tag (IsPermutation-sym tags others moved)
    ((is_member-Decides bytes_eq-Decides others tag).0 there)))
    (λ here. (is_member-Decides bytes_eq-Decides others tag).1
    (Contains-permutation tags others tag moved ((is_member-Decides bytes_eq-Decides tags tag).0 here)))
  where
    both : (a b : Bool) → (a ≡ true → b ≡ true) → (b ≡ true → a ≡ true) → a ≡ b
    both true b forth back = sym (forth refl)
    both false true forth back = back refl
    both false false forth back = refl

-- distinct tags that were sorted are those in byte order
pub sorted_is : (tags sorted : List (List ℕ)) → IsDistinct bytes_eq tags → IsPermutation tags sorted →
    IsSorted order sorted → sorted ≡ in_byte_order tags
sorted_is tags sorted distinct moved is =
    sorted_same sorted (in_byte_order tags)
    (sorted_strictly sorted
    (IsDistinct-IsPermutation bytes_eq nat_list_eq_equiv.symm tags sorted moved distinct) is)
    (order_sorted tags) (λ tag. moved_members tags sorted tag moved ∙ sym (order_members tags tag))
