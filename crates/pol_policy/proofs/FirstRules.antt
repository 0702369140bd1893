-- The first rule that is found of those that deny, and of those that allow, and what these two say.
use Rattle.std.proofs.Common.{◌≡◌, ◌&&◌, inl, inr, ⊎_elim, Bool, true, false, not, List, [], ◌∷◌, ◌++◌, Option}
use Rattle.std.proofs.Common.{Some, None, refl, sym, ap, subst, cond}
use Rattle.std.specs.Bool.{Decides}
use Rattle.std.specs.List.{Any, find, list_any}
use Rattle.std.proofs.lemmas.Bool.{and_from, and_parts, both_ways, cases_Bool, not-true, not_from_false}
use Rattle.pol_policy.proofs.Leading.{IsIn, any_in, in_some, some_in}

-- ---- the first item that passes

-- an item, what comes before it, and that nothing there passes
pub record Found {A : Type 0} (test : A → Bool) (items : List A) (item : A) : Type 0 where
  pub before : List A
  pub after : List A
  pub stands : items ≡ before ++ item ∷ after
  pub passes : test item ≡ true
  pub first : list_any test before ≡ false

-- what is found first in a list, by its first item
found_step : {A : Type 0} (test : A → Bool) (first : A) (others : List A) (item : A)
    → (find test others ≡ Some item → Found test others item) → (passes : Bool) → test first ≡ passes
    → cond passes (Some first) (find test others) ≡ Some item → Found test (first ∷ others) item
found_step test first others item later true e found =
    let is : first ≡ item = cc in
    record {
      before = [];
      after = others;
      stands = ap (λ each. each ∷ others) is;
      passes = subst (λ each. test each
          ≡ true) is e;
      first = refl;
    }
found_step test first others item later false e found =
    let rest : Found test others item = later found in
    record {
      before = first ∷ rest.before;
      after = rest.after;
      stands = ap (λ each. first ∷ each) rest.stands;
      passes = rest.passes;
      first = rw (e, rest.first) refl;
    }

-- what is found passes, and is the first that does
pub found_some : {A : Type 0} (test : A → Bool) (items : List A) (item : A) → find test items ≡ Some item
    → Found test items item
found_some test [] item found = cc
found_some test (first ∷ others) item found =
    found_step test first others item (λ later. found_some test others item later) (test first) refl found

-- where nothing is found, nothing passes
pub found_none : {A : Type 0} (test : A → Bool) (items : List A) → find test items ≡ None → list_any test items ≡ false
found_none test [] none = refl
found_none test (first ∷ others) none =
    ⊎_elim
    (λ (yes : test first ≡ true). let no : cond true (Some first) (find test others)
    ≡ None = subst (λ b. cond b (Some first) (find test others) ≡ None) yes none in cc)
    (λ (no : test first ≡ false).
    let rest : find test others ≡ None = subst (λ b. cond b (Some first) (find test others) ≡ None) no none in
    rw (no, found_none test others rest) refl)
    (cases_Bool (test first))

-- ---- rules that allow or deny, whatever they match

-- an item is in a list in which it stands in the middle
in_middle : {A : Type 0} (item : A) (before after : List A) → IsIn item (before ++ item ∷ after)
in_middle item [] after = inl refl
in_middle item (first ∷ before) after = inr (in_middle item before after)

module _ {R : Type 0} (allows fits : R → Bool) (Fits : R → Type 0)
    (decides : (rule : R) → Decides (fits rule) (Fits rule)) where
  -- the rule matches, and allows as is asked
  abbrev pub is_of : Bool → R → Bool
  is_of true rule = fits rule && allows rule
  is_of false rule = fits rule && not (allows rule)

  -- the same as a fact
  abbrev pub IsOf : Bool → R → Type 0
  IsOf allow rule = (allows rule ≡ allow) × Fits rule

  -- what the test of a kind says of a rule
  kind_tells : (allow : Bool) (rule : R) → is_of allow rule ≡ true → IsOf allow rule
  kind_tells true rule e =
      let parts = and_parts (fits rule) (allows rule) e in (parts.1, (decides rule).0 parts.0)
  kind_tells false rule e =
      let parts = and_parts (fits rule) (not (allows rule)) e in
      (not-true (allows rule) parts.1, (decides rule).0 parts.0)

  -- and that it says so where it holds
  kind_holds : (allow : Bool) (rule : R) → IsOf allow rule → is_of allow rule ≡ true
  kind_holds true rule fact = and_from (fits rule) (allows rule) ((decides rule).1 fact.1) fact.0
  kind_holds false rule fact =
      and_from (fits rule) (not (allows rule)) ((decides rule).1 fact.1) (not_from_false (allows rule) fact.0)

  -- where no rule passes the test, none of the kind matches
  none_match : (allow : Bool) (rules : List R) → list_any (is_of allow) rules ≡ false → ¬ Any (IsOf allow) rules
  none_match allow rules none some =
      let found = in_some (IsOf allow) rules some in
      both_ways (list_any (is_of allow) rules) none
      (any_in (is_of allow) rules found.0 found.1 (kind_holds allow found.0 found.2))

  -- the rule is the first of its kind that matches
  pub record IsFirst (allow : Bool) (rules : List R) (rule : R) : Type 0 where
    pub before : List R
    pub after : List R
    pub stands : rules ≡ before ++ rule ∷ after
    pub matches : IsOf allow rule
    pub first : ¬ Any (IsOf allow) before

  -- the rule that is found is the first of its kind that matches
  first_of : (allow : Bool) (rules : List R) (rule : R) → find (is_of allow) rules ≡ Some rule
      → IsFirst allow rules rule
  first_of allow rules rule e =
      let found : Found (is_of allow) rules rule = found_some (is_of allow) rules rule e in
      record {
        before = found.before;
        after = found.after;
        stands = found.stands;
        matches = kind_tells allow rule found.passes;
        first = none_match allow found.before found.first;
      }

  -- where a rule is the first of its kind, some rule of the kind matches
  some_match : (allow : Bool) (rules : List R) (rule : R) → IsFirst allow rules rule → Any (IsOf allow) rules
  some_match allow rules rule is =
      some_in (IsOf allow) rules rule
      (subst (λ all. IsIn rule all) (sym is.stands) (in_middle rule is.before is.after))
      is.matches

  -- the rules allow: one that allows matches, and none that denies
  abbrev pub Allow : List R → Type 0
  Allow rules = Any (IsOf true) rules × (¬ Any (IsOf false) rules)

  -- what the first rule that denies and the first that allows say of the rules
  abbrev pub Decide : List R → Option R → Option R → Type 0
  Decide rules (Some denying) allowing = (¬ Allow rules) × IsFirst false rules denying
  Decide rules None (Some allowing) = Allow rules × IsFirst true rules allowing
  Decide rules None None = (¬ Allow rules) × (¬ Any (IsOf false) rules)

  -- and that they do
  decide_by : (rules : List R) (denying allowing : Option R) → find (is_of false) rules ≡ denying
      → find (is_of true) rules ≡ allowing → Decide rules denying allowing
  decide_by rules (Some rule) allowing denies allows =
      let first : IsFirst false rules rule = first_of false rules rule denies in
      (λ allowed. allowed.1 (some_match false rules rule first), first)
  decide_by rules None (Some rule) denies allows =
      let first : IsFirst true rules rule = first_of true rules rule allows in
      ((some_match true rules rule first, none_match false rules (found_none (is_of false) rules denies)), first)
  decide_by rules None None denies allows = (
    λ allowed. none_match true rules (found_none (is_of true) rules allows) allowed.0,
    none_match false rules (found_none (is_of false) rules denies),
  )

  -- what the rules that are found say
  pub decided : (rules : List R) → Decide rules (find (is_of false) rules) (find (is_of true) rules)
  decided rules = decide_by rules (find (is_of false) rules) (find (is_of true) rules) refl refl
