-- A rule for another's sake may fall where modules are taken out: what a smaller list of such rules answers.
use Rattle.std.proofs.Common.{◌≡◌, ℕ, ◌≤◌, Bool, true, false, cond, not, List, [], ◌∷◌, refl, sym, arith, Option, Some}
use Rattle.std.proofs.Common.{None, option_map, option_and_then, ◌⊎◌, inl, inr, map}
use Rattle.std.specs.Prelude.{nat_le, filter}
use Rattle.std.specs.Option.{option_or}
use Rattle.std.proofs.lemmas.Bool.{leb-true, le-leb, both_ways}
use Rattle.mtp_codes.specs.Faults.{when, first_of}
use Rattle.mtp_codes.specs.Names.{is_among}
use Rattle.pol_events.specs.declared.answer.Rule.{Rule}
use Rattle.pol_events.specs.declared.answer.Answer.{Answer}
use Rattle.pol_history.specs.Looking.{History}
use Rattle.pol_history.specs.Batches.{holder_of}
use Rattle.pol_history.specs.Answers.{first_rule}
use Rattle.pol_removal.specs.Removal.{is_for_another, is_refused_for_another}
use Rattle.pol_removal.proofs.Alike.{HolderAlike}

-- whether there is a rule, and it is for another's sake
abbrev is_for_another_if : Option Rule → Bool
is_for_another_if (Some rule) = is_for_another rule
is_for_another_if None = false

-- a rule holds after the smaller history as after the whole one, unless there it is for another's sake
abbrev pub Falls : Option Rule → Option Rule → Type 0
Falls whole less = (is_for_another_if whole ≡ true) ⊎ (less ≡ whole)

-- each of the rules does
abbrev pub AllFall : List (Option Rule) → List (Option Rule) → Type 0
AllFall [] [] = Unit {0}
AllFall (whole ∷ wholes) [] = ⊥
AllFall [] (less ∷ lesses) = ⊥
AllFall (whole ∷ wholes) (less ∷ lesses) = Falls whole less × AllFall wholes lesses

-- of rules that fall the first is the same, unless after the whole history it is for another's sake
pub first_falls : (wholes lesses : List (Option Rule)) (whole less : Answer) → AllFall wholes lesses → less ≡ whole →
    is_refused_for_another (first_rule wholes whole) ≡ false → first_rule lesses less ≡ first_rule wholes whole
first_falls [] [] whole less fall same own = same
first_falls [] (y ∷ ys) whole less fall same own = absurd fall
first_falls (x ∷ xs) [] whole less fall same own = absurd fall
first_falls (Some rule ∷ xs) (y ∷ ys) whole less (inl another, fall) same own =
    absurd (both_ways (is_for_another rule) own another)
first_falls (Some rule ∷ xs) (y ∷ ys) whole less (inr equal, fall) same own = rw equal
first_falls (None ∷ xs) (y ∷ ys) whole less (inl another, fall) same own = cc
first_falls (None ∷ xs) (y ∷ ys) whole less (inr equal, fall) same own =
    rw equal (first_falls xs ys whole less fall same own)

-- rules that are the same fall
pub all_same : (rules : List (Option Rule)) → AllFall rules rules
all_same [] = tt
all_same (rule ∷ rules) = (inr refl, all_same rules)

-- ---- a rule with a test, and the first of some rules

-- a rule with a test that holds after the smaller history only where it does after the whole one
pub when_falls : (rule : Rule) → is_for_another rule ≡ true → (whole less : Bool) → (less ≡ true → whole ≡ true)
    → Falls (when whole rule) (when less rule)
when_falls rule another true less falls = inl another
when_falls rule another false false falls = inr refl
when_falls rule another false true falls = let clash : false ≡ true = falls refl in cc

-- what reaches a limit with fewer reaches it with more
pub fewer_reach : (limit less whole : ℕ) → less ≤ whole → nat_le limit less ≡ true → nat_le limit whole ≡ true
fewer_reach limit less whole fewer reached = le-leb limit whole (let bound = leb-true limit less reached in omega arith)

-- of two rules, one or else the other
pub or_falls : (whole less wholes lesses : Option Rule) → Falls whole less → Falls wholes lesses
    → Falls (option_or whole wholes) (option_or less lesses)
or_falls (Some rule) less wholes lesses (inl another) later = inl another
or_falls (Some rule) less wholes lesses (inr equal) later = inr (rw equal)
or_falls None less wholes lesses (inl another) later = cc
or_falls None less wholes lesses (inr equal) later = rw equal later

-- the first of a rule for each name, where each falls
pub first_of_falls : (whole less : List ℕ → Option Rule) → ((name : List ℕ) → Falls (whole name) (less name))
    → (names : List (List ℕ)) →
    Falls (first_of (map whole names)) (first_of (map less names))
first_of_falls whole less falls [] = inr refl
first_of_falls whole less falls (name ∷ names) =
    or_falls (whole name) (less name) (first_of (map whole names)) (first_of (map less names)) (falls name)
    (first_of_falls whole less falls names)

-- ---- a rule of the holder

-- if the rule holds, it is for another's sake
abbrev pub IsForAnother : Option Rule → Type 0
IsForAnother rule = (is_for_another_if rule ≡ true) ⊎ (rule ≡ None)

-- a rule made of what was found
pub map_another : {A : Type 0} (rule : A → Rule) → ((x : A) → is_for_another (rule x) ≡ true) → (option : Option A)
    → IsForAnother (option_map rule option)
map_another rule another None = inr refl
map_another rule another (Some x) = inl (another x)

-- a rule that is looked for in what was found
pub then_another : {A : Type 0} (rule : A → Option Rule) → ((x : A) → IsForAnother (rule x)) → (option : Option A)
    → IsForAnother (option_and_then rule option)
then_another rule another None = inr refl
then_another rule another (Some x) = another x

-- a rule for another's sake may fall to none
none_falls : (rule : Option Rule) → IsForAnother rule → Falls rule None
none_falls rule (inl another) = inl another
none_falls rule (inr none) = inr (sym none)

-- a rule of the holder falls where it is for another's sake and agrees on the batches that stay
pub holder_falls : (bound : List (List ℕ)) (whole less : History) (tag : List ℕ)
    (whole_rule less_rule : List ℕ → Option Rule) →
    ((batch : List ℕ) → IsForAnother (whole_rule batch)) → ((batch : List ℕ) → is_among bound batch ≡ false
    → less_rule batch ≡ whole_rule batch) →
    HolderAlike bound whole less tag → Falls (option_and_then whole_rule (holder_of whole tag))
    (option_and_then less_rule (holder_of less tag))
holder_falls bound whole less tag whole_rule less_rule another agree (inl none) = rw none (go (holder_of whole tag))
  where
    go : (holder : Option (List ℕ)) → Falls (option_and_then whole_rule holder) None
    go None = inr refl
    go (Some batch) = none_falls (whole_rule batch) (another batch)
holder_falls bound whole less tag whole_rule less_rule another agree (inr (batch, outside, after, before)) =
    rw (after, before) (inr (agree batch outside))

-- ---- a rule of the watchers

-- a rule for another's sake before others that may fall
or_another : (rule whole less : Option Rule) → IsForAnother rule → Falls whole less → Falls (option_or rule whole) less
or_another (Some rule) whole less (inl another) falls = inl another
or_another (Some rule) whole less (inr none) falls = cc
or_another None whole less another falls = falls

-- a rule of each watcher in turn, where some watchers are taken out
pub watchers_fall : (bound : List (List ℕ)) (whole_rule less_rule : List ℕ → Option Rule) →
    ((batch : List ℕ) → IsForAnother (whole_rule batch)) →
    ((batch : List ℕ) → is_among bound batch ≡ false → less_rule batch ≡ whole_rule batch) →
    (watchers : List (List ℕ)) → Falls (first_of (map whole_rule watchers))
    (first_of (map less_rule (filter (λ batch. not (is_among bound batch)) watchers)))
watchers_fall bound whole_rule less_rule another agree [] = inr refl
watchers_fall bound whole_rule less_rule another agree (batch ∷ watchers) =
    go (is_among bound batch) refl (watchers_fall bound whole_rule less_rule another agree watchers)
  where
    kept : List (List ℕ)
    kept = filter (λ batch. not (is_among bound batch)) watchers

    go : (out : Bool) → is_among bound batch ≡ out →
        Falls (first_of (map whole_rule watchers)) (first_of (map less_rule kept)) →
        Falls (option_or (whole_rule batch) (first_of (map whole_rule watchers)))
        (first_of (map less_rule (cond (not out) (batch ∷ kept) kept)))
    go true is rest = or_another (whole_rule batch) _ _ (another batch) rest
    go false is rest =
        or_falls (whole_rule batch) (less_rule batch) (first_of (map whole_rule watchers))
        (first_of (map less_rule kept)) (inr (agree batch is)) rest
