-- The first rule that holds, of two lists of rules that agree but for fullness.
use Rattle.std.proofs.Common.{◌≡◌, ℕ, ◌≤◌, Bool, true, false, List, [], ◌∷◌, refl, ◌⊎◌, inl, inr, Option, Some, None}
use Rattle.std.specs.Prelude.{nat_le}
use Rattle.std.proofs.lemmas.Bool.{both_ways}
use Rattle.mtp_codes.specs.Faults.{when}
use Rattle.pol_events.specs.declared.answer.Rule.{Rule}
use Rattle.pol_events.specs.declared.answer.Answer.{Answer}
use Rattle.pol_history.specs.Answers.{first_rule}
use Rattle.pol_history.proofs.Accepted.{NoneHolds}
use Rattle.pol_removal.proofs.Falling.{fewer_reach}
use Rattle.pol_compaction.specs.Alike.{is_of_fullness, is_refused_as_full}

-- whether there is a rule, and it is of fullness
abbrev pub is_of_fullness_if : Option Rule → Bool
is_of_fullness_if (Some rule) = is_of_fullness rule
is_of_fullness_if None = false

-- a rule holds after the shorter history as after the whole one, unless there it is of fullness
abbrev pub Agrees : Option Rule → Option Rule → Type 0
Agrees whole less = (is_of_fullness_if whole ≡ true) ⊎ (less ≡ whole)

-- each rule agrees where none before it holds, and so does the answer where none holds
abbrev pub AllAgree : List (Option Rule) → List (Option Rule) → Answer → Answer → Type 0
AllAgree [] [] whole less = less ≡ whole
AllAgree (rule ∷ rules) [] whole less = ⊥
AllAgree [] (rule ∷ rules) whole less = ⊥
AllAgree (one ∷ ones) (other ∷ others) whole less = Agrees one other × (one ≡ None → AllAgree ones others whole less)

-- the first of such rules is the same, unless it is of fullness after the whole history
pub first_agrees : (ones others : List (Option Rule)) (whole less : Answer) → AllAgree ones others whole less →
    is_refused_as_full (first_rule ones whole) ≡ false → first_rule others less ≡ first_rule ones whole
first_agrees [] [] whole less agree own = agree
first_agrees [] (y ∷ ys) whole less agree own = absurd agree
first_agrees (x ∷ xs) [] whole less agree own = absurd agree
first_agrees (Some rule ∷ xs) (y ∷ ys) whole less (inl full, later) own =
    absurd (both_ways (is_of_fullness rule) own full)
first_agrees (Some rule ∷ xs) (y ∷ ys) whole less (inr equal, later) own = rw equal
first_agrees (None ∷ xs) (y ∷ ys) whole less (inl full, later) own = cc
first_agrees (None ∷ xs) (y ∷ ys) whole less (inr equal, later) own =
    rw equal (first_agrees xs ys whole less (later refl) own)

-- rules that are the same agree
pub all_agree : (rules : List (Option Rule)) (whole less : Answer) → less ≡ whole → AllAgree rules rules whole less
all_agree [] whole less same = same
all_agree (rule ∷ rules) whole less same = (inr refl, λ none. all_agree rules whole less same)

-- a limit of fullness that the shorter history reaches only where the whole one does
pub limit_agrees : (rule : Rule) → is_of_fullness rule ≡ true → (limit less whole : ℕ) → less ≤ whole
    → Agrees (when (nat_le limit whole) rule) (when (nat_le limit less) rule)
limit_agrees rule full limit less whole fewer =
    go (nat_le limit whole) (nat_le limit less) (fewer_reach limit less whole fewer)
  where
    go : (all some : Bool) → (some ≡ true → all ≡ true) → Agrees (when all rule) (when some rule)
    go true some reach = inl full
    go false false reach = inr refl
    go false true reach = let clash : false ≡ true = reach refl in cc

-- where rules agree and none holds after the whole history, none holds after the shorter one, with the same answer
pub none_agrees : (ones others : List (Option Rule)) (whole less : Answer) → AllAgree ones others whole less →
    NoneHolds ones → NoneHolds others × (less ≡ whole)
none_agrees [] [] whole less agree none = (tt, agree)
none_agrees [] (y ∷ ys) whole less agree none = absurd agree
none_agrees (x ∷ xs) [] whole less agree none = absurd agree
none_agrees (Some rule ∷ xs) (y ∷ ys) whole less agree none = let clash = none.0 in cc
none_agrees (None ∷ xs) (y ∷ ys) whole less (inl full, later) none = cc
none_agrees (None ∷ xs) (y ∷ ys) whole less (inr equal, later) none =
    let rest = none_agrees xs ys whole less (later refl) none.1 in ((equal, rest.0), rest.1)

-- a limit that isn't reached is not reached by the shorter history either
pub limit_none : (rule : Rule) (limit less whole : ℕ) → less ≤ whole → when (nat_le limit whole) rule ≡ None →
    when (nat_le limit less) rule ≡ None
limit_none rule limit less whole fewer =
    go (nat_le limit whole) (nat_le limit less) (fewer_reach limit less whole fewer)
  where
    go : (all some : Bool) → (some ≡ true → all ≡ true) → when all rule ≡ None → when some rule ≡ None
    go true some reach none = cc
    go false false reach none = refl
    go false true reach none = let clash : false ≡ true = reach refl in cc
