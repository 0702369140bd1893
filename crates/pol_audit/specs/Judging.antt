-- Judging a history: each of its answers against the one that the entries before it give.
use Rattle.std.specs.Prelude.{◌≡◌, ◌≢◌, ℕ, List, [], ◌∷◌, ◌++◌, length, reverse, if◌then◌else◌}
use Rattle.pol_events.specs.Events.{PlainEntry}
use Rattle.pol_events.specs.declared.answer.Answer.{Answer}
use Rattle.pol_history.specs.Answers.{answer_of}
use Rattle.pol_history.specs.Looking.{History}
use Rattle.pol_history.specs.Runs.{IsLegal}
use Rattle.pol_entries.specs.Same.{same_answer}
use Rattle.pol_audit.specs.declared.judging.Judged.{Judged}
use Rattle.pol_audit.specs.declared.judging.Judged.TheVariants.{Good, Wrong}

-- the first of these entries, the oldest first, whose answer isn't the one that the entries before it give: its place,
-- counted from the oldest entry of the history before them, and the answer that they give
abbrev pub wrong_after : History → List PlainEntry → Judged
wrong_after history [] = Good
wrong_after history (entry ∷ later) =
    if same_answer entry.answer (answer_of history entry.event) then wrong_after (entry ∷ history) later
    else Wrong (length history) (answer_of history entry.event)

-- the first wrong answer among the entries of a history, the oldest first
abbrev pub judged : List PlainEntry → Judged
judged entries = wrong_after [] entries

-- the answer at this place is wrong, another one is right there, and each answer before is right
pub record IsFirstWrong (entries : List PlainEntry) (place : ℕ) (says : Answer) : Type 0 where
  pub before : List PlainEntry
  pub entry : PlainEntry
  pub later : List PlainEntry
  pub cut : entries ≡ before ++ entry ∷ later
  pub place_is : length before ≡ place
  pub legal : IsLegal (reverse before)
  pub right : says ≡ answer_of (reverse before) entry.event
  pub wrong : entry.answer ≢ says

-- each answer is right, or this is the first wrong one
abbrev pub Judges : List PlainEntry → Judged → Type 0
Judges entries Good = IsLegal (reverse entries)
Judges entries (Wrong place says) = IsFirstWrong entries place says
