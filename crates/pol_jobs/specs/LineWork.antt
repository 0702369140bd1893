-- What a job that does something with each line makes of its input.
use Rattle.std.specs.Prelude.{ℕ, ◌≡◌, nat_le, List, [], ◌∷◌, ◌++◌, length, Option, Some, None, if◌then◌else◌}
use Rattle.std.specs.declared.convert.Infallible.{Infallible}
use Rattle.pol_io.specs.Pieces.{pieces, line_of}
use Rattle.pol_io.specs.declared.limits.TheConstants.{LONGEST_LINE}

-- a line as a job meets it: its bytes, or none where it has more than a line may have
abbrev pub Line : Type 0
Line = Option (List ℕ)

-- a line as a job meets it, by its bytes
unfoldable pub met : List ℕ → Line
met line = if nat_le (length line) LONGEST_LINE then Some line else None

-- the line of a piece
abbrev pub line_met : List ℕ → Line
line_met piece = met (line_of piece)

-- what a job replies to a line and what it knows after it, by what it knew before; what may close its output; and for
-- what reason it refuses its input, with a line or at the end
pub record LineWork (State Reason : Type 0) : Type 1 where
  pub reply : State → Line → List ℕ
  pub after : State → Line → State
  pub Closing : State → List ℕ → Type 0
  pub Refuses : State → Line → Reason → Type 0
  pub RefusesEnd : State → Reason → Type 0

-- a job's replies to the lines of these pieces, one after another
abbrev pub replies : {State Reason : Type 0} → LineWork State Reason → State → List (List ℕ) → List ℕ
replies work state [] = []
replies work state (piece ∷ pieces) =
    work.reply state (line_met piece) ++ replies work (work.after state (line_met piece)) pieces

-- a job's replies to these lines, one after another
abbrev pub replies_to : {State Reason : Type 0} → LineWork State Reason → State → List Line → List ℕ
replies_to work state [] = []
replies_to work state (line ∷ lines) = work.reply state line ++ replies_to work (work.after state line) lines

-- what a job knows after these lines
abbrev pub after_each : {State Reason : Type 0} → LineWork State Reason → State → List Line → State
after_each work state [] = state
after_each work state (line ∷ lines) = after_each work (work.after state line) lines

-- what a job knows after the lines of these pieces
abbrev pub after_all : {State Reason : Type 0} → LineWork State Reason → State → List (List ℕ) → State
after_all work state [] = state
after_all work state (piece ∷ pieces) = after_all work (work.after state (line_met piece)) pieces

-- after the lines of some bytes, whatever is left behind them, a job that knew this before knows this
abbrev pub KnowsAfter : {State Reason : Type 0} → LineWork State Reason → State → State → List ℕ → List ℕ → Type 0
KnowsAfter work before now bytes left = now ≡ after_all work before (pieces bytes)

-- the job doesn't refuse its input with this line
abbrev pub Accepts : {State Reason : Type 0} → LineWork State Reason → State → Line → Type 0
Accepts work state line = (reason : _) → ¬ work.Refuses state line reason

-- the job doesn't refuse its input at the end
abbrev pub AcceptsEnd : {State Reason : Type 0} → LineWork State Reason → State → Type 0
AcceptsEnd work state = (reason : _) → ¬ work.RefusesEnd state reason

-- the output of a job: what it replies to the lines of some bytes, and what may then close it; and for what reason it
-- refuses a line that comes after them, or the input at its end
pub record Output (Reason : Type 0) : Type 1 where
  pub replies : List ℕ → List ℕ
  pub Closing : List ℕ → List ℕ → Type 0
  pub Refuses : List ℕ → Line → Reason → Type 0
  pub RefusesEnd : List ℕ → Reason → Type 0

-- none of the lines of these pieces, that come after some bytes, is refused
abbrev pub AcceptsBehind : {Reason : Type 0} → Output Reason → List ℕ → List (List ℕ) → Type 0
AcceptsBehind output done [] = Unit {0}
AcceptsBehind output done (piece ∷ pieces) =
    ((reason : _) → ¬ output.Refuses done (line_met piece) reason) × AcceptsBehind output (done ++ piece) pieces

-- none of the lines of these bytes is refused
abbrev pub AcceptsLines : {Reason : Type 0} → Output Reason → List ℕ → Type 0
AcceptsLines output bytes = AcceptsBehind output [] (pieces bytes)

-- neither a line of these bytes nor the input at its end is refused
abbrev pub AcceptsAll : {Reason : Type 0} → Output Reason → List ℕ → Type 0
AcceptsAll output bytes = AcceptsLines output bytes × ((reason : _) → ¬ output.RefusesEnd bytes reason)

-- the output of a job that does this work and knows this at first
abbrev pub output_by : {State Reason : Type 0} → LineWork State Reason → State → Output Reason
output_by work state =
    record {
      replies = λ bytes. replies work state (pieces bytes);
      Closing = λ bytes. work.Closing (after_all work state (pieces bytes));
      Refuses = λ bytes. work.Refuses (after_all work state (pieces bytes));
      RefusesEnd = λ bytes. work.RefusesEnd (after_all work state (pieces bytes));
    }

-- ---- jobs that refuse nothing and close with one text

-- the work of a job that refuses nothing and closes with one text
abbrev pub work_of : {State : Type 0} → (State → Line → List ℕ) → (State → Line → State) → (State → List ℕ)
    → LineWork State Infallible
work_of reply after closing =
    record {
      reply = reply;
      after = after;
      Closing = λ state text. text ≡ closing state;
      Refuses = λ state line reason. ⊥;
      RefusesEnd = λ state reason. ⊥;
    }

-- the output of a job that refuses nothing and closes with one text, by what it replies to the lines of some bytes and
-- the text that then closes it
abbrev pub texts_of : (List ℕ → List ℕ) → (List ℕ → List ℕ) → Output Infallible
texts_of replies closing =
    record {
      replies = replies;
      Closing = λ bytes text. text ≡ closing bytes;
      Refuses = λ bytes line reason. ⊥;
      RefusesEnd = λ bytes reason. ⊥;
    }
