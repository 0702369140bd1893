-- What a job did besides replying, and with which lines of its input.
use Rattle.std.specs.Prelude.{ℕ, ◌≡◌, ◌⊎◌, List, [], ◌++◌, map, Bool, true, Option, IfSome}
use Rattle.std.specs.Io.KnownBytes.{Appends}
use Rattle.pol_io.specs.Pieces.{pieces}
use Rattle.pol_jobs.specs.LineWork.{Line, LineWork, after_each, line_met, replies, replies_to}
use Rattle.pol_jobs.specs.Written.{WritesSome}

-- the job replied to all lines of the input and settled them, and `Did` says what else it did; which lines they are is
-- known where the source's bytes were known at first
pub record DidAll (Did : List Line → List Line → Bool → Type 0) (input : Option (List ℕ)) : Type 0 where
  pub settled : List Line
  pub did : Did settled [] true
  pub all : IfSome input (λ bytes. settled ≡ map line_met (pieces bytes))

-- The settled lines, and behind them those that wait, are the first lines of some bytes. What was written is a front
-- part of the replies to the settled ones, unless all lines are settled.
pub record MetFirst {State Reason : Type 0} (work : LineWork State Reason) (start : State) (settled waiting : List Line)
    (held held' : Option (List ℕ)) (bytes : List ℕ) : Type 0 where
  pub first : List (List ℕ)
  pub later : List (List ℕ)
  pub others : List (List ℕ)
  pub are : pieces bytes ≡ first ++ (later ++ others)
  pub settled_are : settled ≡ map line_met first
  pub waiting_are : waiting ≡ map line_met later
  pub written : ((later ≡ []) × (others ≡ [])) ⊎ WritesSome held held' (replies work start first)

-- The job refused its input for this reason, behind these lines: with the next one, or at the end. Exactly the replies
-- to these lines were written, whether or not the source's bytes are known.
pub record RefusesBehind {State Reason : Type 0} (work : LineWork State Reason) (start : State)
    (held held' : Option (List ℕ)) (reason : Reason) : Type 0 where
  pub lines : List Line
  pub refuses : ((line : Line) × work.Refuses (after_each work start lines) line reason)
      ⊎ work.RefusesEnd (after_each work start lines) reason
  pub written : Appends held held' (replies_to work start lines)

-- the job met some lines, and `Did` says what else it did; which lines they are is known where the source's bytes were
-- known at first
pub record DidSome {State Reason : Type 0} (work : LineWork State Reason) (start : State)
    (Did : List Line → List Line → Bool → Type 0) (held held' input : Option (List ℕ)) : Type 0 where
  pub settled : List Line
  pub waiting : List Line
  pub whole : Bool
  pub did : Did settled waiting whole
  pub first : IfSome input (MetFirst work start settled waiting held held')
