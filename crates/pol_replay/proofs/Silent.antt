-- A job that replies nothing before its input has said what it waits for, and refuses its input for want of that alone,
-- has written nothing where it refuses it.
use Rattle.std.proofs.Common.{◌≡◌, ◌⊎◌, ◌∙◌, List, [], ◌∷◌, ◌++◌, ℕ, Option, Some, None, ap, append-nil, refl}
use Rattle.std.specs.Io.KnownBytes.{Appends, Keeps}
use Rattle.pol_jobs.specs.Deeds.{RefusesBehind}
use Rattle.pol_jobs.specs.LineWork.{Line, LineWork, after_each, replies_to}

-- where nothing was appended, all is as it was
pub appends_nothing : (held held' : Option (List ℕ)) (text : List ℕ) → text ≡ [] → Appends held held' text →
    Keeps held held'
appends_nothing None held' text none appended = tt
appends_nothing (Some bytes) None text none appended = absurd appended
appends_nothing (Some bytes) (Some bytes') text none appended =
    appended ∙ ap (λ text. bytes ++ text) none ∙ append-nil bytes

-- A job waits so: where it still does behind a line, it did before it and replied nothing to it, and it refuses its
-- input only while it does.
pub record Waits {State Reason : Type 0} (work : LineWork State Reason) (IsWaiting : State → Type 0) : Type 0 where
  pub silent : (known : State) (line : Line) → IsWaiting (work.after known line) →
      IsWaiting known × (work.reply known line ≡ [])
  pub refusing : (known : State) (reason : Reason) →
      ((line : Line) × work.Refuses known line reason) ⊎ work.RefusesEnd known reason → IsWaiting known

module _ {State Reason : Type 0} (work : LineWork State Reason) (IsWaiting : State → Type 0)
    (waits : Waits work IsWaiting) where
  -- where it waits behind some lines, nothing was replied to them
  silent_before : (known : State) (lines : List Line) → IsWaiting (after_each work known lines) →
      IsWaiting known × (replies_to work known lines ≡ [])
  silent_before known [] waiting = (waiting, refl)
  silent_before known (line ∷ lines) waiting =
      let later = silent_before (work.after known line) lines waiting in
      let now = waits.silent known line later.0 in
      (now.0, ap (λ (text : List ℕ). text ++ replies_to work (work.after known line) lines) now.1 ∙ later.1)

  -- so where it refuses its input, nothing was written
  pub unwritten : (first : State) (reason : Reason) (held held' : Option (List ℕ)) →
      RefusesBehind work first held held' reason → Keeps held held'
  unwritten first reason held held' behind =
      let waiting = waits.refusing (after_each work first behind.lines) reason behind.refuses in
      appends_nothing held held' (replies_to work first behind.lines)
      (silent_before first behind.lines waiting).1 behind.written
