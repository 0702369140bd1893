-- A line that was read and met.
use Rattle.std.proofs.Common.{◌≡◌, ◌≤◌, ◌<◌, ◌++◌, ℕ, List, [], Bor, Some, None, refl, sym, ◌∙◌, ap, subst, length, Bool, true, false, if◌then◌else◌}
use Rattle.std.specs.Prelude.{nat_lt, Result, Ok, Err, OnOk, IfErr}
use Rattle.std.specs.Result.{is_ok}
use Rattle.std.proofs.lemmas.Bool.{le-leb, lt-leb, ltb-false, ltb-true}
use Rattle.pol_io.specs.LinesState.{Answers, Reads, ahead}
use Rattle.pol_io.specs.declared.limits.TheConstants.{LONGEST_LINE}
use Rattle.pol_io.specs.declared.lines.Line.TheVariants as line
use Rattle.pol_io.proofs.Known.{between_weaker}
use Rattle.pol_jobs.specs.Faults.{RefusedFor}
use Rattle.pol_jobs.specs.LineWork.{LineWork, Accepts, Line, met}
use Rattle.pol_jobs.specs.Moments.{IsNext, Met, Moment, Replies}
use Rattle.pol_jobs.specs.Settling.{Deeds, Meets}
use Rattle.pol_jobs.specs.declared.stop.Stop.{Stop}

-- a short line is met as its bytes
met_short : (text : List ℕ) → length text ≤ LONGEST_LINE → met text ≡ Some text
unfolding met
met_short text short = rw (le-leb (length text) LONGEST_LINE short) refl

-- a longer one is met as one that is too long
met_long : (text : List ℕ) → LONGEST_LINE < length text → met text ≡ None
unfolding met
met_long text long = rw (lt-leb (length text) LONGEST_LINE long) refl

-- a line is met by whether it is longer
pub met_by_length : (line : List ℕ) → met line ≡ (if nat_lt LONGEST_LINE (length line) then None else Some line)
met_by_length line = by_test (nat_lt LONGEST_LINE (length line)) refl
  where
    by_test : (long : Bool) → nat_lt LONGEST_LINE (length line) ≡ long →
        met line ≡ (if long then None else Some line)
    by_test true is = met_long line (ltb-true LONGEST_LINE (length line) is)
    by_test false is = met_short line (ltb-false LONGEST_LINE (length line) is)

-- what is put behind nothing is all that the buffer holds
behind_nothing : {E : Type 0} (result : Result (Unit {0}) E) (out old reply : List ℕ) → old ≡ [] →
    OnOk result (out ≡ old ++ reply) → OnOk result (out ≡ reply)
behind_nothing (Ok done) out old reply empty is = is ∙ ap (λ old. old ++ reply) empty
behind_nothing (Err stop) out old reply empty is = tt

module _ {State Reason Failure Job : Type 0} (work : LineWork State Reason) (Did : Deeds Job) (job job' : Job)
    (before now : Moment State) (made : Result (Unit {0}) (Stop Reason Failure)) (old out : List ℕ)
    (empty : old ≡ []) where
  -- a line was met
  met_so : (one : Line) → OnOk made (out ≡ old ++ work.reply before.state one) →
      OnOk made (now.state ≡ work.after before.state one) → OnOk made (Accepts work before.state one) →
      IfErr made (RefusedFor (work.Refuses before.state one)) → Met work before.state now.state made out one
  met_so one said after accepted refused = record {
    said = behind_nothing made out old (work.reply before.state one) empty said;
    after = after;
    accepted = accepted;
    refused = refused;
  }

  -- a line that was met so
  met_as : (text : List ℕ) (one : Line) → met text ≡ one →
      OnOk made (out ≡ old ++ work.reply before.state one) → OnOk made (now.state ≡ work.after before.state one) →
      OnOk made (Accepts work before.state one) → IfErr made (RefusedFor (work.Refuses before.state one)) →
      Met work before.state now.state made out (met text)
  met_as text one same said after accepted refused =
      subst (Met work before.state now.state made out) (sym same) (met_so one said after accepted refused)

  -- a line that isn't too long
  pub text_next : (text : Bor (List ℕ)) →
      Reads before.left now.left before.lines now.lines (line.Text text) →
      OnOk made (out ≡ old ++ work.reply before.state (Some text.now)) →
      OnOk made (now.state ≡ work.after before.state (Some text.now)) →
      OnOk made (Accepts work before.state (Some text.now)) →
      IfErr made (RefusedFor (work.Refuses before.state (Some text.now))) →
      Meets Did job job' (Some text.now) (is_ok made) → IsNext work Did job job' before now (Some made) out
  text_next text reads said after accepted refused did = record {
    next = Some text.now;
    replies = between_weaker (Answers (line.Text text) now.lines.ended)
        (Replies work before.state now.state now.lines.ended (Some made) out (Some text.now))
        (ahead before.lines before.left) (ahead now.lines now.left)
        (λ bytes rest first. (
          text.now,
          first,
          met_as text.now (Some text.now) (met_short text.now reads.in_limit) said after accepted refused,
          sym (met_short text.now reads.in_limit),
        )) reads.answers;
    met = met_so (Some text.now) said after accepted refused;
    did = did;
    gives = reads.gives;
    moves = record {
      counted = reads.counted;
      limit = reads.limit;
      spent = reads.spent;
      at_end = reads.at_end;
      sound = reads.sound;
    };
    ended = tt;
  }

  -- a longer one
  pub long_next : Reads before.left now.left before.lines now.lines line.TooLong →
      OnOk made (out ≡ old ++ work.reply before.state None) →
      OnOk made (now.state ≡ work.after before.state None) → OnOk made (Accepts work before.state None) →
      IfErr made (RefusedFor (work.Refuses before.state None)) → Meets Did job job' None (is_ok made) →
      IsNext work Did job job' before now (Some made) out
  long_next reads said after accepted refused did = record {
    next = None;
    replies = between_weaker (Answers line.TooLong now.lines.ended)
        (Replies work before.state now.state now.lines.ended (Some made) out None)
        (ahead before.lines before.left) (ahead now.lines now.left)
        (λ bytes rest told. (
          told.0,
          told.1,
          met_as told.0 None (met_long told.0 told.2) said after accepted refused,
          sym (met_long told.0 told.2),
        )) reads.answers;
    met = met_so None said after accepted refused;
    did = did;
    gives = reads.gives;
    moves = record {
      counted = reads.counted;
      limit = reads.limit;
      spent = reads.spent;
      at_end = reads.at_end;
      sound = reads.sound;
    };
    ended = tt;
  }
