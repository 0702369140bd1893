-- Under a policy two plants that are alike reply alike.
use Rattle.std.proofs.Common.{◌≡◌, ℕ, Bool, true, false, List, [], ◌∷◌, cond, not, Option, Some, None, refl, ap, ◌∙◌}
use Rattle.pol_events.specs.Events.{PlainEvent, desk}
use Rattle.pol_history.specs.Answers.{answer_of}
use Rattle.pol_history.specs.Looking.{History}
use Rattle.pol_history.specs.Runs.{entry_of, history_after, recorded}
use Rattle.pol_history.proofs.Accepted.{paired}
use Rattle.pol_jobs.specs.LineWork.{Line}
use Rattle.pol_policy.specs.Policies.{PlainPolicy}
use Rattle.pol_policy.specs.declared.verdict.Verdict.{Verdict}
use Rattle.pol_policy.specs.declared.verdict.Verdict.TheVariants.{Allowed, Denied}
use Rattle.pol_record.specs.Texts.{answer_text}
use Rattle.pol_compaction.specs.Alike.{AnswersAlike, is_passed}
use Rattle.pol_compaction.specs.Lasting.{closed_batches}
use Rattle.pol_compaction.proofs.Answering.{alike_answered}
use Rattle.pol_compaction.proofs.Later.{alike_kept, alike_passed, kept_parts}
use Rattle.pol_guard.specs.Lines.{GuardedLine, admitted, by_verdict, denied, faulty, guarded_line, verdict_on}
use Rattle.pol_guard.specs.Work.{history_with, text_after}
use Rattle.pol_renewed.proofs.Commanded.{command_same}
use Rattle.pol_renewed.proofs.Renewing.{alike_renewed}
use Rattle.pol_renewed.specs.Guarded.{CompactionCommandsAlike, CompactionRepliesAlike, GuardedReply, entry_after}
use Rattle.pol_renewed.specs.Guarded.{is_reply_passed, lines_of, other_replies, replies_to}
use Rattle.pol_renewed.specs.Renewed.{renewed_after, whole_after}

module _ (gone : List (List ℕ)) (policy : PlainPolicy) where
  -- the lines that come are replied to alike
  replies_same : (whole less : History) → AnswersAlike gone whole less → (lines : List Line) →
      replies_to policy less (lines_of (other_replies gone policy whole lines))
      ≡ other_replies gone policy whole lines
  replies_same whole less alike [] = refl
  replies_same whole less alike (line ∷ lines) =
      go (guarded_line policy line) refl (λ after less alike. replies_same after less alike lines)
    where
      -- what is replied to the first line, by what comes of it
      reply : History → GuardedLine → GuardedReply
      reply history said =
          record { line = line; text = text_after history said; entry = entry_after history said }

      -- what is replied to the lines behind it
      rest : GuardedLine → List GuardedReply
      rest said = other_replies gone policy (history_with whole said) lines

      -- all that isn't passed
      others : GuardedLine → List GuardedReply
      others said = cond (not (is_reply_passed gone (reply whole said))) (reply whole said ∷ rest said) (rest said)

      -- a line that isn't passed has the same reply, and those behind it then have theirs
      next : (said : GuardedLine) → guarded_line policy line ≡ said →
          reply less said ≡ reply whole said →
          replies_to policy (history_with less said) (lines_of (rest said)) ≡ rest said →
          replies_to policy less (line ∷ lines_of (rest said)) ≡ reply whole said ∷ rest said
      next said is same later =
          ap (λ found. reply less found ∷ replies_to policy (history_with less found) (lines_of (rest said))) is
          ∙ ap (λ first. first ∷ replies_to policy (history_with less said) (lines_of (rest said))) same
          ∙ ap (λ replies. reply whole said ∷ replies) later

      -- an event is passed, or answered alike
      asked : (event : PlainEvent) (passed : Bool) → is_passed gone (entry_of whole event) ≡ passed →
          guarded_line policy line ≡ admitted event →
          ((after less : History) → AnswersAlike gone after less →
          replies_to policy less (lines_of (other_replies gone policy after lines))
          ≡ other_replies gone policy after lines) →
          replies_to policy less
          (lines_of (cond (not passed) (reply whole (admitted event) ∷ rest (admitted event)) (rest (admitted event))))
          ≡ cond (not passed) (reply whole (admitted event) ∷ rest (admitted event)) (rest (admitted event))
      asked event true passed is later =
          later (recorded (entry_of whole event) whole) less (alike_passed gone whole less alike event passed)
      asked event false kept is later =
          let parts = kept_parts gone (entry_of whole event) kept in
          let same = alike_answered gone whole less alike event parts.0 parts.1 in
          next (admitted event) is
          (ap (λ answer. record { line = line; text = answer_text answer; entry = Some (paired event answer) }) same)
          (ap (λ answer. replies_to policy (recorded (paired event answer) less) (lines_of (rest (admitted event))))
          same
          ∙ later (recorded (entry_of whole event) whole) (recorded (entry_of whole event) less)
          (alike_kept gone whole less alike event kept))

      go : (said : GuardedLine) → guarded_line policy line ≡ said →
          ((after less : History) → AnswersAlike gone after less →
          replies_to policy less (lines_of (other_replies gone policy after lines))
          ≡ other_replies gone policy after lines) →
          replies_to policy less (lines_of (others said)) ≡ others said
      go (faulty fault) is later = next (faulty fault) is refl (later whole less alike)
      go (denied rule) is later = next (denied rule) is refl (later whole less alike)
      go (admitted event) is later = asked event (is_passed gone (entry_of whole event)) refl is later

-- after whatever came later
pub replies_alike : CompactionRepliesAlike
replies_alike policy events later lines orderly =
    replies_same (closed_batches (history_after [] events)) policy (whole_after events later)
    (renewed_after events later) (alike_renewed events later orderly) lines

-- an operator's command too
pub commands_alike : CompactionCommandsAlike
commands_alike policy events later at tag service command person orderly room =
    go (verdict_on policy (desk at tag service command) person)
  where
    asked : answer_text (answer_of (renewed_after events later) (desk at tag service command))
        ≡ answer_text (answer_of (whole_after events later) (desk at tag service command))
    asked = ap answer_text (command_same (closed_batches (history_after [] events)) (whole_after events later)
        (renewed_after events later) (alike_renewed events later orderly) room at tag service command)

    go : (verdict : Option Verdict) →
        text_after (renewed_after events later) (by_verdict (desk at tag service command) verdict)
        ≡ text_after (whole_after events later) (by_verdict (desk at tag service command) verdict)
    go (Some (Denied rule)) = refl
    go (Some (Allowed rule)) = asked
    go None = asked
