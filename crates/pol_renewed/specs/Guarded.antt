-- What is replied under a policy where a plant goes on from a compacted history.
use Rattle.std.specs.Prelude.{ℕ, ◌≡◌, Bool, false, not, List, [], ◌∷◌, map, filter, Option, Some, None}
use Rattle.std.specs.Option.{option_map_or}
use Rattle.mtp_codes.specs.declared.command.Command.{Command}
use Rattle.pol_events.specs.Events.{PlainEntry, PlainEvent, desk}
use Rattle.pol_history.specs.Answers.{is_full}
use Rattle.pol_history.specs.Looking.{History}
use Rattle.pol_history.specs.Runs.{AreOrderly, entry_of, history_after}
use Rattle.pol_jobs.specs.LineWork.{Line}
use Rattle.pol_policy.specs.Policies.{PlainPolicy}
use Rattle.pol_compaction.specs.Alike.{is_passed}
use Rattle.pol_compaction.specs.Lasting.{closed_batches}
use Rattle.pol_guard.specs.Lines.{GuardedLine, admitted, by_verdict, denied, faulty, guarded_line, verdict_on}
use Rattle.pol_guard.specs.Work.{history_with, text_after}
use Rattle.pol_renewed.specs.Renewed.{renewed_after, whole_after}

-- ---- replies

-- a line under a policy, with what is replied to it, and the entry of its event where that isn't denied
pub record GuardedReply : Type 0 where
  pub line : Line
  pub text : List ℕ
  pub entry : Option PlainEntry

-- the entry of the event of a line after a history
abbrev pub entry_after : History → GuardedLine → Option PlainEntry
entry_after history (faulty fault) = None
entry_after history (denied rule) = None
entry_after history (admitted event) = Some (entry_of history event)

-- what is replied to a line
abbrev pub reply_to : PlainPolicy → History → Line → GuardedReply
reply_to policy history line = record {
  line = line;
  text = text_after history (guarded_line policy line);
  entry = entry_after history (guarded_line policy line);
}

-- what is replied to lines that come one after another
abbrev pub replies_to : PlainPolicy → History → List Line → List GuardedReply
replies_to policy history [] = []
replies_to policy history (line ∷ lines) =
    reply_to policy history line ∷ replies_to policy (history_with history (guarded_line policy line)) lines

-- the reply answers an event that names one of these batches, or refuses it as full
abbrev pub is_reply_passed : List (List ℕ) → GuardedReply → Bool
is_reply_passed gone reply = option_map_or (is_passed gone) reply.entry false

-- the replies to lines after a history, without those that are passed over
abbrev pub other_replies : List (List ℕ) → PlainPolicy → History → List Line → List GuardedReply
other_replies gone policy history lines =
    filter (λ reply. not (is_reply_passed gone reply)) (replies_to policy history lines)

-- the lines of replies
abbrev pub lines_of : List GuardedReply → List Line
lines_of replies = map (λ reply. reply.line) replies

-- ---- a plant that goes on

-- Whatever the policy, whatever came later, and whatever lines come then: those that name no batch that was closed, and
-- that the old plant didn't refuse as full, are replied to as by the old plant, faults and denials included.
abbrev pub CompactionRepliesAlike : Type 0
CompactionRepliesAlike =
    (policy : PlainPolicy) (events later : List PlainEvent) (lines : List Line) → AreOrderly events →
    replies_to policy (renewed_after events later)
    (lines_of (other_replies (closed_batches (history_after [] events)) policy (whole_after events later) lines))
    ≡ other_replies (closed_batches (history_after [] events)) policy (whole_after events later) lines

-- An operator's command, by whomever it is given, has the same verdict and the same answer, unless the old plant was
-- full.
abbrev pub CompactionCommandsAlike : Type 0
CompactionCommandsAlike =
    (policy : PlainPolicy) (events later : List PlainEvent) (at : ℕ) (tag service : List ℕ) (command : Command)
    (person : Option (List ℕ)) → AreOrderly events → is_full (whole_after events later) ≡ false →
    text_after (renewed_after events later)
    (by_verdict (desk at tag service command) (verdict_on policy (desk at tag service command) person))
    ≡ text_after (whole_after events later)
    (by_verdict (desk at tag service command) (verdict_on policy (desk at tag service command) person))
