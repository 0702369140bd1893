-- The summary of a history, and the output of a demo.
use Rattle.std.specs.Prelude.{ℕ, Bool, true, false, List, [], ◌∷◌, ◌++◌, length, codes}
use Rattle.std.specs.List.{count_by}
use Rattle.serde_json.specs.Data.{Data, object, member, no_members}
use Rattle.serde_json.specs.Written.{compact_text}
use Rattle.chart_core.specs.declared.next.Outcome.TheVariants.{Completed}
use Rattle.pol_events.specs.declared.answer.Answer.{Answer}
use Rattle.pol_events.specs.declared.answer.Answer.TheVariants.{Closed, Refused}
use Rattle.event_json.specs.Written.{whole}
use Rattle.pol_history.specs.Looking.{History}
use Rattle.pol_history.specs.Runs.{history_after}
use Rattle.pol_demo.specs.Journal.{demo_events}
use Rattle.pol_demo.specs.declared.summary.Summary.{Summary}

-- the answer closes a batch that is completed
abbrev pub is_completed : Answer → Bool
is_completed (Closed Completed) = true
is_completed _ = false

-- the answer refuses an event
abbrev pub is_refused : Answer → Bool
is_refused (Refused rule) = true
is_refused _ = false

-- the summary of a history
abbrev pub summary_of : History → Summary
summary_of history =
    record {
      answers = length history;
      closed = count_by (λ entry. is_completed entry.answer) history;
      refused = count_by (λ entry. is_refused entry.answer) history;
    }

-- the object of a summary
unfoldable pub summary_data : Summary → Data
summary_data summary = object
    (member (codes "answers") (whole summary.answers)
    (member (codes "closed") (whole summary.closed)
    (member (codes "refused") (whole summary.refused) no_members)))

-- the line of a summary
abbrev pub summary_text : Summary → List ℕ
summary_text summary = compact_text (summary_data summary) ++ 10 ∷ []

-- the output of the demo of a seed: the summary line of the history that its journal leaves
abbrev pub demo_output : ℕ → List ℕ
demo_output seed = summary_text (summary_of (history_after [] (demo_events seed)))
