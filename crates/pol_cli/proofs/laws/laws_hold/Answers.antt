use Rattle.pol_cli.proofs.Auditing.{audit_theorem}
use Rattle.pol_cli.proofs.Journals.{journal}
use Rattle.pol_cli.proofs.laws.laws_hold.Goals as goal

pub returns-clause-theorem : goal.returns-clause-theorem
returns-clause-theorem c =
    journal c.histories_are_sound.ensures.histories c.histories_are_sound.ensures.entries c.removal_of_lines.ensures

pub returns-clause-laws : goal.returns-clause-laws
returns-clause-laws c = record {
  runs = c.runs_are_legal.ensures;
  histories = c.histories_are_sound.ensures.histories;
  entries = c.histories_are_sound.ensures.entries;
  permitted = c.commands_are_permitted.ensures;
  paths = c.reports_are_paths.ensures;
  charts = c.logs_follow_charts.ensures;
  removal = c.removal_of_events.ensures;
}

pub returns-clause-audits : goal.returns-clause-audits
returns-clause-audits c =
    audit_theorem c.histories_are_sound.ensures.histories c.histories_are_sound.ensures.entries
    c.removal_of_events.ensures c.good_verdicts_are_true.ensures

pub returns-clause-compaction : goal.returns-clause-compaction
returns-clause-compaction c = record {
  kept = c.compaction_keeps_answers.ensures.kept;
  later = c.compaction_keeps_answers.ensures.later;
  lines = c.compaction_keeps_answers.ensures.lines;
  shorter = c.compaction_is_no_longer.ensures;
  again = c.again_changes_nothing.ensures;
  once = c.once_more_is_at_once.ensures;
  replies = c.compaction_guards_alike.ensures.replies;
  commands = c.compaction_guards_alike.ensures.commands;
  found = λ events later orderly. (c.compaction_finds_alike.ensures events later orderly).bindings;
  tells = c.compaction_tells_alike.ensures;
}
