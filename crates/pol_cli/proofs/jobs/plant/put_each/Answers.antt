use Rattle.std.proofs.Common.{ℕ, List, subst, ◌∙◌}
use Rattle.std.proofs.lemmas.Result.{err_from_is_err_and}
use Rattle.pol_events.specs.Events.{plain_entry}
use Rattle.pol_events.specs.declared.event.Entry.{Entry}
use Rattle.pol_record.specs.Texts.{IsReadBack, entry_line_text}
use Rattle.pol_retold.specs.Retold.{IsRetold}
use Rattle.pol_replay.specs.BatchLines.{WritesUpTo}
use Rattle.pol_cli.specs.SiteRuns.{entry_lines}
use Rattle.pol_replay.proofs.BatchLines.{up_to_next, up_to_part, cut_lines}
use Rattle.pol_cli.proofs.EntryLines.{all_next, entry_orderly}
use Rattle.pol_cli.proofs.jobs.plant.put_each.Goals as goal

pub put_entry-requires-clause-orderly : goal.put_entry-requires-clause-orderly
put_entry-requires-clause-orderly g c =
    entry_orderly c.args.entries.now c.loop-entry.entry-index c.entry-item.result c.requires c.loop-entry-test.true
    c.entry-item.is

pub loop-entry-preserved : goal.loop-entry-preserved
loop-entry-preserved g c =
    let text : Entry → List ℕ = (λ entry. entry_line_text (plain_entry entry)) in
    let all = entry_lines c.args.entries.now in
    let cut = cut_lines text c.args.entries.now c.loop-entry.entry-index c.entry-item.result c.loop-entry-test.true
    c.entry-item.is in
    record {
      so_far = up_to_next _ _ _ (text c.entry-item.result) _ _
          (subst (λ rest. WritesUpTo (g.K.Sink.held c.args.sink.now) (g.K.Sink.held c.loop-entry.sink) rest all) cut
          c.loop-entry.invariant.so_far) c.in_ok-put_entry.ensures.line;
      read_back = all_next IsReadBack c.args.entries.now c.loop-entry.entry-index c.entry-item.result
          c.loop-entry-test.true c.entry-item.is c.loop-entry.invariant.read_back c.in_ok-put_entry.ensures.read_back;
      retold = all_next IsRetold c.args.entries.now c.loop-entry.entry-index c.entry-item.result
          c.loop-entry-test.true c.entry-item.is c.loop-entry.invariant.retold c.in_ok-put_entry.ensures.retold;
      empty = c.in_ok-put_entry.ensures.empty;
      sound = c.in_ok-put_entry.ensures.cause.done ∙ c.loop-entry.invariant.sound;
    }

pub returns-in_err-put_entry-clause-part : goal.returns-in_err-put_entry-clause-part
returns-in_err-put_entry-clause-part g c =
    let text : Entry → List ℕ = (λ entry. entry_line_text (plain_entry entry)) in
    let all = entry_lines c.args.entries.now in
    let cut = cut_lines text c.args.entries.now c.loop-entry.entry-index c.entry-item.result c.loop-entry-test.true
    c.entry-item.is in
    let fault = err_from_is_err_and c.from_residual.result c.from_residual.ensures.1 in
    rw fault.1 (up_to_part _ _ _ (text c.entry-item.result) _ _
    (subst (λ rest. WritesUpTo (g.K.Sink.held c.args.sink.now) (g.K.Sink.held c.loop-entry.sink) rest all) cut
    c.loop-entry.invariant.so_far) c.in_err-put_entry.ensures.part)
