use Rattle.std.proofs.Common.{ap, subst, ◌∙◌}
use Rattle.std.specs.Prelude.{OnErr, OnOk}
use Rattle.std.specs.Io.KnownBytes.{Appends}
use Rattle.pol_events.specs.Events.{plain_history}
use Rattle.pol_replay.specs.BatchLines.{gathered_lines}
use Rattle.pol_jobs.specs.Written.{WritesSome}
use Rattle.pol_replay.proofs.BatchLines.{lines_of_all}
use Rattle.pol_replay.proofs.closing.put_batches.Goals as goal

pub returns-clause-text : goal.returns-clause-text
returns-clause-text g c =
    subst (λ text. OnOk c.put_each.result
    (Appends (g.K.Sink.held c.args.sink.now) (g.K.Sink.held c.put_each.new.sink) text))
    (ap (gathered_lines c.in_ok-gathered.gathered) c.deref.ensures.value
    ∙ lines_of_all c.in_ok-gathered.gathered (plain_history c.args.history.now) c.in_ok-gathered.ensures)
    c.put_each.ensures.text

pub returns-clause-part : goal.returns-clause-part
returns-clause-part g c =
    subst (λ text. OnErr c.put_each.result
    (WritesSome (g.K.Sink.held c.args.sink.now) (g.K.Sink.held c.put_each.new.sink) text))
    (ap (gathered_lines c.in_ok-gathered.gathered) c.deref.ensures.value
    ∙ lines_of_all c.in_ok-gathered.gathered (plain_history c.args.history.now) c.in_ok-gathered.ensures)
    c.put_each.ensures.part
