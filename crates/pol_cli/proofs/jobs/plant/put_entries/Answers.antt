use Rattle.std.proofs.Common.{map, subst}
use Rattle.std.specs.Prelude.{OnErr, OnOk}
use Rattle.std.proofs.lemmas.Result.{on_ok_weaker}
use Rattle.std.specs.Io.KnownBytes.{Appends}
use Rattle.mtp_codes.proofs.Lists.{all_reverse}
use Rattle.pol_events.specs.Events.{plain_entry}
use Rattle.pol_record.specs.Texts.{IsReadBack}
use Rattle.pol_retold.specs.Retold.{IsRetold}
use Rattle.pol_jobs.specs.Written.{WritesSome}
use Rattle.pol_cli.proofs.EntryLines.{lines_of_entries}
use Rattle.pol_cli.proofs.jobs.plant.put_entries.Goals as goal

pub returns-clause-text : goal.returns-clause-text
returns-clause-text g c =
    subst (λ text. OnOk c.put_each.result
    (Appends (g.K.Sink.held c.args.sink.now) (g.K.Sink.held c.put_each.new.sink) text))
    (lines_of_entries c.args.history.now) c.put_each.ensures.text

pub returns-clause-part : goal.returns-clause-part
returns-clause-part g c =
    subst (λ text. OnErr c.put_each.result
    (WritesSome (g.K.Sink.held c.args.sink.now) (g.K.Sink.held c.put_each.new.sink) text))
    (lines_of_entries c.args.history.now) c.put_each.ensures.part

pub returns-clause-read_back : goal.returns-clause-read_back
returns-clause-read_back g c =
    on_ok_weaker c.put_each.result (all_reverse IsReadBack (map plain_entry c.args.history.now))
    c.put_each.ensures.read_back

pub returns-clause-retold : goal.returns-clause-retold
returns-clause-retold g c =
    on_ok_weaker c.put_each.result (all_reverse IsRetold (map plain_entry c.args.history.now)) c.put_each.ensures.retold
