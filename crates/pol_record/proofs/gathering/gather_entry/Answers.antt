-- An accepted event of a batch is added to its record.
use Rattle.std.proofs.Common.{◌∙◌, sym}
use Rattle.std.proofs.lemmas.Result.{on_ok_weaker}
use Rattle.pol_events.specs.Events.{plain_entry}
use Rattle.pol_record.proofs.Known.{gathered_more}
use Rattle.pol_record.proofs.gathering.gather_entry.Goals as goal

pub returns-in-Some : goal.returns-in-Some
returns-in-Some c =
    on_ok_weaker c.add_to.result
    (λ added history gathered. gathered_more history (plain_entry c.args.entry.now) c.in-Some.batch c.args.gathered.now
    (record { started = c.add_start.new.started; records = c.add_to.new.records }) c.in_ok-add_start.ensures
    (sym c.accepted_batch.ensures ∙ c.in-Some.is) added gathered)
    c.add_to.ensures
