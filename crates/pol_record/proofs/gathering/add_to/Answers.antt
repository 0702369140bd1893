-- The batch's record is changed in its place.
use Rattle.std.proofs.Common.{◌∙◌, ap, sym}
use Rattle.std.proofs.lemmas.Result.{on_ok_weaker}
use Rattle.std.specs.Option.{option_copied_mut}
use Rattle.pol_events.specs.Events.{plain_entry}
use Rattle.pol_record.specs.Gathered.{known_of}
use Rattle.pol_record.proofs.Written.{record_written}
use Rattle.pol_record.proofs.gathering.add_to.Goals as goal

pub returns-in-Some : goal.returns-in-Some
returns-in-Some c =
    on_ok_weaker c.add.result
    (λ is other. ap (λ entries. known_of entries other) (c.get_mut.follows.holds c.add.new.self).0
    ∙ record_written c.args.records.now.entries c.args.batch other (plain_entry c.args.entry.now)
    c.in-Some.known.now c.add.new.self
    (sym c.get_mut.ensures.value ∙ ap option_copied_mut c.in-Some.is) is)
    c.add.ensures
