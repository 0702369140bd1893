-- A batch is given up.
use Rattle.std.proofs.Common.{[], refl}
use Rattle.pol_events.specs.Events.{abandon}
use Rattle.pol_core.proofs.Abandons.{abandon_answered}
use Rattle.pol_core.proofs.Lasting.{not_open_answered}
use Rattle.pol_core.proofs.batches.abandon.Goals as goal

pub returns-in-Err-clause-answered : goal.returns-in-Err-clause-answered
returns-in-Err-clause-answered c =
    λ history at seats counted batches room.
    not_open_answered history (abandon at c.args.batch) c.args.batch [] c.in-Err.rule c.args.modules.now
    c.args.runs.now.entries
    refl room seats counted batches c.in-Err.ensures.rule

pub returns-clause-answered : goal.returns-clause-answered
returns-clause-answered c =
    λ history at seats counted batches room.
    let open' = c.in_default.ensures.run in
    abandon_answered history at c.args.batch c.in_default.field-0.now c.args.modules.now c.release.new.self
    c.args.runs.now.entries
    c.give_up.new.runs.entries seats counted batches room open'
    (c.give_up.ensures.changed c.in_default.field-0.now open'.found)
    c.release.ensures.freed c.release.ensures.count

pub give_up-requires : goal.give_up-requires
give_up-requires c = (c.in_default.field-0.now, c.in_default.ensures.run.found)
