use Rattle.std.proofs.Common.{inr}
use Rattle.std.proofs.lemmas.Result.{on_err_weaker}
use Rattle.pol_core.specs.Plants.{plant_history}
use Rattle.pol_history.specs.Runs.{events_of}
use Rattle.pol_keep.proofs.exporting.put_extent.Goals as goal

pub returns-in-Whole-clause-part : goal.returns-in-Whole-clause-part
returns-in-Whole-clause-part g c =
    rw c.in-Whole.is (on_err_weaker c.put_lines.result (λ part. inr part)
    (c.put_lines.ensures.part (events_of (plant_history c.args.store.now.plant)) c.requires))
