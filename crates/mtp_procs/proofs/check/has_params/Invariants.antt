use Rattle.std.proofs.Common.{◌≡◌, drop}
use Rattle.mtp_desc.specs.PlainProcedure.{plain_procedure}
use Rattle.mtp_procs.specs.Demands.{has_params}
use Rattle.mtp_procs.proofs.check.has_params.Given as goal

abbrev pub invariant-loop-setting : goal.invariant-loop-setting
invariant-loop-setting l =
    has_params (plain_procedure l.procedure) (drop l.setting-index l.settings)
    ≡ has_params (plain_procedure l.procedure) l.settings
