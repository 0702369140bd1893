use Rattle.std.proofs.Common.{◌≡◌, drop}
use Rattle.mtp_desc.specs.PlainProcedure.{plain_procedure}
use Rattle.mtp_procs.specs.Demands.{settings_fault}
use Rattle.mtp_procs.proofs.check.check_settings.Given as goal

abbrev pub invariant-loop-setting : goal.invariant-loop-setting
invariant-loop-setting l =
    settings_fault (plain_procedure l.procedure) (drop l.setting-index l.settings)
    ≡ settings_fault (plain_procedure l.procedure) l.settings
