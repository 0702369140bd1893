-- What is seen of a service: what it reported last, with what its module's description says of the procedure.
use Rattle.std.specs.Prelude.{ℕ, Bool, false, List, Option, Some, None}
use Rattle.mtp_assembly.specs.declared.control.ServiceControl.{ServiceControl}
use Rattle.mtp_desc.specs.Lookup.{self_completes}
use Rattle.mtp_desc.specs.Plain.{PlainDescription}
use Rattle.mtp_modes.specs.declared.view.ServiceView.{ServiceView}

-- whether the procedure completes by itself, by the module's description; false where there is none
abbrev pub completes_by : List ℕ → ℕ → Option PlainDescription → Bool
completes_by service procedure None = false
completes_by service procedure (Some description) = self_completes service procedure description

-- a control with what the description says of its procedure
abbrev pub seen_with : List ℕ → Option PlainDescription → ServiceControl → ServiceView
seen_with service description control =
    record { control = control; self_completes = completes_by service control.procedure description }
