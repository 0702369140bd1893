-- What the answer to a line leaves.
use Rattle.std.specs.Prelude.{ℕ, ◌≡◌, List, ◌++◌, Option, true}
use Rattle.std.specs.Option.{option_map}
use Rattle.kept_jobs.specs.Keeping.{Admits}
use Rattle.mtp_json.specs.declared.fault.JsonFault.{JsonFault}
use Rattle.named_lines.specs.Named.{PlainNamed}
use Rattle.pol_jobs.specs.Faults.{FailedSo, RefusedFor}
use Rattle.pol_jobs.specs.declared.stop.Stop.{Stop}
use Rattle.pol_kept.specs.Keeping.{KeptState}
use Rattle.pol_replay.specs.Meanings.{LineMeaning}
use Rattle.pol_rights.specs.PlainPlantPolicy.{plain_plant_policy}
use Rattle.pol_rights.specs.declared.plant_policy.PlantPolicy.{PlantPolicy}
use Rattle.pol_ledger.specs.Ledgers.{PlainLedger, ledger_state}
use Rattle.pol_ledger.specs.Work.{items_of, ledger_work}
use Rattle.pol_operate.specs.Saying.{ledger_met, text_met}
use Rattle.pol_operate.specs.declared.fault.DiskFailed.{DiskFailed}

module _ {D : Type 0} (policy : Option PlantPolicy) (before now : KeptState PlainLedger D) where
  -- a line that says this was answered: its reply is behind what the buffer held, the ledger is the one that the line
  -- leaves, and what is new of that waits to be kept
  pub record IsAnswered (held holds : List ℕ) (meaning : LineMeaning PlainNamed) : Type 0 where
    pub said : holds ≡ held ++ text_met (option_map plain_plant_policy policy) (ledger_state before.chronicle) meaning
    pub ledger : ledger_state now.chronicle
        ≡ ledger_met (option_map plain_plant_policy policy) (ledger_state before.chronicle) meaning
    pub admits : Admits ledger_work ledger_state before now
        (items_of (ledger_met (option_map plain_plant_policy policy) (ledger_state before.chronicle) meaning))

  -- a line that says this stayed unanswered for this reason: at most what it asks waits to be kept, and the store is
  -- closed where the disk failed
  pub record IsHalted (meaning : LineMeaning PlainNamed) (stop : Stop JsonFault DiskFailed) : Type 0 where
    pub admits : Admits ledger_work ledger_state before now
        (items_of (ledger_met (option_map plain_plant_policy policy) (ledger_state before.chronicle) meaning))
    pub failed : FailedSo (now.closed ≡ true) stop
    pub unrefused : RefusedFor (λ _. ⊥) stop
