-- What contracts see of the job on an operated plant.
use Rattle.std.specs.Option.{option_map}
use Rattle.std.specs.Prelude.{Option, List}
use Rattle.pol_kept.specs.Keeping.{KeptState}
use Rattle.pol_rights.specs.PlainPlantPolicy.{plain_plant_policy}
use Rattle.pol_rights.specs.declared.plant_policy.PlantPolicy.{PlantPolicy}
use Rattle.pol_ledger.specs.Items.{PlainItem}
use Rattle.pol_ledger.specs.Ledgers.{PlainLedger, ledger_state}
use Rattle.pol_ledger.specs.Work as ledgers
use Rattle.pol_operate.specs.Work.{Known}

-- what the job knows, by its policy and its ledger
abbrev pub known_of : {D : Type 0} → Option PlantPolicy → KeptState PlainLedger D → Known
known_of policy store =
    record { policy = option_map plain_plant_policy policy; ledger = ledger_state store.chronicle }

-- the items of what the job knows: those of the ledger
abbrev pub known_items : Known → List PlainItem
known_items known = ledgers.items_of known.ledger
