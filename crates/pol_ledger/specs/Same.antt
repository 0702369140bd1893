-- Where nothing happened, a ledger knows what it knew.
use Rattle.std.proofs.Common.{◌≡◌, ℕ, List, Option, refl, ap, ◌∙◌}
use Rattle.pol_core.specs.Plants.{plant_history}
use Rattle.pol_events.specs.Events.{plain_history}
use Rattle.pol_events.specs.declared.event.Entry.{Entry}
use Rattle.pol_history.specs.Runs.{events_of}
use Rattle.pol_ledger.specs.Ledgers.{IsSameLedger, PlainLedger, all_asked, begun_by, ledger_state}

pub same_ledger : (old new : PlainLedger) → IsSameLedger old new → ledger_state new ≡ ledger_state old
same_ledger old new same =
    ap (λ (entries : List Entry). begun_by new.build (all_asked new.names (events_of (plain_history entries))))
    same.entries
    ∙ ap (λ (names : List (Option (List ℕ))). begun_by new.build
    (all_asked names (events_of (plant_history old.plant)))) same.names
    ∙ ap (λ (build : Option (List ℕ)). begun_by build
    (all_asked old.names (events_of (plant_history old.plant)))) same.build

pub unmoved_ledger : (ledger : PlainLedger) → IsSameLedger ledger ledger
unmoved_ledger ledger = record { entries = refl; names = refl; build = refl }
