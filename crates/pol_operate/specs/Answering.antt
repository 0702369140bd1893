-- What the answer to a blank line leaves.
use Rattle.std.proofs.Common.{◌≡◌, ℕ, List, Option, Some, true, append-nil, refl, sym}
use Rattle.std.specs.List.{list_all}
use Rattle.event_json.specs.Lines.{is_blank_byte}
use Rattle.kept_jobs.proofs.Admitting.{untouched}
use Rattle.named_lines.specs.Named.{named_of}
use Rattle.pol_kept.specs.Keeping.{KeptState}
use Rattle.pol_replay.specs.Meanings.{meaning_met, nothing}
use Rattle.pol_rights.specs.declared.plant_policy.PlantPolicy.{PlantPolicy}
use Rattle.pol_ledger.specs.Ledgers.{PlainLedger, ledger_state}
use Rattle.pol_ledger.specs.Work.{items_of, ledger_work}
use Rattle.pol_operate.specs.Answered.{IsAnswered}

module _ {D : Type 0} (policy : Option PlantPolicy) (store : KeptState PlainLedger D) (held : List ℕ) where
  -- a line that says nothing is answered with nothing
  answered_nothing : IsAnswered policy store store held held nothing
  answered_nothing = record {
    said = sym (append-nil held);
    ledger = refl;
    admits = untouched ledger_work ledger_state store (items_of (ledger_state store.chronicle));
  }

  -- a blank line is answered with nothing
  pub answered_blank : (line : List ℕ) → list_all is_blank_byte line ≡ true →
      IsAnswered policy store store held held (meaning_met named_of (Some line))
  answered_blank line blank = rw blank answered_nothing
