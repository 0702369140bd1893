-- A map of records, where one record is written.
use Rattle.std.proofs.Common.{◌≡◌, ℕ, Bool, true, false, cond, List, [], Some, refl, ap, sym, ◌∙◌}
use Rattle.std.specs.Map.{lookup, set_value}
use Rattle.std.specs.Option.{option_map_or}
use Rattle.std.specs.Str.{bytes_eq}
use Rattle.mtp_codes.proofs.Names.{same_true}
use Rattle.pol_events.specs.Events.{PlainEntry}
use Rattle.pol_history.proofs.Names.{written}
use Rattle.pol_record.specs.Gathered.{record_by, with_entry, plain_record, known_of}
use Rattle.pol_record.specs.declared.records.BatchRecord.{BatchRecord}

-- a record that takes the batch's entry is written over the one before
pub record_written : (records : List (List ℕ × BatchRecord)) (batch other : List ℕ) (entry : PlainEntry)
    (old new : BatchRecord) →
    lookup (bytes_eq batch) records ≡ Some old → plain_record new ≡ with_entry entry (plain_record old) →
    known_of (set_value (bytes_eq batch) records new) other
    ≡ cond (bytes_eq batch other) (with_entry entry (known_of records other)) (known_of records other)
record_written records batch other entry old new found is =
    ap (λ found. option_map_or plain_record found (record_by []))
    (written batch other records old new found)
    ∙ go (bytes_eq batch other) refl
  where
    its : plain_record new ≡ with_entry entry (known_of records batch)
    its = is ∙ ap (λ found. with_entry entry (option_map_or plain_record found (record_by []))) (sym found)

    go : (same : Bool) → bytes_eq batch other ≡ same →
        option_map_or plain_record (cond same (Some new) (lookup (bytes_eq other) records)) (record_by [])
        ≡ cond same (with_entry entry (known_of records other)) (known_of records other)
    go true same = its ∙ ap (λ name. with_entry entry (known_of records name)) (same_true batch other same)
    go false same = refl
