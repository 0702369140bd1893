-- How many modules there are.
use Rattle.std.proofs.Common.{◌≡◌, ℕ, ◌+◌, Bool, true, false, cond, not, List, [], ◌∷◌, length, Option, Some, None}
use Rattle.std.proofs.Common.{is_some, refl, ap, sym, ◌∙◌, arith}
use Rattle.std.specs.Prelude.{◌||◌}
use Rattle.std.specs.Map.{keys_of}
use Rattle.std.specs.Option.{option_map}
use Rattle.std.specs.Set.{is_member}
use Rattle.std.specs.Str.{bytes_eq}
use Rattle.std.proofs.lemmas.Cmp.{nat_list_eq_equiv}
use Rattle.std.proofs.lemmas.Map.Made.{is_some-lookup}
use Rattle.mtp_codes.specs.Names.{is_among}
use Rattle.chart_core.specs.declared.next.Outcome.{Outcome}
use Rattle.pol_events.specs.Events.{PlainEntry}
use Rattle.pol_history.specs.Looking.{History}
use Rattle.pol_history.specs.Modules.{tags_without, present_tags}
use Rattle.pol_slots.specs.declared.slot.Slot.{Slot}
use Rattle.pol_table.specs.ByteOrder.{in_byte_order}
use Rattle.pol_table.specs.Rows.{Row, Rows, look, with_part}
use Rattle.pol_table.proofs.ByteOrder.{same_order}
use Rattle.pol_table.proofs.Changed.{look_changed, length_changed}
use Rattle.pol_core.specs.Batches.{freed_if}
use Rattle.pol_core.specs.Seats.{IsCounted}
use Rattle.pol_core.proofs.Seating.{Changes}

-- a tag that isn't there is not taken away
without_none : (tags : List (List ℕ)) (tag : List ℕ) → is_among tags tag ≡ false → tags_without tag tags ≡ tags
without_none [] tag out = refl
without_none (first ∷ tags) tag out = go (bytes_eq first tag) refl out (without_none tags tag)
  where
    go : (same : Bool) → bytes_eq first tag ≡ same → bytes_eq first tag || is_among tags tag ≡ false →
        (is_among tags tag ≡ false → tags_without tag tags ≡ tags) →
        tags_without tag (first ∷ tags) ≡ first ∷ tags
    go true is out rest = let clash : true ≡ false = ap (λ same. same || is_among tags tag) (sym is) ∙ out in cc
    go false is out rest =
        ap (λ same. cond (not same) (first ∷ tags_without tag tags) (tags_without tag tags)) is
        ∙ ap (λ others. first ∷ others) (rest (ap (λ same. same || is_among tags tag) (sym is) ∙ out))

-- a new tag
pub counted_more : (history : History) (entry : PlainEntry) (tag : List ℕ) (row : Row Slot)
    (old new : Rows Slot) → look tag old ≡ None →
    present_tags (entry ∷ history) ≡ tag ∷ tags_without tag (present_tags history) →
    Changes tag (Some row) old new → length new ≡ length old + 1 →
    IsCounted old history → IsCounted new (entry ∷ history)
counted_more history entry tag row old new absent present changes more counted =
    record {
      members = λ other.
          ap (λ tags. is_among tags other) same
          ∙ ap (λ among. bytes_eq tag other || among) (counted.members other)
          ∙ go other (bytes_eq tag other)
          ∙ ap is_some (sym (changes other));
      once = rw same (out, counted.once);
      count = more ∙ ap (λ n. n + 1) counted.count ∙ one_more (present_tags history) ∙ ap length (sym same);
    }
  where
    out : is_among (present_tags history) tag ≡ false
    out = counted.members tag ∙ ap is_some absent

    same : present_tags (entry ∷ history) ≡ tag ∷ present_tags history
    same = present ∙ ap (λ tags. tag ∷ tags) (without_none (present_tags history) tag out)

    go : (other : List ℕ) (here : Bool) → here || is_some (look other old)
        ≡ is_some (cond here (Some row) (look other old))
    go other true = refl
    go other false = refl

    one_more : (tags : List (List ℕ)) → length tags + 1 ≡ length (tag ∷ tags)
    one_more tags = omega arith

-- a part in the place of another
pub counted_part : (history : History) (tag : List ℕ) (slot : Slot) (rows : Rows Slot) →
    IsCounted rows history → IsCounted (with_part tag rows slot) history
counted_part history tag slot rows counted =
    record {
      members = λ other. counted.members other ∙ sym (ap is_some (look_changed tag set rows other)
          ∙ mapped (λ row. cond (bytes_eq tag other) (record row { part = slot }) row) (look other rows));
      once = counted.once;
      count = length_changed tag set rows ∙ counted.count;
    }
  where
    set : Row Slot → Row Slot
    set row = record row { part = slot }

    mapped : (change : Row Slot → Row Slot) (found : Option (Row Slot)) →
        is_some (option_map change found) ≡ is_some found
    mapped change None = refl
    mapped change (Some row) = refl

-- rows that are freed
pub counted_freed : (history : History) (closes : Option Outcome) (batch : List ℕ) (old new : Rows Slot) →
    ((tag : List ℕ) → look tag new ≡ freed_if closes batch (look tag old)) →
    length new ≡ length old → IsCounted old history → IsCounted new history
counted_freed history closes batch old new looks same counted =
    record {
      members = λ tag. counted.members tag ∙ sym (ap is_some (looks tag) ∙ freed closes (look tag old));
      once = counted.once;
      count = same ∙ counted.count;
    }
  where
    freed : (closes : Option Outcome) (found : Option (Row Slot)) → is_some (freed_if closes batch found)
        ≡ is_some found
    freed None found = refl
    freed (Some outcome) None = refl
    freed (Some outcome) (Some row) = refl

-- where no module comes or goes there are as many
pub counted_same : (history : History) (entry : PlainEntry) (rows : Rows Slot) →
    present_tags (entry ∷ history) ≡ present_tags history → IsCounted rows history →
    IsCounted rows (entry ∷ history)
counted_same history entry rows same counted =
    record {
      members = λ tag. ap (λ tags. is_among tags tag) same ∙ counted.members tag;
      once = rw same counted.once;
      count = counted.count ∙ ap length (sym same);
    }

-- the tags of the table in byte order are those that are there
pub counted_order : (history : History) (rows : Rows Slot) → IsCounted rows history →
    in_byte_order (keys_of rows) ≡ in_byte_order (present_tags history)
counted_order history rows counted =
    same_order (keys_of rows) (present_tags history)
    (λ tag. sym (is_some-lookup (bytes_eq tag) rows)
    ∙ sym (counted.members tag)
    ∙ turned (present_tags history) tag)
  where
    turned : (tags : List (List ℕ)) (tag : List ℕ) → is_among tags tag ≡ is_member bytes_eq tags tag
    turned [] tag = refl
    turned (first ∷ tags) tag =
        ap (λ same. same || is_among tags tag) (nat_list_eq_equiv.symm first tag)
        ∙ ap (λ later. bytes_eq tag first || later) (turned tags tag)
