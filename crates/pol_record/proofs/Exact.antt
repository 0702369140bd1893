-- What the code knows of what is written of an event.
use Rattle.std.proofs.Common.{◌≡◌, ◌≤◌, ℕ, List, true, false, Some, Ok, sym, ap, ◌∙◌, subst}
use Rattle.std.specs.Prelude.{Result, Err, IfOk, Vec}
use Rattle.std.specs.declared.alloc.Global.{Global}
use Rattle.std.specs.declared.alloc.AllocError.{AllocError}
use Rattle.std.specs.Str.{IsUtf8}
use Rattle.json.specs.Lex.{tokens}
use Rattle.serde_json.specs.Data.{Data, depth}
use Rattle.serde_json.specs.Read.{max_depth, read}
use Rattle.serde_json.specs.Written.{IsInOrder, compact_text, has_float}
use Rattle.serde_json.proofs.Texts.{tokens_from_order}
use Rattle.pol_events.specs.declared.event.Event.{Event}
use Rattle.pol_events.specs.Events.{plain_event}
use Rattle.pol_events.specs.Orderly.{is_orderly}
use Rattle.event_json.specs.Forms.{event_in}
use Rattle.event_json.specs.Written.{written_event}
use Rattle.event_json.proofs.Again.{faultless}
use Rattle.event_json.proofs.Depths.{event_depth}
use Rattle.pol_record.specs.Exact.{IsExact, IsWritten}

-- what the code writes of an event is what an entry's line needs
event_is_written : (event : Event) (value : Data) (text : List ℕ) → is_orderly (plain_event event) ≡ true
    → value ≡ written_event (plain_event event) → event_in value ≡ Ok (plain_event event)
    → has_float value ≡ false → depth value ≤ max_depth → IsUtf8 text → IsInOrder text value
    → (has_float value ≡ false → text ≡ compact_text value) → (depth value ≤ max_depth → read text ≡ Some value)
    → IsWritten (plain_event event)
event_is_written event value text orderly is again whole shallow utf8 order compact reads =
    record {
      exact = subst IsExact is own;
      shallow = event_depth event orderly;
      again = ap event_in (sym is) ∙ again;
      faultless = faultless (plain_event event) orderly;
    }
  where
    same : text ≡ compact_text value
    same = compact whole

    own : IsExact value
    own =
        record {
          utf8 = subst IsUtf8 same utf8;
          tokens_are = ap tokens (sym same) ∙ tokens_from_order text value order whole;
          read_back = ap read (sym same) ∙ reads shallow;
        }

-- what the code writes of an event is so where there was memory for it
pub text_is_written : (result : Result (Vec ℕ Global) AllocError) (event : Event) (value : Data)
    → is_orderly (plain_event event) ≡ true → value ≡ written_event (plain_event event)
    → event_in value ≡ Ok (plain_event event) → has_float value ≡ false → depth value ≤ max_depth
    → IfOk result (λ text. has_float value ≡ false → text.items ≡ compact_text value)
    → IfOk result (λ text. IsUtf8 text.items) → IfOk result (λ text. IsInOrder text.items value)
    → IfOk result (λ text. depth value ≤ max_depth → read text.items ≡ Some value)
    → IfOk result (λ _. IsWritten (plain_event event))
text_is_written (Ok text) event value orderly is again whole shallow compact utf8 order reads =
    event_is_written event value text.items orderly is again whole shallow utf8 order compact reads
text_is_written (Err error) event value orderly is again whole shallow compact utf8 order reads = tt
