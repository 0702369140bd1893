-- What is read of a body.
use Rattle.std.proofs.Common.{◌≡◌, ℕ, List, ◌∷◌, ◌++◌, length, take, drop, take-append-drop, Option, Some, None, Bool, true, false, IsTrue, refl, sym, ap, subst, ◌∙◌, arith}
use Rattle.std.specs.Prelude.{if◌then◌else◌}
use Rattle.mtp_codes.specs.Names.{is_name}
use Rattle.event_json.specs.Lines.{event_of}
use Rattle.pol_events.specs.Events.{PlainEvent}
use Rattle.pol_record.specs.Texts.{event_text}
use Rattle.pol_store.specs.Work as of_plant
use Rattle.pol_ledger.specs.Bodies.{one_who, same_head, same_tail}
use Rattle.pol_ledger.specs.Items.{IsInForm, PlainItem, asked, body_of, header, who_bytes}
use Rattle.pol_ledger.specs.Read.{BeginsWithWho}

-- behind who asked stands the text of no event, so the body is that of no item
pub no_event : (body rest text : List ℕ) (by : Option (List ℕ)) → body ≡ 1 ∷ rest → BeginsWithWho rest by text →
    ((event : PlainEvent) → of_plant.IsTextOf event text → ⊥) → (item : PlainItem) → IsInForm item →
    body ≡ body_of item → ⊥
no_event body rest text by is begins none (header build) form same =
    let kinds : 1 ≡ 0 = same_head 1 0 rest (1 ∷ build) (sym is ∙ same) in
    absurd (omega (arith, kinds))
no_event body rest text by is begins none (asked one) form same =
    let rests : rest ≡ who_bytes one.by ++ event_text one.event =
    same_tail 1 1 rest (who_bytes one.by ++ event_text one.event) (sym is ∙ same) in
    let parts = one_who by one.by text (event_text one.event) begins.form form.0 (sym begins.begins ∙ rests) in
    none one.event (record { written = parts.1; reads = ap event_of parts.1 ∙ form.1 })

-- one name or none
abbrev name_if : List ℕ → Bool → Option (List ℕ)
name_if bytes kept = if kept then Some bytes else None

-- bytes that gave a name are the name
found_name : (bytes name : List ℕ) → Some name ≡ name_if bytes (is_name bytes) →
    (bytes ≡ name) × IsTrue (is_name bytes)
found_name bytes name = by_test (is_name bytes)
  where
    by_test : (kept : Bool) → Some name ≡ name_if bytes kept → (bytes ≡ name) × IsTrue kept
    by_test true found = (cc, refl)
    by_test false found = absurd cc

-- bytes that begin with the length of a name, and the name, begin with who asked
pub begins_with_name : (bytes rest cut behind name : List ℕ) (len : ℕ) → bytes ≡ len ∷ rest → cut ≡ take len rest →
    behind ≡ drop len rest → length cut ≡ len → Some name ≡ name_if cut (is_name cut) →
    BeginsWithWho bytes (Some name) behind
begins_with_name bytes rest cut behind name len is front back long found =
    let kept = found_name cut name found in
    record {
      begins = rw (is, ← kept.0, long, front, back, take-append-drop len rest) refl;
      form = subst (λ (n : List ℕ). IsTrue (is_name n)) kept.0 kept.1;
    }
