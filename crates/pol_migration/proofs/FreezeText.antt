-- The text of a freeze is a line that says the freeze.
use Rattle.std.proofs.Common.{◌≡◌, ℕ, ◌≤◌, ◌<◌, ◌^◌, ◌&&◌, ◌==◌, nat_lt, nat_le, List, [], ◌∷◌, ◌++◌, length}
use Rattle.std.proofs.Common.{length-append, Bool, true, false, not, Ok, Some, IsTrue, codes, decimal, refl, ap, sym}
use Rattle.std.proofs.Common.{◌∙◌, arith, append_assoc, append-nil, option_and_then}
use Rattle.std.specs.List.{list_all}
use Rattle.std.proofs.lemmas.Bool.{and_parts, and_from, leb-true}
use Rattle.std.proofs.lemmas.Bool.Decides.{nat_tests}
use Rattle.std.proofs.lemmas.Fmt.{decimal_is_IsNumeral, length-decimal-le}
use Rattle.std.proofs.lemmas.List.Folds.{list_all-append}
use Rattle.json.specs.Json as json
use Rattle.json.specs.Print.{escape, escape_byte}
use Rattle.json.specs.Token.{Token}
use Rattle.json.specs.Tree.{HasNumbers, json_tokens, depth}
use Rattle.json.proofs.Printed.Decimals.{IsNumber-decimal}
use Rattle.json.proofs.Printed.Strings.{escape_byte_plain}
use Rattle.json.proofs.Printed.Tokens.{tokens-print}
use Rattle.json.proofs.Printed.Trees.{ArePrintable-json_tokens, value-json_tokens}
use Rattle.json.proofs.Printed.Utf8.{are_ascii, IsUtf8-are_ascii}
use Rattle.serde_json.specs.Read.{of_json, read, max_depth}
use Rattle.serde_json.specs.Written.{compact_text, outline}
use Rattle.serde_json.proofs.Numbers.{number_of-decimal}
use Rattle.serde_json.proofs.OnLiterals.{serde_json_on_literals}
use Rattle.serde_json.proofs.Texts.{print-outline}
use Rattle.mtp_codes.specs.Names.{is_name, is_name_byte}
use Rattle.mtp_codes.specs.Numbers.{greatest_u64, is_between}
use Rattle.mtp_codes.proofs.Names.{digits_in_name}
use Rattle.pol_io.specs.Pieces.{has_no_feed}
use Rattle.pol_io.specs.declared.limits.TheConstants.{LONGEST_LINE}
use Rattle.pol_events.specs.Events.{freeze}
use Rattle.event_json.specs.Lines.{event_of, is_blank_byte}
use Rattle.event_json.specs.Ranges.{is_stamped}
use Rattle.event_json.specs.Written.{written_event, written_freeze}
use Rattle.event_json.proofs.Again.{freeze_again, line_again}
use Rattle.pol_record.specs.Lines.{an_event, meaning_of}

-- ---- bytes that may stand in a name

-- and the digits of a number
decimal_in_name : (n : ℕ) → n < 2 ^ 64 → list_all is_name_byte (decimal n) ≡ true
decimal_in_name n small = digits_in_name (decimal n) (decimal_is_IsNumeral n small).0.1

-- such bytes have no escape
escape_named : (bytes : List ℕ) → list_all is_name_byte bytes ≡ true → escape bytes ≡ bytes
escape_named [] named = refl
escape_named (byte ∷ bytes) named =
    let parts = and_parts (is_name_byte byte) (list_all is_name_byte bytes) named in
    let one = parts.0 in
    let here : escape_byte byte ≡ byte ∷ [] =
    escape_byte_plain byte (λ same. grind (arith, nat_tests, one, same)) (λ same. grind (arith, nat_tests, one, same))
    (grind (arith, nat_tests, one)) in
    rw (here, escape_named bytes parts.1) refl

-- a byte of a line that is neither a control code nor beyond ASCII
abbrev is_tame : ℕ → Bool
is_tame byte = nat_le 32 byte && nat_lt byte 128

-- bytes of a name are tame
tame_named : (bytes : List ℕ) → list_all is_name_byte bytes ≡ true → list_all is_tame bytes ≡ true
tame_named [] named = refl
tame_named (byte ∷ bytes) named =
    let parts = and_parts (is_name_byte byte) (list_all is_name_byte bytes) named in
    let one = parts.0 in
    let here : is_tame byte ≡ true = grind (arith, nat_tests, one) in
    rw (here, tame_named bytes parts.1) refl

-- tame bytes are ASCII
ascii_tame : (bytes : List ℕ) → list_all is_tame bytes ≡ true → are_ascii bytes ≡ true
ascii_tame [] tame = refl
ascii_tame (byte ∷ bytes) tame =
    let parts = and_parts (is_tame byte) (list_all is_tame bytes) tame in
    and_from (nat_lt byte 128) (are_ascii bytes) (and_parts (nat_le 32 byte) (nat_lt byte 128) parts.0).1
    (ascii_tame bytes parts.1)

-- and have no line feed
no_feed_tame : (bytes : List ℕ) → list_all is_tame bytes ≡ true → IsTrue (has_no_feed bytes)
no_feed_tame [] tame = refl
no_feed_tame (byte ∷ bytes) tame =
    let parts = and_parts (is_tame byte) (list_all is_tame bytes) tame in
    let one = parts.0 in
    let here : not (byte == 10) ≡ true = grind (arith, nat_tests, one) in
    and_from (not (byte == 10)) (has_no_feed bytes) here (no_feed_tame bytes parts.1)

-- ---- the text of a freeze

-- what stands before the stamp
abbrev front : List ℕ
front = codes "{\"at\":"

-- between the stamp and the batch
abbrev middle : List ℕ
middle = codes ",\"batch\":\""

-- behind the batch
abbrev ending : Bool → List ℕ
ending true = codes "\",\"ev\":\"freeze\",\"hold\":true}"
ending false = codes "\",\"ev\":\"freeze\",\"hold\":false}"

-- the pieces of the text
abbrev pieces_text : ℕ → List ℕ → Bool → List ℕ
pieces_text at batch hold = front ++ (decimal at ++ (middle ++ (batch ++ ending hold)))

-- it is the text of the freeze
text_pieces : (at : ℕ) (batch : List ℕ) (hold : Bool) → list_all is_name_byte batch ≡ true →
    compact_text (written_freeze at batch hold) ≡ pieces_text at batch hold
unfolding serde_json_on_literals written_freeze escape_byte
text_pieces at batch true named =
    rw (escape_named batch named, append_assoc batch (34 ∷ []) (codes ",\"ev\":\"freeze\",\"hold\":true}")) refl
text_pieces at batch false named =
    rw (escape_named batch named, append_assoc batch (34 ∷ []) (codes ",\"ev\":\"freeze\",\"hold\":false}")) refl

-- what stands behind the batch is tame
tame_ending : (hold : Bool) → list_all is_tame (ending hold) ≡ true
tame_ending true = refl
tame_ending false = refl

-- its bytes are tame
tame_pieces : (at : ℕ) (batch : List ℕ) (hold : Bool) → at < 2 ^ 64 → list_all is_name_byte batch ≡ true →
    list_all is_tame (pieces_text at batch hold) ≡ true
tame_pieces at batch hold small named =
    list_all-append is_tame (decimal at) (middle ++ (batch ++ ending hold))
    ∙ and_from (list_all is_tame (decimal at)) (list_all is_tame (middle ++ (batch ++ ending hold)))
    (tame_named (decimal at) (decimal_in_name at small))
    (list_all-append is_tame batch (ending hold)
    ∙ and_from (list_all is_tame batch) (list_all is_tame (ending hold)) (tame_named batch named) (tame_ending hold))

-- what stands behind the batch is short
short_ending : (hold : Bool) → length (ending hold) ≤ 40
short_ending true = omega arith
short_ending false = omega arith

-- it is short
short_pieces : (at : ℕ) (batch : List ℕ) (hold : Bool) → at < 2 ^ 64 → length batch ≤ 32 →
    length (pieces_text at batch hold) ≤ LONGEST_LINE
short_pieces at batch hold small few =
    let digits : length (decimal at) ≤ 20 = length-decimal-le 20 at (omega arith) (omega arith) small in
    let end = short_ending hold in
    rw (length-append (decimal at) (middle ++ (batch ++ ending hold)), length-append batch (ending hold)) (omega arith)

-- ---- it reads as the freeze

-- its numbers are written as JSON wants them
numbers : (at : ℕ) (batch : List ℕ) (hold : Bool) → at < 2 ^ 64 → HasNumbers (outline (written_freeze at batch hold))
unfolding written_freeze
numbers at batch hold small = (IsNumber-decimal at small, (tt, (tt, (tt, tt))))

-- it isn't deep
shallow : (at : ℕ) (batch : List ℕ) (hold : Bool) → depth (outline (written_freeze at batch hold)) ≤ 127
unfolding written_freeze
shallow at batch hold = omega arith

-- its outline is read as the value
of_outline : (at : ℕ) (batch : List ℕ) (hold : Bool) → at < 2 ^ 64 →
    of_json (outline (written_freeze at batch hold)) ≡ Some (written_freeze at batch hold)
unfolding written_freeze
of_outline at batch hold small = rw (number_of-decimal at small) refl

-- what is written of a freeze is read as that value
reads : (at : ℕ) (batch : List ℕ) (hold : Bool) → at < 2 ^ 64 →
    read (compact_text (written_freeze at batch hold)) ≡ Some (written_freeze at batch hold)
reads at batch hold small =
    ap read (sym (print-outline (written_freeze at batch hold)))
    ∙ ap (λ found. option_and_then of_json (option_and_then (λ (parsed : json.Json × List Token).
    json.if_last parsed.0 parsed.1) found)) (ap (json.value max_depth)
    (tokens-print (json_tokens (outline (written_freeze at batch hold)))
    (ArePrintable-json_tokens (outline (written_freeze at batch hold)) (numbers at batch hold small))
    ∙ sym (append-nil (json_tokens (outline (written_freeze at batch hold)))))
    ∙ value-json_tokens (outline (written_freeze at batch hold)) max_depth [] (shallow at batch hold))
    ∙ of_outline at batch hold small

-- The line of a freeze whose parts have their ranges says the freeze, and is one line.
pub record IsFreezeLine (at : ℕ) (batch : List ℕ) (hold : Bool) : Type 0 where
  pub says : meaning_of (compact_text (written_event (freeze at batch hold))) ≡ an_event (freeze at batch hold)
  pub no_feed : IsTrue (has_no_feed (compact_text (written_event (freeze at batch hold))))

-- a freeze whose parts have their ranges has such a line
pub freeze_line : (at : ℕ) (batch : List ℕ) (hold : Bool) → is_stamped at batch ≡ true → IsFreezeLine at batch hold
unfolding meaning_of
freeze_line at batch hold held =
    record {
      says = rw (not_long, not_blank, said) refl;
      no_feed = rw same (no_feed_tame (pieces_text at batch hold) tame);
    }
  where
    parts : (is_between 0 greatest_u64 at ≡ true) × (is_name batch ≡ true)
    parts = and_parts (is_between 0 greatest_u64 at) (is_name batch) held

    sized : (nat_le 1 (length batch) && nat_le (length batch) 32 ≡ true) × (list_all is_name_byte batch ≡ true)
    sized = and_parts (nat_le 1 (length batch) && nat_le (length batch) 32) (list_all is_name_byte batch) parts.1

    small : at < 2 ^ 64
    small =
        let within = (and_parts (nat_le 0 at) (nat_le at greatest_u64) parts.0).1 in
        let most = leb-true at greatest_u64 within in omega arith

    few : length batch ≤ 32
    few = leb-true (length batch) 32 (and_parts (nat_le 1 (length batch)) (nat_le (length batch) 32) sized.0).1

    same : compact_text (written_freeze at batch hold) ≡ pieces_text at batch hold
    same = text_pieces at batch hold sized.1

    tame : list_all is_tame (pieces_text at batch hold) ≡ true
    tame = tame_pieces at batch hold small sized.1

    said : event_of (compact_text (written_freeze at batch hold)) ≡ Ok (freeze at batch hold)
    said =
        line_again (compact_text (written_freeze at batch hold)) (written_freeze at batch hold) (freeze at batch hold)
        (rw same (IsUtf8-are_ascii (pieces_text at batch hold) (ascii_tame (pieces_text at batch hold) tame)))
        (reads at batch hold small) (freeze_again at batch hold held) refl

    not_long : nat_lt LONGEST_LINE (length (compact_text (written_freeze at batch hold))) ≡ false
    not_long =
        let short = short_pieces at batch hold small few in
        rw same (grind (arith, nat_tests, short))

    not_blank : list_all is_blank_byte (compact_text (written_freeze at batch hold)) ≡ false
    not_blank = rw same refl
