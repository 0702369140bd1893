-- A body is that of one item, and a record's text has one sum and one body.
use Rattle.std.proofs.Common.{◌≡◌, ◌≤◌, List, ℕ, Result, Ok, Some, None, Option, ◌∷◌, ◌++◌, length, take, drop, refl, sym, ◌∙◌, ap, arith, IsTrue}
use Rattle.std.proofs.Math.Seq.{take-append_seam, drop-append_seam}
use Rattle.sha2.proofs.Facts256.{length-sha256}
use Rattle.event_json.specs.declared.fault.LineFault.{LineFault}
use Rattle.event_json.specs.Lines.{event_of}
use Rattle.mtp_codes.specs.Names.{is_name}
use Rattle.pol_events.specs.Events.{PlainEvent}
use Rattle.pol_record.specs.Texts.{event_text}
use Rattle.pol_ledger.specs.Items.{IsInForm, IsWho, PlainItem, asked, body_of, header, who_bytes}
use Rattle.pol_ledger.specs.Sums.{sum_after}

-- where two lists begin with as many bytes, these are the same, and so are those behind
pub same_front : (front other behind rest : List ℕ) → length front ≡ length other →
    front ++ behind ≡ other ++ rest → (front ≡ other) × (behind ≡ rest)
same_front front other behind rest long same = (
  sym (take-append_seam front behind) ∙ ap (take (length front)) same
      ∙ rw long (take-append_seam other rest),
  sym (drop-append_seam front behind) ∙ ap (drop (length front)) same
      ∙ rw long (drop-append_seam other rest),
)

-- a name isn't empty
pub name_long : (name : List ℕ) → IsTrue (is_name name) → 1 ≤ length name
name_long name is = grind arith

-- the front and the rest of two equal lists
pub same_head : (x y : ℕ) (xs ys : List ℕ) → x ∷ xs ≡ y ∷ ys → x ≡ y
same_head x y xs ys same = cc

pub same_tail : (x y : ℕ) (xs ys : List ℕ) → x ∷ xs ≡ y ∷ ys → xs ≡ ys
same_tail x y xs ys same = cc

-- bytes begin with those of who asked in one way
pub one_who : (by other : Option (List ℕ)) (behind rest : List ℕ) → IsWho by → IsWho other →
    who_bytes by ++ behind ≡ who_bytes other ++ rest → (by ≡ other) × (behind ≡ rest)
one_who None None behind rest is is' same = (refl, same_tail 0 0 behind rest same)
one_who None (Some name) behind rest is is' same =
    let none : 0 ≡ length name = same_head 0 (length name) behind (name ++ rest) same in
    absurd (omega (arith, none, name_long name is'))
one_who (Some name) None behind rest is is' same =
    let none : length name ≡ 0 = same_head (length name) 0 (name ++ behind) rest same in
    absurd (omega (arith, none, name_long name is))
one_who (Some name) (Some other) behind rest is is' same =
    let parts = same_front name other behind rest
    (same_head (length name) (length other) (name ++ behind) (other ++ rest) same)
    (same_tail (length name) (length other) (name ++ behind) (other ++ rest) same) in
    (ap (λ (n : List ℕ). Some n) parts.0, parts.1)

-- what reading an event gives
abbrev done : PlainEvent → Result PlainEvent LineFault
done x = Ok x

-- reading an event gives one event
ok_same : (x y : PlainEvent) → done x ≡ done y → x ≡ y
ok_same x y same = cc

-- an event's text is that of one event
one_event : (x y : PlainEvent) → event_of (event_text x) ≡ Ok x → event_of (event_text y) ≡ Ok y →
    event_text x ≡ event_text y → x ≡ y
one_event x y reads reads' same = ok_same x y (sym reads ∙ (ap event_of same ∙ reads'))

-- a body is that of one item
pub one_body : (x y : PlainItem) → IsInForm x → IsInForm y → body_of x ≡ body_of y → x ≡ y
one_body (header build) (header other) is is' same =
    ap header (same_tail 1 1 build other (same_tail 0 0 (1 ∷ build) (1 ∷ other) same))
one_body (header build) (asked one) is is' same =
    let none : 0 ≡ 1 = same_head 0 1 (1 ∷ build) (who_bytes one.by ++ event_text one.event) same in
    absurd (omega (arith, none))
one_body (asked one) (header build) is is' same =
    let none : 1 ≡ 0 = same_head 1 0 (who_bytes one.by ++ event_text one.event) (1 ∷ build) same in
    absurd (omega (arith, none))
one_body (asked one) (asked other) is is' same =
    let parts = one_who one.by other.by (event_text one.event) (event_text other.event) is.0 is'.0
    (same_tail 1 1 (who_bytes one.by ++ event_text one.event) (who_bytes other.by ++ event_text other.event) same) in
    let event : one.event ≡ other.event = one_event one.event other.event is.1 is'.1 parts.1 in
    ap (λ (e : PlainEvent). asked (record { event = e; by = one.by })) event
    ∙ ap (λ (by : Option (List ℕ)). asked (record { event = other.event; by = by })) parts.0

-- a sum has 32 bytes
pub length-sum : (before body : List ℕ) → length (sum_after before body) ≡ 32
length-sum before body = length-sha256 (before ++ body)

-- a text that is a sum and a body has one body
pub one_text : (before other body rest : List ℕ) →
    sum_after before body ++ body ≡ sum_after other rest ++ rest → body ≡ rest
one_text before other body rest same =
    (same_front (sum_after before body) (sum_after other rest) body rest
    (length-sum before body ∙ sym (length-sum other rest)) same).1
