-- What a ledger keeps, and as which bytes.
use Rattle.std.specs.Prelude.{ℕ, ◌≡◌, List, [], ◌∷◌, ◌++◌, length, Option, Some, None, Ok, IsTrue}
use Rattle.mtp_codes.specs.Names.{is_name}
use Rattle.pol_events.specs.Events.{PlainEvent, plain_event}
use Rattle.pol_events.specs.Orderly.{is_orderly}
use Rattle.event_json.specs.Lines.{event_of}
use Rattle.pol_record.specs.Texts.{event_text}
use Rattle.pol_ledger.specs.Builds.{is_build}
use Rattle.pol_ledger.specs.Sums.{sum_after}
use Rattle.pol_ledger.specs.declared.items.Asked.{Asked}
use Rattle.pol_ledger.specs.declared.items.LedgerItem.{LedgerItem}
use Rattle.pol_ledger.specs.declared.items.LedgerItem.TheVariants as of_items

-- an event, and the name of who asked for it, if one is named
pub record PlainAsked : Type 0 where
  pub event : PlainEvent
  pub by : Option (List ℕ)

-- an item: the header, with what names the build that began the ledger; or an event that was asked for
pub data PlainItem : Type 0 where
  header : (build : List ℕ) → PlainItem
  asked : (one : PlainAsked) → PlainItem

-- what contracts see of an event that was asked for
abbrev pub plain_asked : Asked → PlainAsked
plain_asked one = record { event = plain_event one.event; by = one.by }

-- what contracts see of an item
abbrev pub plain_item : LedgerItem → PlainItem
plain_item (of_items.Header build) = header build
plain_item (of_items.Asked one) = asked (plain_asked one)

-- the bytes of who asked: the length of the name and the name; one zero where nobody is named
abbrev pub who_bytes : Option (List ℕ) → List ℕ
who_bytes None = 0 ∷ []
who_bytes (Some name) = length name ∷ name

-- The body of a record. A header: the kind 0, the form's version 1, and what names the build. An event that was asked
-- for: the kind 1, who asked, and the event's text.
abbrev pub body_of : PlainItem → List ℕ
body_of (header build) = 0 ∷ 1 ∷ build
body_of (asked one) = 1 ∷ (who_bytes one.by ++ event_text one.event)

-- who asked is a name, where one is named
abbrev pub IsWho : Option (List ℕ) → Type 0
IsWho None = Unit {0}
IsWho (Some name) = IsTrue (is_name name)

-- the item can be read from its body: its names are names, and its event's text is read as the event
abbrev pub IsInForm : PlainItem → Type 0
IsInForm (header build) = IsTrue (is_build build)
IsInForm (asked one) = IsWho one.by × (event_of (event_text one.event) ≡ Ok one.event)

-- an event is as a line says it
abbrev pub IsSound : PlainItem → Type 0
IsSound (header build) = Unit {0}
IsSound (asked one) = IsTrue (is_orderly one.event)

-- the sum of the last of these records, behind records with this sum
abbrev pub sum_from : List ℕ → List PlainItem → List ℕ
sum_from before [] = before
sum_from before (item ∷ items) = sum_from (sum_after before (body_of item)) items

-- the sum of the last of these records; no bytes where there is none
abbrev pub sum_of : List PlainItem → List ℕ
sum_of items = sum_from [] items

-- the text of an item's record behind those of others: its sum, which goes on from theirs, and its body
abbrev pub text_behind : List PlainItem → PlainItem → List ℕ
text_behind before item = sum_after (sum_of before) (body_of item) ++ body_of item
