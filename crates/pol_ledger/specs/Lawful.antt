-- The laws of a ledger as a chronicle of its items.
use Rattle.std.proofs.Common.{◌≡◌, ◌+◌, ◌<◌, ◌≤◌, Bool, true, false, List, ℕ, Option, Some, None, [], ◌∷◌, ◌++◌, length, map, refl, sym, ◌∙◌, ap, arith}
use Rattle.std.proofs.lemmas.List.{length-map, map_push}
use Rattle.mtp_codes.specs.declared.limits.TheConstants.{LONGEST_HISTORY}
use Rattle.pol_events.specs.Events.{PlainEvent}
use Rattle.pol_history.specs.Answers.{answer_of}
use Rattle.pol_history.specs.Looking.{History}
use Rattle.pol_history.specs.Runs.{entry_of, history_after, is_recorded, recorded}
use Rattle.pol_kept.specs.Work.{IsLawful}
use Rattle.pol_store.specs.Lawful.{room_recorded}
use Rattle.pol_ledger.specs.Bodies.{one_body, one_text}
use Rattle.pol_ledger.specs.Items.{PlainAsked, PlainItem, asked, body_of, header, sum_of}
use Rattle.pol_ledger.specs.Work.{BegunLedger, IsTextOf, history_of, items_of, keeps_item, ledger_after, ledger_answer, ledger_work}

-- an entry makes a history longer by one at most
length-recorded : (history : History) (event : PlainEvent) →
    length (recorded (entry_of history event) history) ≤ length history + 1
length-recorded history event = by_answer (is_recorded (answer_of history event)) refl
  where
    by_answer : (kept : Bool) → is_recorded (answer_of history event) ≡ kept →
        length (recorded (entry_of history event) history) ≤ length history + 1
    by_answer true is = rw is (omega arith)
    by_answer false is = rw is (omega arith)

-- a history is no longer than the events that it comes of
length-after : (history : History) (events : List PlainEvent) →
    length (history_after history events) ≤ length history + length events
length-after history [] = omega arith
length-after history (event ∷ events) =
    omega (
      arith,
      length-recorded history event,
      length-after (recorded (entry_of history event) history) events,
    )

-- the history of a ledger is no longer than what was asked for
pub length-history : (so_far : List PlainAsked) → length (history_of so_far) ≤ length so_far
length-history so_far =
    let events = map (λ (one : PlainAsked). one.event) so_far in
    omega (arith, length-after [] events, length-map so_far (λ (one : PlainAsked). one.event))

-- an item that is kept is the last one then
grows : (state : Option BegunLedger) (item : PlainItem) → keeps_item (ledger_answer state item) ≡ true →
    items_of (ledger_after state item) ≡ items_of state ++ item ∷ []
grows None (header build) is = refl
grows None (asked one) is = cc
grows (Some ledger) (header build) is = cc
grows (Some ledger) (asked one) is =
    rw is (ap (λ (items : List PlainItem). header ledger.build ∷ items) (map_push asked ledger.so_far one))

-- an item that isn't kept changes nothing
stays : (state : Option BegunLedger) (item : PlainItem) → keeps_item (ledger_answer state item) ≡ false →
    ledger_after state item ≡ state
stays None (header build) is = cc
stays None (asked one) is = refl
stays (Some ledger) (header build) is = refl
stays (Some ledger) (asked one) is = rw is refl

-- where there is room, an item that has its place is kept
has_room : (state : Option BegunLedger) (item : PlainItem) (text : List ℕ) → IsTextOf (items_of state) item text →
    length (items_of state) < LONGEST_HISTORY + 1 → keeps_item (ledger_answer state item) ≡ true
has_room None (header build) text is room = refl
has_room None (asked one) text is room = absurd is.place
has_room (Some ledger) (header build) text is room = absurd is.place
has_room (Some ledger) (asked one) text is room =
    let items = length-map ledger.so_far asked in
    let few = length-history ledger.so_far in
    room_recorded (history_of ledger.so_far) one.event (omega (arith, room, items, few))

-- a text is that of one item
one_item : (before : List PlainItem) (one other : PlainItem) (text : List ℕ) → IsTextOf before one text →
    IsTextOf before other text → one ≡ other
one_item before one other text is is' =
    one_body one other is.form is'.form
    (one_text (sum_of before) (sum_of before) (body_of one) (body_of other) (sym is.written ∙ is'.written))

-- an item that is kept is the last one, one that isn't changes nothing, and a text is that of one item
pub ledgers_are_lawful : IsLawful ledger_work
ledgers_are_lawful = record { grows = grows; stays = stays; has_room = has_room; one_item = one_item }
