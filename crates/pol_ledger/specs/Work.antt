-- A ledger as a chronicle of its items.
use Rattle.std.specs.Prelude.{◌≡◌, ◌+◌, List, ℕ, [], ◌∷◌, ◌++◌, map, Bool, true, false, if◌then◌else◌, Option, Some, None}
use Rattle.mtp_codes.specs.declared.limits.TheConstants.{LONGEST_HISTORY}
use Rattle.pol_history.specs.Answers.{answer_of}
use Rattle.pol_history.specs.Looking.{History}
use Rattle.pol_history.specs.Runs.{history_after, is_recorded}
use Rattle.pol_kept.specs.Work.{ChronicleWork}
use Rattle.pol_ledger.specs.Items.{IsInForm, PlainAsked, PlainItem, asked, header, text_behind}
use Rattle.pol_ledger.specs.declared.items.LedgerAnswer.{LedgerAnswer}
use Rattle.pol_ledger.specs.declared.items.LedgerAnswer.TheVariants.{Begun, Misplaced, Answered}

-- a ledger that was begun: what names the build that began it, and what was asked for since, the oldest first
pub record BegunLedger : Type 0 where
  pub build : List ℕ
  pub so_far : List PlainAsked

-- the history of a ledger's plant: what was asked for, in order
abbrev pub history_of : List PlainAsked → History
history_of so_far = history_after [] (map (λ (one : PlainAsked). one.event) so_far)

-- the items of a ledger: none before it was begun, and else the header and what was asked for
abbrev pub items_of : Option BegunLedger → List PlainItem
items_of None = []
items_of (Some ledger) = header ledger.build ∷ map asked ledger.so_far

-- what a ledger answers: a header begins it, and an event is answered as the plant does where it was begun
abbrev pub ledger_answer : Option BegunLedger → PlainItem → LedgerAnswer
ledger_answer None (header build) = Begun
ledger_answer None (asked one) = Misplaced
ledger_answer (Some ledger) (header build) = Misplaced
ledger_answer (Some ledger) (asked one) = Answered (answer_of (history_of ledger.so_far) one.event)

-- what was asked for, with one more: unless the history is full
abbrev pub asked_after : List PlainAsked → PlainAsked → List PlainAsked
asked_after so_far one = if is_recorded (answer_of (history_of so_far) one.event) then so_far ++ one ∷ [] else so_far

-- the ledger after an item
abbrev pub ledger_after : Option BegunLedger → PlainItem → Option BegunLedger
ledger_after None (header build) = Some (record { build = build; so_far = [] })
ledger_after None (asked one) = None
ledger_after (Some ledger) (header build) = Some ledger
ledger_after (Some ledger) (asked one) =
    Some (record { build = ledger.build; so_far = asked_after ledger.so_far one })

-- an item that is answered so is kept
abbrev pub keeps_item : LedgerAnswer → Bool
keeps_item Begun = true
keeps_item Misplaced = false
keeps_item (Answered answer) = is_recorded answer

-- the item may follow these: a header first, and an event behind a header
abbrev pub HasPlace : List PlainItem → PlainItem → Type 0
HasPlace [] (header build) = Unit {0}
HasPlace [] (asked one) = ⊥
HasPlace (first ∷ items) (header build) = ⊥
HasPlace (header begun ∷ items) (asked one) = Unit {0}
HasPlace (asked first ∷ items) (asked one) = ⊥

-- the text is that of the item's record behind those of these items: it is written so, the item can be read from it,
-- and it may follow them
pub record IsTextOf (before : List PlainItem) (item : PlainItem) (text : List ℕ) : Type 0 where
  pub written : text ≡ text_behind before item
  pub form : IsInForm item
  pub place : HasPlace before item

-- A ledger keeps a header and then at most as many events as a history has, each as the text of its record.
abbrev pub ledger_work : ChronicleWork (Option BegunLedger) PlainItem LedgerAnswer
ledger_work = record {
  items = items_of;
  answer_of = ledger_answer;
  after = ledger_after;
  keeps = keeps_item;
  IsTextOf = IsTextOf;
  most = LONGEST_HISTORY + 1;
}
