-- What the job on an operated plant keeps, and what it writes.
use Rattle.std.specs.Prelude.{ℕ, List, [], ◌∷◌, true, Option, Some, None}
use Rattle.kept_jobs.specs.Leaving.{KeptJob}
use Rattle.mtp_json.specs.declared.fault.JsonFault.{JsonFault}
use Rattle.pol_jobs.specs.LineWork.{Output, after_all, output_by, replies}
use Rattle.pol_ledger.specs.Items.{PlainAsked, PlainItem, asked, header}
use Rattle.pol_ledger.specs.Opens.{begun_anyway}
use Rattle.pol_ledger.specs.Work.{BegunLedger}
use Rattle.pol_operate.specs.Operated.{known_items}
use Rattle.pol_operate.specs.Work.{Known, operate_work}

-- what was asked for among some items
abbrev pub asked_in : List PlainItem → List PlainAsked
asked_in [] = []
asked_in (header build ∷ items) = asked_in items
asked_in (asked one ∷ items) = one ∷ asked_in items

-- the ledger whose items these are; none was begun where there are none
abbrev pub ledger_of : List PlainItem → Option BegunLedger
ledger_of [] = None
ledger_of (header build ∷ items) = Some (record { build = build; so_far = asked_in items })
ledger_of (asked one ∷ items) = None

-- what is known before the first line: no policy, and this ledger
abbrev pub first_known : Option BegunLedger → Known
first_known ledger = record { policy = None; ledger = ledger }

-- what is known behind some lines, each with its line feed
abbrev pub known_behind : Option BegunLedger → List (List ℕ) → Known
known_behind ledger lines = after_all operate_work (first_known ledger) lines

-- the items of the ledger behind some lines
abbrev pub items_behind : Option BegunLedger → List (List ℕ) → List PlainItem
items_behind ledger lines = known_items (known_behind ledger lines)

-- what is replied to some lines
abbrev pub answers_behind : Option BegunLedger → List (List ℕ) → List ℕ
answers_behind ledger lines = replies operate_work (first_known ledger) lines

-- As a job on kept items: it begins a ledger where none was begun, and keeps behind the old items those that its lines
-- ask for.
abbrev pub operate_job : KeptJob PlainItem
operate_job = record {
  items_with = λ old lines. items_behind (begun_anyway (ledger_of old)) lines;
  answers_with = λ old lines. answers_behind (begun_anyway (ledger_of old)) lines;
  begins = true;
}

-- the output of the job on this ledger
abbrev pub operated : Option BegunLedger → Output JsonFault
operated ledger = output_by operate_work (first_known ledger)
