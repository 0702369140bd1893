-- The exchange of a module for another.
use Rattle.std.specs.Prelude.{ℕ, ◌≡◌, ◌+◌, ◌<◌, List, Option, Some, None, option_map, option_and_then}
use Rattle.std.specs.Map.{lookup}
use Rattle.std.specs.Str.{bytes_eq}
use Rattle.mtp_procs.specs.Covers.{cover_fault, missing_by}
use Rattle.chart_core.specs.Charts.{plain_chart}
use Rattle.pol_events.specs.Bound.{bound_role}
use Rattle.pol_runs.specs.Runs.{PlainRun}
use Rattle.mtp_desc.specs.Plain.{PlainDescription}
use Rattle.pol_events.specs.declared.answer.Rule.{Rule}
use Rattle.pol_events.specs.declared.answer.Rule.TheVariants.{HeldBack}
use Rattle.pol_slots.specs.Slots.{slot_tag, slot_ticket, slot_description, slot_begins, IsUnreported}
use Rattle.pol_slots.specs.declared.slot.Slot.{Slot}
use Rattle.pol_table.specs.Rows.{Rows, part_of, with_part}

-- a module is docked under the tag
pub record IsDockedAt (tag : List ℕ) (rows : Rows Slot) : Type 0 where
  pub slot : Slot
  pub found : part_of tag rows ≡ Some slot
  pub docked : slot_ticket slot ≡ None

-- the slot after its module went away under the ticket
pub record GoesAway (ticket : ℕ) (old new : Slot) : Type 0 where
  pub answer : ticket ≡ slot_begins old + 1
  pub begins : slot_begins new ≡ ticket
  pub away : slot_ticket new ≡ Some ticket
  pub tag : slot_tag new ≡ slot_tag old
  pub description : slot_description new ≡ slot_description old
  pub unreported : IsUnreported new

-- the table after the module of the tag went away under the ticket
pub record SendsAway (tag : List ℕ) (ticket : ℕ) (slot : Slot) (old new : Rows Slot) : Type 0 where
  pub after : Slot
  pub goes : GoesAway ticket slot after
  pub table : new ≡ with_part tag old after

-- each module has begun fewer exchanges than a ticket can count
abbrev pub HaveBegunFew : Rows Slot → Type 0
HaveBegunFew rows = (tag : List ℕ) (slot : Slot) → part_of tag rows ≡ Some slot → slot_begins slot < 4294967295

-- what the chart of a batch's run asks for and the description lacks, for the role that the tag plays
abbrev pub run_lacks : List ℕ → PlainDescription → List ℕ → PlainRun → Option Rule
run_lacks tag description batch run =
    option_map (HeldBack batch)
    (option_and_then (λ role. option_map (missing_by role) (cover_fault (plain_chart run.chart) role description))
    (bound_role run.binds tag))

-- what the chart of the batch asks for and the description lacks, for the role that the tag plays; none without a run
abbrev pub lacks : List (List ℕ × PlainRun) → List ℕ → PlainDescription → List ℕ → Option Rule
lacks runs tag description batch =
    option_and_then (run_lacks tag description batch) (lookup (bytes_eq batch) runs)
