-- A module is plugged, or a rule is against it.
use Rattle.std.proofs.Common.{◌≡◌, ◌∙◌, ℕ, List, sym, ap, is_some, refl, length, ◌<◌, ◌≤◌, arith, None}
use Rattle.std.specs.Prelude.{unwrap_or}
use Rattle.std.proofs.lemmas.Bool.{lt-leb, le-leb}
use Rattle.mtp_codes.specs.declared.limits.TheConstants.{MOST_MODULES}
use Rattle.mtp_desc.specs.PlainDescription.{plain_description}
use Rattle.pol_events.specs.declared.answer.Answer.TheVariants.{Done}
use Rattle.pol_history.specs.Looking.{past}
use Rattle.pol_slots.specs.declared.slot.Slot.{Slot}
use Rattle.pol_table.specs.Answers.{dock_fault}
use Rattle.pol_table.specs.Rows.{Rows, look}
use Rattle.pol_table.specs.declared.faults.DockFault.{DockFault}
use Rattle.pol_table.specs.declared.faults.DockFault.TheVariants as fault
use Rattle.pol_core.proofs.Plugging.{plug_keeps, refused_answered, tag_taken_is, full_answered, plug_answered}
use Rattle.pol_events.proofs.Options.{not_some}
use Rattle.pol_core.proofs.Telling.{part_some, copied_some}
use Rattle.pol_core.proofs.modules.plug.Goals as goal

pub returns-then-is_some-clause-answered : goal.returns-then-is_some-clause-answered
returns-then-is_some-clause-answered c =
    λ history at seats counted room.
    refused_answered history _ _ c.args.modules.now
    (tag_taken_is history at c.args.tag (plain_description c.args.description.now.value) c.args.modules.now
    (look c.args.tag c.args.modules.now) refl
    (sym (part_some (look c.args.tag c.args.modules.now)) ∙ ap is_some (sym c.get.ensures)
    ∙ copied_some c.get.result ∙ sym c.is_some.ensures ∙ c.if-is_some.true) seats room)
    refl seats counted

pub returns-then-len-ge-MOST_MODULES-clause-answered : goal.returns-then-len-ge-MOST_MODULES-clause-answered
returns-then-len-ge-MOST_MODULES-clause-answered c =
    λ history at seats counted room.
    full_answered history at c.args.tag (plain_description c.args.description.now.value) c.args.modules.now
    (not_some (look c.args.tag c.args.modules.now)
    (sym (part_some (look c.args.tag c.args.modules.now)) ∙ ap is_some (sym c.get.ensures)
    ∙ copied_some c.get.result ∙ sym c.is_some.ensures ∙ c.if-is_some.false))
    (let full = c.if-len-ge-MOST_MODULES.true in let len = c.len.ensures in
    let many : MOST_MODULES ≤ length c.args.modules.now = omega arith in
    le-leb MOST_MODULES (length c.args.modules.now) many)
    seats counted room

pub returns-in-Ok-clause-answered : goal.returns-in-Ok-clause-answered
returns-in-Ok-clause-answered c =
    λ history at seats counted room.
    plug_answered history at c.args.tag (plain_description c.args.description.now.value) c.in_ok-slot.slot
    c.args.modules.now c.dock.new.self
    (not_some (look c.args.tag c.args.modules.now)
    (sym (part_some (look c.args.tag c.args.modules.now)) ∙ ap is_some (sym c.get.ensures)
    ∙ copied_some c.get.result ∙ sym c.is_some.ensures ∙ c.if-is_some.false))
    (let few = c.if-len-ge-MOST_MODULES.false in let len = c.len.ensures in
    let below : length c.args.modules.now < MOST_MODULES = omega arith in
    lt-leb MOST_MODULES (length c.args.modules.now) below)
    (plug_keeps c.args.tag c.args.tag c.in_ok-slot.slot (past c.args.tag history) at
    (plain_description c.args.description.now.value) Done
    c.in_ok-slot.ensures.tag (c.in_ok-slot.ensures.description
    ∙ (ap plain_description c.in_ok-clone.ensures.cases)) c.in_ok-slot.ensures.begins c.in_ok-slot.ensures.docked
    c.in_ok-slot.ensures.unreported)
    c.in-Ok.ensures.docked c.in-Ok.ensures.count seats counted room

-- a part is docked under a tag that isn't there, where there is room; unless there is no memory
memory_alone : (tag : List ℕ) (rows : Rows Slot) (refused : DockFault) → look tag rows ≡ None →
    length rows < MOST_MODULES → refused ≡ unwrap_or (dock_fault tag rows) fault.Memory → refused ≡ fault.Memory
memory_alone tag rows refused none few is = is ∙ rw (none, lt-leb MOST_MODULES (length rows) few) refl

pub unreachable-requires : goal.unreachable-requires
unreachable-requires c =
    let taken = c.in-Err-default-TagTaken in
    let room = c.if-len-ge-MOST_MODULES.false in
    let len = c.len.ensures in
    let clash : fault.TagTaken ≡ fault.Memory = sym taken.field-0-1-is
    ∙ memory_alone c.args.tag c.args.modules.now taken.field-0-1
    (not_some (look c.args.tag c.args.modules.now)
    (sym (part_some (look c.args.tag c.args.modules.now)) ∙ ap is_some (sym c.get.ensures)
    ∙ copied_some c.get.result ∙ sym c.is_some.ensures ∙ c.if-is_some.false))
    (omega (arith, room, len)) taken.ensures.err in cc

pub unreachable-requires-in-Err-default-PlantFull : goal.unreachable-requires-in-Err-default-PlantFull
unreachable-requires-in-Err-default-PlantFull c =
    let full = c.in-Err-default-PlantFull in
    let room = c.if-len-ge-MOST_MODULES.false in
    let len = c.len.ensures in
    let clash : fault.PlantFull ≡ fault.Memory = sym full.field-0-1-is
    ∙ memory_alone c.args.tag c.args.modules.now full.field-0-1
    (not_some (look c.args.tag c.args.modules.now)
    (sym (part_some (look c.args.tag c.args.modules.now)) ∙ ap is_some (sym c.get.ensures)
    ∙ copied_some c.get.result ∙ sym c.is_some.ensures ∙ c.if-is_some.false))
    (omega (arith, room, len)) full.ensures.err in cc
