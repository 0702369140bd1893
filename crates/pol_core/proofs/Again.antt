-- Another module in place of the one that is away.
use Rattle.std.proofs.Common.{◌≡◌, ℕ, ◌+◌, suc, Bool, true, false, cond, List, ◌∷◌, Option, Some, None, is_some, refl}
use Rattle.std.proofs.Common.{ap, sym, ◌∙◌, subst, arith}
use Rattle.std.specs.Prelude.{if◌then◌else◌, map, option_and_then}
use Rattle.std.specs.Map.{lookup}
use Rattle.std.specs.Option.{option_map, option_or}
use Rattle.std.proofs.Math.Path.{fun_ext}
use Rattle.mtp_codes.specs.Faults.{first_of}
use Rattle.std.specs.Str.{bytes_eq}
use Rattle.mtp_codes.specs.declared.cover.CoverFault.{CoverFault}
use Rattle.mtp_codes.proofs.Names.{same_true}
use Rattle.mtp_desc.specs.Plain.{PlainDescription}
use Rattle.mtp_procs.specs.Covers.{cover_fault, missing_by}
use Rattle.chart_core.specs.Charts.{plain_chart}
use Rattle.chart_core.specs.Roles.{PlainChart}
use Rattle.pol_events.specs.Bound.{bound_role, given}
use Rattle.pol_events.specs.Events.{exchange_end}
use Rattle.pol_events.specs.declared.answer.Answer.{Answer}
use Rattle.pol_events.specs.declared.answer.Rule.{Rule}
use Rattle.pol_events.specs.declared.answer.Rule.TheVariants.{HeldBack}
use Rattle.pol_history.specs.Batches.{Started, chart_by, holder_of}
use Rattle.pol_history.specs.Looking.{History, past, past_of_batch, recipes}
use Rattle.pol_history.specs.Modules.{dockings_by}
use Rattle.pol_history.specs.Rules.{uncovered_by, uncovered_in, held_back}
use Rattle.pol_history.proofs.Accepted.{paired}
use Rattle.pol_slots.specs.Slots.{slot_ticket, slot_begins, IsDocked, IsUnchanged}
use Rattle.pol_slots.specs.declared.slot.Slot.{Slot}
use Rattle.pol_table.specs.Rows as tables
use Rattle.pol_table.specs.Rows.{Row, Rows, look, part_of, with_part}
use Rattle.pol_runs.specs.Runs.{PlainRun}
use Rattle.pol_core.specs.Batches.{IsRun, RunsMirror}
use Rattle.pol_core.specs.Exchanges.{run_lacks, lacks}
use Rattle.pol_core.specs.Seats.{users_of, SlotKeeps, IsTaken, IsSeated, SeatsMirror}
use Rattle.pol_core.proofs.Keeping.{unchanged_keeps}
use Rattle.pol_core.proofs.Seating.{part_changes}
use Rattle.pol_core.proofs.Telling.{has_row, seated_slot}
use Rattle.pol_core.proofs.Unfit.{holder_same, watchers_same}

-- where the module was away and no exchange was begun since, it was docked once more
pub docked_once_more : (begins again dockings : ℕ) → again ≡ begins → begins + 1 ≡ dockings + 1
    → again + 1 ≡ suc dockings + 0
docked_once_more begins again dockings same away = omega (arith, same, away)

-- the slot keeps the past that ends in the end of the exchange
pub end_keeps : (tag : List ℕ) (ticket : ℕ) (description : PlainDescription) (old new : Slot)
    (past : History) (at : ℕ) (answer : Answer) → slot_ticket old ≡ Some ticket →
    IsDocked old new description → SlotKeeps tag old past →
    SlotKeeps tag new (paired (exchange_end at tag ticket description) answer ∷ past)
end_keeps tag ticket description old new past at answer away docks keeps =
    record {
      tag_is = docks.tag ∙ keeps.tag_is;
      is_there = λ is. cc;
      ticket = docks.docked;
      description = ap Some (sym docks.description);
      begins = docks.begins ∙ keeps.begins;
      dockings = docked_once_more (slot_begins old) (slot_begins new) (dockings_by past) docks.begins
          (keeps.dockings ∙ ap (λ ticket. dockings_by past + (if is_some ticket then 1 else 0)) away)
          ∙ ap (λ ticket. suc (dockings_by past) + (if is_some ticket then 1 else 0)) (sym docks.docked);
      controls = docks.unreported.controls;
      values = docks.unreported.values;
    }

-- where nothing that contracts see of a slot changes, the table keeps the history
pub stays_mirrored : (history : History) (tag : List ℕ) (slot after : Slot) (rows : Rows Slot) →
    part_of tag rows ≡ Some slot → IsUnchanged slot after → SeatsMirror rows history →
    SeatsMirror (with_part tag rows after) history
stays_mirrored history tag slot after rows found same mirror other =
    let has = has_row tag rows slot found in
    let keeps = unchanged_keeps tag slot after (past tag history) same.same_module same.controls same.values
    (seated_slot history tag rows slot mirror found) in
    let taken : IsTaken tag has.row (past tag history) (users_of history tag)
    = subst (λ found. IsSeated tag found (past tag history) (users_of history tag)) has.found (mirror tag) in
    subst (λ found. IsSeated other found (past other history) (users_of history other))
    (sym (part_changes tag has.row rows after has.found other))
    (go has.row keeps taken.held_by taken.watched_by (bytes_eq tag other) refl)
  where
    go : (row : Row Slot) → SlotKeeps tag after (past tag history) →
        row.holder ≡ (users_of history tag).holder → row.watchers ≡ (users_of history tag).watchers →
        (same : Bool) → bytes_eq tag other ≡ same →
        IsSeated other (cond same (Some (record row { part = after })) (look other rows))
        (past other history) (users_of history other)
    go row keeps held watched false apart = mirror other
    go row keeps held watched true same =
        subst (λ other. IsSeated other (Some (record row { part = after })) (past other history)
        (users_of history other)) (same_true tag other same)
        (record { slot_keeps = keeps; held_by = held; watched_by = watched })

-- ---- HeldBack

-- the rule names what is missing
mapped_held : (batch role : List ℕ) (found : Option CoverFault) →
    option_map (λ fault. HeldBack batch (missing_by role fault)) found
    ≡ option_map (HeldBack batch) (option_map (missing_by role) found)
mapped_held batch role None = refl
mapped_held batch role (Some fault) = refl

-- for the role that the tag plays, if it plays one
then_held : (batch : List ℕ) (chart : PlainChart) (description : PlainDescription) (role : Option (List ℕ)) →
    option_and_then (λ role. option_map (λ fault. HeldBack batch (missing_by role fault))
    (cover_fault chart role description)) role
    ≡ option_map (HeldBack batch) (option_and_then (λ role. option_map (missing_by role)
    (cover_fault chart role description)) role)
then_held batch chart description None = refl
then_held batch chart description (Some role) = mapped_held batch role (cover_fault chart role description)

-- what a run lacks is what the rule of its batch names
lacks_kept : (history : History) (tag batch : List ℕ) (description : PlainDescription) (found : Option PlainRun) →
    IsRun batch found (past_of_batch batch history) (recipes history) →
    option_and_then (run_lacks tag description batch) found ≡ uncovered_in history tag description batch
lacks_kept history tag batch description None keeps =
    sym (ap (λ past. uncovered_by (recipes history) tag description batch past) keeps)
lacks_kept history tag batch description (Some run) keeps =
    sym (then_held batch (plain_chart run.chart) description (bound_role run.binds tag))
    ∙ ap (λ binds. by_role run (bound_role binds tag)) keeps.binds_are
    ∙ sym (ap (λ found. option_and_then (by_chart found) found) keeps.started
    ∙ ap (option_and_then
    (λ chart. option_and_then (λ role. option_map (λ fault. HeldBack batch (missing_by role fault))
    (cover_fault chart role description))
    (bound_role (given keeps.binds) tag))) keeps.charted)
  where
    by_role : PlainRun → Option (List ℕ) → Option Rule
    by_role run role =
        option_and_then (λ role. option_map (λ fault. HeldBack batch (missing_by role fault))
        (cover_fault (plain_chart run.chart) role description)) role

    by_chart : Option Started → Started → Option Rule
    by_chart found started =
        option_and_then
        (λ chart. option_and_then (λ role. option_map (λ fault. HeldBack batch (missing_by role fault))
        (cover_fault chart role description)) (bound_role (given started.binds) tag))
        (chart_by (recipes history) (Some started))

-- what the runs lack is what the rules of their batches name
lacks_same : (history : History) (tag : List ℕ) (description : PlainDescription)
    (runs : List (List ℕ × PlainRun)) → RunsMirror runs history → (batch : List ℕ) →
    lacks runs tag description batch ≡ uncovered_in history tag description batch
lacks_same history tag description runs batches batch =
    lacks_kept history tag batch description (lookup (bytes_eq batch) runs) (batches batch)

-- so HeldBack by the tables is the defined rule
pub held_back_same : (history : History) (tag : List ℕ) (description : PlainDescription)
    (rows : Rows Slot) (runs : List (List ℕ × PlainRun)) → SeatsMirror rows history → RunsMirror runs history →
    option_or (option_and_then (lacks runs tag description) (tables.holder_of tag rows))
    (first_of (map (lacks runs tag description) (tables.watchers_of tag rows)))
    ≡ held_back history tag description
held_back_same history tag description rows runs mirror batches =
    ap (λ rule. option_or (option_and_then rule (tables.holder_of tag rows))
    (first_of (map rule (tables.watchers_of tag rows))))
    (fun_ext (lacks_same history tag description runs batches))
    ∙ ap (λ holder. option_or (option_and_then (uncovered_in history tag description) holder)
    (first_of (map (uncovered_in history tag description) (tables.watchers_of tag rows))))
    (holder_same rows history tag mirror)
    ∙ ap (λ watchers. option_or (option_and_then (uncovered_in history tag description) (holder_of history tag))
    (first_of (map (uncovered_in history tag description) watchers)))
    (watchers_same rows history tag mirror)
