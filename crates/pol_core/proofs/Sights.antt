-- What a batch sees by the table is what it sees by looking back.
use Rattle.std.proofs.Common.{◌≡◌, ℕ, List, Option, Some, None, refl, ap, sym, ◌∙◌}
use Rattle.std.specs.Option.{option_map}
use Rattle.mtp_codes.specs.declared.value.Value.{Value}
use Rattle.mtp_modes.specs.declared.view.ServiceView.{ServiceView}
use Rattle.pol_events.specs.Bound.{bound_tag}
use Rattle.pol_events.specs.declared.event.Bind.{Bind}
use Rattle.pol_history.specs.Following.{sight_in, reading_in, service_sight, variable_sight, sights_by}
use Rattle.pol_history.specs.Looking.{History, past}
use Rattle.pol_history.specs.Modules.{Docking, absent, docked, away, docking_by, ticket_of, seen_with, control_by}
use Rattle.pol_history.specs.Modules.{view_by, value_by}
use Rattle.pol_slots.specs.Sights.{sight_of, reading_of, slot_sight, slot_reading}
use Rattle.pol_slots.specs.Slots.{slot_ticket, slot_description}
use Rattle.pol_slots.specs.declared.slot.Slot.{Slot}
use Rattle.pol_table.specs.Rows.{Row, Rows, look}
use Rattle.pol_core.specs.Calls.{module_sight, module_value}
use Rattle.pol_core.specs.Seats.{Users, users_of, SlotKeeps, IsSeated, SeatsMirror}
use Rattle.pol_core.specs.Seen.{slot_sees, slot_reads, tag_sees, tag_reads, table_sights}

-- what is seen of a service of a module that is there, by its ticket
sight_there : (docking : Docking) (view : Option ServiceView) → (docking ≡ absent → ⊥) →
    sight_of (ticket_of docking) view ≡ sight_in docking view
sight_there absent view there = absurd (there refl)
sight_there (docked count) view there = refl
sight_there (away ticket) view there = refl

-- what is seen of a variable, likewise
reading_there : (docking : Docking) (found : Option Value) → (docking ≡ absent → ⊥) →
    reading_of (ticket_of docking) found ≡ reading_in docking found
reading_there absent found there = absurd (there refl)
reading_there (docked count) found there = refl
reading_there (away ticket) found there = refl

-- where the module is there, what is seen of a service is the same whoever looks
pub seen_there : (docking : Docking) (view : Option ServiceView) → (docking ≡ absent → ⊥) →
    sight_in docking view ≡ module_sight docking view
seen_there absent view there = absurd (there refl)
seen_there (docked count) view there = refl
seen_there (away ticket) view there = refl

-- where the module is there, a value is what it is
pub value_there : (docking : Docking) (found : Option Value) → (docking ≡ absent → ⊥) →
    found ≡ module_value docking found
value_there absent found there = absurd (there refl)
value_there (docked count) found there = refl
value_there (away ticket) found there = refl

-- what a slot shows of a service is what its module's past shows
pub slot_sight_is : (tag service : List ℕ) (slot : Slot) (past : History) → SlotKeeps tag slot past →
    slot_sight slot service ≡ sight_in (docking_by past) (view_by service past)
slot_sight_is tag service slot past keeps =
    ap (λ last. sight_of (slot_ticket slot) (option_map (seen_with service (Some (slot_description slot))) last))
    (keeps.controls service)
    ∙ ap (λ ticket. sight_of ticket (option_map (seen_with service (Some (slot_description slot)))
    (control_by service past))) keeps.ticket
    ∙ ap (λ found. sight_of (ticket_of (docking_by past)) (option_map (seen_with service found)
    (control_by service past))) (sym keeps.description)
    ∙ sight_there (docking_by past) (view_by service past) keeps.is_there

-- so is what it shows of a variable
slot_reading_is : (tag name : List ℕ) (slot : Slot) (past : History) → SlotKeeps tag slot past →
    slot_reading slot name ≡ reading_in (docking_by past) (value_by name past)
slot_reading_is tag name slot past keeps =
    ap (reading_of (slot_ticket slot)) (keeps.values name)
    ∙ ap (λ ticket. reading_of ticket (value_by name past)) keeps.ticket
    ∙ reading_there (docking_by past) (value_by name past) keeps.is_there

-- so it is of a tag, whether it has a row or not
seen_seated : (tag service : List ℕ) (found : Option (Row Slot)) (past : History) (users : Users) →
    IsSeated tag found past users →
    slot_sees (option_map (λ row. row.part) found) service ≡ sight_in (docking_by past) (view_by service past)
seen_seated tag service None past users seated =
    ap (λ docking. sight_in docking (view_by service past)) (sym seated.is_absent)
seen_seated tag service (Some row) past users seated = slot_sight_is tag service row.part past seated.slot_keeps

-- so is what is read of it
read_seated : (tag name : List ℕ) (found : Option (Row Slot)) (past : History) (users : Users) →
    IsSeated tag found past users →
    slot_reads (option_map (λ row. row.part) found) name ≡ reading_in (docking_by past) (value_by name past)
read_seated tag name None past users seated =
    ap (λ docking. reading_in docking (value_by name past)) (sym seated.is_absent)
read_seated tag name (Some row) past users seated = slot_reading_is tag name row.part past seated.slot_keeps

-- what a batch sees by the table is what it sees by the pasts
pub sights_same : (rows : Rows Slot) (history : History) (binds : List Bind) → SeatsMirror rows history →
    table_sights rows binds ≡ sights_by binds (λ tag. past tag history)
sights_same rows history binds mirror =
    let view : (role service : List ℕ) → tag_sees rows (bound_tag binds role) service
    ≡ service_sight (λ tag. past tag history) service (bound_tag binds role)
    = λ role service. sees (bound_tag binds role) service in
    let reading : (role name : List ℕ) → tag_reads rows (bound_tag binds role) name
    ≡ variable_sight (λ tag. past tag history) name (bound_tag binds role)
    = λ role name. reads (bound_tag binds role) name in
    λ i. record {
      tag = bound_tag binds;
      view = λ role service. view role service i;
      reading = λ role name. reading role name i;
    }
  where
    sees : (tag : Option (List ℕ)) (service : List ℕ) → tag_sees rows tag service
        ≡ service_sight (λ tag. past tag history) service tag
    sees None service = refl
    sees (Some tag) service = seen_seated tag service (look tag rows) (past tag history)
        (users_of history tag) (mirror tag)

    reads : (tag : Option (List ℕ)) (name : List ℕ) → tag_reads rows tag name
        ≡ variable_sight (λ tag. past tag history) name tag
    reads None name = refl
    reads (Some tag) name = read_seated tag name (look tag rows) (past tag history) (users_of history tag)
        (mirror tag)
