-- What the calls of a store say of it, as of one that keeps items.
use Rattle.std.proofs.Common.{ℕ, ◌≡◌, ◌+◌, ◌∙◌, List, ap}
use Rattle.std.specs.Prelude.{IfErr, OnOk, Result, Ok, Err, true, if◌then◌else◌}
use Rattle.kept_jobs.specs.Keeping.{Admits}
use Rattle.kept_jobs.proofs.Admitting as admitting
use Rattle.pol_core.specs.Plants.{PlainPlant, plant_history}
use Rattle.pol_events.specs.Events.{PlainEvent}
use Rattle.pol_events.specs.declared.event.Event.{Event}
use Rattle.pol_history.specs.Answers.{answer_of}
use Rattle.pol_history.specs.Runs.{entry_of, events_of, is_recorded, recorded}
use Rattle.pol_kept.specs.Refusals as of_items
use Rattle.pol_kept.specs.declared.kept.CommitFault.{CommitFault}
use Rattle.pol_kept.specs.declared.kept.CommitFault.TheVariants as of_group
use Rattle.pol_kept.specs.declared.kept.KeptRefusal.{KeptRefusal}
use Rattle.pol_kept.specs.declared.kept.KeptRefusal.TheVariants as of_event
use Rattle.pol_store.specs.Keeping.{StoreState}
use Rattle.pol_store.specs.Lawful.{plants_are_lawful, same_history}
use Rattle.pol_store.specs.Refusals.{Fails, Refuses}
use Rattle.pol_store.specs.Work.{plant_work}
use Rattle.pol_keep.specs.Keeping.{kept_plant}

-- plants of the same entries
abbrev pub HaveSameEntries : PlainPlant → PlainPlant → Type 0
HaveSameEntries old new = new.entries ≡ old.entries

-- a refusal of a store is one of what it keeps
refuses_kept : {D : Type 0} (faults : D → ℕ) (before now : StoreState D) (event : Event)
    (refusal : KeptRefusal Event) → Refuses faults before now event refusal →
    of_items.Refuses faults HaveSameEntries (kept_plant before) (kept_plant now) event refusal
refuses_kept faults before now event (of_event.Memory back) refuses = refuses
refuses_kept faults before now event of_event.Disk refuses = refuses
refuses_kept faults before now event (of_event.Closed back) refuses =
    (refuses.0, refuses.1, ap kept_plant refuses.2)

-- ---- an event is admitted

module _ {D : Type 0} (before now : StoreState D) (uncalled : now.disk ≡ before.disk)
    (closed : now.closed ≡ before.closed) where
  -- it was: where it is recorded it waits behind the others
  pub admitted : (event : PlainEvent) →
      plant_history now.plant ≡ recorded (entry_of (plant_history before.plant) event) (plant_history before.plant) →
      now.waiting ≡ (if is_recorded (answer_of (plant_history before.plant) event) then before.waiting + 1
      else before.waiting) →
      Admits plant_work plant_history (kept_plant before) (kept_plant now)
      (events_of (recorded (entry_of (plant_history before.plant) event) (plant_history before.plant)))
  admitted event history count =
      admitting.admitted plant_work plant_history (kept_plant before) (kept_plant now) uncalled closed
      plants_are_lawful event history count

  -- it wasn't: nothing happened, whatever was due
  pub refused : (faults : D → ℕ) (event : Event) (refusal : KeptRefusal Event) (due : List PlainEvent) →
      Refuses faults before now event refusal →
      Admits plant_work plant_history (kept_plant before) (kept_plant now) due
  refused faults event refusal due refuses =
      admitting.refused plant_work plant_history (kept_plant before) (kept_plant now) uncalled closed faults
      HaveSameEntries same_history event refusal due (refuses_kept faults before now event refusal refuses)

-- a line that was answered or not admitted what is due
pub admits_either : {E A : Type 0} (P Q : Type 0) (So : E → Type 0) (result : Result (Unit {0}) E) →
    OnOk result (P × Q × A) →
    IfErr result (λ stop. A × So stop) → A
admits_either P Q So (Ok done) answered halted = answered.2
admits_either P Q So (Err stop) answered halted = halted.0

-- ---- a commit fails

module _ {D : Type 0} (faults : D → ℕ) (before now : StoreState D) where
  -- as it does of what is kept
  pub fails_kept : (fault : CommitFault) → Fails faults before now fault →
      of_items.Fails faults (kept_plant before) (kept_plant now) fault
  fails_kept of_group.Disk fails = fails
  fails_kept of_group.Closed fails = (fails.0, ap kept_plant fails.1)

  -- behind it the store is closed
  pub fails_closed : (fault : CommitFault) → Fails faults before now fault → now.closed ≡ true
  fails_closed of_group.Disk fails = fails.1
  fails_closed of_group.Closed fails = ap (λ (store : StoreState D). store.closed) fails.1 ∙ fails.0
