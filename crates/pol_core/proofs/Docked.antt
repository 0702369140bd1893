-- How a module is docked, by its slot.
use Rattle.std.proofs.Common.{◌≡◌, ℕ, ◌+◌, List, [], ◌∷◌, Option, Some, None, is_some, refl, ap, sym, ◌∙◌, arith}
use Rattle.std.specs.Prelude.{unwrap_or, if◌then◌else◌}
use Rattle.std.specs.Option.{option_or}
use Rattle.pol_events.specs.Events.{PlainEvent, plug, unplug, exchange_begin, exchange_end, exchange_cancel}
use Rattle.pol_events.specs.declared.answer.Answer.{Answer}
use Rattle.pol_history.specs.Looking.{History, last_of}
use Rattle.pol_history.specs.Modules.{Docking, absent, docked, away, dockings_by, docking_after, docking_by, ticket_of}
use Rattle.pol_slots.specs.Slots.{slot_ticket, slot_begins}
use Rattle.pol_slots.specs.declared.slot.Slot.{Slot}
use Rattle.pol_core.specs.Seats.{SlotKeeps}

-- a docked module counts the dockings of the past
abbrev Counts : History → Docking → Type 0
Counts past absent = Unit {0}
Counts past (docked count) = count ≡ dockings_by past
Counts past (away ticket) = Unit {0}

-- where there is a docking, it counts so
abbrev MayCount : History → Option Docking → Type 0
MayCount past None = Unit {0}
MayCount past (Some docking) = Counts past docking

-- each event that docks a module counts so
after_counts : (past : History) (event : PlainEvent) (answer : Answer) → MayCount past (docking_after past event answer)
after_counts past (plug at tag description) answer = refl
after_counts past (unplug at tag) answer = tt
after_counts past (exchange_begin at tag) answer = tt
after_counts past (exchange_end at tag ticket description) answer = refl
after_counts past (exchange_cancel at tag ticket) answer = refl
after_counts past _ answer = tt

-- so does the last of them
last_counts : (past entries : History) →
    MayCount past (last_of (λ entry. docking_after past entry.event entry.answer) entries)
last_counts past [] = tt
last_counts past (entry ∷ entries) = go (docking_after past entry.event entry.answer)
    (after_counts past entry.event entry.answer) (last_counts past entries)
  where
    go : (found : Option Docking) → MayCount past found →
        MayCount past (last_of (λ entry. docking_after past entry.event entry.answer) entries) →
        MayCount past (option_or found (last_of (λ entry. docking_after past entry.event entry.answer) entries))
    go None here later = later
    go (Some docking) here later = here

-- so does the docking of the past
counts_past : (past : History) → Counts past (docking_by past)
counts_past past = go (last_of (λ entry. docking_after past entry.event entry.answer) past) (last_counts past past)
  where
    go : (found : Option Docking) → MayCount past found → Counts past (unwrap_or found absent)
    go None counts = tt
    go (Some docking) counts = counts

-- a module that is there and not away is docked
docked_then : (past : History) (docking : Docking) → (docking ≡ absent → ⊥) → ticket_of docking ≡ None →
    Counts past docking → docking ≡ docked (dockings_by past)
docked_then past absent there docked' counts = absurd (there refl)
docked_then past (docked count) there docked' counts = ap docked counts
docked_then past (away ticket) there docked' counts = cc

-- the slot is docked
pub docked_is : (tag : List ℕ) (slot : Slot) (past : History) → SlotKeeps tag slot past → slot_ticket slot ≡ None →
    docked (slot_begins slot + 1) ≡ docking_by past
docked_is tag slot past keeps docked' =
    ap docked (same (slot_begins slot) (dockings_by past) (keeps.dockings
    ∙ ap (λ ticket. dockings_by past + (if is_some ticket then 1 else 0)) docked'))
    ∙ sym (docked_then past (docking_by past) keeps.is_there (sym keeps.ticket ∙ docked') (counts_past past))
  where
    same : (b d : ℕ) → b + 1 ≡ d + 0 → b + 1 ≡ d
    same b d is = omega (arith, is)
