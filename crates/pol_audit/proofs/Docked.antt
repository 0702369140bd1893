-- The docking of a module by the last event that moved it.
use Rattle.std.proofs.Common.{◌≡◌, [], ◌∷◌, Option, Some, None, refl, ap, ◌∙◌}
use Rattle.std.specs.Prelude.{unwrap_or}
use Rattle.std.specs.Option.{option_or, option_map}
use Rattle.pol_events.specs.Events.{PlainEvent, plug, exchange_end, exchange_cancel}
use Rattle.pol_events.specs.declared.answer.Answer.{Answer}
use Rattle.pol_history.specs.Looking.{History, last_of}
use Rattle.pol_history.specs.Modules as modules
use Rattle.pol_audit.specs.Dockings.{docking_left, docking_seen}
use Rattle.pol_audit.specs.declared.modules.Docking.TheVariants.{Absent}

-- a docking without its count doesn't depend on the past
left_is : (past : History) (event : PlainEvent) (answer : Answer) →
    option_map docking_seen (modules.docking_after past event answer)
    ≡ docking_left (record { event = event; answer = answer })
left_is past (plug at tag description) answer = refl
left_is past (exchange_end at tag ticket description) answer = refl
left_is past (exchange_cancel at tag ticket) answer = refl
left_is past _ answer = refl

-- what is seen of the last docking, if there is one, is what the last event leaves that changes it
last_left : (whole past : History)
    → option_map docking_seen (last_of (λ entry. modules.docking_after whole entry.event entry.answer) past)
    ≡ last_of docking_left past
last_left whole [] = refl
last_left whole (entry ∷ older) =
    go (modules.docking_after whole entry.event entry.answer) (left_is whole entry.event entry.answer)
    (last_left whole older)
  where
    go : (here : Option modules.Docking) → option_map docking_seen here ≡ docking_left entry →
        option_map docking_seen (last_of (λ entry. modules.docking_after whole entry.event entry.answer) older)
        ≡ last_of docking_left older →
        option_map docking_seen
        (option_or here (last_of (λ entry. modules.docking_after whole entry.event entry.answer) older))
        ≡ option_or (docking_left entry) (last_of docking_left older)
    go None is rest = rest ∙ rw (← is) refl
    go (Some docking) is rest = rw (← is) refl

-- what is seen of a docking that may be missing is what is seen of it, or absence
seen_unwrapped : (docking : Option modules.Docking)
    → docking_seen (unwrap_or docking modules.absent) ≡ unwrap_or (option_map docking_seen docking) Absent
seen_unwrapped None = refl
seen_unwrapped (Some docking) = refl

-- what is seen of a docking is what the last event leaves that changes it
pub docking_is : (past : History)
    → docking_seen (modules.docking_by past) ≡ unwrap_or (last_of docking_left past) Absent
docking_is past =
    seen_unwrapped (last_of (λ entry. modules.docking_after past entry.event entry.answer) past)
    ∙ ap (λ left. unwrap_or left Absent) (last_left past past)
