-- One event enters the history.
use Rattle.std.proofs.Common.{◌≡◌, ℕ, false, ◌∷◌, length, ap, sym, ◌∙◌}
use Rattle.std.specs.Prelude.{if◌then◌else◌}
use Rattle.pol_events.specs.Events.{PlainEvent}
use Rattle.pol_events.specs.declared.answer.Answer.{Answer}
use Rattle.pol_history.specs.Answers.{answer_of, is_full}
use Rattle.pol_history.specs.Looking.{History}
use Rattle.pol_history.specs.Runs.{entry_of, recorded}
use Rattle.pol_history.proofs.Accepted.{paired}
use Rattle.pol_history.proofs.Recording.{recorded_with_room}
use Rattle.pol_io.specs.Causes.{Rose}
use Rattle.pol_actors.specs.Stamps.{stamped}
use Rattle.pol_actors.proofs.Stamped.{answer_stamped}
use Rattle.pol_live.specs.Turns.{Enters}

-- the history after an event that came with its stamp, where there was room
pub entered : (before after : History) (told event : PlainEvent) (answer : Answer) (last now place calls called : ℕ) →
    is_full before ≡ false → told ≡ stamped now event → last ≡ now → place ≡ length before →
    answer ≡ answer_of before told → after ≡ recorded (entry_of before told) before → Rose calls called →
    Enters calls called last before after event (record { place = place; answer = answer })
entered before after told event answer last now place calls called room stamp same where_is is recorded_is rose =
    record {
      place_is = where_is;
      answer_is = is ∙ ap (answer_of before) stamp ∙ answer_stamped before now event;
      entered = recorded_is
          ∙ ap (λ b. if b then entry_of before told ∷ before else before) (recorded_with_room before told room)
          ∙ (λ i. paired (stamps i) (sym is i) ∷ before);
      rose = rose;
    }
  where
    stamps : told ≡ stamped last event
    stamps = stamp ∙ ap (λ n. stamped n event) (sym same)
