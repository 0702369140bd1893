-- The entries that last, run by themselves, are as they were: closed batches are left out first, then what is silent.
use Rattle.std.proofs.Common.{◌≡◌, Bool, true, false, not, List, [], map, refl, ap, sym, ◌∙◌, subst}
use Rattle.std.specs.Prelude.{filter, ◌&&◌, ◌||◌}
use Rattle.std.proofs.Math.Path.{fun_ext}
use Rattle.pol_events.specs.Events.{PlainEvent, PlainEntry}
use Rattle.pol_events.specs.declared.answer.Answer.{Answer}
use Rattle.pol_events.specs.declared.answer.Answer.TheVariants.{Refused}
use Rattle.pol_events.specs.Bound.{tags_of}
use Rattle.pol_history.specs.Looking.{History, subject, is_accepted}
use Rattle.pol_history.specs.Batches.{binds_in}
use Rattle.pol_history.specs.Runs.{run_of, recorded_all, history_after, IsLegal, IsOrderly, AreOrderly}
use Rattle.pol_history.proofs.Filters.{filter_both}
use Rattle.pol_history.proofs.Legal.{legal_after, orderly_after}
use Rattle.pol_removal.specs.Removal.{is_refused_for_another, binds_one, is_of, stays, entries_of_others}
use Rattle.pol_removal.proofs.Bound.{binds_none}
use Rattle.pol_removal.proofs.Induction.{batches_removed}
use Rattle.pol_compaction.specs.Lasting.{is_desk, is_wait, closed_batches, is_closed_batch, is_lasting}
use Rattle.pol_compaction.specs.Alike.{AnswersAlike, is_refused_as_full}
use Rattle.pol_compaction.specs.Silent.{is_silent, entries_unless}
use Rattle.pol_compaction.specs.Forgotten.{events_without_closed}
use Rattle.pol_compaction.specs.Alone.{lasting, LastingRunAlone}
use Rattle.pol_compaction.proofs.Closed.{of_closed}
use Rattle.pol_compaction.proofs.Silent.{silent_left_out, silent_alike}

-- an accepted answer isn't refused for another's sake
not_for_another : (answer : Answer) → is_accepted answer ≡ true → is_refused_for_another answer ≡ false
not_for_another (Refused rule) is = cc
not_for_another _ is = refl

-- nor as full
not_as_full : (answer : Answer) → is_accepted answer ≡ true → is_refused_as_full answer ≡ false
not_as_full (Refused rule) is = cc
not_as_full _ is = refl

-- the entry isn't silent, nor refused as full
abbrev speaks : PlainEntry → Bool
speaks entry = not (is_silent entry || is_refused_as_full entry.answer)

-- an entry lasts where it is of no closed batch and isn't silent
lasts_by : (whole : History) → IsLegal whole → IsOrderly whole → (entry : PlainEntry) →
    (speaks entry && stays [] (closed_batches whole) entry) ≡ is_lasting whole entry
lasts_by whole legal orderly entry = go (is_accepted entry.answer) refl
  where
    none : binds_one [] entry.event ≡ false
    none = binds_none (tags_of (binds_in entry.event))

    cases : (wait command of : Bool) →
        (not ((wait || command) || false) && not ((of || false) || false))
        ≡ (not wait && (not command && not of))
    cases true command of = refl
    cases false true of = refl
    cases false false true = refl
    cases false false false = refl

    go : (accepted : Bool) → is_accepted entry.answer ≡ accepted →
        (not ((not accepted || (is_wait entry || is_desk entry.event)) || is_refused_as_full entry.answer)
        && not ((is_of [] (closed_batches whole) (subject entry.event) || binds_one [] entry.event)
        || is_refused_for_another entry.answer))
        ≡ (accepted && (not (is_wait entry) && (not (is_desk entry.event)
        && not (is_closed_batch whole (subject entry.event)))))
    go false is = refl
    go true is =
        ap (λ full. not ((is_wait entry || is_desk entry.event) || full)
        && not ((is_of [] (closed_batches whole) (subject entry.event) || binds_one [] entry.event)
        || is_refused_for_another entry.answer)) (not_as_full entry.answer is)
        ∙ ap (λ one. not ((is_wait entry || is_desk entry.event) || false)
        && not ((is_of [] (closed_batches whole) (subject entry.event) || one)
        || is_refused_for_another entry.answer)) none
        ∙ ap (λ another. not ((is_wait entry || is_desk entry.event) || false)
        && not ((is_of [] (closed_batches whole) (subject entry.event) || false) || another))
        (not_for_another entry.answer is)
        ∙ cases (is_wait entry) (is_desk entry.event) (is_of [] (closed_batches whole) (subject entry.event))
        ∙ ap (λ of. not (is_wait entry) && (not (is_desk entry.event) && not of))
        (of_closed whole legal orderly (subject entry.event))

-- so what lasts of a run is what isn't silent of what is of no closed batch
lasting_by : (events : List PlainEvent) → AreOrderly events →
    filter speaks (entries_of_others (closed_batches (history_after [] events)) events) ≡ lasting events
lasting_by events orderly =
    sym (filter_both speaks (stays [] (closed_batches (history_after [] events))) (run_of events))
    ∙ ap (λ test. filter test (run_of events)) (fun_ext (lasts_by (history_after [] events)
    (legal_after [] events tt) (orderly_after [] events tt orderly)))

-- in other words, what isn't silent of the run without closed batches
pub lasting_is : (events : List PlainEvent) → AreOrderly events →
    entries_unless is_silent (events_without_closed events) ≡ lasting events
lasting_is events orderly =
    ap (filter speaks) (batches_removed (closed_batches (history_after [] events)) events orderly)
    ∙ lasting_by events orderly

-- and runs by itself
pub lasting_alone : LastingRunAlone
lasting_alone events orderly =
    subst (λ kept. run_of (map (λ entry. entry.event) kept) ≡ kept) (lasting_is events orderly)
    (silent_left_out is_silent (λ entry is. is) (events_without_closed events))

-- the plant of what lasts is alike
pub lasting_alike : (events : List PlainEvent) → AreOrderly events →
    AnswersAlike [] (history_after [] (events_without_closed events)) (recorded_all [] (lasting events))
lasting_alike events orderly =
    subst (λ kept. AnswersAlike [] (history_after [] (events_without_closed events)) (recorded_all [] kept))
    (lasting_is events orderly)
    (silent_alike is_silent (λ entry is. is) (events_without_closed events))
