-- Which batches are closed: those that are listed as closed.
use Rattle.chart_core.specs.declared.next.Outcome.{Outcome}
use Rattle.mtp_codes.specs.Names.{is_among}
use Rattle.pol_compaction.specs.Lasting.{closed_batches, is_closed_batch}
use Rattle.pol_events.proofs.Lists.{among_member, member_kept, member_among, kept_member}
use Rattle.pol_events.specs.Events.{PlainEvent, start}
use Rattle.pol_events.specs.declared.answer.Answer.{Answer}
use Rattle.pol_history.proofs.Accepted.{paired}
use Rattle.pol_history.proofs.Watchers.{reversed_member}
use Rattle.pol_history.specs.Batches.{Started, start_of, outcome_by, outcome_of, starting, start_by, is_open, batches}
use Rattle.pol_history.specs.Looking.{History, Subject, of_module, of_batch, of_recipe, subject, is_batch, is_accepted}
use Rattle.pol_history.specs.Looking.{past_of_batch, is_accepted_of_batch}
use Rattle.pol_history.specs.Runs.{IsLegal, IsOrderly}
use Rattle.pol_removal.proofs.Sparing.{newly_started}
use Rattle.pol_removal.specs.Removal.{is_of}
use Rattle.pol_safety.proofs.Starts.{unstarted}
use Rattle.std.proofs.Common.{Option, Some, None, is_none, is_some, ◌∙◌, ◌≡◌, ℕ, Bool, true, false, cond, not, List, []}
use Rattle.std.proofs.Common.{◌∷◌, refl, ap, sym}
use Rattle.std.proofs.lemmas.Bool.{and_parts, or_right, both_ways}
use Rattle.std.specs.List.{cons_option}
use Rattle.std.specs.Option.{option_or}
use Rattle.std.specs.Prelude.{filter_map}
use Rattle.std.specs.Str.{bytes_eq}

-- a name is among a list with one more, if there is one
among_more : (more : Option (List ℕ)) (names : List (List ℕ)) (name : List ℕ) → is_among names name ≡ true →
    is_among (cons_option more names) name ≡ true
among_more None names name inside = inside
among_more (Some other) names name inside = or_right (bytes_eq other name) (is_among names name) inside

-- a batch among the closed ones is closed
pub is_closed : (history : History) (batch : List ℕ) → is_among (closed_batches history) batch ≡ true →
    is_some (outcome_of history batch) ≡ true
is_closed history batch inside =
    go (outcome_of history batch)
    (member_kept (λ batch. not (is_open history batch)) (batches history) batch
    (among_member (closed_batches history) batch inside)).1
  where
    go : (outcome : Option Outcome) → not (is_none outcome) ≡ true → is_some outcome ≡ true
    go None is = cc
    go (Some outcome) is = refl

-- an open one isn't
pub open_not_closed : (history : History) (batch : List ℕ) → outcome_of history batch ≡ None →
    is_among (closed_batches history) batch ≡ false
open_not_closed history batch is = go (is_among (closed_batches history) batch) refl
  where
    go : (inside : Bool) → is_among (closed_batches history) batch ≡ inside →
        is_among (closed_batches history) batch ≡ false
    go false out = out
    go true out = let clash : false ≡ true = ap is_some (sym is) ∙ is_closed history batch out in cc

-- a closed batch was started
pub closed_started : (history : History) → IsLegal history → IsOrderly history → (batch : List ℕ) →
    is_some (outcome_of history batch) ≡ true → is_some (start_of history batch) ≡ true
closed_started history legal orderly batch is = go (start_of history batch) refl
  where
    go : (started : Option Started) → start_of history batch ≡ started → is_some started ≡ true
    go (Some started) found = refl
    go None found =
        let clash : false ≡ true =
        ap (λ past. is_some (outcome_by past)) (sym (unstarted history legal orderly batch found)) ∙ is in cc

-- an accepted start of the batch is listed
start_listed : (batch : List ℕ) (event : PlainEvent) (answer : Answer) (names : List (List ℕ)) →
    is_batch batch (subject event) ≡ true → is_accepted answer ≡ true → is_some (starting event) ≡ true →
    is_among (cons_option (newly_started (paired event answer)) names) batch ≡ true
start_listed batch (start at other name binds) answer names own accepted is = rw (accepted, own) refl
start_listed batch _ answer names own accepted is = cc

-- a batch that was started is listed
started_listed : (history : History) (batch : List ℕ) → is_some (start_of history batch) ≡ true →
    is_among (filter_map newly_started history) batch ≡ true
started_listed [] batch is = cc
started_listed (entry ∷ history) batch is =
    go (is_accepted_of_batch batch entry) refl is
    (λ found. among_more (newly_started entry) (filter_map newly_started history) batch
    (started_listed history batch found))
  where
    here : is_accepted_of_batch batch entry ≡ true → (started : Option Started) → starting entry.event ≡ started →
        is_some (option_or started (start_of history batch)) ≡ true →
        (is_some (start_of history batch) ≡ true →
        is_among (filter_map newly_started (entry ∷ history)) batch ≡ true) →
        is_among (filter_map newly_started (entry ∷ history)) batch ≡ true
    here own None found is later = later is
    here own (Some started) found is later =
        let parts = and_parts (is_batch batch (subject entry.event)) (is_accepted entry.answer) own in
        start_listed batch entry.event entry.answer (filter_map newly_started history) parts.0 parts.1
        (ap is_some found)

    go : (own : Bool) → is_accepted_of_batch batch entry ≡ own →
        is_some (start_by (cond own (entry ∷ past_of_batch batch history) (past_of_batch batch history))) ≡ true →
        (is_some (start_of history batch) ≡ true →
        is_among (filter_map newly_started (entry ∷ history)) batch ≡ true) →
        is_among (filter_map newly_started (entry ∷ history)) batch ≡ true
    go true own is later = here own (starting entry.event) refl is later
    go false own is later = later is

-- a batch that isn't among the closed ones isn't closed
pub unforgotten_open : (history : History) → IsLegal history → IsOrderly history → (batch : List ℕ) →
    is_among (closed_batches history) batch ≡ false → outcome_of history batch ≡ None
unforgotten_open history legal orderly batch out =
    go (start_of history batch) (outcome_of history batch) refl refl
  where
    go : (started : Option Started) (outcome : Option Outcome) → start_of history batch ≡ started →
        outcome_of history batch ≡ outcome → outcome_of history batch ≡ None
    go started None found is = is
    go None (Some outcome) found is = ap outcome_by (unstarted history legal orderly batch found)
    go (Some started) (Some outcome) found is =
        absurd (both_ways (is_among (closed_batches history) batch) out
        (member_among (closed_batches history) batch
        (kept_member (λ batch. not (is_open history batch)) (batches history) batch
        (reversed_member (filter_map newly_started history) batch
        (among_member (filter_map newly_started history) batch (started_listed history batch (ap is_some found))))
        (ap (λ outcome. not (is_none outcome)) is))))

-- so an event is of a listed one just where its batch is closed
pub of_closed : (history : History) → IsLegal history → IsOrderly history → (of : Subject) →
    is_of [] (closed_batches history) of ≡ is_closed_batch history of
of_closed history legal orderly (of_module tag) = refl
of_closed history legal orderly (of_recipe name) = refl
of_closed history legal orderly (of_batch batch) = go (is_among (closed_batches history) batch) refl
  where
    some_closed : (outcome : Option Outcome) → is_some outcome ≡ true → not (is_none outcome) ≡ true
    some_closed None is = cc
    some_closed (Some outcome) is = refl

    go : (inside : Bool) → is_among (closed_batches history) batch ≡ inside →
        is_among (closed_batches history) batch ≡ not (is_open history batch)
    go true inside = inside ∙ sym (some_closed (outcome_of history batch) (is_closed history batch inside))
    go false out = out ∙ sym (ap (λ outcome. not (is_none outcome)) (unforgotten_open history legal orderly batch out))
