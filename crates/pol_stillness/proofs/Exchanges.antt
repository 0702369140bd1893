-- A module is away exactly under the ticket of the exchange that is open.
use Rattle.std.proofs.Common.{◌≡◌, ◌⊎◌, inl, inr, ℕ, Bool, true, false, cond, List, [], ◌∷◌, Option, Some, None, refl}
use Rattle.std.proofs.Common.{ap, sym, ◌∙◌, subst, arith}
use Rattle.std.specs.Prelude.{◌&&◌, ◌==◌, map, option_map, option_and_then, unwrap_or, if◌then◌else◌}
use Rattle.std.specs.Option.{option_or}
use Rattle.std.specs.Str.{bytes_eq}
use Rattle.std.proofs.lemmas.Bool.Decides.{nat_tests}
use Rattle.std.proofs.lemmas.Option.{same_Some}
use Rattle.mtp_codes.specs.Faults.{first_of, when}
use Rattle.mtp_desc.specs.Plain.{PlainDescription}
use Rattle.mtp_procs.specs.Covers.{cover_fault, missing_by}
use Rattle.pol_events.specs.Bound.{bound_role, given}
use Rattle.pol_history.specs.Batches.{chart_by, holder_of, start_by, watchers_of}
use Rattle.mtp_codes.specs.declared.cover.CoverFault.{CoverFault}
use Rattle.mtp_codes.proofs.Names.{same_true}
use Rattle.pol_events.specs.Events.{PlainEvent, PlainEntry, plug, unplug, report, variable, desk, exchange_begin}
use Rattle.pol_events.specs.Events.{exchange_end, exchange_cancel}
use Rattle.pol_events.specs.declared.answer.Answer.{Answer}
use Rattle.pol_events.specs.declared.answer.Answer.TheVariants.{Done, Refused, Ticket}
use Rattle.pol_events.specs.declared.answer.Rule.{Rule}
use Rattle.pol_events.specs.declared.answer.Rule.TheVariants.{HistoryFull, HeldBack}
use Rattle.pol_history.specs.Answers.{answer_of, first_rule, is_full}
use Rattle.pol_history.specs.Looking.{History, is_accepted, last_of, past, past_of_batch, recipes}
use Rattle.pol_history.specs.Modules.{Docking, absent, docked, away, docking_after, docking_by, next_ticket, ticket_of}
use Rattle.pol_history.specs.Rules.{held_back, uncovered_in}
use Rattle.pol_history.specs.Runs.{is_recorded}
use Rattle.pol_history.proofs.Accepted.{accepted_otherwise, paired}
use Rattle.pol_site.specs.Following.{IsAllowed, Exchanging, ended_with, exchanging, last_exchanging, none_open}
use Rattle.pol_site.specs.Following.{was_begun, was_held}
use Rattle.pol_stillness.specs.Exchanges.{open_ticket, OpenIsAway}

-- ---- tickets

-- the ticket of the last docking among these entries
abbrev tickets : History → History → Option ℕ
tickets whole entries =
    ticket_of (unwrap_or (last_of (λ entry. docking_after whole entry.event entry.answer) entries) absent)

-- the dockings before don't matter for it
tickets_same : (one other entries : History) → tickets one entries ≡ tickets other entries
tickets_same one other [] = refl
tickets_same one other (entry ∷ entries) = go entry.event entry.answer (tickets_same one other entries)
  where
    go : (event : PlainEvent) (answer : Answer) → tickets one entries ≡ tickets other entries →
        tickets one (record { event = event; answer = answer } ∷ entries)
        ≡ tickets other (record { event = event; answer = answer } ∷ entries)
    go (plug at tag description) answer again = refl
    go (unplug at tag) answer again = refl
    go (exchange_begin at tag) answer again = refl
    go (exchange_end at tag ticket description) answer again = refl
    go (exchange_cancel at tag ticket) answer again = refl
    go event answer again = again

-- a module with a ticket is away
away_of : (docking : Docking) (ticket : ℕ) → ticket_of docking ≡ Some ticket → docking ≡ away ticket
away_of absent ticket is = cc
away_of (docked count) ticket is = cc
away_of (away other) ticket is = ap away (same_Some other ticket is)

-- ---- the end of an exchange

-- an end is accepted, and closes the exchange, or held back
data Ends (tag : List ℕ) (ticket : ℕ) (answer : Answer) : Type 0 where
  closes : is_accepted answer ≡ true → ended_with tag ticket answer ≡ none_open → Ends tag ticket answer
  waits : is_accepted answer ≡ false → ended_with tag ticket answer ≡ was_held tag ticket → Ends tag ticket answer

-- what goes on with an option that is there
record IsGone {A B : Type 0} (f : A → Option B) (x : Option A) (y : B) : Type 0 where
  with : A
  there : x ≡ Some with
  goes : f with ≡ Some y

-- where something came of it, it was there
went_on : {A B : Type 0} (goes_on : A → Option B) (found : Option A) (answer : B) →
    option_and_then goes_on found ≡ Some answer → IsGone goes_on found answer
went_on goes_on None answer is = cc
went_on goes_on (Some item) answer is = record { with = item; there = refl; goes = is }

-- what holds an end back is told so
held_rule : (history : History) (tag : List ℕ) (ticket : ℕ) (description : PlainDescription) (rule : Rule) →
    held_back history tag description ≡ Some rule → ended_with tag ticket (Refused rule) ≡ was_held tag ticket
held_rule history tag ticket description rule is =
    by (option_and_then (uncovered_in history tag description) (holder_of history tag)) refl is
  where
    Told : Type 0
    Told = ended_with tag ticket (Refused rule) ≡ was_held tag ticket

    told : (batch role : List ℕ) (fault : Option CoverFault) →
        option_map (λ fault. HeldBack batch (missing_by role fault)) fault ≡ Some rule → Told
    told batch role None e = cc
    told batch role (Some fault) e =
        ap (λ r. ended_with tag ticket (Refused r)) (sym (same_Some (HeldBack batch (missing_by role fault)) rule e))

    in_batch : (batch : List ℕ) → uncovered_in history tag description batch ≡ Some rule → Told
    in_batch batch e =
        let one = went_on (λ started. option_and_then
        (λ chart. option_and_then
        (λ role. option_map (λ fault. HeldBack batch (missing_by role fault)) (cover_fault chart role description))
        (bound_role (given started.binds) tag)) (chart_by (recipes history) (Some started)))
        (start_by (past_of_batch batch history)) rule e in
        let two = went_on (λ chart. option_and_then
        (λ role. option_map (λ fault. HeldBack batch (missing_by role fault)) (cover_fault chart role description))
        (bound_role (given one.with.binds) tag)) (chart_by (recipes history) (Some one.with)) rule one.goes in
        let three = went_on
        (λ role. option_map (λ fault. HeldBack batch (missing_by role fault)) (cover_fault two.with role description))
        (bound_role (given one.with.binds) tag) rule two.goes in
        told batch three.with (cover_fault two.with three.with description) three.goes

    in_holder : (holder : Option (List ℕ)) →
        option_and_then (uncovered_in history tag description) holder ≡ Some rule → Told
    in_holder None e = cc
    in_holder (Some batch) e = in_batch batch e

    in_watchers : (watchers : List (List ℕ)) →
        first_of (map (uncovered_in history tag description) watchers) ≡ Some rule → Told
    in_watchers [] e = cc
    in_watchers (batch ∷ others) e =
        first (uncovered_in history tag description batch) refl (λ e. in_watchers others e) e
      where
        first : (found : Option Rule) → uncovered_in history tag description batch ≡ found →
            (first_of (map (uncovered_in history tag description) others) ≡ Some rule → Told) →
            option_or found (first_of (map (uncovered_in history tag description) others)) ≡ Some rule → Told
        first None said later e = later e
        first (Some other) said later e = in_batch batch (said ∙ e)

    by : (held : Option Rule) → option_and_then (uncovered_in history tag description) (holder_of history tag) ≡ held →
        option_or held (first_of (map (uncovered_in history tag description) (watchers_of history tag))) ≡ Some rule →
        Told
    by None said e = in_watchers (watchers_of history tag) e
    by (Some other) said e = in_holder (holder_of history tag) (said ∙ e)

-- a number is itself
self_same : (n : ℕ) → (n == n) ≡ true
self_same n = grind (arith, nat_tests)

-- the end of the exchange that is open is accepted or held back
end_is : (older : History) (at : ℕ) (tag : List ℕ) (ticket : ℕ) (description : PlainDescription) (answer : Answer) →
    answer ≡ answer_of older (exchange_end at tag ticket description) → is_recorded answer ≡ true →
    docking_by (past tag older) ≡ away ticket → Ends tag ticket answer
end_is older at tag ticket description answer legal recorded is_away =
    by (is_full older) (held_back older tag description) refl answer recorded (legal ∙ computed)
  where
    computed : answer_of older (exchange_end at tag ticket description)
        ≡ first_rule (when (is_full older) HistoryFull ∷ held_back older tag description ∷ []) Done
    computed = rw (is_away, self_same ticket) (skipped (when (is_full older) HistoryFull))
      where
        skipped : (full : Option Rule) →
            first_rule (full ∷ None ∷ None ∷ None ∷ held_back older tag description ∷ []) Done
            ≡ first_rule (full ∷ held_back older tag description ∷ []) Done
        skipped None = refl
        skipped (Some rule) = refl

    by : (full : Bool) (held : Option Rule) → held_back older tag description ≡ held → (answer : Answer) →
        is_recorded answer ≡ true → answer ≡ first_rule (when full HistoryFull ∷ held ∷ []) Done →
        Ends tag ticket answer
    by true held holds answer recorded e =
        let clash : false ≡ true = sym (ap is_recorded e) ∙ recorded in cc
    by false None holds answer recorded e =
        closes (ap is_accepted e) (ap (ended_with tag ticket) e)
    by false (Some rule) holds answer recorded e =
        waits (ap is_accepted e)
        (ap (ended_with tag ticket) e ∙ held_rule older tag ticket description rule holds)

-- ---- histories

-- a module is away under the ticket of the exchange that is open
pub open_away : OpenIsAway
open_away site [] tag legal follows = refl
open_away site (entry ∷ older) tag legal follows =
    go entry.event entry.answer follows.0 legal.0 legal.1 (open_away site older tag legal.2 follows.1)
  where
    Goal : PlainEvent → Answer → Type 0
    Goal event answer =
        ticket_of (docking_by (past tag (record { event = event; answer = answer } ∷ older)))
        ≡ open_ticket tag (exchanging (record { event = event; answer = answer } ∷ older))

    Old : Type 0
    Old = ticket_of (docking_by (past tag older)) ≡ open_ticket tag (exchanging older)

    -- an entry that leaves both
    other : (entry : PlainEntry) (own : Bool) →
        ((whole : History) → docking_after whole entry.event entry.answer ≡ None) →
        tickets (cond own (entry ∷ past tag older) (past tag older))
        (cond own (entry ∷ past tag older) (past tag older))
        ≡ ticket_of (docking_by (past tag older))
    other entry false none = refl
    other entry true none =
        ap (λ found. ticket_of (unwrap_or (option_or found
        (last_of (λ each. docking_after (entry ∷ past tag older) each.event each.answer) (past tag older))) absent))
        (none (entry ∷ past tag older)) ∙ tickets_same (entry ∷ past tag older) (past tag older) (past tag older)

    begins : (at : ℕ) (named : List ℕ) (answer : Answer) (ticket : ℕ) → answer ≡ Ticket ticket →
        exchanging older ≡ none_open → Old → Goal (exchange_begin at named) answer
    begins at named answer ticket is closed old =
        subst (Goal (exchange_begin at named)) (sym is) (own (bytes_eq named tag))
      where
        own : (here : Bool) →
            ticket_of (docking_by (cond (here && true)
            (paired (exchange_begin at named) (Ticket ticket) ∷ past tag older)
            (past tag older))) ≡ (if here then Some ticket else None)
        own true = refl
        own false = old ∙ ap (open_ticket tag) closed

    ends : (at : ℕ) (named : List ℕ) (ticket : ℕ) (description : PlainDescription) (answer : Answer) →
        answer ≡ answer_of older (exchange_end at named ticket description) → is_recorded answer ≡ true →
        exchanging older ≡ was_begun named ticket → Old → Goal (exchange_end at named ticket description) answer
    ends at named ticket description answer is recorded begun old = own (bytes_eq named tag) refl
      where
        event : PlainEvent
        event = exchange_end at named ticket description

        before : ticket_of (docking_by (past tag older)) ≡ (if bytes_eq named tag then Some ticket else None)
        before = old ∙ ap (open_ticket tag) begun

        other_tag : bytes_eq named tag ≡ false → (ended : Exchanging) → ended_with named ticket answer ≡ ended →
            (ended ≡ none_open) ⊎ (ended ≡ was_held named ticket) →
            open_ticket tag (ended_with named ticket answer) ≡ None
        other_tag apart ended e (inl none) = ap (open_ticket tag) (e ∙ none)
        other_tag apart ended e (inr held) =
            ap (open_ticket tag) (e ∙ held) ∙ ap (λ b. if b then Some ticket else None) apart

        either : (answer : Answer) →
            (ended_with named ticket answer ≡ none_open) ⊎ (ended_with named ticket answer ≡ was_held named ticket)
        either (Refused (HeldBack batch missing)) = inr refl
        either _ = inl refl

        here_by : bytes_eq named tag ≡ true → Ends named ticket answer →
            ticket_of (docking_by (cond (true && is_accepted answer) (paired event answer ∷ past tag older)
            (past tag older))) ≡ open_ticket tag (ended_with named ticket answer)
        here_by mine (closes accepted ended) = rw (accepted, ended) refl
        here_by mine (waits accepted ended) =
            rw (accepted, ended, mine) (before ∙ ap (λ b. if b then Some ticket else None) mine)

        own : (here : Bool) → bytes_eq named tag ≡ here →
            ticket_of (docking_by (cond (bytes_eq named tag && is_accepted answer)
            (paired event answer ∷ past tag older)
            (past tag older))) ≡ open_ticket tag (ended_with named ticket answer)
        own true mine =
            let same = same_true named tag mine in
            let is_away = away_of (docking_by (past tag older)) ticket
            (before ∙ ap (λ b. if b then Some ticket else None) mine) in
            ap (λ b. ticket_of (docking_by (cond (b && is_accepted answer) (paired event answer ∷ past tag older)
            (past tag older)))) mine
            ∙ here_by mine (end_is older at named ticket description answer is recorded
            (ap (λ t. docking_by (past t older)) same ∙ is_away))
        own false apart =
            ap (λ b. ticket_of (docking_by (cond (b && is_accepted answer) (paired event answer ∷ past tag older)
            (past tag older)))) apart ∙ before ∙ ap (λ b. if b then Some ticket else None) apart
            ∙ sym (other_tag apart (ended_with named ticket answer) refl (either answer))

    cancels : (at : ℕ) (named : List ℕ) (ticket : ℕ) (answer : Answer) → is_accepted answer ≡ true →
        exchanging older ≡ was_held named ticket → Old → Goal (exchange_cancel at named ticket) answer
    cancels at named ticket answer accepted held old =
        rw accepted (own (bytes_eq named tag) (old ∙ ap (open_ticket tag) held))
      where
        own : (here : Bool) →
            ticket_of (docking_by (past tag older)) ≡ (if here then Some ticket else None) →
            ticket_of (docking_by (cond (here && true)
            (paired (exchange_cancel at named ticket) answer ∷ past tag older)
            (past tag older))) ≡ None
        own true before = refl
        own false before = before

    plugs : (at : ℕ) (named : List ℕ) (description : PlainDescription) (answer : Answer)
        → last_exchanging older ≡ None →
        Old → Goal (plug at named description) answer
    plugs at named description answer none old = own (bytes_eq named tag && is_accepted answer)
      where
        closed : exchanging older ≡ none_open
        closed = ap (λ last. unwrap_or last none_open) none

        own : (here : Bool) →
            ticket_of (docking_by (cond here (paired (plug at named description) answer ∷ past tag older)
            (past tag older))) ≡ open_ticket tag (exchanging older)
        own true = sym (ap (open_ticket tag) closed)
        own false = old

    go : (event : PlainEvent) (answer : Answer) → IsAllowed site older event answer → answer ≡ answer_of older event →
        is_recorded answer ≡ true → Old → Goal event answer
    go (plug at named description) answer allowed is recorded old =
        plugs at named description answer allowed.unexchanged old
    go (unplug at named) answer allowed is recorded old = absurd allowed
    go (exchange_begin at named) answer allowed is recorded old =
        begins at named answer (next_ticket (past named older))
        (is ∙ accepted_otherwise older (exchange_begin at named) (ap is_accepted (sym is) ∙ allowed.accepted))
        allowed.closed old
    go (exchange_end at named ticket description) answer allowed is recorded old =
        ends at named ticket description answer is recorded allowed.begun old
    go (exchange_cancel at named ticket) answer allowed is recorded old =
        cancels at named ticket answer allowed.accepted allowed.held old
    go (report at named service control) answer allowed is recorded old =
        other (paired (report at named service control) answer) (bytes_eq named tag && is_accepted answer)
        (λ whole. refl)
        ∙ old
    go (variable at named name value) answer allowed is recorded old =
        other (paired (variable at named name value) answer) (bytes_eq named tag && is_accepted answer) (λ whole. refl)
        ∙ old
    go (desk at named service command) answer allowed is recorded old =
        other (paired (desk at named service command) answer) (bytes_eq named tag && is_accepted answer) (λ whole. refl)
        ∙ old
    go event answer allowed is recorded old = old
