-- How a simulated service stands in a history, whose commands it looks at one by one.
use Rattle.std.proofs.Common.{◌≡◌, ◌≤◌, ◌<◌, ℕ, suc, Bool, true, false, cond, not, List, [], ◌∷◌, ◌++◌, length, Option}
use Rattle.std.proofs.Common.{Some, None, refl, ap, sym, ◌∙◌, subst, arith}
use Rattle.std.specs.Prelude.{◌&&◌, ◌||◌, nat_le, is_some, option_map, if◌then◌else◌}
use Rattle.std.specs.List.{cons_option, list_all}
use Rattle.std.specs.Option.{option_or}
use Rattle.std.specs.Str.{bytes_eq}
use Rattle.std.proofs.lemmas.Bool.{and_from, and_right}
use Rattle.std.proofs.lemmas.Option.{same_Some}
use Rattle.std.proofs.lemmas.List.{append-nil}
use Rattle.mtp_codes.proofs.Names.{same_true, same_refl}
use Rattle.mtp_sim.specs.declared.service.SimService.{SimService}
use Rattle.mtp_sim.specs.Commands.{asked_procedure}
use Rattle.mtp_sim.specs.Ticks.{control_now, is_untold, service_ticked, is_reported}
use Rattle.chart_core.specs.Entries.{chart_entry}
use Rattle.chart_core.specs.declared.entry.LogEntry.{LogEntry}
use Rattle.chart_core.specs.declared.entry.LogEntry.TheVariants.{Start}
use Rattle.chart_cursor.specs.Commands.{Sent, sent_by}
use Rattle.chart_cursor.specs.declared.next.CursorNext.TheVariants as cursor
use Rattle.pol_events.specs.Events.{advance, report, PlainEntry}
use Rattle.pol_events.specs.declared.answer.Answer.TheVariants.{Done, Did}
use Rattle.pol_simulated.specs.Units.{newest, service_called, IsServiceTold}
use Rattle.chart_core.specs.declared.next.Next.{Next}
use Rattle.chart_core.specs.declared.next.Next.TheVariants as next
use Rattle.pol_history.specs.Looking.{History, past, is_accepted}
use Rattle.pol_history.specs.Modules.{since_docking, control_by, seen_with, description_by}
use Rattle.pol_history.specs.Batches.{taken}
use Rattle.pol_history.specs.Following.{next_of}
use Rattle.pol_history.specs.Answers.{advanced, answer_of}
use Rattle.pol_history.proofs.Accepted.{accepted_none, accepted_otherwise, paired}
use Rattle.pol_safety.proofs.Nexts.{has_next}
use Rattle.pol_safety.proofs.Starts.{is_open_batch}
use Rattle.pol_site.specs.Stories.{sent_to, if_to, touches, story, is_for, is_answered, is_sent_answered, controls_in}
use Rattle.mtp_sim.proofs.Edges.{name_ticked}
use Rattle.pol_stillness.specs.Law.{IsSentStill}
use Rattle.pol_stillness.specs.Phases.{asked_in, wanted, Wanted, IsGiven, IsPhase, IsTaken}
use Rattle.pol_simulated.proofs.Places.{found_within, is_at, le_true, lt_fails, taken_sends}
use Rattle.pol_simulated.specs.Places.{Found, found_at, next_command}
use Rattle.pol_stillness.specs.Served.{unlooked, list_of, IsServed, IsServedBy, FirstsAreServed, SendsServe}
use Rattle.pol_stillness.specs.Served.{OthersServe, TicksServe, LooksServe, RestIsAnswered}
use Rattle.pol_stillness.proofs.Desks.{view_control}
use Rattle.pol_simulated.proofs.Reports.{last_newest}
use Rattle.pol_stillness.proofs.Plain.{plants_plain, answer_plain, did_runs}
use Rattle.pol_stillness.proofs.Owing.{owing}
use Rattle.pol_stillness.proofs.Still.{sent_still}
use Rattle.pol_stillness.proofs.Phases.{ticks_phased, takes_settled, wanted_same, sends_given}
use Rattle.pol_stillness.proofs.Starting.{starts_exist}
use Rattle.pol_events.proofs.Lists.{found_member}
use Rattle.pol_events.proofs.Options.{neither, no_both, some_same}

-- ---- places

-- nothing stands from a place behind the end
pub unlooked_none : (tag name : List ℕ) (from : ℕ) (history : History) → length history ≤ from
    → unlooked tag name from history ≡ []
unlooked_none tag name from [] short = refl
unlooked_none tag name from (entry ∷ older) short =
    let early : length older < from = omega (arith, short) in
    let again = unlooked_none tag name from older (omega (arith, short)) in
    ap (λ b. if b && is_for name (sent_to tag entry) then cons_option (taken entry.answer)
    (unlooked tag name from older) else unlooked tag name from older)
    (lt_fails from (length older) early) ∙ again

-- an entry that doesn't command the service
unlooked_same : (tag name : List ℕ) (from : ℕ) (entry : PlainEntry) (older : History)
    → is_for name (sent_to tag entry) ≡ false
    → unlooked tag name from (entry ∷ older) ≡ unlooked tag name from older
unlooked_same tag name from entry older apart =
    ap (λ b. if b then cons_option (taken entry.answer) (unlooked tag name from older) else unlooked tag name from
    older)
    (and_right (nat_le from (length older)) (is_for name (sent_to tag entry)) apart)

-- ---- first

-- a service at first
pub firsts_served : FirstsAreServed
firsts_served d tag name from history none short =
    record {
      ahead = None;
      is_ahead = unlooked_none tag name from history short;
      phase = record {
        runs = rw none refl;
        answered = rw none refl;
      };
    }

-- ---- other entries

-- another entry
pub others_served : OthersServe
others_served d tag service older entry from apart keeps =
    subst (λ (p : List LogEntry × Wanted). IsServedBy d p.0 p.1 service)
    (λ i. (sym (unlooked_same tag service.name from entry older apart) i, sym (asks (touches tag entry) refl) i))
  where
    asks : (own : Bool) → touches tag entry ≡ own
        → wanted tag service.name (cond own (entry ∷ story tag older) (story tag older))
        ≡ wanted tag service.name (story tag older)
    asks false is = refl
    asks true is = let k = keeps is in wanted_same tag service.name (story tag older) entry k.0 k.1 k.2

-- ---- a tick

-- a tick, with its report
pub ticks_served : TicksServe
ticks_served d tag service older at limit from served =
    go (is_reported d limit service) refl (ticks_phased d tag limit service (story tag older) served.ahead
    served.phase).phase
  where
    after : SimService
    after = service_ticked d limit service

    named : after.name ≡ service.name
    named = name_ticked d limit service

    entry : PlainEntry
    entry = paired (report at tag service.name (control_now d after)) Done

    go : (reports : Bool) → is_reported d limit service ≡ reports
        → IsPhase d tag (cond reports (record { event = report 0 tag service.name (control_now d after); answer = Done }
        ∷ story tag older) (story tag older)) after served.ahead
        → IsServed d tag from (cond reports (entry ∷ older) older) after
    go false is phase =
        record {
          ahead = served.ahead;
          is_ahead = ap (λ n. unlooked tag n from older) named ∙ served.is_ahead;
          phase =
              phase;
        }
    go true is phase =
        record {
          ahead = served.ahead;
          is_ahead = unlooked_same tag after.name from entry older refl ∙ ap (λ n. unlooked tag n from older) named ∙
              served.is_ahead;
          phase = subst (λ b. IsPhase d tag (cond b (entry ∷ story tag older) (story tag older)) after served.ahead)
              (sym touched) phase;
        }
      where
        touched : touches tag entry ≡ true
        touched = ap (λ b. (b && true) || false) (same_refl tag)

-- ---- a command that is sent

-- an advance that is answered with an entry did it
advanced_did : (found : Option Next) (did : LogEntry) → advanced found ≡ Did did → found ≡ Some (next.Did did)
advanced_did None did is = cc
advanced_did (Some (next.Did other)) did is = let same : other ≡ did = cc in ap (λ e. Some (next.Did e)) same
advanced_did (Some (next.Waiting obstacle)) did is = cc
advanced_did (Some (next.Closed outcome)) did is = cc

-- a command that is sent
pub sends_served : SendsServe
sends_served site d service older at batch did sent from legal orderly follows commanded sends named within is_described
    step served = go served.ahead served.is_ahead served.phase
  where
    entry : PlainEntry
    entry = paired (advance at batch) (Did did)

    law : IsSentStill older sent
    law = sent_still site older entry sent legal orderly follows commanded sends

    accepted : is_accepted (answer_of older (advance at batch)) ≡ true
    accepted = ap is_accepted (sym legal.0)

    next_is : next_of older batch ≡ Some (next.Did did)
    next_is = advanced_did (next_of older batch) did
        (sym (legal.0 ∙ accepted_otherwise older (advance at batch) accepted))

    run : is_some (chart_entry did) ≡ true
    run = answer_plain site older entry legal.0 follows.0 follows.1
        (plants_plain site older legal.2 follows.1 commanded)

    starts : (step tag called : List ℕ) (procedure : ℕ) → did ≡ Start step tag called procedure
        → asked_procedure service.name procedure d ≡ Some procedure
    starts step tag called procedure is =
        let has = has_next older batch (next.Did did) next_is in
        let its = same_Some _ sent (ap sent_by (sym is) ∙ sends) in
        let tag_is : tag ≡ sent.tag = ap (λ (s : Sent). s.tag) its in
        let called_is : called ≡ service.name = ap (λ (s : Sent). s.service) its ∙ named in
        ap (λ n. asked_procedure n procedure d) (sym called_is)
        ∙ starts_exist older batch has.started has.chart step tag called procedure d legal.2 orderly.1 has.start_is
        has.chart_is
        (is_open_batch older batch (accepted_none older (advance at batch) accepted).1.0)
        (did_runs older batch did (plants_plain site older legal.2 follows.1 commanded) has ∙ ap cursor.Entry is)
        (ap (λ t. description_by (past t older)) tag_is ∙ is_described)

    for_it : is_for service.name (if_to sent.tag (sent_by did)) ≡ true
    for_it =
        ap (λ found. is_for service.name (if_to sent.tag found)) sends
        ∙ ap (λ b. is_for service.name (if b then Some sent else None)) (same_refl sent.tag)
        ∙ ap (λ n. bytes_eq n service.name) named ∙ same_refl service.name

    touched : touches sent.tag entry ≡ true
    touched = ap (λ found. is_some (if_to sent.tag found)) sends ∙ ap (λ b. is_some (if b then Some sent else None))
        (same_refl sent.tag)

    Now : Type 0
    Now = IsServed d sent.tag from (entry ∷ older) service

    go : (ahead : Option LogEntry) → unlooked sent.tag service.name from older ≡ list_of ahead
        → IsPhase d sent.tag (story sent.tag older) service ahead → Now
    go (Some other) is phase =
        let clash : false ≡ true = sym phase.unanswered ∙ ap (λ n. is_answered sent.tag (story sent.tag older) n)
        (sym named) ∙ law.answered in cc
    go None is phase =
        record {
          ahead = Some did;
          is_ahead =
              ap (λ b. if b then did ∷ unlooked sent.tag service.name from older else unlooked sent.tag service.name
              from older)
              (and_from (nat_le from (length older)) (is_for service.name (if_to sent.tag (sent_by did)))
              (le_true from (length older) within) for_it)
              ∙ ap (λ l. did ∷ l) is;
          phase = subst (λ b. IsPhase d sent.tag (cond b (entry ∷ story sent.tag older) (story sent.tag older)) service
              (Some did)) (sym touched)
              (sends_given d service older at batch did sent run sends named law is_described step starts phase);
        }

-- ---- a command that is looked at

-- where no command to the module stands from a place on, none to the service does
pub none_ahead : (tag name : List ℕ) (from : ℕ) (history : History) → next_command tag from history ≡ None
    → unlooked tag name from history ≡ []
none_ahead tag name from [] none = refl
none_ahead tag name from (entry ∷ older) none =
    let parts = neither (next_command tag from older) (found_at tag from (length older) entry) none in
    go (nat_le from (length older)) (sent_to tag entry) (taken entry.answer) parts.1 ∙ none_ahead tag name from older
    parts.0
  where
    same : (own : Bool) → cond own (unlooked tag name from older) (unlooked tag name from older) ≡ unlooked tag name
        from older
    same true = refl
    same false = refl

    go : (late : Bool) (sent : Option Sent) (did : Option LogEntry)
        → (if late && is_some sent then option_map {U = Found} (λ did. record { did = did; place = length older }) did
        else None) ≡ None
        → (if late && is_for name sent then cons_option did (unlooked tag name from older) else unlooked tag name from
        older) ≡ unlooked tag name from older
    go false sent did e = refl
    go true None did e = refl
    go true (Some sent) None e = same (is_for name (Some sent))
    go true (Some sent) (Some did) e = cc

-- looking at it takes its entry off the end
pub looked : (tag name : List ℕ) (from : ℕ) (history : History) (found : Found) →
    next_command tag from history ≡ Some found
    → unlooked tag name from history ≡ unlooked tag name (suc found.place) history
    ++ (if is_for name (if_to tag (sent_by found.did)) then found.did ∷ [] else [])
looked tag name from [] found is = cc
looked tag name from (entry ∷ older) found is =
    go (next_command tag from older) refl is (looked tag name from older found)
  where
    End : List LogEntry
    End = if is_for name (if_to tag (sent_by found.did)) then found.did ∷ [] else []

    later : (own : Bool) (did : Option LogEntry) (one other : List LogEntry) → one ≡ other ++ End
        → (if true && own then cons_option did one else one) ≡ (if true && own then cons_option did other else other)
        ++ End
    later false did one other is = is
    later true None one other is = is
    later true (Some did) one other is = ap (λ l. did ∷ l) is

    go : (earlier : Option Found) → next_command tag from older ≡ earlier
        → option_or earlier (found_at tag from (length older) entry) ≡ Some found
        → (next_command tag from older ≡ Some found
        → unlooked tag name from older ≡ unlooked tag name (suc found.place) older ++ End)
        → unlooked tag name from (entry ∷ older) ≡ unlooked tag name (suc found.place) (entry ∷ older) ++ End
    go (Some first) earlier e again =
        let here = earlier ∙ ap Some (same_Some first found e) in
        let inside = found_within tag from older found here in
        let one : nat_le from (length older) ≡ true = le_true from (length older) (omega (arith, inside.0, inside.1)) in
        let other : nat_le (suc found.place) (length older) ≡ true =
        le_true (suc found.place) (length older) (omega (arith, inside.0)) in
        rw (one, other) (later (is_for name (sent_to tag entry)) (taken entry.answer) (unlooked tag name from older)
        (unlooked tag name (suc found.place) older) (again here))
    go None earlier e again =
        let it = is_at tag from older entry found e in
        let place = it.place in
        let before : nat_le (suc found.place) (length older) ≡ false =
        lt_fails (suc found.place) (length older) (omega (arith, place)) in
        let sends : sent_to tag entry ≡ if_to tag (sent_by found.did) =
        ap (if_to tag) (taken_sends entry.answer found.did it.took) in
        let left : unlooked tag name from (entry ∷ older) ≡ End
        = ap (λ b. if b && is_for name (sent_to tag entry) then cons_option (taken entry.answer)
        (unlooked tag name from older) else unlooked tag name from older) it.late
        ∙ ap (λ l. if is_for name (sent_to tag entry) then cons_option (taken entry.answer) l else l)
        (none_ahead tag name from older earlier)
        ∙ ap (λ t. if is_for name (sent_to tag entry) then cons_option t [] else []) it.took
        ∙ ap (λ s. if is_for name s then found.did ∷ [] else []) sends in
        let right : unlooked tag name (suc found.place) (entry ∷ older) ≡ []
        = ap (λ b. if b && is_for name (sent_to tag entry) then cons_option (taken entry.answer)
        (unlooked tag name (suc found.place) older) else unlooked tag name (suc found.place) older) before
        ∙ unlooked_none tag name (suc found.place) older (omega (arith, place)) in
        left ∙ ap (λ l. l ++ End) (sym right)

-- a list of at most one item that ends with an item is that item alone
pub one_end : (xs : List LogEntry) (did : LogEntry) (ahead : Option LogEntry) → xs ++ did ∷ [] ≡ list_of ahead
    → (xs ≡ []) × (ahead ≡ Some did)
one_end [] did None is = cc
one_end [] did (Some other) is = let same : did ≡ other = cc in (refl, ap Some (sym same))
one_end (x ∷ xs) did None is = cc
one_end (x ∷ []) did (Some other) is = cc
one_end (x ∷ (y ∷ xs)) did (Some other) is = cc

-- looking at the next command
pub looks_served : LooksServe
looks_served d tag service history found from next served = record { other = other; own = own }
  where
    ends : unlooked tag service.name (suc found.place) history
        ++ (if is_for service.name (if_to tag (sent_by found.did)) then found.did ∷ [] else []) ≡ list_of served.ahead
    ends = sym (looked tag service.name from history found next) ∙ served.is_ahead

    other : is_for service.name (if_to tag (sent_by found.did)) ≡ false
        → IsServed d tag (suc found.place) history service
    other apart =
        subst (λ left. IsServedBy d left (wanted tag service.name (story tag history)) service)
        (looked tag service.name from history found next
        ∙ ap (λ b. unlooked tag service.name (suc found.place) history ++ (if b then found.did ∷ [] else [])) apart
        ∙ append-nil (unlooked tag service.name (suc found.place) history)) served

    own : (sent : Sent) → sent_by found.did ≡ Some sent → is_for service.name (if_to tag (sent_by found.did)) ≡ true
        → (taken : IsTaken d tag (story tag history) service sent.command (asked_in found.did)) × IsServed d tag
        (suc found.place) history taken.after
    own sent sends mine =
        let end = one_end (unlooked tag service.name (suc found.place) history) found.did served.ahead
        (ap (λ b. unlooked tag service.name (suc found.place) history ++ (if b then found.did ∷ [] else [])) (sym mine)
        ∙ ends) in
        let given : IsGiven d (wanted tag service.name (story tag history)) service found.did =
        subst (λ a. IsPhase d tag (story tag history) service a) end.1 served.phase in
        let its : given.sent ≡ sent = some_same (sent_by found.did) given.sent sent given.sends sends in
        let one : IsTaken d tag (story tag history) service sent.command (asked_in found.did)
        = subst (λ (s : Sent). IsTaken d tag (story tag history) service s.command (asked_in found.did)) its
        (takes_settled d tag service (story tag history) found.did given) in (
          one,
          record {
            ahead = None;
            is_ahead = ap (λ n. unlooked tag n (suc found.place) history) one.name_is ∙ end.0;
            phase = one.settled;
          },
        )

-- ---- rest

-- where every item passes a test, all of the list do
all_true : {X : Type 0} (test : X → Bool) (xs : List X) → ((x : X) → test x ≡ true) → list_all test xs ≡ true
all_true test [] each = refl
all_true test (x ∷ xs) each = and_from (test x) (list_all test xs) (each x) (all_true test xs each)

-- where nothing is left to look at
pub rest_answered : RestIsAnswered
rest_answered site history tag sim from legal orderly follows commanded step none each =
    all_true (λ entry. is_sent_answered tag (story tag history) (sent_to tag entry)) (since_docking (story tag history))
    (λ entry. by (sent_to tag entry))
  where
    served : (name : List ℕ) (service : SimService) → service_called name sim.services ≡ Some service
        → is_answered tag (story tag history) name ≡ true
    served name service called =
        let its = each name service called in
        let name_is : service.name ≡ name = same_true service.name name
        (found_member (λ (s : SimService). bytes_eq s.name name) sim.services service called).1 in
        ap (is_answered tag (story tag history)) (sym name_is) ∙ go its.0 its.1.ahead its.1.is_ahead its.1.phase
      where
        go : is_untold service ≡ false → (ahead : Option LogEntry)
            → unlooked tag service.name from history ≡ list_of ahead
            → IsPhase sim.description tag (story tag history) service ahead
            → is_answered tag (story tag history) service.name ≡ true
        go told None is phase = phase.answered ∙ ap (λ b. not (b && is_some service.last)) told
        go told (Some did) is phase = let clash : [] ≡ did ∷ [] =
            sym (none_ahead tag service.name from history none) ∙ is in cc

    owed_not : (name : List ℕ) → (found : Option SimService) → service_called name sim.services ≡ found
        → is_answered tag (story tag history) name ≡ false → ⊥
    owed_not name (Some service) called un = let clash : true ≡ false = sym (served name service called) ∙ un in cc
    owed_not name None called un =
        let owed = owing site history legal orderly follows commanded tag name un in
        let no_controls : controls_in name (since_docking (past tag history)) ≡ []
        = subst (λ f. IsServiceTold sim.description f (controls_in name (since_docking (past tag history)))) called
        (step.services name) in
        let control : control_by name (past tag history) ≡ Some owed.view.control
        = view_control (control_by name (past tag history)) owed.view
        (seen_with name (description_by (past tag history))) (λ c. refl) owed.seen in
        let nothing : control_by name (past tag history) ≡ None =
        last_newest name (since_docking (past tag history)) ∙ ap newest no_controls in
        no_both (control_by name (past tag history)) owed.view.control nothing control

    answered : (name : List ℕ) (b : Bool) → is_answered tag (story tag history) name ≡ b → b ≡ true
    answered name true is = refl
    answered name false is = absurd (owed_not name (service_called name sim.services) refl is)

    by : (sent : Option Sent) → is_sent_answered tag (story tag history) sent ≡ true
    by None = refl
    by (Some sent) = let a = answered sent.service (is_answered tag (story tag history) sent.service) refl in a
