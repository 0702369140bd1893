-- A command is only ever sent to a service that is still and whose earlier commands were all answered.
use Rattle.std.proofs.Common.{◌≡◌, ℕ, Bool, true, false, not, List, Option, Some, None, refl, ap, sym, ◌∙◌}
use Rattle.std.specs.Prelude.{◌&&◌, ◌||◌, is_some}
use Rattle.std.specs.List.{AllByRecursion}
use Rattle.std.proofs.lemmas.Option.{same_Some}
use Rattle.std.proofs.lemmas.Bool.{true_from_ne_false}
use Rattle.mtp_codes.specs.declared.command.Command.{Command}
use Rattle.mtp_codes.specs.declared.command.Command.TheVariants as command
use Rattle.mtp_codes.specs.declared.state.State.{State}
use Rattle.mtp_machine.specs.Machine.{command_target, own_target, same_command, every_state, every_command}
use Rattle.mtp_machine.proofs.EveryState.{of_each_state, of_each_command}
use Rattle.mtp_sim.specs.Ticks.{changes_in}
use Rattle.chart_core.specs.Entries.{chart_entry}
use Rattle.chart_core.specs.declared.entry.LogEntry.{LogEntry}
use Rattle.chart_core.specs.declared.entry.LogEntry.TheVariants.{Start, Finish, Reset, Stop, Asked}
use Rattle.chart_cursor.specs.Commands.{Sent, sent_by}
use Rattle.pol_events.specs.Events.{PlainEvent, advance, stop_batch, abandon, desk}
use Rattle.pol_events.specs.declared.answer.Answer.{Answer}
use Rattle.pol_events.specs.declared.answer.Answer.TheVariants.{Did}
use Rattle.chart_core.specs.declared.next.Next.{Next}
use Rattle.chart_core.specs.declared.next.Next.TheVariants as next
use Rattle.pol_history.specs.Looking.{History, is_accepted}
use Rattle.pol_history.specs.Batches.{outcome_of}
use Rattle.pol_history.specs.Commands.{sent_command}
use Rattle.pol_history.specs.Following.{next_of}
use Rattle.pol_history.specs.Answers.{advanced, otherwise, answer_of}
use Rattle.pol_history.specs.Runs.{IsLegal, IsOrderly}
use Rattle.pol_history.proofs.Accepted.{accepted_none, accepted_otherwise}
use Rattle.pol_safety.proofs.Nexts.{has_next}
use Rattle.pol_safety.proofs.Sending.{sent_was_permitted, sends_accepted}
use Rattle.pol_safety.proofs.Starts.{is_open_batch}
use Rattle.pol_site.specs.Sites.{PlainSite}
use Rattle.pol_site.specs.Stories.{story, is_answered}
use Rattle.pol_site.specs.Following.{FollowsSite, IsAllowed}
use Rattle.pol_stillness.specs.Apart.{IsOwed}
use Rattle.pol_stillness.proofs.Owed.{owed_not_sent}
use Rattle.pol_stillness.proofs.Desks.{desks_refused}
use Rattle.pol_stillness.specs.Plain.{is_plain, is_plain_command, is_plain_answer, IsPlain}
use Rattle.pol_stillness.specs.Law.{CommandsFindServicesStill}
use Rattle.pol_stillness.proofs.Plain.{plants_plain, view_plain, answer_plain, did_runs}
use Rattle.pol_stillness.proofs.Owing.{owing}

-- ---- the state

-- a plain command leaves no state from which a service changes by itself
abbrev is_still_by : Bool → State → Command → Bool
is_still_by completes one given =
    not (is_plain_command given && (is_plain one &&
    (is_some (command_target one given) && not (same_command given command.Complete && completes))))
    || not (changes_in completes one)

-- so it is of each state and command, where the procedure completes by itself
every_still : AllByRecursion (λ one. AllByRecursion (λ given. is_still_by true one given ≡ true) every_command)
    every_state
unfolding command_target own_target
every_still = search

-- and where it doesn't
every_still_waiting : AllByRecursion (λ one. AllByRecursion (λ given. is_still_by false one given ≡ true) every_command)
    every_state
unfolding command_target own_target
every_still_waiting = search

-- so it is of any
still_by : (completes : Bool) (one : State) (given : Command) → is_still_by completes one given ≡ true
still_by true one given =
    of_each_command (λ given. is_still_by true one given ≡ true)
    (of_each_state (λ one. AllByRecursion (λ given. is_still_by true one given ≡ true) every_command) every_still one)
    given
still_by false one given =
    of_each_command (λ given. is_still_by false one given ≡ true)
    (of_each_state (λ one. AllByRecursion (λ given. is_still_by false one given ≡ true) every_command)
    every_still_waiting one) given

-- a service that takes a plain command in a plain state is still
still : (completes : Bool) (one : State) (given : Command) → is_plain_command given ≡ true → is_plain one ≡ true
    → is_some (command_target one given) ≡ true
    → (same_command given command.Complete && completes) ≡ false → changes_in completes one ≡ false
still completes one given plain at leads waits = let fact =
    still_by completes one given in go (changes_in completes one) (rw (plain, at, leads, waits) at fact)
  where
    go : (b : Bool) → not b ≡ true → b ≡ false
    go true is = cc
    go false is = refl

-- ---- the command

-- a plain answer sends a plain command
plain_sent : (answer : Answer) (sent : Sent) → is_plain_answer answer ≡ true → sent_command answer ≡ Some sent
    → is_plain_command sent.command ≡ true
plain_sent (Did entry) sent plain sends = by entry plain sends
  where
    by : (entry : LogEntry) → is_some (chart_entry entry) ≡ true → sent_by entry ≡ Some sent
        → is_plain_command sent.command ≡ true
    by (Start step tag service procedure) run sends =
        ap (λ (s : Sent). is_plain_command s.command) (sym (same_Some _ sent sends))
    by (Finish step tag service) run sends =
        ap (λ (s : Sent). is_plain_command s.command) (sym (same_Some _ sent sends))
    by (Reset step tag service) run sends = ap (λ (s : Sent). is_plain_command s.command) (sym (same_Some _ sent sends))
    by (Stop step tag service) run sends = cc
    by (Asked tag service given) run sends = cc
    by _ run sends = cc
plain_sent _ sent plain sends = cc

-- ---- the answers before

-- an advance that sends a command finds the earlier ones answered
advance_answered : (older : History) (other : List ℕ) (sent : Sent) (found : Option Next) → next_of older other ≡ found
    → IsLegal older → IsOrderly older → IsPlain older
    → outcome_of older other ≡ None → sent_command (advanced found) ≡ Some sent → IsOwed older sent.tag sent.service → ⊥
advance_answered older other sent None is legal orderly plain unclosed sends owed = cc
advance_answered older other sent (Some (next.Waiting obstacle)) is legal orderly plain unclosed sends owed = cc
advance_answered older other sent (Some (next.Closed outcome)) is legal orderly plain unclosed sends owed = cc
advance_answered older other sent (Some (next.Did entry)) is legal orderly plain unclosed sends owed =
    let has = has_next older other (next.Did entry) is in
    owed_not_sent older sent.tag sent.service other has.started has.chart entry sent legal orderly owed has.start_is
    has.chart_is unclosed
    (did_runs older other entry plain has) sends refl refl

-- so does any event that sends one
event_answered : (site : PlainSite) (older : History) (event : PlainEvent) (answer : Answer) (sent : Sent)
    → is_accepted (answer_of older event) ≡ true → IsAllowed site older event answer
    → FollowsSite site older → IsLegal older → IsOrderly older → IsPlain older
    → sent_command (otherwise older event) ≡ Some sent → IsOwed older sent.tag sent.service → ⊥
event_answered site older (advance at other) answer sent accepted allowed follows legal orderly plain sends owed =
    advance_answered older other sent (next_of older other) refl legal orderly plain
    (is_open_batch older other (accepted_none older (advance at other) accepted).1.0) sends owed
event_answered site older (stop_batch at other) answer sent accepted allowed follows legal orderly plain sends owed =
    allowed
event_answered site older (abandon at other) answer sent accepted allowed follows legal orderly plain sends owed =
    allowed
event_answered site older (desk at tag service given) answer sent accepted allowed follows legal orderly plain sends
    owed =
    let clash : false ≡ true = sym ((desks_refused site older follows).refused at tag service given) ∙ accepted in cc
event_answered site older _ answer sent accepted allowed follows legal orderly plain sends owed = cc

-- the law of commands
pub sent_still : CommandsFindServicesStill
sent_still site older entry sent legal orderly follows commanded sends =
    let plain = plants_plain site older legal.2 follows.1 commanded in
    let was = sent_was_permitted older entry sent legal sends in
    let accepted : is_accepted (answer_of older entry.event) ≡ true =
    ap is_accepted (sym legal.0) ∙ sends_accepted entry.answer sent sends in
    let given : sent_command (otherwise older entry.event) ≡ Some sent
    = ap sent_command (sym (legal.0 ∙ accepted_otherwise older entry.event accepted)) ∙ sends in
    let plain_command = plain_sent entry.answer sent (answer_plain site older entry legal.0 follows.0 follows.1 plain)
    sends in
    record {
      view = was.view;
      seen = was.seen;
      permitted = was.permitted;
      still =
          still was.view.self_completes was.view.control.state sent.command plain_command
          (view_plain older sent.tag sent.service was.view plain was.seen) was.permitted.leads was.permitted.completes;
      answered =
          true_from_ne_false (is_answered sent.tag (story sent.tag older) sent.service)
          (λ un. event_answered site older entry.event entry.answer sent accepted follows.0 follows.1 legal.2 orderly.1
          plain given
          (owing site older legal.2 orderly.1 follows.1 commanded sent.tag sent.service un));
      plain = plain_command;
    }
