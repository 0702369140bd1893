-- Each command that an answer sends was permitted.
use Rattle.std.proofs.Common.{◌≡◌, ℕ, Bool, true, false, List, Option, Some, None, refl, ap, sym, ◌∙◌, subst}
use Rattle.std.specs.Prelude.{◌||◌, option_map, if◌then◌else◌, option_and_then}
use Rattle.std.proofs.lemmas.Option.{same_Some}
use Rattle.mtp_codes.specs.declared.command.Command.{Command}
use Rattle.mtp_codes.specs.declared.mode.Forbid.{Forbid}
use Rattle.mtp_codes.specs.declared.mode.Speaker.TheVariants.{Recipe, Operator}
use Rattle.mtp_modes.specs.Permission.{forbidden_by, IsPermitted}
use Rattle.mtp_modes.specs.declared.view.ServiceView.{ServiceView}
use Rattle.chart_core.specs.Roles.{PlainChart}
use Rattle.chart_core.specs.declared.entry.LogEntry.{LogEntry}
use Rattle.chart_core.specs.declared.entry.LogEntry.TheVariants.{StopAsked}
use Rattle.chart_core.specs.declared.next.Next.TheVariants as next
use Rattle.chart_core.specs.declared.next.Next.{Next}
use Rattle.chart_cursor.specs.Sights.{Sights}
use Rattle.chart_cursor.proofs.Commanding.{commands_permitted}
use Rattle.chart_cursor.specs.Commands.{Sent, sent_by, IsPermittedIn}
use Rattle.chart_cursor.specs.Logs.{chart_entries, has_broken, was_stopped}
use Rattle.pol_events.specs.Events.{PlainEvent, advance, stop_batch, desk}
use Rattle.pol_events.specs.Refusals.{forbid_rule, forbidden}
use Rattle.pol_events.specs.declared.answer.Answer.{Answer}
use Rattle.pol_events.specs.declared.answer.Answer.TheVariants.{Done, Did, Refused}
use Rattle.pol_events.specs.declared.event.Bind.{Bind}
use Rattle.pol_events.specs.Bound.{given}
use Rattle.pol_history.specs.Looking.{History, past, is_accepted}
use Rattle.pol_history.specs.Modules.{view_of}
use Rattle.pol_history.specs.Batches.{freezing_of, log_of}
use Rattle.pol_history.specs.Following.{sights_by, next_of}
use Rattle.pol_history.specs.Rules.{not_reported}
use Rattle.pol_history.specs.Commands.{sent_command}
use Rattle.pol_history.specs.Answers.{rules, advanced, otherwise, answer_of}
use Rattle.pol_history.proofs.Accepted.{NoneHolds, accepted_none, accepted_otherwise}
use Rattle.pol_safety.specs.Permitted.{WasPermitted, CommandsArePermitted}
use Rattle.pol_safety.proofs.Forbidding.{unforbidden}
use Rattle.pol_safety.proofs.Seen.{seen_of, tag_of_bound}
use Rattle.pol_safety.proofs.Nexts.{ComesFrom, stops, leaves, breaks, holds, unholds, runs, did_from, has_next}

-- what a batch does next sends only what it sees permitted
next_sends : (chart : PlainChart) (log : List LogEntry) (seen : Sights) (entry : LogEntry) (sent : Sent)
    → ComesFrom chart log seen entry → sent_by entry ≡ Some sent → IsPermittedIn seen sent
next_sends chart log seen entry sent (stops step view at free is) sends =
    let one = same_Some _ sent (ap sent_by (sym is) ∙ sends) in
    subst (IsPermittedIn seen) one (refl, (step.role, view, refl, at, free))
next_sends chart log seen entry sent (leaves name state is) sends = let none = ap sent_by (sym is) ∙ sends in cc
next_sends chart log seen entry sent (breaks name state is) sends = let none = ap sent_by (sym is) ∙ sends in cc
next_sends chart log seen entry sent (holds hold) sends =
    let one = same_Some _ sent (ap sent_by (sym hold.is) ∙ sends) in
    subst (IsPermittedIn seen) one
    (refl, (hold.step.role, hold.permits.view, refl, hold.permits.seen_as, hold.permits.free))
next_sends chart log seen entry sent (unholds unhold) sends =
    let one = same_Some _ sent (ap sent_by (sym unhold.is) ∙ sends) in
    subst (IsPermittedIn seen) one
    (refl, (unhold.step.role, unhold.permits.view, refl, unhold.permits.seen_as, unhold.permits.free))
next_sends chart log seen entry sent (runs is) sends = commands_permitted chart
    (chart_entries log) seen entry sent is sends

-- what a batch sees permitted was permitted
seen_permitted : (history : History) (binds : List Bind) (sent : Sent)
    → IsPermittedIn (sights_by binds (λ tag. past tag history)) sent → WasPermitted history sent
seen_permitted history binds sent (by_recipe, (role, view, tag_is, at, free)) =
    let (seen, view_is) = seen_of history binds role sent.service view at in
    let same : seen.tag ≡ sent.tag = sym (tag_of_bound history binds role seen.tag seen.bound) ∙ tag_is in
    record {
      view = view;
      seen = ap (λ tag. view_of history tag sent.service) (sym same) ∙ seen.live.seen ∙ ap Some view_is;
      permitted = subst (λ speaker. IsPermitted view speaker sent.command) (sym by_recipe)
          (unforbidden view Recipe sent.command free);
    }

-- what an advance sends was permitted
advance_sends : (history : History) (batch : List ℕ) (sent : Sent) (found : Option Next) → next_of history batch ≡ found
    → sent_command (advanced found) ≡ Some sent → WasPermitted history sent
advance_sends history batch sent None is sends = cc
advance_sends history batch sent (Some (next.Waiting obstacle)) is sends = cc
advance_sends history batch sent (Some (next.Closed outcome)) is sends = cc
advance_sends history batch sent (Some (next.Did entry)) is sends =
    let has = has_next history batch (next.Did entry) is in
    let seen = sights_by (given has.started.binds) (λ tag. past tag history) in
    seen_permitted history (given has.started.binds) sent
    (next_sends has.chart (log_of history batch) seen entry sent
    (did_from has.chart (freezing_of history batch) (log_of history batch) seen entry has.next_is) sends)

-- a command that the operator may send
unforbidden_desk : (command : Command) (view : ServiceView) → forbidden command view ≡ None
    → forbidden_by view Operator command ≡ None
unforbidden_desk command view none = go (forbidden_by view Operator command) none
  where
    go : (reason : Option Forbid) → option_map forbid_rule reason ≡ None → reason ≡ None
    go None none = refl
    go (Some reason) none = cc

-- what the operator sends was permitted
desk_sends : (history : History) (tag service : List ℕ) (command : Command) (found : Option ServiceView)
    → view_of history tag service ≡ found →
    not_reported tag service found ≡ None → option_and_then (forbidden command) found ≡ None →
    WasPermitted history (record { speaker = Operator; tag = tag; service = service; command = command })
desk_sends history tag service command None at reported free = cc
desk_sends history tag service command (Some view) at reported free =
    record {
      view = view;
      seen = at;
      permitted = unforbidden view Operator command
          (unforbidden_desk command view free);
    }

-- a stop sends nothing by itself
stop_silent : (stopping : Bool) (sent : Sent) → sent_command (if stopping then Done else Did StopAsked) ≡ Some sent → ⊥
stop_silent true sent sends = cc
stop_silent false sent sends = cc

-- what an accepted event sends was permitted
accepted_sends : (history : History) (event : PlainEvent) (sent : Sent) → NoneHolds (rules history event)
    → sent_command (otherwise history event) ≡ Some sent → WasPermitted history sent
accepted_sends history (advance at batch) sent none sends = advance_sends history batch sent
    (next_of history batch) refl sends
accepted_sends history (desk at tag service command) sent none sends =
    subst (WasPermitted history) (same_Some _ sent sends)
    (desk_sends history tag service command (view_of history tag service) refl none.1.1.1.0 none.1.1.1.1.0)
accepted_sends history (stop_batch at batch) sent none sends =
    absurd (stop_silent (has_broken (log_of history batch) || was_stopped (log_of history batch)) sent sends)
accepted_sends history _ sent none sends = cc

-- an answer that sends a command is no refusal
pub sends_accepted : (answer : Answer) (sent : Sent) → sent_command answer ≡ Some sent → is_accepted answer ≡ true
sends_accepted (Refused rule) sent sends = cc
sends_accepted _ sent sends = refl

-- each command that an answer sends was permitted
pub sent_was_permitted : CommandsArePermitted
sent_was_permitted history entry sent legal sends =
    let given : sent_command (answer_of history entry.event) ≡ Some sent = ap sent_command (sym legal.0) ∙ sends in
    let accepted = sends_accepted (answer_of history entry.event) sent given in
    accepted_sends history entry.event sent (accepted_none history entry.event accepted)
    (ap sent_command (sym (accepted_otherwise history entry.event accepted)) ∙ given)
