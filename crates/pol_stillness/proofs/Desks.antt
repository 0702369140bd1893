-- What a plant that follows a site never does.
use Rattle.std.proofs.Common.{◌≡◌, ℕ, Bool, true, false, cond, List, [], ◌∷◌, Option, Some, None, refl, ap, sym, ◌∙◌}
use Rattle.std.specs.Prelude.{option_map, if◌then◌else◌}
use Rattle.std.specs.Option.{option_or, option_and_then}
use Rattle.std.specs.Str.{bytes_eq}
use Rattle.std.proofs.lemmas.Option.{same_Some}
use Rattle.mtp_codes.specs.declared.command.Command.{Command}
use Rattle.mtp_codes.specs.declared.mode.Speaker.TheVariants.{Operator}
use Rattle.mtp_codes.specs.declared.mode.Forbid.TheVariants.{ModeForbids}
use Rattle.mtp_assembly.specs.declared.control.ServiceControl.{ServiceControl}
use Rattle.mtp_modes.specs.Permission.{forbidden_by}
use Rattle.mtp_modes.specs.declared.view.ServiceView.{ServiceView}
use Rattle.pol_events.specs.Events.{PlainEvent, plug, unplug, report, desk, exchange_begin, exchange_end}
use Rattle.pol_events.specs.Events.{exchange_cancel}
use Rattle.pol_events.specs.declared.answer.Answer.{Answer}
use Rattle.pol_events.specs.Refusals.{forbid_rule, forbidden}
use Rattle.pol_history.specs.Looking.{History, past, is_accepted, is_accepted_of}
use Rattle.pol_history.specs.Modules.{control_by, description_by, seen_with, view_of}
use Rattle.pol_history.specs.Rules.{not_reported}
use Rattle.pol_history.specs.Answers.{answer_of}
use Rattle.pol_history.proofs.Accepted.{accepted_none, paired}
use Rattle.pol_site.specs.Sites.{PlainSite}
use Rattle.pol_site.specs.Following.{FollowsSite, IsAllowed}
use Rattle.pol_stillness.specs.Desks.{IsAutomatic, DesksAreRefused}

-- an allowed event of a module leaves each of its services automatic
automatic_step : (site : PlainSite) (older : History) (tag service : List ℕ) (event : PlainEvent) (answer : Answer)
    (control : ServiceControl) →
    IsAllowed site older event answer → ((control : ServiceControl) → control_by service (past tag older) ≡ Some control
    → IsAutomatic control) →
    control_by service (paired event answer ∷ past tag older) ≡ Some control → IsAutomatic control
automatic_step site older tag service (plug at other description) answer control allowed again is = cc
automatic_step site older tag service (unplug at other) answer control allowed again is = cc
automatic_step site older tag service (exchange_begin at other) answer control allowed again is = cc
automatic_step site older tag service (exchange_end at other ticket description) answer control allowed again is = cc
automatic_step site older tag service (exchange_cancel at other ticket) answer control allowed again is = cc
automatic_step site older tag service (report at other named told) answer control allowed again is =
    go (bytes_eq named service) is
  where
    go : (here : Bool) → option_or (if here then Some told else None) (control_by service (past tag older)) ≡ Some
        control → IsAutomatic control
    go false is = again control is
    go true is =
        let same : control ≡ told = sym (same_Some told control is) in (
          ap (λ (c : ServiceControl). c.mode) (same ∙ allowed.due),
          ap (λ (c : ServiceControl). c.origin)
              (same ∙ allowed.due),
        )
automatic_step site older tag service _ answer control allowed again is = again control is

-- what a service reports in a history that follows a site is Automatic and External
automatic : (site : PlainSite) (history : History) → FollowsSite site history
    → (tag service : List ℕ) (control : ServiceControl) → control_by service (past tag history) ≡ Some control
    → IsAutomatic control
automatic site [] follows tag service control is = cc
automatic site (entry ∷ older) follows tag service control is =
    go (is_accepted_of tag entry) is (automatic site older follows.1 tag service)
  where
    go : (own : Bool) → control_by service (cond own (entry ∷ past tag older) (past tag older)) ≡ Some control →
        ((control : ServiceControl) → control_by service (past tag older) ≡ Some control → IsAutomatic control)
        → IsAutomatic control
    go false is again = again control is
    go true is again = automatic_step site older tag service entry.event entry.answer control follows.0 again is

-- an operator may not command an automatic service
unspoken : (view : ServiceView) (command : Command) → IsAutomatic view.control → forbidden command view ≡ None → ⊥
unspoken view command automatic free =
    let told : forbidden_by view Operator command ≡ Some ModeForbids = rw (automatic.0, automatic.1) refl in
    let clash = sym (ap (option_map forbid_rule) told) ∙ free in cc

-- what is seen was reported
pub view_control : (control : Option ServiceControl) (view : ServiceView) (f : ServiceControl → ServiceView)
    → ((c : ServiceControl) → (f c).control ≡ c) → option_map f control ≡ Some view
    → control ≡ Some view.control
view_control None view f keeps is = cc
view_control (Some c) view f keeps is = ap Some
    (sym (keeps c) ∙ ap (λ (v : ServiceView). v.control) (same_Some (f c) view is))

-- so a command of the desk is refused, whatever rule comes first
desk_refused : (history : History) (at : ℕ) (tag service : List ℕ) (command : Command) →
    ((control : ServiceControl) → control_by service (past tag history) ≡ Some control → IsAutomatic control)
    → (answered : Bool)
    → is_accepted (answer_of history (desk at tag service command)) ≡ answered → answered ≡ false
desk_refused history at tag service command all false is = refl
desk_refused history at tag service command all true is =
    let none = accepted_none history (desk at tag service command) is in
    absurd (go (view_of history tag service) refl none.1.1.1.0 none.1.1.1.1.0)
  where
    go : (found : Option ServiceView) → view_of history tag service ≡ found → not_reported tag service found ≡ None
        → option_and_then (forbidden command) found ≡ None → ⊥
    go None seen told free = cc
    go (Some view) seen told free =
        unspoken view command (all view.control (view_control (control_by service (past tag history)) view
        (seen_with service (description_by (past tag history))) (λ c. refl) seen)) free

-- every command of the desk
pub desks_refused : DesksAreRefused
desks_refused site history follows =
    record {
      automatic = automatic site history follows;
      refused = λ at tag service command. desk_refused history at tag service command
          (automatic site history follows tag service)
          (is_accepted (answer_of history (desk at tag service command))) refl;
    }
