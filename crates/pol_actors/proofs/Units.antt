-- What a module keeps of its history, after one more entry.
use Rattle.std.proofs.Common.{◌≡◌, ℕ, true, false, cond, List, [], ◌∷◌, Option, Some, None, refl, ap, sym, ◌∙◌, subst}
use Rattle.std.specs.Prelude.{◌||◌, pred, is_some, option_map, slice_get, if◌then◌else◌}
use Rattle.std.specs.Str.{bytes_eq}
use Rattle.std.proofs.lemmas.Bool.{and_from, and_right}
use Rattle.mtp_codes.proofs.Names.{same_refl}
use Rattle.mtp_codes.specs.Repeats.{repeats_by}
use Rattle.mtp_modes.specs.declared.view.ServiceView.{ServiceView}
use Rattle.mtp_sim.specs.declared.report.SimReport.{SimReport}
use Rattle.mtp_sim.specs.declared.report.SimReport.TheVariants.{Service, Variable}
use Rattle.chart_core.specs.declared.entry.LogEntry.{LogEntry}
use Rattle.chart_cursor.specs.Commands.{Sent, sent_by}
use Rattle.pol_events.specs.Events.{PlainEntry, plug, report, variable, advance, exchange_begin, exchange_end}
use Rattle.pol_events.specs.Events.{exchange_cancel}
use Rattle.pol_events.specs.declared.answer.Answer.{Answer}
use Rattle.pol_events.specs.declared.answer.Answer.TheVariants.{Done, Did}
use Rattle.pol_events.specs.declared.answer.Rule.{Rule}
use Rattle.pol_history.specs.Answers.{first_rule}
use Rattle.pol_history.specs.Commands.{sent_command}
use Rattle.pol_history.specs.Looking.{History, is_accepted, is_accepted_of, is_module, last_of, past, subject}
use Rattle.pol_history.specs.Modules.{description_by, docking_by, docking_of, is_moving, seen_with, reported}
use Rattle.pol_history.specs.Modules.{since_docking, view_by, view_of}
use Rattle.pol_history.specs.Runs.{IsLegal, IsOrderly}
use Rattle.pol_history.proofs.Accepted.{paired}
use Rattle.pol_safety.specs.Known.{is_there}
use Rattle.pol_site.specs.Commanded.{IsCommanded}
use Rattle.pol_site.specs.Following.{FollowsSite, exchanging, was_begun}
use Rattle.pol_site.specs.Plans.{begun_in, plan_by}
use Rattle.pol_site.specs.Rules.{same_tag}
use Rattle.pol_site.specs.Sites.{PlainSite, PlainSiteModule, PlainSiteExchange}
use Rattle.pol_site.specs.Stories.{if_to, sent_to, story, touches}
use Rattle.pol_simulated.specs.Units.{report_event}
use Rattle.pol_simulated.proofs.Counted.{untouched_kept}
use Rattle.pol_simulated.proofs.Planned.{ends_bring, plugs_bring}
use Rattle.pol_stillness.specs.KeepingUp.{KeepsUp}
use Rattle.pol_stillness.proofs.KeepingUp.{others_up, sends_up}
use Rattle.pol_stillness.proofs.Still.{sent_still}
use Rattle.pol_stillness.proofs.Owing.{refused_silent}
use Rattle.pol_actors.specs.Kept.{IsBrought, IsMadeUp, IsUnit}
use Rattle.pol_actors.specs.Turning.{origin_of}
use Rattle.pol_actors.specs.declared.simulation.Simulation.{Simulation}
use Rattle.pol_actors.specs.declared.unit.Unit.{Unit as Module}

-- ---- entries of others

-- an entry that doesn't touch it
pub unit_untouched : (site : PlainSite) (older : History) (entry : PlainEntry) (unit : PlainSiteModule) (own : Module) →
    touches unit.tag entry ≡ false → IsUnit site unit older own → IsUnit site unit (entry ∷ older) own
unit_untouched site older entry unit own free is =
    let same = untouched_kept unit.tag older entry free in
    record {
      unbrought = λ gone. is.unbrought (ap (λ p. is_there (docking_by p)) (sym same.0) ∙ gone);
      brought = λ there. subst (λ p. IsBrought site unit.tag p (origin_of site unit own.brought)) (sym same.0)
          (is.brought (ap (λ p. is_there (docking_by p)) (sym same.0) ∙ there));
      made = go own.made is.made;
    }
  where
    go : (made : Option Simulation) → IsMadeUp site unit.tag older made → IsMadeUp site unit.tag (entry ∷ older) made
    go None fresh =
        let same = untouched_kept unit.tag older entry free in
        (ap since_docking same.0 ∙ fresh.0, ap since_docking same.1 ∙ fresh.1)
    go (Some made) up = others_up site unit.tag made.place older entry made.sim free up

-- what wasn't reported since docking isn't seen
unseen : (past : History) (service : List ℕ) (view : ServiceView) → since_docking past ≡ [] →
    view_by service past ≡ Some view → ⊥
unseen past service view fresh seen =
    let clash = sym (ap (λ entries. option_map (seen_with service (description_by past))
    (last_of (λ entry. reported service entry.event) entries)) fresh) ∙ seen in cc

-- a command that a batch sends it
pub unit_sent : (site : PlainSite) (older : History) (at : ℕ) (batch : List ℕ) (did : LogEntry) (sent : Sent)
    (unit : PlainSiteModule) (own : Module) → IsLegal (paired (advance at batch) (Did did) ∷ older) →
    IsOrderly (paired (advance at batch) (Did did) ∷ older) →
    FollowsSite site (paired (advance at batch) (Did did) ∷ older) →
    IsCommanded older → sent_by did ≡ Some sent → sent.tag ≡ unit.tag → IsUnit site unit older own →
    IsUnit site unit (paired (advance at batch) (Did did) ∷ older) own
unit_sent site older at batch did sent unit own legal orderly follows commanded sends named is =
    record { unbrought = is.unbrought; brought = is.brought; made = go own.made is.made }
  where
    entry : PlainEntry
    entry = paired (advance at batch) (Did did)

    go : (made : Option Simulation) → IsMadeUp site unit.tag older made → IsMadeUp site unit.tag (entry ∷ older) made
    go None fresh =
        let still = sent_still site older entry sent legal orderly follows commanded sends in
        absurd (unseen (past unit.tag older) sent.service still.view fresh.0
        (ap (λ tag. view_of older tag sent.service) (sym named) ∙ still.seen))
    go (Some made) up =
        subst (λ tag. KeepsUp site tag made.place (entry ∷ older) made.sim) named
        (sends_up site older at batch did sent made.place made.sim legal orderly follows commanded sends
        (subst (λ tag. KeepsUp site tag made.place older made.sim) (sym named) up))

-- ---- entries that move it

-- an accepted event of it stands in its past and in its story
module _ (older : History) (entry : PlainEntry) (tag : List ℕ) (mine : is_module tag (subject entry.event) ≡ true)
    (accepted : is_accepted entry.answer ≡ true) where
  -- the entry is an accepted one of the module
  both : is_accepted_of tag entry ≡ true
  both = and_from (is_module tag (subject entry.event)) (is_accepted entry.answer) mine accepted

  -- so it stands in front of the module's past
  pub own_past : past tag (entry ∷ older) ≡ entry ∷ past tag older
  own_past = ap (λ own. cond own (entry ∷ past tag older) (past tag older)) both

  -- and of its story
  pub own_story : story tag (entry ∷ older) ≡ entry ∷ story tag older
  own_story =
      ap (λ own. cond (own || is_some (sent_to tag entry)) (entry ∷ story tag older) (story tag older)) both

  -- where it moves the module, nothing was told of it since
  pub moved_fresh : is_moving entry.event ≡ true →
      (since_docking (past tag (entry ∷ older)) ≡ []) × (since_docking (story tag (entry ∷ older)) ≡ [])
  moved_fresh moving = (
    ap since_docking own_past ∙ ap (λ b. if b then [] else entry ∷ since_docking (past tag older)) moving,
    ap since_docking own_story ∙ ap (λ b. if b then [] else entry ∷ since_docking (story tag older)) moving,
  )

-- a tag is its own
mine_by : (tag other : List ℕ) → tag ≡ other → bytes_eq tag other ≡ true
mine_by tag other is = ap (λ name. bytes_eq name other) is ∙ same_refl other

-- the begin of its exchange: its simulation is dropped
pub unit_begun : (site : PlainSite) (older : History) (at : ℕ) (tag : List ℕ) (answer : Answer) (unit : PlainSiteModule)
    (own : Module) → is_accepted answer ≡ true → tag ≡ unit.tag → is_there (docking_of older unit.tag) ≡ true →
    IsUnit site unit older own →
    IsUnit site unit (paired (exchange_begin at tag) answer ∷ older) (record { made = None; brought = own.brought })
unit_begun site older at tag answer unit own accepted named there is =
    let entry : PlainEntry = paired (exchange_begin at tag) answer in
    let same = own_past older entry unit.tag (mine_by tag unit.tag named) accepted in
    record {
      unbrought = λ gone. let clash : true ≡ false = ap (λ p. is_there (docking_by p)) (sym same) ∙ gone in cc;
      brought = λ now. subst (λ p. IsBrought site unit.tag p (origin_of site unit own.brought)) (sym same)
          (is.brought there);
      made = moved_fresh older entry unit.tag (mine_by tag unit.tag named) accepted refl;
    }

-- the cancelling of its exchange
pub unit_cancelled : (site : PlainSite) (older : History) (at : ℕ) (tag : List ℕ) (ticket : ℕ) (answer : Answer)
    (unit : PlainSiteModule) (own : Module) → is_accepted answer ≡ true → tag ≡ unit.tag →
    is_there (docking_of older unit.tag) ≡ true → IsUnit site unit older own →
    IsUnit site unit (paired (exchange_cancel at tag ticket) answer ∷ older)
    (record { made = None; brought = own.brought })
unit_cancelled site older at tag ticket answer unit own accepted named there is =
    let entry : PlainEntry = paired (exchange_cancel at tag ticket) answer in
    let same = own_past older entry unit.tag (mine_by tag unit.tag named) accepted in
    record {
      unbrought = λ gone. let clash : true ≡ false = ap (λ p. is_there (docking_by p)) (sym same) ∙ gone in cc;
      brought = λ now. subst (λ p. IsBrought site unit.tag p (origin_of site unit own.brought)) (sym same)
          (is.brought there);
      made = moved_fresh older entry unit.tag (mine_by tag unit.tag named) accepted refl;
    }

-- the end of its exchange: it is the module that the exchange brings
pub unit_ended : (site : PlainSite) (older : History) (at : ℕ) (tag : List ℕ) (ticket place : ℕ)
    (exchange : PlainSiteExchange) (unit : PlainSiteModule) (own : Module) → FollowsSite site older →
    exchanging older ≡ was_begun tag ticket → place ≡ pred (begun_in older) →
    slice_get site.exchanges place ≡ Some exchange → tag ≡ unit.tag → IsUnit site unit older own →
    IsUnit site unit (paired (exchange_end at tag ticket exchange.description) Done ∷ older)
    (record { made = None; brought = Some place })
unit_ended site older at tag ticket place exchange unit own follows begun place_is listed named is =
    let entry : PlainEntry = paired (exchange_end at tag ticket exchange.description) Done in
    let same = own_past older entry unit.tag (mine_by tag unit.tag named) refl in
    let planned : plan_by site unit.tag (past unit.tag (entry ∷ older)) ≡ Some exchange.plan =
    ap (λ name. plan_by site name (past name (entry ∷ older))) (sym named)
    ∙ ends_bring site older at tag ticket exchange.description exchange follows begun
    (ap (slice_get site.exchanges) (sym place_is) ∙ listed) in
    record {
      unbrought = λ gone. let clash : true ≡ false = ap (λ p. is_there (docking_by p)) (sym same) ∙ gone in cc;
      brought = λ now. rw listed (record {
        described = ap description_by same;
        planned = planned;
      });
      made = moved_fresh older entry unit.tag (mine_by tag unit.tag named) refl refl;
    }

-- its plug
pub unit_plugged : (site : PlainSite) (older : History) (at place : ℕ) (unit : PlainSiteModule) (own : Module) →
    repeats_by same_tag site.modules ≡ false → slice_get site.modules place ≡ Some unit →
    is_there (docking_of older unit.tag) ≡ false → IsUnit site unit older own →
    IsUnit site unit (paired (plug at unit.tag unit.description) Done ∷ older) own
unit_plugged site older at place unit own unlike listed gone is =
    let entry : PlainEntry = paired (plug at unit.tag unit.description) Done in
    let same = own_past older entry unit.tag (same_refl unit.tag) refl in
    let before = is.unbrought gone in
    record {
      unbrought = λ gone. let clash : true ≡ false = ap (λ p. is_there (docking_by p)) (sym same) ∙ gone in cc;
      brought = λ now. subst (λ brought. IsBrought site unit.tag (past unit.tag (entry ∷ older))
          (origin_of site unit brought))
          (sym before.0)
          (record {
            described = ap description_by same;
            planned = plugs_bring site older at unit.tag unit.description place unit unlike listed refl;
          });
      made = subst (IsMadeUp site unit.tag (entry ∷ older)) (sym before.1)
          (moved_fresh older entry unit.tag (same_refl unit.tag) refl refl);
    }

-- ---- its own reports

-- a report of it, with which its simulation keeps up
pub unit_reported : (site : PlainSite) (older : History) (at : ℕ) (told : SimReport) (unit : PlainSiteModule)
    (own : Module) (made : Simulation) → is_there (docking_of older unit.tag) ≡ true → IsUnit site unit older own →
    KeepsUp site unit.tag made.place (paired (report_event at unit.tag told) Done ∷ older) made.sim →
    IsUnit site unit (paired (report_event at unit.tag told) Done ∷ older)
    (record { made = Some made; brought = own.brought })
unit_reported site older at (Service name control) unit own made there is up =
    let entry : PlainEntry = paired (report at unit.tag name control) Done in
    let same = own_past older entry unit.tag (same_refl unit.tag) refl in
    record {
      unbrought =
          λ gone. let clash : true ≡ false = sym there ∙ ap (λ p. is_there (docking_by p)) (sym same) ∙ gone in cc;
      brought = λ now. subst (λ p. IsBrought site unit.tag p (origin_of site unit own.brought)) (sym same)
          (is.brought there);
      made = up;
    }
unit_reported site older at (Variable name value) unit own made there is up =
    let entry : PlainEntry = paired (variable at unit.tag name value) Done in
    let same = own_past older entry unit.tag (same_refl unit.tag) refl in
    record {
      unbrought =
          λ gone. let clash : true ≡ false = sym there ∙ ap (λ p. is_there (docking_by p)) (sym same) ∙ gone in cc;
      brought = λ now. subst (λ p. IsBrought site unit.tag p (origin_of site unit own.brought)) (sym same)
          (is.brought there);
      made = up;
    }

-- its simulation changes, and nothing is told
pub unit_looked : (site : PlainSite) (history : History) (unit : PlainSiteModule) (own : Module) (made : Simulation) →
    is_there (docking_of history unit.tag) ≡ true → IsUnit site unit history own →
    KeepsUp site unit.tag made.place history made.sim →
    IsUnit site unit history (record { made = Some made; brought = own.brought })
unit_looked site history unit own made there is up =
    record {
      unbrought = λ gone. let clash : true ≡ false = sym there ∙ gone in cc;
      brought = is.brought;
      made = up;
    }

-- ---- what touches no module

-- the first rule that holds sends nothing
pub sends_none : (rules : List (Option Rule)) (answer : Answer) → sent_command answer ≡ None →
    sent_command (first_rule rules answer) ≡ None
sends_none [] answer none = none
sends_none (Some rule ∷ rules) answer none = refl
sends_none (None ∷ rules) answer none = sends_none rules answer none

-- an entry that isn't the module's, or was refused, and sends nothing
pub touches_none : (tag : List ℕ) (entry : PlainEntry) → is_accepted_of tag entry ≡ false →
    sent_command entry.answer ≡ None → touches tag entry ≡ false
touches_none tag entry apart none =
    ap (λ own. own || is_some (sent_to tag entry)) apart ∙ ap (λ sent. is_some (if_to tag sent)) none

-- a refused one
pub touches_refused : (tag : List ℕ) (entry : PlainEntry) → is_accepted entry.answer ≡ false → touches tag entry ≡ false
touches_refused tag entry refused =
    touches_none tag entry (and_right (is_module tag (subject entry.event)) (is_accepted entry.answer) refused)
    (refused_silent entry.answer refused)
