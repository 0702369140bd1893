-- A turn of a module keeps what is kept of it.
use Rattle.std.proofs.Common.{◌≡◌, ℕ, Bool, true, false, List, ◌∷◌, length, Option, Some, None, refl, sym, ◌∙◌, subst}
use Rattle.std.specs.Prelude.{◌&&◌, not, option_and_then, slice_get, if◌then◌else◌}
use Rattle.std.proofs.lemmas.Bool.{false_from_ne_true}
use Rattle.mtp_codes.specs.Repeats.{repeats_by}
use Rattle.mtp_desc.specs.Plain.{same_service}
use Rattle.mtp_sim.specs.declared.report.SimReport.{SimReport}
use Rattle.mtp_sim.specs.declared.report.SimReport.TheVariants.{Service, Variable}
use Rattle.mtp_sim.specs.Sims.{PlainSim, first_sim}
use Rattle.mtp_sim.specs.Ticks.{is_at_rest, is_pending, tick_report, ticked}
use Rattle.mtp_sim.specs.Commands.{after_command, took}
use Rattle.pol_events.specs.declared.answer.Answer.TheVariants.{Done}
use Rattle.pol_history.specs.Answers.{answer_of, is_full}
use Rattle.pol_history.specs.Looking.{History, past}
use Rattle.pol_history.specs.Modules.{docked, docking_by, docking_of}
use Rattle.pol_history.specs.Runs.{IsLegal, IsOrderly}
use Rattle.pol_history.proofs.Accepted.{accepted_otherwise, paired}
use Rattle.pol_safety.specs.Known.{is_there}
use Rattle.pol_core.specs.declared.commands.Sent.{Sent as Order}
use Rattle.pol_site.specs.Commanded.{IsCommanded}
use Rattle.pol_site.specs.Following.{FollowsSite, IsAllowed}
use Rattle.pol_site.specs.Settled.{is_settled_module}
use Rattle.pol_site.specs.Sites.{PlainSite, PlainSiteModule, PlainSiteExchange}
use Rattle.pol_site.specs.Sound.{IsSite, is_plan_ranged, is_plan_sound, is_plan_unlike}
use Rattle.pol_simulated.specs.Places.{Found, next_command}
use Rattle.pol_simulated.specs.Units.{report_event}
use Rattle.pol_stillness.specs.KeepingUp.{KeepsUp}
use Rattle.pol_stillness.specs.Together.{after_report}
use Rattle.pol_stillness.proofs.Allowed.{reports_allowed}
use Rattle.pol_stillness.proofs.KeepingUp.{firsts_up, idles_up, looks_up, ticks_up}
use Rattle.pol_stillness.proofs.Rested.{settled_rest}
use Rattle.pol_stillness.proofs.Resting.{rests_settled}
use Rattle.pol_actors.specs.Kept.{IsMadeUp, IsUnit}
use Rattle.pol_actors.specs.Turning.{Origin, decision_by, first_made, free_after, free_decides, made_after}
use Rattle.pol_actors.specs.Turning.{made_decides, made_looked, made_or, made_ticked, origin_by, origin_of}
use Rattle.pol_actors.specs.declared.simulation.Decision.{Decision}
use Rattle.pol_actors.specs.declared.simulation.Decision.TheVariants.{Reports, Looks, Rests}
use Rattle.pol_actors.specs.declared.simulation.Simulation.{Simulation}
use Rattle.pol_actors.specs.declared.unit.Unit.{Unit as Module}
use Rattle.pol_actors.proofs.Numbers.{all_at}
use Rattle.pol_actors.proofs.Found.{IsFoundAs, IsFoundOne}

-- ---- its simulation at first

-- a plan that a site may give a module of this description
pub record IsSoundOrigin (origin : Origin) : Type 0 where
  pub ranged : is_plan_ranged origin.plan ≡ true
  pub unlike : is_plan_unlike origin.plan ≡ true
  pub sound : is_plan_sound origin.description origin.plan ≡ true

-- whatever brought it, the site's module or an exchange
pub origin_sound : (site : PlainSite) (place : ℕ) (unit : PlainSiteModule) (brought : Option ℕ) → IsSite site →
    slice_get site.modules place ≡ Some unit → IsSoundOrigin (origin_of site unit brought)
origin_sound site place unit brought sound listed = by brought
  where
    own : IsSoundOrigin (record { description = unit.description; plan = unit.plan })
    own = record {
      ranged = all_at (λ (unit : PlainSiteModule). is_plan_ranged unit.plan) site.modules place unit
          sound.ranged_modules listed;
      unlike = all_at (λ (unit : PlainSiteModule). is_plan_unlike unit.plan) site.modules place unit
          sound.unlike_drifts listed;
      sound = all_at (λ (unit : PlainSiteModule). is_plan_sound unit.description unit.plan) site.modules place unit
          sound.sound_drifts listed;
    }

    found : (k : ℕ) (exchange : Option PlainSiteExchange) → slice_get site.exchanges k ≡ exchange →
        IsSoundOrigin (origin_by unit exchange)
    found k None at = own
    found k (Some exchange) at = record {
      ranged = second _ _ (all_at (λ (exchange : PlainSiteExchange). _ && is_plan_ranged exchange.plan)
          site.exchanges k exchange
          sound.ranged_exchanges at);
      unlike = all_at (λ (exchange : PlainSiteExchange). is_plan_unlike exchange.plan) site.exchanges k exchange
          sound.unlike_exchanged at;
      sound =
          all_at (λ (exchange : PlainSiteExchange). is_plan_sound exchange.description exchange.plan) site.exchanges k
          exchange sound.sound_exchanged at;
    }
      where
        second : (one other : Bool) → (one && other) ≡ true → other ≡ true
        second true other is = is
        second false other is = cc

    by : (brought : Option ℕ) → IsSoundOrigin (origin_by unit (option_and_then (slice_get site.exchanges) brought))
    by None = own
    by (Some k) = found k (slice_get site.exchanges k) refl

-- the simulation with which it takes its turn keeps up, where the module is there
pub made_up : (site : PlainSite) (history : History) (place : ℕ) (unit : PlainSiteModule) (own : Module) →
    IsSite site → slice_get site.modules place ≡ Some unit → is_there (docking_of history unit.tag) ≡ true →
    repeats_by same_service (origin_of site unit own.brought).description.services ≡ false →
    IsUnit site unit history own → (count : ℕ) → count ≡ length history → (made : Option Simulation) →
    IsMadeUp site unit.tag history made →
    KeepsUp site unit.tag (made_or made (first_made (origin_of site unit own.brought) count)).place history
    (made_or made (first_made (origin_of site unit own.brought) count)).sim
made_up site history place unit own sound listed there services is count counted (Some made) up = up
made_up site history place unit own sound listed there services is count counted None fresh =
    let origin = origin_of site unit own.brought in
    let plan = origin_sound site place unit own.brought sound listed in
    let brought = is.brought there in
    subst (λ n. KeepsUp site unit.tag n history (first_sim origin.description origin.plan)) (sym counted)
    (firsts_up site unit.tag history origin.description origin.plan fresh.0 fresh.1 brought.described brought.planned
    services plan.ranged plan.unlike plan.sound)

-- ---- a turn

-- where it rests it is settled, and it keeps up
pub record HasRested (site : PlainSite) (tag : List ℕ) (history : History) (made : Simulation) : Type 0 where
  pub settled : is_settled_module site history tag ≡ true
  pub up : KeepsUp site tag made.place history made.sim

-- where it looks it is not settled, and it keeps up
pub record HasLooked (site : PlainSite) (tag : List ℕ) (history : History) (made : Simulation) : Type 0 where
  pub unsettled : is_settled_module site history tag ≡ false
  pub up : KeepsUp site tag made.place history made.sim

-- where it reports it is not settled; what it reports is allowed and done, and with it in the history it keeps up
pub record HasReported (site : PlainSite) (tag : List ℕ) (history : History) (made : Simulation)
    (told : SimReport) : Type 0 where
  pub unsettled : is_settled_module site history tag ≡ false
  pub allowed : IsAllowed site history (report_event 0 tag told) (answer_of history (report_event 0 tag told))
  pub done : answer_of history (report_event 0 tag told) ≡ Done
  pub up : (at : ℕ) → KeepsUp site tag made.place (paired (report_event at tag told) Done ∷ history) made.sim

-- what holds of a module after its turn, by what it decided
abbrev pub IsTurned : PlainSite → List ℕ → History → Simulation → Decision → Type 0
IsTurned site tag history made Rests = HasRested site tag history made
IsTurned site tag history made Looks = HasLooked site tag history made
IsTurned site tag history made (Reports told) = HasReported site tag history made told

-- a module at rest has nothing pending
calm_rest : (sim : PlainSim) → is_at_rest sim ≡ true → is_pending sim ≡ false
calm_rest sim is = first (is_pending sim) _ is
  where
    first : (pending rest : Bool) → (not pending && rest) ≡ true → pending ≡ false
    first true rest is = cc
    first false rest is = refl

module _ (site : PlainSite) (tag : List ℕ) (history : History) (count : ℕ) (legal : IsLegal history)
    (orderly : IsOrderly history) (follows : FollowsSite site history) (commanded : IsCommanded history)
    (room : is_full history ≡ false) (is_docked : docking_by (past tag history) ≡ docked count) where
  -- a tick
  tick_turned : (made : Simulation) → KeepsUp site tag made.place history made.sim →
      is_settled_module site history tag ≡ false →
      IsTurned site tag history (made_ticked made) (decision_by (tick_report made.sim))
  tick_turned made up unsettled =
      go (tick_report made.sim) refl (λ at. ticks_up site tag at made.place history made.sim up)
    where
      go : (told : Option SimReport) → tick_report made.sim ≡ told →
          ((at : ℕ) → KeepsUp site tag made.place (after_report at tag told history) (ticked made.sim)) →
          IsTurned site tag history (made_ticked made) (decision_by told)
      go None is after = record { unsettled = unsettled; up = after 0 }
      go (Some (Service name control)) is after =
          let allowed = reports_allowed site tag history made.sim 0 count made.place
          (Service name control) is_docked room
          up.step up.kept up.served is in
          record {
            unsettled = unsettled;
            allowed = allowed;
            done = accepted_otherwise history (report_event 0 tag (Service name control)) allowed.accepted;
            up = after;
          }
      go (Some (Variable name value)) is after =
          let allowed = reports_allowed site tag history made.sim 0 count made.place
          (Variable name value) is_docked room
          up.step up.kept up.served is in
          record {
            unsettled = unsettled;
            allowed = allowed;
            done = accepted_otherwise history (report_event 0 tag (Variable name value)) allowed.accepted;
            up = after;
          }

  -- a turn of a simulation that keeps up, with the next command that was found
  pub made_turned : (made : Simulation) (order : Option Order) (after : ℕ) →
      KeepsUp site tag made.place history made.sim →
      IsFoundAs tag (length history) order after (next_command tag made.place history) →
      IsTurned site tag history (made_after (order, after) made) (made_decides (order, after) made)
  made_turned made order after up found = by (is_pending made.sim) refl
    where
      rests : is_settled_module site history tag ≡ true →
          (next_command tag made.place history ≡ None) × (is_at_rest made.sim ≡ true)
      rests settled = settled_rest site tag made.place count history made.sim legal is_docked up settled

      one : (order : Order) (ahead : Found) → is_pending made.sim ≡ false →
          next_command tag made.place history ≡ Some ahead → IsFoundOne tag order after ahead →
          KeepsUp site tag after history
          (after_command made.sim (took made.sim order.service order.command order.procedure))
      one order ahead calm next it =
          rw (it.after_is, it.service_is, it.command_is, it.procedure_is)
          (looks_up site tag made.place history made.sim ahead it.sent calm next it.sends it.tag_is up)

      idle : next_command tag made.place history ≡ None → after ≡ length history →
          KeepsUp site tag after history made.sim
      idle next is = rw is (idles_up site tag made.place history made.sim next up)

      free : (order : Option Order) (ahead : Option Found) → is_pending made.sim ≡ false →
          next_command tag made.place history ≡ ahead → IsFoundAs tag (length history) order after ahead →
          IsTurned site tag history (free_after order after made) (free_decides order made)
      free (Some order) None calm next found = absurd found
      free None (Some ahead) calm next found = absurd found
      free (Some order) (Some ahead) calm next found =
          record {
            unsettled = false_from_ne_true (is_settled_module site history tag)
                (λ settled. let clash = sym next ∙ (rests settled).0 in cc);
            up = one order ahead calm next found;
          }
      free None None calm next found = at_rest (is_at_rest made.sim) refl
        where
          at_rest : (rest : Bool) → is_at_rest made.sim ≡ rest →
              IsTurned site tag history
              (if rest then made_looked None after made else made_ticked (made_looked None after made))
              (if rest then Rests else decision_by (tick_report made.sim))
          at_rest true is =
              record {
                settled = rests_settled site tag made.place count history made.sim legal orderly follows commanded
                    is_docked up next is;
                up = idle next found;
              }
          at_rest false is =
              tick_turned (made_looked None after made) (idle next found)
              (false_from_ne_true (is_settled_module site history tag)
              (λ settled. let clash : true ≡ false = sym (rests settled).1 ∙ is in cc))

      by : (pending : Bool) → is_pending made.sim ≡ pending →
          IsTurned site tag history (if pending then made_ticked made else free_after order after made)
          (if pending then decision_by (tick_report made.sim) else free_decides order made)
      by true pending =
          tick_turned made up
          (false_from_ne_true (is_settled_module site history tag)
          (λ settled. let clash : true ≡ false = sym pending ∙ calm_rest made.sim (rests settled).1 in cc))
      by false calm = free order (next_command tag made.place history) calm refl found
