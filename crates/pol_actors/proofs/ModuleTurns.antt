-- A turn of a module keeps all that is kept.
use Rattle.std.proofs.Common.{◌≡◌, ◌⊎◌, inl, inr, ◌≤◌, ◌+◌, ℕ, suc, Bool, true, false, List, [], ◌∷◌, ◌++◌, length}
use Rattle.std.proofs.Common.{Some, refl, ap, sym, ◌∙◌, subst}
use Rattle.std.specs.Prelude.{◌&&◌, slice_get, slice_set}
use Rattle.std.specs.Str.{bytes_eq}
use Rattle.std.proofs.lemmas.Option.{same_Some}
use Rattle.mtp_codes.proofs.Names.{same_true}
use Rattle.mtp_sim.specs.declared.report.SimReport.{SimReport}
use Rattle.mtp_sim.specs.declared.report.SimReport.TheVariants.{Service, Variable}
use Rattle.pol_events.specs.Events.{PlainEntry, PlainEvent}
use Rattle.pol_events.specs.Orderly.{is_orderly}
use Rattle.pol_events.specs.declared.answer.Answer.TheVariants.{Done}
use Rattle.pol_history.specs.Answers.{answer_of, is_full}
use Rattle.pol_history.specs.Looking.{History, is_accepted_of, is_batch, past, subject}
use Rattle.pol_history.specs.Modules.{docking_of}
use Rattle.pol_history.proofs.Accepted.{paired}
use Rattle.pol_safety.specs.Known.{is_there}
use Rattle.pol_site.specs.Actors.{owner_of}
use Rattle.pol_site.specs.Commanded.{times_changed}
use Rattle.pol_site.specs.Following.{ordered}
use Rattle.pol_site.specs.Sites.{PlainSite, PlainSiteModule}
use Rattle.pol_site.specs.Stories.{story, times_sent, touches}
use Rattle.pol_simulated.specs.Units.{report_event}
use Rattle.pol_stillness.specs.KeepingUp.{KeepsUp}
use Rattle.pol_stillness.proofs.KeepingUp.{up_commanded}
use Rattle.pol_actors.specs.Kept.{AreUnits, IsKept, IsUnit}
use Rattle.pol_actors.specs.Stamps.{stamped}
use Rattle.pol_actors.specs.Turning.{simulated}
use Rattle.pol_actors.specs.declared.batch.Stage.{Stage}
use Rattle.pol_actors.specs.declared.desk.Desk.{Desk}
use Rattle.pol_actors.specs.declared.exchanger.Exchanger.{Exchanger}
use Rattle.pol_actors.specs.declared.simulation.Simulation.{Simulation}
use Rattle.pol_actors.specs.declared.unit.Unit.{Unit as Module}
use Rattle.pol_actors.proofs.BatchTurns.{not_first}
use Rattle.pol_actors.proofs.Commanded.{Commands, commanded_more, counted, untouched}
use Rattle.pol_actors.proofs.Exchanging.{exchanger_other}
use Rattle.pol_actors.proofs.Numbers.{set_got, set_long}
use Rattle.pol_actors.proofs.Owners.{names_apart, owned_more, owner_module}
use Rattle.pol_actors.proofs.Stages.{stage_other}
use Rattle.pol_actors.proofs.Stamped.{IsNext, allowed_stamped, entry_at, next_kept, owner_stamped, report_stamped}
use Rattle.pol_actors.proofs.Turning.{HasReported}
use Rattle.pol_actors.proofs.Units.{touches_none, unit_looked, unit_reported, unit_untouched}

-- where one module changes, and the others are as they are to be
pub units_set : (site : PlainSite) (history : History) (units : List Module) (place : ℕ) (unit : PlainSiteModule)
    (own : Module) → slice_get site.modules place ≡ Some unit → IsUnit site unit history own →
    ((n : ℕ) (other : PlainSiteModule) (one : Module) → (n ≡ place → ⊥) → slice_get site.modules n ≡ Some other →
    slice_get units n ≡ Some one → IsUnit site other history one) →
    AreUnits site history (slice_set units place own)
units_set site history units place unit own listed is others n other one at' at'' =
    go (set_got units place own n one at'')
  where
    go : ((n ≡ place) × (one ≡ own)) ⊎ ((n ≡ place → ⊥) × (slice_get units n ≡ Some one)) →
        IsUnit site other history one
    go (inl here) =
        let same : unit ≡ other = same_Some unit other (sym listed ∙ ap (slice_get site.modules) (sym here.0) ∙ at') in
        subst (λ (each : PlainSiteModule). IsUnit site each history one) same
        (subst (IsUnit site unit history) (sym here.1) is)
    go (inr apart) = others n other one apart.0 at' apart.1

-- it looked, or rested
pub module_looked : (site : PlainSite) (history : History) (by : List ℕ) (exchanger : Exchanger) (units : List Module)
    (stages : List Stage) (desk : Desk) (place : ℕ) (unit : PlainSiteModule) (own : Module) (made : Simulation) →
    slice_get site.modules place ≡ Some unit → slice_get units place ≡ Some own →
    is_there (docking_of history unit.tag) ≡ true → KeepsUp site unit.tag made.place history made.sim →
    IsKept site history by exchanger units stages desk →
    IsKept site history by exchanger (slice_set units place (simulated own made)) stages desk
module_looked site history by exchanger units stages desk place unit own made listed at there up kept =
    record {
      sound = kept.sound;
      legal = kept.legal;
      orderly = kept.orderly;
      follows = kept.follows;
      commanded = kept.commanded;
      owned = kept.owned;
      exchanger_is = kept.exchanger_is;
      units_are = units_set site history units place unit (simulated own made) listed
          (unit_looked site history unit own made there (kept.units_are place unit own listed at) up)
          (λ n other one apart at' at''. kept.units_are n other one at' at'');
      unit_count = set_long units place (simulated own made) ∙ kept.unit_count;
      stages_are = kept.stages_are;
      stage_count = kept.stage_count;
      desk_is = kept.desk_is;
      desk_within = kept.desk_within;
    }

-- its turn keeps all
pub module_reported : (site : PlainSite) (older : History) (by : List ℕ) (exchanger : Exchanger) (units : List Module)
    (stages : List Stage) (desk : Desk) (at place : ℕ) (unit : PlainSiteModule) (own : Module) (made : Simulation)
    (told : SimReport) → is_full older ≡ false → slice_get site.modules place ≡ Some unit →
    slice_get units place ≡ Some own → is_there (docking_of older unit.tag) ≡ true →
    HasReported site unit.tag older made told → IsKept site older by exchanger units stages desk →
    IsKept site (entry_at older at (report_event 0 unit.tag told) ∷ older) (by ++ suc place ∷ []) exchanger
    (slice_set units place (simulated own made)) stages desk
module_reported site older by exchanger units stages desk at place unit own made told room listed stands there reported
    kept =
    record {
      sound = kept.sound;
      legal = next.legal;
      orderly = next.orderly;
      follows = next.follows;
      commanded = commanded_more older entry kept.commanded commands;
      owned = owned_more site older entry by (suc place) (owner_stamped site at event ∙ owner told) kept.owned;
      exchanger_is = exchanger_other site older (stamped at event) (answer_of older event) exchanger
          (not_first site at event place (owner told))
          (allowed_stamped site older at event (answer_of older event) reported.allowed) kept.exchanger_is;
      units_are = units_set site (entry ∷ older) units place unit (simulated own made) listed
          (subst (λ (each : PlainEntry). IsUnit site unit (each ∷ older) (simulated own made)) (sym plain)
          (unit_reported site older at told unit own made there (kept.units_are place unit own listed stands)
          (reported.up at)))
          (λ n other one apart at' at''. unit_untouched site older entry other one
          (apart_free other.tag (names_apart (λ (each : PlainSiteModule). each.tag) site.modules place n unit other
          kept.sound.unlike_modules listed at' apart))
          (kept.units_are n other one at' at''));
      unit_count = set_long units place (simulated own made) ∙ kept.unit_count;
      stages_are = λ n batch stage at' at''. stage_other older batch.batch entry stage
          (subst (λ (each : PlainEntry). is_batch batch.batch (subject each.event) ≡ false) (sym plain)
          (no_batch told batch.batch))
          (kept.stages_are n batch stage at' at'');
      stage_count = kept.stage_count;
      desk_is = kept.desk_is ∙ sym same_ordered;
      desk_within = subst (λ n. n ≤ length site.desk) (sym same_ordered) kept.desk_within;
    }
  where
    event : PlainEvent
    event = report_event 0 unit.tag told

    entry : PlainEntry
    entry = entry_at older at event

    plain : entry ≡ paired (report_event at unit.tag told) Done
    plain = (λ i. paired (report_stamped at unit.tag told i) (reported.done i))

    owner : (told : SimReport) → owner_of site (report_event 0 unit.tag told) ≡ Some (suc place)
    owner (Service name control) = owner_module site place unit kept.sound.unlike_modules listed
    owner (Variable name value) = owner_module site place unit kept.sound.unlike_modules listed

    formed : (told : SimReport) → is_orderly (report_event 0 unit.tag told) ≡ true
    formed (Service name control) = refl
    formed (Variable name value) = refl

    next : IsNext site (entry ∷ older)
    next = next_kept site older at event room (formed told) reported.allowed kept.legal kept.orderly kept.follows

    no_batch : (told : SimReport) (batch : List ℕ) → is_batch batch (subject (report_event at unit.tag told)) ≡ false
    no_batch (Service name control) batch = refl
    no_batch (Variable name value) batch = refl

    not_ordered : (told : SimReport) → ordered (paired (report_event at unit.tag told) Done ∷ older) ≡ ordered older
    not_ordered (Service name control) = refl
    not_ordered (Variable name value) = refl

    same_ordered : ordered (entry ∷ older) ≡ ordered older
    same_ordered = ap (λ (each : PlainEntry). ordered (each ∷ older)) plain ∙ not_ordered told

    not_own : (told : SimReport) (tag : List ℕ) → bytes_eq unit.tag tag ≡ false →
        is_accepted_of tag (paired (report_event at unit.tag told) Done) ≡ false
    not_own (Service name control) tag apart = ap (λ own. own && true) apart
    not_own (Variable name value) tag apart = ap (λ own. own && true) apart

    apart_free : (tag : List ℕ) → bytes_eq unit.tag tag ≡ false → touches tag entry ≡ false
    apart_free tag apart =
        ap (touches tag) plain
        ∙ touches_none tag (paired (report_event at unit.tag told) Done) (not_own told tag apart) refl

    up : KeepsUp site unit.tag made.place (entry ∷ older) made.sim
    up = subst (λ (each : PlainEntry). KeepsUp site unit.tag made.place (each ∷ older) made.sim) (sym plain)
        (reported.up at)

    commands : (tag : List ℕ) → Commands older entry tag
    commands tag = go (bytes_eq unit.tag tag) refl
      where
        go : (own : Bool) → bytes_eq unit.tag tag ≡ own → Commands older entry tag
        go false apart = untouched (apart_free tag apart)
        go true same = counted (λ service command.
            subst (λ tag. times_changed service command (past tag (entry ∷ older))
            ≤ times_sent tag service command (story tag (entry ∷ older))) (same_true unit.tag tag same)
            (up_commanded site unit.tag made.place (entry ∷ older) made.sim up service command))
