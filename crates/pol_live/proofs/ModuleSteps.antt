-- A module's turn: what holds before it, what it did, and what is kept after it.
use Rattle.std.proofs.Common.{◌≡◌, ◌<◌, ◌≤◌, ℕ, suc, Bool, true, false, List, [], ◌∷◌, ◌++◌, length, get_or, Option}
use Rattle.std.proofs.Common.{Some, None, refl, ap, sym, ◌∙◌, subst, arith}
use Rattle.std.specs.Prelude.{option_map, slice_get, slice_set}
use Rattle.std.proofs.lemmas.List.{length-map}
use Rattle.std.proofs.lemmas.Option.{slice_get_read}
use Rattle.mtp_codes.specs.Repeats.{repeats_by}
use Rattle.mtp_desc.specs.Plain.{same_service}
use Rattle.mtp_sim.specs.declared.report.SimReport.{SimReport}
use Rattle.mtp_sim.specs.declared.report.SimReport.TheVariants.{Service, Variable}
use Rattle.pol_events.specs.Events.{plain_history}
use Rattle.pol_events.specs.declared.event.Entry.{Entry}
use Rattle.pol_history.specs.Answers.{is_full}
use Rattle.pol_history.specs.Looking.{History, past}
use Rattle.pol_history.specs.Modules.{Docking, absent, docked, away, docking_by, docking_of}
use Rattle.pol_safety.specs.Known.{is_there}
use Rattle.pol_events.proofs.Histories.{length_history}
use Rattle.pol_site.specs.Actors.{owner_of}
use Rattle.pol_site.specs.Settled.{is_settled_in, is_settled_module}
use Rattle.pol_site.specs.Sites.{PlainSite, PlainSiteModule, PlainSiteExchange}
use Rattle.pol_site.specs.PlainSite.{plain_site}
use Rattle.pol_site.specs.Sound.{IsSite}
use Rattle.pol_site.specs.Stories.{story}
use Rattle.pol_site.specs.Views.{plain_exchange, plain_module}
use Rattle.pol_site.specs.declared.parts.SiteModule.{SiteModule}
use Rattle.pol_site.specs.declared.site.Site.{Site}
use Rattle.pol_simulated.specs.Places.{next_command}
use Rattle.pol_simulated.specs.Units.{report_event}
use Rattle.pol_stillness.specs.KeepingUp.{KeepsUp}
use Rattle.pol_actors.specs.Kept.{IsKept}
use Rattle.pol_actors.specs.Turning.{made_after, made_decides, made_of, next_found, origin_by, origin_of, simulated}
use Rattle.pol_actors.specs.declared.batch.Stage.{Stage}
use Rattle.pol_actors.specs.declared.desk.Desk.{Desk}
use Rattle.pol_actors.specs.declared.exchanger.Exchanger.{Exchanger}
use Rattle.pol_actors.specs.declared.simulation.Simulation.{Simulation}
use Rattle.pol_actors.specs.declared.unit.Unit.{Unit as Module}
use Rattle.pol_actors.proofs.Found.{IsFoundAs, found_next}
use Rattle.pol_actors.proofs.Numbers.{item_mapped, mapped_item}
use Rattle.pol_actors.proofs.Owners.{owner_module}
use Rattle.pol_actors.proofs.Stamped.{entry_at}
use Rattle.pol_actors.proofs.Turning.{HasReported, IsTurned, made_turned, made_up}
use Rattle.pol_live.specs.Turns.{is_docked}
use Rattle.pol_actors.specs.declared.simulation.Decision.{Decision}
use Rattle.pol_actors.proofs.ModuleTurns.{module_looked, module_reported}
use Rattle.pol_live.proofs.Steps.{own_at, parts}

-- the module at a place
pub module_at : (site : Site) (place : ℕ) (unit : SiteModule) → place < length (plain_site site).modules →
    unit ≡ get_or site.modules.items place unit → slice_get (plain_site site).modules place ≡ Some (plain_module unit)
module_at site place unit less is =
    let long = length-map site.modules.items plain_module in
    item_mapped plain_module site.modules.items place
    ∙ ap (option_map plain_module) (slice_get_read site.modules.items (length site.modules.items) place unit refl
    (omega (arith, less, long)) is)

-- a module that isn't docked is settled
pub undocked_settled : (site : PlainSite) (history : History) (tag : List ℕ)
    → is_docked (docking_of history tag) ≡ false →
    is_settled_module site history tag ≡ true
undocked_settled site history tag free = go (docking_by (past tag history)) free
  where
    go : (docking : Docking) → is_docked docking ≡ false →
        is_settled_in site tag (past tag history) (story tag history) docking ≡ true
    go absent free = refl
    go (docked count) free = cc
    go (away ticket) free = refl

-- a docked module is docked so often
pub docked_count : (docking : Docking) → is_docked docking ≡ true → (count : ℕ) × (docking ≡ docked count)
docked_count absent is = cc
docked_count (docked count) is = (count, refl)
docked_count (away ticket) is = cc

-- and it is there
there_docked : (docking : Docking) → is_docked docking ≡ true → is_there docking ≡ true
there_docked absent is = cc
there_docked (docked count) is = refl
there_docked (away ticket) is = cc

-- no description of a site has two services of one name
services_apart : (site : Site) (unit : SiteModule) (brought : Option ℕ) →
    repeats_by same_service (origin_of (plain_site site) (plain_module unit) brought).description.services ≡ false
services_apart site unit None = unit.desc.value.unlike_services
services_apart site unit (Some place) = go (slice_get (plain_site site).exchanges place) refl
  where
    go : (found : Option PlainSiteExchange) → slice_get (plain_site site).exchanges place ≡ found →
        repeats_by same_service (origin_by (plain_module unit) found).description.services ≡ false
    go None at = unit.desc.value.unlike_services
    go (Some exchange) at =
        let it = mapped_item plain_exchange site.exchanges.items place exchange at in
        subst (λ (each : PlainSiteExchange).
        repeats_by same_service each.description.services ≡ false) (sym it.2) it.0.desc.value.unlike_services

-- whose its report is
pub report_owner : (site : PlainSite) (place : ℕ) (unit : PlainSiteModule) (told : SimReport) → IsSite site →
    slice_get site.modules place ≡ Some unit → owner_of site (report_event 0 unit.tag told) ≡ Some (suc place)
report_owner site place unit (Service name control) sound listed =
    owner_module site place unit sound.unlike_modules listed
report_owner site place unit (Variable name value) sound listed =
    owner_module site place unit sound.unlike_modules listed

-- the parts of a plant whose module looked, rested or reported
pub module_kept : (site held : PlainSite) (one other : History) (by by' : List ℕ) (ex : Exchanger) (units : List Module)
    (stages : List Stage) (orders : Desk) (place : ℕ) (own turned : Module) (made : Simulation) → held ≡ site →
    one ≡ other → by ≡ by' → turned ≡ simulated own made →
    IsKept held one by ex (slice_set units place (simulated own made)) stages orders →
    IsKept site other by' ex (slice_set units place turned) stages orders
module_kept site held one other by by' ex units stages orders place own turned made here same by_is after kept =
    subst (λ s. IsKept s other by' ex (slice_set units place turned) stages orders) here
    (parts held one other by by' ex ex (slice_set units place (simulated own made)) (slice_set units place turned)
    stages
    stages orders orders same by_is refl (ap (slice_set units place) (sym after)) refl refl kept)

-- what holds where a docked module takes its turn: `held` is the site, and `same` are the entries, as the turn has them
pub record AtTurn (site : PlainSite) (held : Site) (entries same : List Entry) (by : List ℕ) (ex : Exchanger)
    (units : List Module) (stages : List Stage) (orders : Desk) (place : ℕ) (unit : SiteModule) (own : Module)
    (count : ℕ) : Type 0 where
  pub held_is : plain_site held ≡ site
  pub same_is : same ≡ entries
  pub kept : IsKept (plain_site held) (plain_history same) by ex units stages orders
  pub room : is_full (plain_history same) ≡ false
  pub listed : slice_get (plain_site held).modules place ≡ Some (plain_module unit)
  pub stands : slice_get units place ≡ Some own
  pub is_here : is_docked (docking_of (plain_history same) unit.tag) ≡ true
  pub counted : count ≡ length same

-- it holds by what the turn asked before
pub at_turn : {site : PlainSite} (first held : Site) {entries same found : List Entry} {by : List ℕ} {ex : Exchanger}
    {units : List Module} {stages : List Stage} {orders : Desk} (place : ℕ) (unit : SiteModule) (own : Module) →
    plain_site first ≡ site → plain_site held ≡ site → same ≡ entries →
    IsKept site (plain_history entries) by ex units stages orders → is_full (plain_history entries) ≡ false →
    place < length site.modules → unit ≡ get_or first.modules.items place unit → own ≡ get_or units place own →
    is_docked (docking_of (plain_history entries) unit.tag) ≡ true → found ≡ same →
    AtTurn site held entries same by ex units stages orders place unit own (length found)
at_turn {site} first held {entries} {same} {found} {by} {ex} {units} {stages} {orders} place unit own first_is held_is
    same_is kept room less unit_is own_is is_here counted =
    record {
      held_is = held_is;
      same_is = same_is;
      kept = subst (λ (each : PlainSite). IsKept each (plain_history same) by ex units stages orders) (sym held_is)
          (subst (λ (es : List Entry). IsKept site (plain_history es) by ex units stages orders) (sym same_is) kept);
      room = ap (λ (es : List Entry). is_full (plain_history es)) same_is ∙ room;
      listed = ap (λ (each : PlainSite). slice_get each.modules place) (held_is ∙ sym first_is)
          ∙ module_at first place unit
          (subst (λ (each : PlainSite). place < length each.modules) (sym first_is) less) unit_is;
      stands = own_at units (length site.modules) place own kept.unit_count less own_is;
      is_here = ap (λ (es : List Entry). is_docked (docking_of (plain_history es) unit.tag)) same_is ∙ is_here;
      counted = ap length counted;
    }

-- the facts of its turn
module _ {site : PlainSite} {held : Site} {entries same : List Entry} {by : List ℕ} {ex : Exchanger}
    {units : List Module} {stages : List Stage} {orders : Desk} {place : ℕ} {unit : SiteModule} {own : Module}
    {count : ℕ} (at : AtTurn site held entries same by ex units stages orders place unit own count) where
  -- the simulation that its turn makes or keeps
  made : Simulation
  made = made_of (plain_site held) (plain_module unit) count own

  -- it is listed in the site
  pub module_known : slice_get site.modules place ≡ Some (plain_module unit)
  module_known =
      subst (λ (each : PlainSite). slice_get each.modules place ≡ Some (plain_module unit)) at.held_is at.listed

  -- its module is there
  module_there : is_there (docking_of (plain_history same) unit.tag) ≡ true
  module_there = there_docked (docking_of (plain_history same) unit.tag) at.is_here

  -- it is docked, and was docked so often
  pub module_count : (count : ℕ) × (docking_of (plain_history entries) unit.tag ≡ docked count)
  module_count =
      let found = docked_count (docking_of (plain_history same) unit.tag) at.is_here in
      (found.0, ap (λ (es : List Entry). docking_of (plain_history es) unit.tag) (sym at.same_is) ∙ found.1)

  -- its simulation keeps up with the history
  module_up : KeepsUp (plain_site held) unit.tag made.place (plain_history same) made.sim
  unfolding made
  module_up =
      made_up (plain_site held) (plain_history same) place (plain_module unit) own at.kept.sound at.listed module_there
      (services_apart held unit own.brought) (at.kept.units_are place (plain_module unit) own at.listed at.stands) count
      (at.counted ∙ sym (length_history same)) own.made
      (at.kept.units_are place (plain_module unit) own at.listed at.stands).made

  -- the place from which it looks is in the history
  pub module_within : (made_of (plain_site held) (plain_module unit) count own).place ≤ length same
  unfolding made
  module_within =
      let within = module_up.within in let long = length_history same in omega (arith, within, long)

  -- its simulation after the turn
  abbrev pub moved : Simulation
  moved =
      made_after (next_found unit.tag (made_of (plain_site held) (plain_module unit) count own) same)
      (made_of (plain_site held) (plain_module unit) count own)

  -- what its turn did, by what it decided
  pub module_turned : {decision : Decision} →
      made_decides (next_found unit.tag (made_of (plain_site held) (plain_module unit) count own) same)
      (made_of (plain_site held) (plain_module unit) count own) ≡ decision →
      IsTurned (plain_site held) unit.tag (plain_history same) moved decision
  unfolding made
  module_turned is =
      let found = docked_count (docking_of (plain_history same) unit.tag) at.is_here in
      let next = found_next unit.tag made.place same module_within in
      subst (IsTurned (plain_site held) unit.tag (plain_history same) moved) is
      (made_turned (plain_site held) unit.tag (plain_history same) found.0 at.kept.legal at.kept.orderly
      at.kept.follows at.kept.commanded at.room found.1 made (next_found unit.tag made same).0
      (next_found unit.tag made same).1 module_up
      (subst (λ n. IsFoundAs unit.tag n (next_found unit.tag made same).0 (next_found unit.tag made same).1
      (next_command unit.tag made.place (plain_history same))) (sym (length_history same)) next))

  -- the parts of the plant after a turn that made no event
  pub kept_calm : {by' : List ℕ} {turned : Module} → by ≡ by' → turned ≡ simulated own moved →
      KeepsUp (plain_site held) unit.tag moved.place (plain_history same) moved.sim →
      IsKept site (plain_history same) by' ex (slice_set units place turned) stages orders
  kept_calm {by'} {turned} by_is after up =
      module_kept site (plain_site held) (plain_history same) (plain_history same) by by' ex units stages orders place
      own turned moved at.held_is refl by_is after
      (module_looked (plain_site held) (plain_history same) by ex units stages orders place (plain_module unit) own
      moved at.listed at.stands module_there up at.kept)

  -- and after one that made a report
  pub kept_reported : {after : History} {by' : List ℕ} {turned : Module} (last : ℕ) (told : SimReport) →
      after ≡ entry_at (plain_history same) last (report_event 0 unit.tag told) ∷ plain_history same →
      by' ≡ by ++ suc place ∷ [] → turned ≡ simulated own moved →
      HasReported (plain_site held) unit.tag (plain_history same) moved told →
      IsKept site after by' ex (slice_set units place turned) stages orders
  kept_reported {after} {by'} {turned} last told after_is by_is turned_is reported =
      module_kept site (plain_site held)
      (entry_at (plain_history same) last (report_event 0 unit.tag told) ∷ plain_history same) after
      (by ++ suc place ∷ []) by' ex units stages orders place own turned moved at.held_is (sym after_is) (sym by_is)
      turned_is
      (module_reported (plain_site held) (plain_history same) by ex units stages orders last place (plain_module unit)
      own moved told at.room at.listed at.stands module_there reported at.kept)

  -- whether it is settled, by the site and the entries before the turn
  pub settled_before : {value : Bool} → is_settled_module (plain_site held) (plain_history same) unit.tag ≡ value →
      is_settled_module site (plain_history entries) unit.tag ≡ value
  settled_before is = sym (λ i. is_settled_module (at.held_is i) (plain_history (at.same_is i)) unit.tag) ∙ is
