-- How the module that is docked is simulated, by the site.
use Rattle.std.specs.Prelude.{ℕ, pred, ℤ, List, [], ◌∷◌, length, filter, find, Option, Some, None, option_map}
use Rattle.std.specs.Prelude.{slice_get}
use Rattle.std.specs.Option.{option_or}
use Rattle.std.specs.Str.{bytes_eq}
use Rattle.mtp_codes.specs.declared.value.Value.{Value}
use Rattle.mtp_codes.specs.declared.value.Value.TheVariants as value
use Rattle.mtp_sim.specs.declared.plan.Drift.{Drift}
use Rattle.mtp_sim.specs.Sims.{PlainPlan}
use Rattle.pol_events.specs.Events.{PlainEvent, plug, exchange_end}
use Rattle.pol_history.specs.Looking.{History}
use Rattle.pol_history.specs.Modules.{is_begin}
use Rattle.pol_site.specs.Sites.{PlainSite, PlainSiteExchange}

-- the exchanges of this tag in the site, in their order
abbrev pub exchanges_of : PlainSite → List ℕ → List PlainSiteExchange
exchanges_of site tag = filter (λ exchange. bytes_eq exchange.tag tag) site.exchanges

-- the plan of the site's module with this tag
abbrev pub module_plan : PlainSite → List ℕ → Option PlainPlan
module_plan site tag = option_map (λ unit. unit.plan) (find (λ unit. bytes_eq unit.tag tag) site.modules)

-- how many exchanges were begun in these entries
abbrev pub begun_in : History → ℕ
begun_in entries = length (filter (λ entry. is_begin entry.event) entries)

-- the plan of the exchange of this tag that was begun last
abbrev pub exchange_plan : PlainSite → List ℕ → History → Option PlainPlan
exchange_plan site tag past =
    option_map (λ exchange. exchange.plan) (slice_get (exchanges_of site tag) (pred (begun_in past)))

-- the plan that an event brings, by the module's past before it
abbrev pub plan_brought : PlainSite → List ℕ → PlainEvent → History → Option PlainPlan
plan_brought site tag (plug at other description) past = module_plan site tag
plan_brought site tag (exchange_end at other ticket description) past = exchange_plan site tag past
plan_brought site tag _ past = None

-- the module's plan, by its past: that of the site for its last plug or for the last end of an exchange
abbrev pub plan_by : PlainSite → List ℕ → History → Option PlainPlan
plan_by site tag [] = None
plan_by site tag (entry ∷ older) = option_or (plan_brought site tag entry.event older) (plan_by site tag older)

-- the drifts of the module's plan
abbrev pub drifts_in : Option PlainPlan → List Drift
drifts_in None = []
drifts_in (Some plan) = plan.drifts

-- the whole number that a value is
abbrev pub whole_in : Option Value → Option ℤ
whole_in (Some (value.Whole number)) = Some number
whole_in other = None
