-- What every site keeps: the ranges of its form and its own rules.
use Rattle.std.specs.Prelude.{◌≡◌, ◌&&◌, Bool, true, false, not, length}
use Rattle.std.specs.List.{list_all}
use Rattle.mtp_codes.specs.declared.limits.TheConstants.{LONGEST_HISTORY, MOST_BATCHES, MOST_MODULES, MOST_RECIPES}
use Rattle.mtp_codes.specs.Numbers.{is_between, is_within, least_i32, greatest_i32}
use Rattle.mtp_codes.specs.Repeats.{repeats_by}
use Rattle.mtp_desc.specs.Plain.{PlainDescription}
use Rattle.mtp_sim.specs.declared.plan.Drift.{Drift}
use Rattle.mtp_sim.specs.Sims.{PlainPlan}
use Rattle.pol_events.specs.Events.{recipe, start}
use Rattle.pol_events.specs.Orderly.{is_orderly}
use Rattle.pol_site.specs.declared.limits.TheConstants.{MOST_DRIFTS, MOST_EXCHANGES, MOST_ORDERS, MOST_TICKS}
use Rattle.pol_site.specs.Rules.{same_tag, same_batch, same_drift, is_drift_sound, has_module}
use Rattle.pol_site.specs.Sites.{PlainSite}

-- the numbers of a drift have 32 bits
abbrev pub is_drift_ranged : Drift → Bool
is_drift_ranged drift =
    is_within least_i32 greatest_i32 drift.from
    && (is_within least_i32 greatest_i32 drift.by && is_within least_i32 greatest_i32 drift.to)

-- the numbers of a plan are in their ranges, and it has at most 64 drifts
abbrev pub is_plan_ranged : PlainPlan → Bool
is_plan_ranged plan =
    is_between 1 MOST_TICKS plan.ticks
    && (is_between 1 MOST_TICKS plan.run
    && (is_between 0 MOST_DRIFTS (length plan.drifts) && list_all is_drift_ranged plan.drifts))

-- no variable drifts twice in the plan
abbrev pub is_plan_unlike : PlainPlan → Bool
is_plan_unlike plan = not (repeats_by same_drift plan.drifts)

-- each drift of the plan is sound
abbrev pub is_plan_sound : PlainDescription → PlainPlan → Bool
is_plan_sound description plan = list_all (is_drift_sound description) plan.drifts

-- what every site keeps
pub record IsSite (site : PlainSite) : Type 0 where
  pub some_modules : is_between 1 MOST_MODULES (length site.modules) ≡ true
  pub few_recipes : is_between 0 MOST_RECIPES (length site.recipes) ≡ true
  pub few_batches : is_between 0 MOST_BATCHES (length site.batches) ≡ true
  pub few_exchanges : is_between 0 MOST_EXCHANGES (length site.exchanges) ≡ true
  pub few_orders : is_between 0 MOST_ORDERS (length site.desk) ≡ true
  pub unlike_modules : repeats_by same_tag site.modules ≡ false
  pub unlike_batches : repeats_by same_batch site.batches ≡ false
  pub known_tags : list_all (λ exchange. has_module site.modules exchange.tag) site.exchanges ≡ true
  pub orderly_recipes : list_all (λ each. is_orderly (recipe 0 each.recipe each.chart)) site.recipes ≡ true
  pub orderly_starts :
      list_all (λ batch. is_orderly (start 0 batch.batch batch.recipe batch.binds)) site.batches ≡ true
  pub ranged_modules : list_all (λ unit. is_plan_ranged unit.plan) site.modules ≡ true
  pub unlike_drifts : list_all (λ unit. is_plan_unlike unit.plan) site.modules ≡ true
  pub sound_drifts : list_all (λ unit. is_plan_sound unit.description unit.plan) site.modules ≡ true
  pub ranged_exchanges :
      list_all (λ exchange. is_between 0 LONGEST_HISTORY exchange.after && is_plan_ranged exchange.plan) site.exchanges
      ≡ true
  pub unlike_exchanged : list_all (λ exchange. is_plan_unlike exchange.plan) site.exchanges ≡ true
  pub sound_exchanged : list_all (λ exchange. is_plan_sound exchange.description exchange.plan) site.exchanges ≡ true
  pub ranged_orders : list_all (λ order. is_between 0 LONGEST_HISTORY order.after) site.desk ≡ true
