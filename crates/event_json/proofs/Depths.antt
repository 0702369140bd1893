-- What is written of an event nests no deeper than its form, and has no float.
use Rattle.std.proofs.Common.{◌≡◌, ◌≤◌, ◌<◌, List, [], ◌∷◌, true, false, refl, arith}
use Rattle.serde_json.specs.Data.{depth, members_depth}
use Rattle.serde_json.specs.Read.{max_depth}
use Rattle.serde_json.specs.Written.{has_float, members_have_float}
use Rattle.mtp_desc.specs.PlainDescription.{plain_description}
use Rattle.desc_json.proofs.Depths.{description_depth}
use Rattle.desc_json.proofs.Floats.{description_whole}
use Rattle.chart_core.specs.Charts.{plain_chart}
use Rattle.chart_json.proofs.Depths.{roles_depth, root_depth, scalar_depth}
use Rattle.chart_json.proofs.Floats.{roles_whole, tree_whole, scalar_whole}
use Rattle.chart_json.proofs.Shallow.{valid_shallow}
use Rattle.pol_events.specs.declared.event.Bind.{Bind}
use Rattle.pol_events.specs.declared.event.Event.{Event}
use Rattle.pol_events.specs.declared.event.Event.TheVariants.{Plug, Variable, Recipe, Start, ExchangeEnd}
use Rattle.pol_events.specs.Events.{PlainEvent, plug, variable, recipe, start, exchange_end, plain_event}
use Rattle.pol_events.specs.Orderly.{is_orderly}
use Rattle.event_json.specs.Written.{bind_members, written_binds, written_event, written_plug, written_tag}
use Rattle.event_json.specs.Written.{written_report, written_variable, written_desk, written_exchange_end}
use Rattle.event_json.specs.Written.{written_exchange_cancel, written_recipe, watch_member, start_with, written_freeze}
use Rattle.event_json.specs.Written.{written_batch}
use Rattle.event_json.proofs.Again.{faultless}

-- the members of binds have no level
members_depth_is : (binds : List Bind) → members_depth (bind_members binds) ≤ 0
members_depth_is [] = omega arith
members_depth_is (bind ∷ binds) = omega (arith, members_depth_is binds)

-- so binds are one level deep
binds_depth : (binds : List Bind) → depth (written_binds binds) ≤ 1
unfolding written_binds
binds_depth binds = omega (arith, members_depth_is binds)

-- the members of binds have no number with a point
members_whole : (binds : List Bind) → members_have_float (bind_members binds) ≡ false
members_whole [] = refl
members_whole (bind ∷ binds) = members_whole binds

-- nor have binds
binds_whole : (binds : List Bind) → has_float (written_binds binds) ≡ false
unfolding written_binds
binds_whole binds = members_whole binds

-- what is written of the modules that are watched nests no deeper than one level
watch_depth : (binds : List Bind) → members_depth (watch_member binds) ≤ 1
watch_depth [] = omega arith
watch_depth (bind ∷ binds) = omega (arith, binds_depth (bind ∷ binds))

-- and has no float
watch_whole : (binds : List Bind) → members_have_float (watch_member binds) ≡ false
watch_whole [] = refl
watch_whole (bind ∷ binds) = rw (binds_whole (bind ∷ binds)) refl

-- a written event nests less deep than reading goes
pub event_depth : (event : Event) → is_orderly (plain_event event) ≡ true
    → depth (written_event (plain_event event)) < max_depth
unfolding written_plug written_tag written_report written_variable written_desk written_exchange_end
    written_exchange_cancel written_recipe start_with written_freeze written_batch
event_depth (Plug at tag desc) orderly = omega (arith, description_depth (plain_description desc.value))
event_depth (Variable at tag name value) orderly = omega (arith, scalar_depth value)
event_depth (Recipe at name chart) orderly =
    let chart_plan = plain_chart chart.value in
    omega (
      arith,
      roles_depth chart_plan.roles,
      root_depth chart_plan chart.value.form
          (valid_shallow chart_plan (faultless (recipe at name chart_plan) orderly)),
    )
event_depth (Start at batch name bind watch) orderly =
    omega (arith, binds_depth bind.items, watch_depth watch.items)
event_depth (ExchangeEnd at tag ticket desc) orderly = omega (arith, description_depth (plain_description desc.value))
event_depth _ orderly = omega arith

-- a written event has no float, so its compact text is exact
pub event_whole : (event : PlainEvent) → has_float (written_event event) ≡ false
unfolding written_plug written_tag written_report written_variable written_desk written_exchange_end
    written_exchange_cancel written_recipe start_with written_freeze written_batch
event_whole (plug at tag description) = rw (description_whole description) refl
event_whole (variable at tag name value) = rw (scalar_whole value) refl
event_whole (recipe at name chart) = rw (roles_whole chart.roles, tree_whole chart.root) refl
event_whole (start at batch name binds) = rw (binds_whole binds.held, watch_whole binds.watched) refl
event_whole (exchange_end at tag ticket description) = rw (description_whole description) refl
event_whole _ = refl
