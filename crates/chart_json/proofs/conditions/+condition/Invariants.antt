use Rattle.std.proofs.Common.{◌≡◌, ◌+◌, ◌*◌, drop, map}
use Rattle.serde_json.specs.Data.{depth, items_depth}
use Rattle.serde_json.specs.View.{items_view, view}
use Rattle.mtp_json.specs.Form.{each}
use Rattle.mtp_json.proofs.Each.{with_front}
use Rattle.chart_core.specs.Formulas.{plain_condition}
use Rattle.chart_json.specs.Form.{formula_of}
use Rattle.chart_json.proofs.conditions.+condition.Given as goal

abbrev pub decreases-read_inner : goal.decreases-read_inner
decreases-read_inner l = 8 * depth (view l.value.now) + 7

abbrev pub decreases-read_by_key : goal.decreases-read_by_key
decreases-read_by_key l = 8 * depth (view l.value.now) + 6

abbrev pub decreases-read_all : goal.decreases-read_all
decreases-read_all l = 8 * depth (view l.value.now) + 5

abbrev pub decreases-read_any : goal.decreases-read_any
decreases-read_any l = 8 * depth (view l.value.now) + 5

abbrev pub decreases-read_not : goal.decreases-read_not
decreases-read_not l = 8 * depth (view l.value.now) + 5

abbrev pub decreases-read_under : goal.decreases-read_under
decreases-read_under l = 8 * depth (view l.value.now) + 8

abbrev pub decreases-read_each : goal.decreases-read_each
decreases-read_each l = 8 * items_depth (items_view l.values.now) + 8

abbrev pub decreases-read_each_under : goal.decreases-read_each_under
decreases-read_each_under l = 8 * items_depth (items_view l.values.now) + 9

abbrev pub invariant-read_each-loop-i : goal.invariant-read_each-loop-i
invariant-read_each-loop-i l =
    with_front (map plain_condition l.found.items) (each formula_of l.i (items_view (drop l.i l.values)))
    ≡ each formula_of 0 (items_view l.values)
