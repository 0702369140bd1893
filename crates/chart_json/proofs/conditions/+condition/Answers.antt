use Rattle.std.proofs.Common.{arith, codes, map, refl, rules}
use Rattle.serde_json.specs.View.{items_view, view}
use Rattle.std.proofs.lemmas.Result.{err_from_is_err_and}
use Rattle.mtp_json.proofs.Each.{reads_next, stops_at, is_done}
use Rattle.chart_core.specs.declared.limits.TheConstants.{MOST_JOINED}
use Rattle.chart_core.specs.Formulas.{plain_condition}
use Rattle.chart_json.specs.Form.{formula_of}
use Rattle.chart_json.proofs.Within.{formula_steps, item_below, list_below, needed_below}
use Rattle.chart_json.proofs.conditions.+condition.Goals as goal

pub read_each-loop-i-preserved : goal.read_each-loop-i-preserved
read_each-loop-i-preserved t c =
    reads_next plain_condition formula_of c.loop-i.found.items c.push.new.self.items c.args.values.now c.loop-i.i
    c.index-values-i.result c.read_inner.result c.in_ok-condition.condition _
    c.loop-i-test.true c.index-values-i.is c.read_inner.ensures c.in_ok-condition.ensures c.in_ok-push.ensures.items
    c.loop-i.invariant

pub read_each-returns-in_err-condition : goal.read_each-returns-in_err-condition
read_each-returns-in_err-condition t c =
    let p = err_from_is_err_and c.from_residual.result c.from_residual.ensures.1 in
    rw (p.1, p.2) (stops_at plain_condition formula_of
    (map plain_condition c.loop-i.found.items) c.args.values.now c.loop-i.i c.index-values-i.result c.read_inner.result
    c.in_err-condition.field-0.0 _
    c.loop-i-test.true c.index-values-i.is c.read_inner.ensures c.in_err-condition.ensures c.loop-i.invariant)

pub read_each-returns : goal.read_each-returns
read_each-returns t c =
    rw c.shrink_to_fit.ensures.items (is_done formula_of
    (map plain_condition c.loop-i.found.items) c.args.values.now c.loop-i.i _ c.loop-i-test.false c.loop-i.invariant)

pub read_all-read_each_under-requires : goal.read_all-read_each_under-requires
read_all-read_each_under-requires t c =
    let below = list_below 1 MOST_JOINED (codes "all") (view c.args.value.now)
    (items_view c.in_ok-values.values.now) c.in_ok-values.ensures.gives in
    (omega (arith, below, c.decreases), refl)

pub read_any-read_each_under-requires : goal.read_any-read_each_under-requires
read_any-read_each_under-requires t c =
    let below = list_below 1 MOST_JOINED (codes "any") (view c.args.value.now)
    (items_view c.in_ok-values.values.now) c.in_ok-values.ensures.gives in
    (omega (arith, below, c.decreases), refl)

pub read_not-read_under-requires : goal.read_not-read_under-requires
read_not-read_under-requires t c =
    let below = needed_below (codes "not") (view c.args.value.now)
    (view c.in_ok-inner.inner.now) c.in_ok-inner.ensures in
    (omega (arith, below, c.decreases), refl)

pub read_each-read_inner-requires : goal.read_each-read_inner-requires
read_each-read_inner-requires t c =
    let below = item_below c.args.values.now c.loop-i.i c.index-values-i.result c.loop-i-test.true
    c.index-values-i.is in
    (omega (arith, below, c.decreases), tt)

pub read_inner-returns-in_err-object_here : goal.read_inner-returns-in_err-object_here
read_inner-returns-in_err-object_here t c = rw (formula_steps (view c.args.value.now)) (search rules)

pub read_inner-returns : goal.read_inner-returns
read_inner-returns t c = rw (formula_steps (view c.args.value.now)) (search rules)
