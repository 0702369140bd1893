use Rattle.std.proofs.lemmas.Result.{err_from_is_err_and}
use Rattle.site_json.proofs.Asking.{asks_next, asks_stop, asks_done}
use Rattle.site_json.proofs.rules.ask_each.Goals as goal

pub loop-place-preserved : goal.loop-place-preserved
loop-place-preserved g c =
    asks_next g.T.OwnRule.plain (g.T.OwnRule.rule c.args.rule.now) c.args.items.now c.loop-place.place
    c.index-items-place.result
    c.ask.result _ c.loop-place-test.true c.index-items-place.is c.ask.ensures c.in_ok-in_place.ensures
    c.loop-place.invariant

pub returns-in_err-in_place : goal.returns-in_err-in_place
returns-in_err-in_place g c =
    let p = err_from_is_err_and c.from_residual.result c.from_residual.ensures.1 in
    rw (p.1, p.2)
    (asks_stop g.T.OwnRule.plain (g.T.OwnRule.rule c.args.rule.now) c.args.items.now c.loop-place.place
    c.index-items-place.result
    c.ask.result c.in_err-in_place.field-0.0 _ c.loop-place-test.true c.index-items-place.is c.ask.ensures
    c.in_err-in_place.ensures
    c.loop-place.invariant)

pub returns : goal.returns
returns g c =
    asks_done g.T.OwnRule.plain (g.T.OwnRule.rule c.args.rule.now) c.args.items.now c.loop-place.place _
    c.loop-place-test.false
    c.loop-place.invariant
