use Rattle.std.proofs.lemmas.Result.{err_from_is_err_and}
use Rattle.event_json.proofs.Members.{reads_next, stops_at, is_done, read_binds_rise}
use Rattle.event_json.proofs.binds.read_each.Goals as goal

pub loop-role-preserved : goal.loop-role-preserved
loop-role-preserved c =
    reads_next c.loop-role.binds.items c.push.new.self.items c.loop-role.role-iterator c.next.new.self
    (c.in-Some.role.now, c.in-Some.tag.now) c.in_ok-bind.bind _
    c.in-Some.ensures.steps (rw c.as_str.ensures.value at c.in_ok-bind.ensures) c.in_ok-push.ensures.items
    c.loop-role.invariant

pub returns-in_err-bind-clause-gives : goal.returns-in_err-bind-clause-gives
returns-in_err-bind-clause-gives c =
    let p = err_from_is_err_and c.from_residual.result c.from_residual.ensures.1 in
    rw (p.1, p.2) (stops_at c.in_err-bind.field-0.0 c.loop-role.binds.items c.loop-role.role-iterator c.next.new.self
    (c.in-Some.role.now, c.in-Some.tag.now) _
    c.in-Some.ensures.steps (rw c.as_str.ensures.value at c.in_err-bind.ensures) c.loop-role.invariant)

pub returns-clause-gives : goal.returns-clause-gives
returns-clause-gives c = is_done c.loop-role.binds.items c.loop-role.role-iterator _ c.in-None.ensures.steps.0
    c.loop-role.invariant

pub returns-clause-order : goal.returns-clause-order
returns-clause-order c =
    read_binds_rise c.args.members.now.entries c.loop-role.binds.items c.iter-role-items.ensures.ordered
    (is_done c.loop-role.binds.items c.loop-role.role-iterator _ c.in-None.ensures.steps.0 c.loop-role.invariant)
