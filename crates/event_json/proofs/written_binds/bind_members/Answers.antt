use Rattle.std.proofs.Common.{rules}
use Rattle.event_json.proofs.Entries.{puts_next, holds_next}
use Rattle.event_json.proofs.written_binds.bind_members.Goals as goal

pub loop-bind-preserved : goal.loop-bind-preserved
loop-bind-preserved c = record {
  written = puts_next c.args.binds.now c.loop-bind.bind-index c.bind-item.result c.loop-bind.members.entries
      c.insert.new.self.entries c.in_ok-role.role c.in_ok-tag.tag
      (search rules) c.loop-bind-test.true c.bind-item.is (search rules)
      (search rules) c.in_ok-insert.ensures.entries c.loop-bind.invariant.written;
  held = holds_next c.args.binds.now c.loop-bind.bind-index c.bind-item.result c.loop-bind-test.true c.bind-item.is
      (search rules) c.loop-bind.invariant.held;
}
