use Rattle.std.proofs.Common.{◌≡◌}
use Rattle.serde_json.specs.View.{members_view}
use Rattle.mtp_json.proofs.Each.{with_front}
use Rattle.event_json.specs.Binds.{each_bind}
use Rattle.event_json.proofs.binds.read_each.Given as goal

abbrev pub invariant-loop-role : goal.invariant-loop-role
invariant-loop-role l = with_front l.binds.items (each_bind (members_view l.role-iterator))
    ≡ each_bind (members_view l.members.entries)
