use Rattle.std.proofs.Common.{◌≡◌, take, true}
use Rattle.std.specs.List.{list_all}
use Rattle.serde_json.specs.View.{members_view}
use Rattle.event_json.specs.Ranges.{is_bind_in_range}
use Rattle.event_json.specs.Written.{bind_members}
use Rattle.event_json.proofs.written_binds.bind_members.Given as goal

abbrev pub invariant-loop-bind : goal.invariant-loop-bind
invariant-loop-bind l = record {
  written : members_view l.members.entries ≡ bind_members (take l.bind-index l.binds);
  held : list_all is_bind_in_range (take l.bind-index l.binds) ≡ true;
}
