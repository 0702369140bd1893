-- No entry so far sends the module a command.
use Rattle.std.proofs.Common.{◌≡◌, map, drop}
use Rattle.pol_events.specs.Events.{plain_entry}
use Rattle.pol_core.specs.Commands.{next_sent}
use Rattle.pol_core.proofs.commands.next_command.Given as goal

abbrev pub invariant-loop-index : goal.invariant-loop-index
invariant-loop-index l =
    next_sent l.tag l.index (map plain_entry (drop l.index l.history))
    ≡ next_sent l.tag l.place (map plain_entry (drop l.place l.history))
