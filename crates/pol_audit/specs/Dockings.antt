-- What the code keeps of a docking: not how often the module was docked.
use Rattle.std.specs.Prelude.{Option, []}
use Rattle.std.specs.Option.{option_map}
use Rattle.pol_events.specs.Events.{PlainEntry}
use Rattle.pol_history.specs.Modules as modules
use Rattle.pol_audit.specs.declared.modules.Docking.{Docking}
use Rattle.pol_audit.specs.declared.modules.Docking.TheVariants.{Absent, Docked, Away}

-- a docking without its count
abbrev pub docking_seen : modules.Docking → Docking
docking_seen modules.absent = Absent
docking_seen (modules.docked count) = Docked
docking_seen (modules.away ticket) = Away ticket

-- the docking that an accepted event leaves
abbrev pub docking_left : PlainEntry → Option Docking
docking_left entry = option_map docking_seen (modules.docking_after [] entry.event entry.answer)
