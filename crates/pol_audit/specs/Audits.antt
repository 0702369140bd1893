-- What contracts see of an audit.
use Rattle.std.specs.Prelude.{map}
use Rattle.std.specs.Option.{option_map}
use Rattle.pol_events.specs.Events.{plain_entry}
use Rattle.pol_audit.specs.Reading.{Read}
use Rattle.pol_audit.specs.declared.audit.Audit.{Audit}

-- what an audit has kept of the lines that it read
abbrev pub plain_audit : Audit → Read
plain_audit audit =
    record {
      entries = map plain_entry audit.entries.items;
      behind = map (option_map (λ line. line.items)) audit.behind.items;
    }
