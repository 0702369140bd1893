-- Which JSON value the bytes of a text are.
use Rattle.std.specs.Prelude.{ℕ, List, Option, Some, None, Ok, Err, if◌then◌else◌}
use Rattle.std.specs.Str.{is_utf8}
use Rattle.serde_json.specs.Data.{Data}
use Rattle.serde_json.specs.Read.{read}
use Rattle.mtp_json.specs.declared.fault.FaultKind.TheVariants.{NotJson}
use Rattle.mtp_json.specs.ReadResult.{Finding}

-- what serde_json read, or that it read nothing
abbrev pub or_not_json : Option Data → Finding Data
or_not_json None = Err NotJson
or_not_json (Some value) = Ok value

-- the value that serde_json reads of the bytes, where they are UTF-8
unfoldable pub json_of : List ℕ → Finding Data
json_of bytes = if is_utf8 bytes then or_not_json (read bytes) else Err NotJson
