-- An audit that says which bytes it read.
use Rattle.std.specs.Prelude.{ℕ, List, ◌++◌, length, codes}
use Rattle.std.specs.declared.convert.Infallible.{Infallible}
use Rattle.hex.specs.Hex.{encode_lower}
use Rattle.serde_json.specs.Data.{Data, number, unsigned, string, object, member, no_members}
use Rattle.sha2.specs.Sha256.{sha256}
use Rattle.pol_jobs.specs.LineWork.{Output}
use Rattle.pol_record.specs.Texts.{line_text}
use Rattle.pol_record.specs.Verdicts.{verdict_text}
use Rattle.pol_stream.specs.Inputs.{silent}
use Rattle.pol_cli.specs.Audits.{audit_of}

-- the object that says how many bytes were read, and their checksum
unfoldable pub read_object : ℕ → List ℕ → Data
read_object count sum =
    object (member (codes "bytes") (number (unsigned count)) (member (codes "sha256") (string sum) no_members))

-- the line that says which bytes were read: how many, and their SHA-256 in hex
abbrev pub read_text : List ℕ → List ℕ
read_text bytes = line_text (read_object (length bytes) (encode_lower (sha256 bytes)))

-- the verdict over an input, and which bytes that was
abbrev pub attested_text : List ℕ → List ℕ
attested_text bytes = verdict_text (audit_of bytes) ++ read_text bytes

-- the output of an audit that says which bytes it read: nothing for lines, and two lines for an input
abbrev pub attested : Output Infallible
attested = silent attested_text
