-- What text is a requirement of versions.
use Rattle.std.specs.Prelude.{ℕ, List}
use Rattle.semver.specs.Parse.{Held, req_of}
use Rattle.mtp_json.specs.ReadResult.{Finding}
use Rattle.mtp_json.specs.Leaf.{parsed}

-- the requirement that semver reads of a text
abbrev pub requirement_of : List ℕ → Finding (List Held)
requirement_of text = parsed (req_of text)
