-- Which texts are versions.
use Rattle.std.specs.Prelude.{ℕ, List, Result}
use Rattle.semver.specs.Parse.{Parts, version_parts}
use Rattle.semver.specs.declared.error.Error.{Error}

-- the version that semver reads of a text, or why it is none
abbrev pub version_of : List ℕ → Result Parts Error
version_of text = version_parts text
