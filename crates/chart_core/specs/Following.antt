-- What was found of a part of a chart, in the words of the definitions.
use Rattle.std.specs.Prelude.{ℕ, Option, Some, None}
use Rattle.chart_core.specs.declared.following.Followed.{Followed}
use Rattle.chart_core.specs.declared.following.Followed.TheVariants.{Changes, Done, Open}
use Rattle.chart_core.specs.declared.progress.Change.{Change}

-- what the entry changes, where it may come next
abbrev pub change_in : Followed → Option Change
change_in (Changes change) = Some change
change_in (Done behind) = None
change_in Open = None

-- the number behind the last node, where the part is done
abbrev pub behind_in : Followed → Option ℕ
behind_in (Changes change) = None
behind_in (Done behind) = Some behind
behind_in Open = None
