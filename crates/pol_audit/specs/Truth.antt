-- What a good verdict says: the entry lines spell a true history, and just its closing lines follow.
use Rattle.std.specs.Prelude.{◌≡◌, ◌≤◌, ℕ, List, length, None, reverse}
use Rattle.pol_history.specs.Looking.{History}
use Rattle.pol_history.specs.Runs.{IsLegal, IsOrderly}
use Rattle.pol_record.specs.declared.verdicts.Verdict.TheVariants as verdict
use Rattle.pol_audit.specs.Verdict.{Line, closing_lines, entries_of, first_other, lines_behind, verdict_of}
use Rattle.pol_audit.specs.declared.judging.TheConstants.{MOST_JUDGED}

-- the history that the entry lines spell, the newest entry first
abbrev pub spelled : List Line → History
spelled lines = reverse (entries_of lines)

-- the first lines, `count` of them, are entries; each answer is the one that the entries before it give, each event is
-- as a line says it, and just the closing lines follow
pub record IsTrueHistory (lines : List Line) (count : ℕ) : Type 0 where
  pub legal : IsLegal (spelled lines)
  pub orderly : IsOrderly (spelled lines)
  pub counted : length (entries_of lines) ≡ count
  pub few : count ≤ MOST_JUDGED
  pub closed : first_other count (closing_lines (spelled lines)) (lines_behind lines) ≡ None

-- A good verdict is given only of lines that are a true history with just its closing lines behind it.
abbrev pub GoodIsTrue : Type 0
GoodIsTrue = (lines : List Line) (count : ℕ) → verdict_of lines ≡ verdict.Good count → IsTrueHistory lines count
