-- Which lines are blank, as a job meets them.
use Rattle.std.proofs.Common.{ℕ, ◌≡◌, ◌∙◌, List, Bool, true, false, ap, refl, if◌then◌else◌}
use Rattle.std.specs.Prelude.{◌||◌, not, Some, None}
use Rattle.std.specs.List.{list_all}
use Rattle.pol_jobs.specs.LineWork.{met}
use Rattle.pol_jobs.proofs.Meeting.{met_by_length}
use Rattle.event_json.specs.Lines.{is_blank_byte}
use Rattle.site_json.specs.Texts.{is_filled, is_long}
use Rattle.pol_replay.specs.Meanings.{is_some_line}

-- a line isn't blank as it is met where it isn't
pub met_filled : (line : List ℕ) → is_some_line (met line) ≡ is_filled line
met_filled line = ap is_some_line (met_by_length line) ∙ by_length (is_long line)
  where
    by_length : (long : Bool) →
        is_some_line (if long then None else Some line) ≡ (long || not (list_all is_blank_byte line))
    by_length true = refl
    by_length false = refl
