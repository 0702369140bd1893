-- What the overview says of a plant that goes on from a compacted history.
use Rattle.std.specs.Prelude.{ℕ, ◌≡◌, false, not, List, [], filter}
use Rattle.mtp_codes.specs.Names.{is_among}
use Rattle.pol_events.specs.Events.{PlainEvent}
use Rattle.pol_history.specs.Answers.{is_full}
use Rattle.pol_history.specs.Batches.{batches}
use Rattle.pol_history.specs.Looking.{History, recipes}
use Rattle.pol_history.specs.Runs.{AreOrderly, history_after}
use Rattle.pol_core.specs.Calls.{standing_of}
use Rattle.pol_core.specs.Recipes.{names_in}
use Rattle.pol_core.specs.Steps.{active_of, waits_of}
use Rattle.pol_compaction.specs.Lasting.{closed_batches}
use Rattle.pol_overview.specs.Batches.{batch_data}
use Rattle.pol_overview.specs.May.{Allows}
use Rattle.pol_overview.specs.Modules.{modules_data}
use Rattle.pol_renewed.specs.Renewed.{renewed_after, whole_after}

-- nobody may send a command
abbrev pub nothing_allowed : Allows
nothing_allowed tag service command = false

-- The overview says the same of one history as of the other, in which some batches are forgotten: of the modules, with
-- the commands that would go out where the whole history isn't full, and without them also where it is; of the recipes;
-- and of each batch that isn't forgotten, all where the whole history isn't full, and where it is what is said without
-- what comes next. The batches that aren't forgotten are listed in the same order.
pub record TellsSame (gone : List (List ℕ)) (whole less : History) : Type 0 where
  pub modules : (allows : Allows) → is_full whole ≡ false → modules_data allows less ≡ modules_data allows whole
  pub without_commands : modules_data nothing_allowed less ≡ modules_data nothing_allowed whole
  pub recipe_names : names_in (recipes less) ≡ names_in (recipes whole)
  pub batch : (batch : List ℕ) → is_among gone batch ≡ false → is_full whole ≡ false
      → batch_data less batch ≡ batch_data whole batch
  pub standing : (batch : List ℕ) → is_among gone batch ≡ false → standing_of less batch ≡ standing_of whole batch
  pub active : (batch : List ℕ) → is_among gone batch ≡ false → active_of less batch ≡ active_of whole batch
  pub waits : (batch : List ℕ) → is_among gone batch ≡ false → waits_of less batch ≡ waits_of whole batch
  pub listed : batches less ≡ filter (λ batch. not (is_among gone batch)) (batches whole)

-- The overview of a plant that goes on from what stays says what that of the old one says.
abbrev pub CompactionTellsAlike : Type 0
CompactionTellsAlike =
    (events later : List PlainEvent) → AreOrderly events →
    TellsSame (closed_batches (history_after [] events)) (whole_after events later) (renewed_after events later)
