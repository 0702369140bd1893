-- The tokens so far and those of the tags that are left are all.
use Rattle.std.proofs.Common.{◌≡◌, ◌++◌, drop}
use Rattle.pol_core.specs.Plants.{plant_history}
use Rattle.pol_record.specs.Objects.{data_tokens}
use Rattle.pol_overview.specs.Lists.{each_data}
use Rattle.pol_overview.specs.Modules.{module_data}
use Rattle.pol_overview.proofs.Places.{rest_tokens}
use Rattle.pol_overview.proofs.modules.write_tags.Given as goal

abbrev pub invariant-loop-tag : goal.invariant-loop-tag
invariant-loop-tag g l = record {
  tokens : l.writer.tokens
      ++ rest_tokens (module_data (g.A.Allowing.allows l.allowing) (plant_history l.plant)) (drop l.tag-index l.tags)
      ≡ l.fn.writer.tokens
      ++ data_tokens (each_data (module_data (g.A.Allowing.allows l.allowing) (plant_history l.plant)) l.tags);
  before : l.writer.before ≡ l.fn.writer.before;
}
