-- The candidates so far and those of the tags that are left are all.
use Rattle.std.proofs.Common.{◌≡◌, ◌≤◌, ◌-◌, ◌++◌, drop, length}
use Rattle.std.specs.Prelude.{filter_map}
use Rattle.pol_history.specs.Modules.{present_tags}
use Rattle.pol_table.specs.ByteOrder.{in_byte_order}
use Rattle.pol_core.specs.Plants.{plant_history}
use Rattle.pol_match.specs.Candidates.{plain_candidates}
use Rattle.pol_find.specs.Candidates.{candidate_in, candidates_by}
use Rattle.pol_find.proofs.candidates.candidates.Given as goal

abbrev pub invariant-loop-tag : goal.invariant-loop-tag
invariant-loop-tag l = record {
  made : plain_candidates l.candidates.items
      ++ filter_map (candidate_in l.pool (plant_history l.plant))
      (drop l.place (in_byte_order (present_tags (plant_history l.plant))))
      ≡ candidates_by (candidate_in l.pool (plant_history l.plant)) (plant_history l.plant);
  low : l.place ≤ length (in_byte_order (present_tags (plant_history l.plant)));
}

abbrev pub decreases-loop-tag : goal.decreases-loop-tag
decreases-loop-tag l = length (in_byte_order (present_tags (plant_history l.plant))) - l.place
