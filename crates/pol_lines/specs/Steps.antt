-- What a step has beside its flat members.
use Rattle.std.specs.Prelude.{◌≡◌, ℕ, List, true, codes, Option, option_map, Ok}
use Rattle.std.specs.List.{list_all}
use Rattle.serde_json.specs.Data.{Data, Items, array}
use Rattle.mtp_codes.specs.declared.value.Setting.{Setting}
use Rattle.mtp_json.specs.Form.{is_listed, nested_if_present}
use Rattle.mtp_json.specs.Leaf.{meaning_of}
use Rattle.chart_core.specs.Formulas.{Formula}
use Rattle.chart_json.specs.Form.{condition_of, setting_of}
use Rattle.pol_lines.specs.Objects.{GivesEach}

-- the other members of a step give these settings and this condition
pub record GivesStep (settings : List Setting) (finish : Option Formula) (others : List (List ℕ × Data)) : Type 0 where
  pub values : Option Items
  pub there : meaning_of (codes "settings") others ≡ option_map array values
  pub gives : GivesEach setting_of settings values
  pub finishes : nested_if_present condition_of (meaning_of (codes "finish") others) ≡ Ok finish
  pub listed : list_all (λ row. is_listed (codes "step role service procedure settings finish") row.0) others ≡ true
