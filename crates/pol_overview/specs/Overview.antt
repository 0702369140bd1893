-- The overview of a plant.
use Rattle.std.specs.Prelude.{ℕ, List, length, codes}
use Rattle.serde_json.specs.Data.{Data, string, object, member, no_members}
use Rattle.event_json.specs.Written.{whole}
use Rattle.pol_history.specs.Looking.{History, recipes}
use Rattle.pol_core.specs.Recipes.{names_in}
use Rattle.pol_record.specs.Texts.{line_text, under_key}
use Rattle.pol_overview.specs.Batches.{batches_data}
use Rattle.pol_overview.specs.Lists.{names_data}
use Rattle.pol_overview.specs.May.{Allows}
use Rattle.pol_overview.specs.Modules.{modules_data}
use Rattle.pol_overview.specs.Near.{near_limits, rules_data}

-- a plant: its batches, what its file's header says, the number of its entries, its modules, the limits that are near,
-- its recipes and the sum of the file's last record
unfoldable pub plant_object : Data → List ℕ → ℕ → Data → Data → Data → List ℕ → Data
plant_object batches begun entries modules near recipes sum = object
    (member (codes "batches") batches
    (member (codes "begun") (string begun)
    (member (codes "entries") (whole entries)
    (member (codes "modules") modules
    (member (codes "near") near
    (member (codes "recipes") recipes
    (member (codes "sum") (string sum) no_members)))))))

-- the overview of a plant after a history, with what may be commanded there, and with the header and the last sum of
-- its file
abbrev pub plant_data : Allows → History → List ℕ → List ℕ → Data
plant_data allows history begun sum =
    plant_object (batches_data history) begun (length history) (modules_data allows history)
    (rules_data (near_limits history)) (names_data (names_in (recipes history))) sum

-- the line of the overview
abbrev pub plant_text : Allows → History → List ℕ → List ℕ → List ℕ
plant_text allows history begun sum = line_text (under_key (codes "plant") (plant_data allows history begun sum))
