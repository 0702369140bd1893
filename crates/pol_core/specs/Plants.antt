-- What contracts see of a plant.
use Rattle.std.specs.Prelude.{ℕ, Bool, true, false, List}
use Rattle.pol_events.specs.Events.{PlainEvent, plug, recipe, start, exchange_end, plain_history}
use Rattle.pol_events.specs.declared.event.Entry.{Entry}
use Rattle.pol_history.specs.Looking.{History}

-- a plant: its entries, the oldest first, and how many more its history takes without memory
pub record PlainPlant : Type 0 where
  pub entries : List Entry
  pub spare : ℕ

-- the history of a plant, the newest entry first
abbrev pub plant_history : PlainPlant → History
plant_history plant = plain_history plant.entries

-- the event is of a kind that takes no memory where the history has room: any but Plug, Recipe, Start and ExchangeEnd
abbrev pub is_spared : PlainEvent → Bool
is_spared (plug at tag description) = false
is_spared (recipe at name chart) = false
is_spared (start at batch name binds) = false
is_spared (exchange_end at tag ticket description) = false
is_spared _ = true
