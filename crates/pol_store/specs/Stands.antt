-- Which events an image stands for.
use Rattle.std.specs.Prelude.{◌≡◌, ℕ, List, [], ◌∷◌}
use Rattle.pol_events.specs.Events.{PlainEvent}
use Rattle.pol_kept.specs.Stands as of_items
use Rattle.pol_record.specs.Texts.{event_text}
use Rattle.pol_store.specs.Work.{plant_work}

-- the texts are those of the events, in order
abbrev pub AreTextsOf : List PlainEvent → List (List ℕ) → Type 0
AreTextsOf events texts = of_items.AreTextsOf plant_work [] events texts

-- the image stands for these events
abbrev pub StandsFor : List PlainEvent → List ℕ → Type 0
StandsFor events image = of_items.StandsFor plant_work events image

-- the text is that of the first of these events, and what follows it stands for the others
abbrev pub HasFirst : List ℕ → List ℕ → List PlainEvent → Type 0
HasFirst text behind [] = ⊥
HasFirst text behind (event ∷ events) = (text ≡ event_text event) × StandsFor events behind

-- the image stands for the events, with all of a group behind them or with none of it
abbrev pub StandsWithAllOrNone : List PlainEvent → List PlainEvent → List ℕ → Type 0
StandsWithAllOrNone events group image = of_items.StandsWithAllOrNone plant_work events group image

-- no list of at most 200,000 events stands for the image
abbrev pub StandsForNone : List ℕ → Type 0
StandsForNone image = of_items.StandsForNone plant_work image
