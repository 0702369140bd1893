-- Texts and their events.
use Rattle.std.proofs.Common.{◌≡◌, List, ℕ, [], ◌∷◌, ◌++◌, Option, Some, None}
use Rattle.std.specs.Prelude.{IfNone, IfSome}
use Rattle.pol_events.specs.Events.{PlainEvent}
use Rattle.pol_kept.specs.Stands as of_items
use Rattle.pol_kept.proofs.Texts.{one_list_of_items}
use Rattle.pol_store.specs.Lawful.{plants_are_lawful}
use Rattle.pol_store.specs.Stands.{HasFirst, StandsFor}
use Rattle.pol_store.specs.Work.{plant_work}

-- an image stands for one list of events
pub one_history : (image : List ℕ) (xs ys : List PlainEvent) → StandsFor xs image → StandsFor ys image → xs ≡ ys
one_history image xs ys stands stands' = one_list_of_items plant_work plants_are_lawful [] image xs ys stands stands'

-- the texts of events are the same whatever stands before them
texts_anywhere : (before other events : List PlainEvent) (texts : List (List ℕ)) →
    of_items.AreTextsOf plant_work before events texts → of_items.AreTextsOf plant_work other events texts
texts_anywhere before other [] [] are = tt
texts_anywhere before other [] (text ∷ texts) are = absurd are
texts_anywhere before other (event ∷ events) [] are = absurd are
texts_anywhere before other (event ∷ events) (text ∷ texts) are =
    (are.0, texts_anywhere (before ++ event ∷ []) (other ++ event ∷ []) events texts are.1)

-- the first of some items is the first event
pub first_event : (text behind : List ℕ) (events : List PlainEvent) →
    of_items.HasFirst plant_work [] text behind events → HasFirst text behind events
first_event text behind [] first = absurd first
first_event text behind (event ∷ events) first = (
  first.0.written,
  record {
    texts = first.1.texts;
    are = texts_anywhere (event ∷ []) [] events first.1.texts first.1.are;
    stands = first.1.stands;
  },
)

-- what follows of what was found
pub some_then : {T : Type 0} (found : Option T) (P Q : T → Type 0) → ((one : T) → P one → Q one) → IfSome found P →
    IfSome found Q
some_then None P Q follows is = tt
some_then (Some one) P Q follows is = follows one is

-- what follows of finding nothing
pub none_then : {T : Type 0} (found : Option T) (P Q : Type 0) → (P → Q) → IfNone found P → IfNone found Q
none_then None P Q follows is = follows is
none_then (Some one) P Q follows is = tt
