-- The seats of the actors, and what their lists are after a turn.
use Rattle.std.specs.Prelude.{ℕ, ◌≡◌, ◌++◌, ◌∷◌, List, [], map}
use Rattle.std.specs.List.{range_with_len}
use Rattle.pol_live.specs.declared.turned.Placed.{Placed}
use Rattle.pol_live.specs.declared.turned.Turned.{Turned}
use Rattle.pol_live.specs.declared.turned.Turned.TheVariants.{Made, Looked, Rested, Full}

-- what contracts see of a seat: its actor's number, and what its turns made
pub record Seated : Type 0 where
  pub actor : ℕ
  pub list : List Placed

-- a seat's list after a turn: what the turn made is at its end
abbrev pub ListAfter : List Placed → List Placed → Turned → Type 0
ListAfter before after (Made placed) = after ≡ before ++ placed ∷ []
ListAfter before after Looked = after ≡ before
ListAfter before after Rested = after ≡ before
ListAfter before after Full = after ≡ before

-- the actors of seats
abbrev pub actors_of : List Seated → List ℕ
actors_of seats = map (λ seat. seat.actor) seats

-- the seats are those of that many actors, in their order
abbrev pub AreSeated : ℕ → List Seated → Type 0
AreSeated count seats = actors_of seats ≡ range_with_len 0 count
