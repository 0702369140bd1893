-- What an errand of the exchanger makes of the modules.
use Rattle.std.specs.Prelude.{ℕ, List, Option, Some, None, option_and_then, position, slice_get, slice_set}
use Rattle.std.specs.Str.{bytes_eq}
use Rattle.pol_events.specs.declared.answer.Answer.{Answer}
use Rattle.pol_events.specs.declared.answer.Answer.TheVariants.{Done}
use Rattle.pol_site.specs.Sites.{PlainSite}
use Rattle.pol_actors.specs.declared.exchanger.Errand.{Errand}
use Rattle.pol_actors.specs.declared.exchanger.Errand.TheVariants as errand
use Rattle.pol_actors.specs.declared.unit.Unit.{Unit as Module}

-- the tag of the module whose exchange an errand is about
abbrev pub errand_tag : Errand → Option (List ℕ)
errand_tag (errand.Open place) = None
errand_tag (errand.Begin tag) = Some tag
errand_tag (errand.End tag ticket place) = Some tag
errand_tag (errand.Cancel tag ticket) = Some tag

-- the module of an errand after the errand was answered so: its simulation is dropped, and after an end that is done it
-- is the module that the exchange brought
abbrev pub unit_after : Errand → Answer → Module → Module
unit_after (errand.Open place) answer own = own
unit_after (errand.Begin tag) answer own = record { made = None; brought = own.brought }
unit_after (errand.End tag ticket place) Done own = record { made = None; brought = Some place }
unit_after (errand.End tag ticket place) answer own = own
unit_after (errand.Cancel tag ticket) answer own = record { made = None; brought = own.brought }

-- the list with the item at a place changed, if there is one
abbrev pub put_at : {A : Type 0} → List A → ℕ → (A → A) → Option A → List A
put_at xs place change None = xs
put_at xs place change (Some x) = slice_set xs place (change x)

-- the list with the item at a place changed, if there is a place
abbrev pub changed_at : {A : Type 0} → List A → Option ℕ → (A → A) → List A
changed_at xs None change = xs
changed_at xs (Some place) change = put_at xs place change (slice_get xs place)

-- the place of the module of a tag
abbrev pub place_of_tag : PlainSite → List ℕ → Option ℕ
place_of_tag site tag = position (λ unit. bytes_eq unit.tag tag) site.modules

-- the modules after the errand was answered so
abbrev pub units_after : PlainSite → List Module → Errand → Answer → List Module
units_after site units errand answer =
    changed_at units (option_and_then (place_of_tag site) (errand_tag errand)) (unit_after errand answer)
