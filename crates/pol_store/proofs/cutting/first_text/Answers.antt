use Rattle.std.proofs.Common.{◌≡◌, List, []}
use Rattle.pol_events.specs.Events.{PlainEvent}
use Rattle.pol_kept.specs.Stands as of_items
use Rattle.pol_store.specs.Stands.{HasFirst, StandsFor}
use Rattle.pol_store.specs.Work.{plant_work}
use Rattle.pol_store.proofs.Texts.{first_event, none_then, some_then}
use Rattle.pol_store.proofs.cutting.first_text.Goals as goal

pub returns-clause-first : goal.returns-clause-first
returns-clause-first c =
    let image = c.args.image.now in
    some_then c.first_text.result
    (λ cut. (before items : List PlainEvent) → of_items.StandsBehind plant_work before items image →
    of_items.HasFirst plant_work before cut.0.now cut.1.now items)
    (λ cut. (events : List PlainEvent) → StandsFor events image → HasFirst cut.0.now cut.1.now events)
    (λ cut first events stands. first_event cut.0.now cut.1.now events (first [] events stands))
    c.first_text.ensures.first

pub returns-clause-none : goal.returns-clause-none
returns-clause-none c =
    let image = c.args.image.now in
    none_then c.first_text.result
    ((before items : List PlainEvent) → of_items.StandsBehind plant_work before items image → items ≡ [])
    ((events : List PlainEvent) → StandsFor events image → events ≡ [])
    (λ none events stands. none [] events stands) c.first_text.ensures.none
