use Rattle.std.proofs.Common.{◌≡◌, ℕ, List, Some, false, subst}
use Rattle.pol_events.specs.Events.{PlainEvent}
use Rattle.pol_store.specs.Keeping.{HasParts, StoreState}
use Rattle.pol_store.specs.Stands.{StandsFor}
use Rattle.pol_store.proofs.store.Store.plant.Goals as goal

pub returns-clause-kept : goal.returns-clause-kept
returns-clause-kept g c =
    let d = g.D.Disk in
    subst (λ (t : StoreState g.row.D.Denot). t.closed ≡ false → (all : List ℕ) → d.bytes t.disk ≡ Some all →
    (kept group : List PlainEvent) → HasParts t kept group → (image : List ℕ) → d.images t.disk image →
    StandsFor kept image) c.self.view_is c.chronicle.ensures.kept
