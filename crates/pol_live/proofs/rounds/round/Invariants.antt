-- While all rested, each actor so far is settled.
use Rattle.std.specs.Prelude.{◌≡◌, ◌<◌, ℕ, true, Some, slice_get}
use Rattle.pol_site.specs.Actors.{Actor, actors}
use Rattle.pol_site.specs.Settled.{is_settled}
use Rattle.pol_live.specs.Turns.{history_of}
use Rattle.pol_live.proofs.rounds.round.Given as goal

abbrev pub invariant-loop-actor : goal.invariant-loop-actor
invariant-loop-actor g l =
    l.rested ≡ true → (n : ℕ) (who : Actor) → n < l.actor → slice_get (actors g.J.Job.site) n ≡ Some who →
    is_settled g.J.Job.site (history_of l.plant) who ≡ true
