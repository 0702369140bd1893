use Rattle.std.proofs.Common.{subst}
use Rattle.pol_live.specs.Parts.{IsRun}
use Rattle.pol_live.specs.Turns.{Locked}
use Rattle.pol_live.proofs.cast.Cast.is_of_a_run.Goals as goal

pub returns : goal.returns
returns g c =
    let kept = c.self.invariant.1 in
    subst (λ (locked : Locked). IsRun g.J.Job.site locked.entries locked.by) c.self.view_is (record {
      legal = kept.legal;
      orderly = kept.orderly;
      follows = kept.follows;
      commanded = kept.commanded;
      owned = kept.owned;
    })
