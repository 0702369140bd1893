use Rattle.std.proofs.Common.{None, refl}
use Rattle.pol_audit.proofs.Followed.{one_changed}
use Rattle.pol_audit.proofs.cursors.Cursors.leave.Goals as goal

pub returns : goal.returns
returns c = λ recipes runs followed.
    one_changed c.args.self.now.followed.entries c.swap_remove-left.new.self.entries c.args.batch None recipes runs
    runs c.swap_remove-left.ensures.updates.0 (λ other apart. refl) tt followed
