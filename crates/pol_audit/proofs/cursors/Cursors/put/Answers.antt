use Rattle.std.proofs.Common.{Some, refl}
use Rattle.pol_audit.proofs.Followed.{one_changed}
use Rattle.pol_audit.proofs.cursors.Cursors.put.Goals as goal

pub returns : goal.returns
returns c = λ recipes runs followed along.
    one_changed c.args.self.now.followed.entries c.insert.new.self.entries c.args.batch (Some c.args.followed) recipes
    runs runs c.in_ok-insert.ensures.updates.0 (λ other apart. refl) along followed
