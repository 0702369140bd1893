use Rattle.std.proofs.Common.{◌∙◌, sym}
use Rattle.pol_events.specs.Events.{plain_entry}
use Rattle.pol_events.specs.Subjects.{accepted_batch}
use Rattle.pol_audit.proofs.Followed.{grows_by}
use Rattle.pol_audit.proofs.cursors.Cursors.go_on.Goals as goal

pub returns-in-Some-run_entry : goal.returns-in-Some-run_entry
returns-in-Some-run_entry c = λ recipes before after followed grows.
    c.go_along.ensures recipes before after followed
    (λ other. grows_by (accepted_batch (plain_entry c.args.entry.now)) c.in-Some.batch other c.run_entry.result
    c.in-Some-run_entry.did _ (after other) (before other) (sym c.accepted_batch.ensures ∙ c.in-Some.is)
    c.in-Some-run_entry.is c.run_entry.ensures (grows other))
