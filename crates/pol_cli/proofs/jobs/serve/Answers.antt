use Rattle.std.proofs.Common.{ap, refl, ◌∙◌}
use Rattle.pol_jobs.specs.LineWork.{output_by}
use Rattle.pol_cli.specs.Attests.{attested}
use Rattle.pol_cli.specs.Audits.{audit_work, audited}
use Rattle.pol_replay.specs.Replay.{replay_work, replayed}
use Rattle.pol_find.specs.Finding.{find_work, found}
use Rattle.pol_find.proofs.Replayed.{find_output}
use Rattle.pol_guard.specs.Work.{guard_work}
use Rattle.pol_guard.specs.Guarded.{guarded}
use Rattle.pol_guard.proofs.Working.{guard_output}
use Rattle.pol_migration.specs.Job.{migrating}
use Rattle.pol_migration.proofs.Replies.{migrating_output}
use Rattle.pol_cli.specs.Statuses.{no_refusal, refused_as}
use Rattle.pol_cli.specs.Worked.{no_source}
use Rattle.pol_cli.specs.declared.status.Wanted.TheVariants.{Policy}
use Rattle.pol_cli.proofs.Auditing.{audit_output}
use Rattle.pol_cli.proofs.Ending.{guard_unwritten, job_ends}
use Rattle.pol_replay.proofs.Replaying.{replay_output}
use Rattle.pol_cli.proofs.jobs.serve.Goals as goal

pub returns-in-Replay-clause-ends : goal.returns-in-Replay-clause-ends
returns-in-Replay-clause-ends g c =
    rw (c.in-Replay.is, c.status_of.ensures) (job_ends _ replayed no_refusal _ _ c.work.result
    (ap (output_by replay_work) c.new.ensures ∙ replay_output) c.work.ensures.ends)

pub returns-in-Demo-clause-ends : goal.returns-in-Demo-clause-ends
returns-in-Demo-clause-ends g c =
    rw (c.in-Demo.is, c.status_of-in-Demo.ensures) (record {
      job = job_ends _ _ no_refusal no_source _ c.demonstrate.result refl c.demonstrate.ensures;
      unread = refl;
    })

pub returns-in-Audit-clause-ends : goal.returns-in-Audit-clause-ends
returns-in-Audit-clause-ends g c =
    rw (c.in-Audit.is, c.status_of-in-Audit.ensures) (record {
      job = job_ends _ audited no_refusal _ _ c.work-in-Audit.result
          (ap (output_by audit_work) c.new-in-Audit.ensures ∙ audit_output) c.work-in-Audit.ensures.ends;
      audits = c.laws_hold.ensures.audits;
    })

pub returns-in-Attest-clause-ends : goal.returns-in-Attest-clause-ends
returns-in-Attest-clause-ends g c =
    rw (c.in-Attest.is, c.status_of-in-Attest.ensures) (record {
      job = job_ends _ attested no_refusal _ _ c.attest.result refl c.attest.ensures;
      audits = c.laws_hold.ensures.audits;
    })

pub returns-in-Find-clause-ends : goal.returns-in-Find-clause-ends
returns-in-Find-clause-ends g c =
    rw (c.in-Find.is, c.status_of-in-Find.ensures) (record {
      job = job_ends _ found no_refusal _ _ c.work-in-Find.result
          (ap (output_by find_work) c.new-in-Find.ensures ∙ find_output) c.work-in-Find.ensures.ends;
      bindings = c.laws_hold.ensures.bindings;
    })

pub returns-in-Guard-clause-ends : goal.returns-in-Guard-clause-ends
returns-in-Guard-clause-ends g c =
    rw (c.in-Guard.is, c.status_wanting.ensures) (record {
      job = job_ends _ guarded (refused_as Policy) _ _ c.work-in-Guard.result
          (ap (output_by guard_work) c.new-in-Guard.ensures ∙ guard_output) c.work-in-Guard.ensures.ends;
      unwritten = guard_unwritten _ _ c.work-in-Guard.result
          (rw c.new-in-Guard.ensures at c.work-in-Guard.ensures.refused);
      guards = c.laws_hold.ensures.guards;
    })

pub returns-in-Migrate-clause-ends : goal.returns-in-Migrate-clause-ends
returns-in-Migrate-clause-ends g c =
    rw (c.in-Migrate.is, c.status_of-in-Migrate.ensures) (record {
      job = job_ends _ migrating no_refusal _ _ c.work-in-Migrate.result migrating_output
          c.work-in-Migrate.ensures.ends;
      migrations = c.laws_hold.ensures.migrations;
    })
