use Rattle.pol_cli.proofs.Operating.{on_good, operated_ends}
use Rattle.pol_cli.proofs.jobs.operating.operate.Goals as goal

pub returns : goal.returns
returns g c =
    let done = c.operate-done.ensures in
    record {
      ends = rw c.status_of_operated.ensures (record {
        job = operated_ends _ _ _ c.operate-done.result.0 done.ends done.unopened done.disk_cause done.no_ledger
            done.unread done.unwritten;
        keeps = record { lines = done.keeps; all = on_good _ c.operate-done.result.0 done.keeps_all };
        guards = c.laws_hold.ensures.operated;
        runs = c.laws_hold.ensures.operations;
        questions = c.laws_hold.ensures.questions;
      });
    }
