use Rattle.pol_keep.specs.Kept.{kept_output}
use Rattle.pol_cli.proofs.Keeping.{kept_ends, on_good, on_no_store}
use Rattle.pol_cli.proofs.jobs.keeping.keep.Goals as goal

pub returns : goal.returns
returns g c =
    let kept = c.keep-done.ensures in
    record {
      ends = rw c.status_of_kept.ensures (record {
        job = kept_ends kept_output _ _ _ c.keep-done.result.0 kept.ends kept.unopened kept.disk_cause kept.no_store
            (λ place. on_no_store _ c.keep-done.result.0 place kept.unread);
        keeps = record { lines = kept.keeps; all = on_good _ c.keep-done.result.0 kept.keeps_all };
      });
    }
