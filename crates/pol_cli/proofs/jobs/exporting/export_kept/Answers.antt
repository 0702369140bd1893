use Rattle.pol_keep.specs.Exported.{exported_output}
use Rattle.pol_cli.specs.Worked.{no_source}
use Rattle.pol_cli.proofs.Keeping.{kept_ends, on_good, on_no_store}
use Rattle.pol_cli.proofs.jobs.exporting.export_kept.Goals as goal

pub returns : goal.returns
returns g c =
    let export = c.export-done.ensures in
    record {
      ends = rw c.status_of_kept.ensures (record {
        job = kept_ends (exported_output c.args.extent) no_source _ _ c.export-done.result.0 export.ends export.unopened
            export.disk_cause export.no_store
            (λ place is. (tt, on_no_store _ c.export-done.result.0 place export.unwritten is));
        holds = record { events = export.holds; all = on_good _ c.export-done.result.0 export.holds_all };
      });
    }
