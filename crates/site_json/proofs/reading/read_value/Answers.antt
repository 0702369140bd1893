use Rattle.serde_json.specs.View.{view}
use Rattle.site_json.proofs.Keeping.{read_kept}
use Rattle.site_json.proofs.reading.read_value.Goals as goal

pub invariant_of-result : goal.invariant_of-result
invariant_of-result c =
    let ruled = c.in_ok-ask_all.ensures in
    record {
      kept =
          read_kept (view c.args.value.now) _ c.in_ok-object_here.ensures c.in_ok-modules.ensures.gives
          c.in_ok-recipes.ensures.gives c.in_ok-batches.ensures.gives c.in_ok-exchanges.ensures.gives
          c.in_ok-desk.ensures.gives
          c.in_ok-nothing_but.ensures
          (rw (
            c.deref.ensures.value,
            c.deref-2.ensures.value,
            c.deref-3.ensures.value,
            c.deref-4.ensures.value,
            c.deref-5.ensures.value,
          ) at ruled);
    }
