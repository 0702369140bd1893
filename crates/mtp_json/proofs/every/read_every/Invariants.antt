use Rattle.std.proofs.Common.{◌≡◌, drop, length, map}
use Rattle.serde_json.specs.View.{items_view}
use Rattle.mtp_json.specs.Form.{each}
use Rattle.mtp_json.proofs.Each.{with_front}
use Rattle.mtp_json.proofs.every.read_every.Given as goal

abbrev pub invariant-loop-i : goal.invariant-loop-i
invariant-loop-i g l = record {
  reads : with_front (map g.T.FromJson.plain l.found.items)
      (each g.T.FromJson.form l.i (items_view (drop l.i l.values))) ≡ each g.T.FromJson.form 0 (items_view l.values);
  size : length l.found.items ≡ l.i;
}
