use Rattle.std.proofs.Common.{◌≡◌, take, map}
use Rattle.serde_json.specs.View.{view}
use Rattle.mtp_json.proofs.written.write_items.Given as goal

abbrev pub invariant-loop-item : goal.invariant-loop-item
invariant-loop-item g l = map view l.list.items ≡ map (λ item. g.T.ToJson.written (g.T.ToJson.plain item))
    (take l.item-index l.items)
