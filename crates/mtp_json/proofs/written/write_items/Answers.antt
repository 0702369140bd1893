use Rattle.std.proofs.lemmas.List.{take_all}
use Rattle.mtp_json.proofs.Lists.{written_items}
use Rattle.mtp_json.proofs.written.write_items.Goals as goal

pub returns : goal.returns
returns g c =
    written_items g.T.ToJson.written g.T.ToJson.plain c.loop-item.list.items c.args.items.now
    (rw (take_all c.loop-item.item-index c.args.items.now c.loop-item-test.false) at c.loop-item.invariant)
