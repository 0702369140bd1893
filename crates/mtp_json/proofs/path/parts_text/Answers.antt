use Rattle.mtp_json.proofs.Joined.{text_next}
use Rattle.mtp_json.proofs.path.parts_text.Goals as goal

pub loop-i-preserved : goal.loop-i-preserved
loop-i-preserved c = record {
  bytes = text_next c.args.parts.now c.loop-i.i c.index-parts-i.result c.loop-i.out.items c.put_step.new.out.items
      c.loop-i-test.true c.index-parts-i.is c.in_ok-put_step.ensures.bytes c.loop-i.invariant.bytes;
  utf8 = c.in_ok-put_step.ensures.utf8 c.loop-i.invariant.utf8;
}
