use Rattle.pol_disk.specs.Calls.{deeds_of}
use Rattle.pol_disk.specs.Records.{IsFilled, ranges_of}
use Rattle.std.proofs.Common.{sym, subst, ap}
use Rattle.pol_disk.proofs.Fills.{filled_more}
use Rattle.pol_disk.proofs.memory.fill_written.Goals as goal

pub call-preserved : goal.call-preserved
call-preserved c = λ filled rest.
    c.call.invariant filled
    (subst (λ ranges. IsFilled c.args.fill ranges c.call.bytes filled) (sym (ap ranges_of c.in-Some.ensures.1))
    (filled_more c.args.fill _
    (ranges_of (deeds_of c.pop_range.new.calls.items)) c.call.bytes c.fill_range.new.bytes filled
    c.fill_range.ensures rest))
