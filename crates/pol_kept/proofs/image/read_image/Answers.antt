use Rattle.std.proofs.Common.{◌<◌, length, arith}
use Rattle.std.proofs.lemmas.Result.{err_from_is_err_and}
use Rattle.pol_kept.proofs.Opened.{fault_unread}
use Rattle.pol_kept.proofs.image.read_image.Goals as goal

pub returns-in_err-chronicle-clause-unread : goal.returns-in_err-chronicle-clause-unread
returns-in_err-chronicle-clause-unread g c =
    let fault = err_from_is_err_and c.from_residual.result c.from_residual.ensures.1 in
    let long : 1 < length c.args.image.now = omega (arith, c.if-image-le1.false) in
    rw (fault.1, fault.2) (fault_unread g.C.Chronicle.work g.met.C.Chronicle.lawful c.in_err-chronicle.field-0.0
    c.args.image.now c.in_err-chronicle.ensures.breaks c.in_err-chronicle.ensures.no_disk long)
