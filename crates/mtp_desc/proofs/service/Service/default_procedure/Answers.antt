use Rattle.std.proofs.Common.{map, sym}
use Rattle.mtp_desc.specs.PlainProcedure.{plain_procedure}
use Rattle.mtp_desc.proofs.Views.{looks_up, one_is_found}
use Rattle.mtp_desc.proofs.service.Service.default_procedure.Goals as goal

pub unreachable-requires : goal.unreachable-requires
unreachable-requires c =
    one_is_found (λ procedure. procedure.is_default) (map plain_procedure c.args.self.now.procedures.items)
    c.args.self.now.one_default
    (sym (rw c.in-None.is at
    (looks_up plain_procedure
    (λ procedure. procedure.is_default) c.args.self.now.procedures.items c.find_default.result
    (rw c.deref.ensures.value at c.find_default.ensures))))

pub returns : goal.returns
returns c =
    sym (rw c.in-Some.is at
    (looks_up plain_procedure
    (λ procedure. procedure.is_default) c.args.self.now.procedures.items c.find_default.result
    (rw c.deref.ensures.value at c.find_default.ensures)))
