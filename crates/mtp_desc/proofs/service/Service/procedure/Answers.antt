use Rattle.std.proofs.Common.{◌==◌}
use Rattle.mtp_desc.specs.PlainProcedure.{plain_procedure}
use Rattle.mtp_desc.proofs.Views.{looks_up}
use Rattle.mtp_desc.proofs.service.Service.procedure.Goals as goal

pub returns : goal.returns
returns c = looks_up plain_procedure
    (λ procedure. procedure.number == c.args.number) c.args.self.now.procedures.items c.find_procedure.result
    (rw c.deref.ensures.value at c.find_procedure.ensures)
