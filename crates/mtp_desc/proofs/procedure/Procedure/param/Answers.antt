use Rattle.std.proofs.Common.{bytes_eq}
use Rattle.mtp_assembly.specs.Plain.{plain_param}
use Rattle.mtp_desc.proofs.Views.{looks_up}
use Rattle.mtp_desc.proofs.procedure.Procedure.param.Goals as goal

pub returns : goal.returns
returns c = looks_up plain_param
    (λ param. bytes_eq param.name c.args.name) c.args.self.now.params.items c.find_param.result
    (rw c.deref.ensures.value at c.find_param.ensures)
