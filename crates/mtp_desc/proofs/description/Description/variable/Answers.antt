use Rattle.std.proofs.Common.{bytes_eq}
use Rattle.mtp_assembly.specs.Plain.{plain_variable}
use Rattle.mtp_desc.proofs.Views.{looks_up}
use Rattle.mtp_desc.proofs.description.Description.variable.Goals as goal

pub returns : goal.returns
returns c = looks_up plain_variable
    (λ item. bytes_eq item.name c.args.name) c.args.self.now.variables.items c.find_variable.result
    (rw c.deref.ensures.value at c.find_variable.ensures)
