use Rattle.std.proofs.Common.{◌∙◌, sym, bytes_eq}
use Rattle.mtp_assembly.specs.Plain.{plain_variable}
use Rattle.mtp_desc.proofs.Views.{position_map}
use Rattle.mtp_desc.proofs.description.Description.variable_place.Goals as goal

pub returns : goal.returns
returns c = (rw c.deref.ensures.value at c.place_of_variable.ensures)
    ∙ sym (position_map plain_variable (λ item. bytes_eq item.name c.args.name) c.args.self.now.variables.items)
