use Rattle.std.proofs.Common.{◌∙◌, sym, bytes_eq}
use Rattle.mtp_desc.specs.PlainService.{plain_service}
use Rattle.mtp_desc.proofs.Views.{position_map}
use Rattle.mtp_desc.proofs.description.Description.service_place.Goals as goal

pub returns : goal.returns
returns c = (rw c.deref.ensures.value at c.place_of_service.ensures)
    ∙ sym (position_map plain_service (λ item. bytes_eq item.name c.args.name) c.args.self.now.services.items)
