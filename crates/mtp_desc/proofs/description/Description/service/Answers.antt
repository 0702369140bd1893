use Rattle.std.proofs.Common.{bytes_eq}
use Rattle.mtp_desc.specs.PlainService.{plain_service}
use Rattle.mtp_desc.proofs.Views.{looks_up}
use Rattle.mtp_desc.proofs.description.Description.service.Goals as goal

pub returns : goal.returns
returns c = looks_up plain_service
    (λ item. bytes_eq item.name c.args.name) c.args.self.now.services.items c.find_service.result
    (rw c.deref.ensures.value at c.find_service.ensures)
