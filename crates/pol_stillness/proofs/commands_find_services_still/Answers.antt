use Rattle.pol_stillness.proofs.Still.{sent_still}
use Rattle.pol_stillness.proofs.commands_find_services_still.Goals as goal

pub returns : goal.returns
returns c = sent_still
