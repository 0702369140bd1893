use Rattle.std.proofs.Common.{[]}
use Rattle.pol_kept.proofs.Texts.{one_list_of_items}
use Rattle.pol_ledger.specs.Lawful.{ledgers_are_lawful}
use Rattle.pol_ledger.specs.Work.{ledger_work}
use Rattle.pol_ledger.proofs.laws.images_stand_for_one_ledger.Goals as goal

pub returns : goal.returns
returns c = λ image items others stands stands'.
    one_list_of_items ledger_work ledgers_are_lawful [] image items others stands stands'
