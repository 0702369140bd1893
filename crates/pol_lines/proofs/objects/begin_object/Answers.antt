use Rattle.pol_lines.proofs.Cuts.{stands_open}
use Rattle.pol_lines.proofs.objects.begin_object.Goals as goal

pub returns : goal.returns
returns c = λ deep. stands_open deep c.args.text.now c.in_ok-rest.rest.now c.in_ok-rest.ensures
