use Rattle.std.proofs.Common.{[], sym, subst}
use Rattle.pol_lines.specs.Objects.{Stands}
use Rattle.pol_lines.proofs.Cuts.{flat_object}
use Rattle.pol_lines.proofs.objects.read_object.Goals as goal

pub returns-in-End : goal.returns-in-End
returns-in-End c =
    let text = c.args.text.now in
    let begun = subst (λ held. Stands 0 text held [] c.in_ok-cut.cut) (sym c.requires) (c.in_ok-cut.ensures 0) in
    flat_object 0 text c.in-End.rest.now c.read_flats.new.members.items
    (rw c.in-End.is at (c.read_flats.ensures 0 text [] begun))
