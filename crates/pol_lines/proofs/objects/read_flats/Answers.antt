use Rattle.std.proofs.Common.{◌≡◌, ◌-◌, ◌∷◌, ◌++◌, length, take, drop, ap, ◌∙◌, arith}
use Rattle.std.proofs.lemmas.Grind.{common_steps}
use Rattle.pol_lines.specs.Flat.{member_piece}
use Rattle.pol_lines.proofs.Cuts.{holds_end, holds_more}
use Rattle.pol_lines.proofs.objects.read_flats.Goals as goal

pub loop-member-preserved : goal.loop-member-preserved
loop-member-preserved c = λ deep text others holds.
    let after = c.in-Some.after.now in
    let comma : after ≡ 44 ∷ take (length after - 1) (drop 1 after) = grind (arith, common_steps) in
    let piece = c.in-Some.ensures.piece ∙ ap (λ s. member_piece c.in-Some.member ++ s) comma in
    rw c.push.ensures.items (holds_more deep text c.loop-member.rest.now _ c.loop-member.members.items others
    c.in-Some.member (c.loop-member.invariant deep text others holds) piece c.in-Some.ensures.held)

pub returns-in-125 : goal.returns-in-125
returns-in-125 c = λ deep text others holds.
    let after = c.in-Some.after.now in
    let closing : after ≡ 125 ∷ take (length after - 1) (drop 1 after) = grind (arith, common_steps) in
    let piece = c.in-Some.ensures.piece ∙ ap (λ s. member_piece c.in-Some.member ++ s) closing in
    rw c.push-in-125.ensures.items (holds_end deep text c.loop-member.rest.now _ c.loop-member.members.items others
    c.in-Some.member (c.loop-member.invariant deep text others holds) piece c.in-Some.ensures.held)
