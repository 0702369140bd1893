use Rattle.std.proofs.Common.{◌≡◌, ◌-◌, ◌∷◌, length, take, drop, ap, ◌∙◌, subst, arith}
use Rattle.std.proofs.lemmas.Grind.{common_steps}
use Rattle.pol_lines.specs.Parts.{BeginsPart}
use Rattle.pol_lines.proofs.Keeping.{parts_close, parts_more, parts_none, parts_open}
use Rattle.pol_lines.proofs.parts.read_parts.Goals as goal

pub returns-in-Some : goal.returns-in-Some
returns-in-Some c =
    rw c.requires (parts_none c.args.text.now c.in-Some.after.now
    (c.in_ok-rest.ensures ∙ ap (λ s. 123 ∷ s) c.in-Some.ensures))

pub loop-rest-init : goal.loop-rest-init
loop-rest-init c = rw c.requires (parts_open c.args.text.now c.in_ok-rest.rest.now c.in_ok-rest.ensures)

pub loop-rest-preserved : goal.loop-rest-preserved
loop-rest-preserved c =
    let after = c.in_ok-part.after.now in
    let comma : after ≡ 44 ∷ take (length after - 1) (drop 1 after) = grind (arith, common_steps) in
    rw c.push.ensures.items (parts_more c.args.text.now c.loop-rest.rest.now _ c.loop-rest.parts.items
    c.in_ok-part.part c.loop-rest.invariant
    (subst (λ s. BeginsPart c.loop-rest.rest.now c.in_ok-part.part s) comma c.in_ok-part.ensures))

pub returns-in-125 : goal.returns-in-125
returns-in-125 c =
    let after = c.in_ok-part.after.now in
    let closing : after ≡ 125 ∷ take (length after - 1) (drop 1 after) = grind (arith, common_steps) in
    rw c.push.ensures.items (parts_close c.args.text.now c.loop-rest.rest.now _ c.loop-rest.parts.items
    c.in_ok-part.part c.loop-rest.invariant
    (subst (λ s. BeginsPart c.loop-rest.rest.now c.in_ok-part.part s) closing c.in_ok-part.ensures))
