use Rattle.std.proofs.Common.{◌≡◌, ◌-◌, ◌∷◌, ◌++◌, length, take, drop, ap, ◌∙◌, arith}
use Rattle.std.proofs.lemmas.Grind.{common_steps}
use Rattle.pol_lines.specs.Leaves.{leaf_piece}
use Rattle.pol_lines.proofs.Keeping.{items_close, items_more, items_none, items_open}
use Rattle.pol_lines.proofs.parts.read_items.Goals as goal

pub returns-in-Some : goal.returns-in-Some
returns-in-Some c = items_none c.args.text.now c.in-Some.after.now
    (c.in_ok-rest.ensures ∙ ap (λ s. 91 ∷ s) c.in-Some.ensures)

pub loop-init : goal.loop-init
loop-init c = items_open c.args.text.now c.in_ok-rest.rest.now c.in_ok-rest.ensures

pub loop-preserved : goal.loop-preserved
loop-preserved c =
    let after = c.in_ok-_leaf.after.now in
    let comma : after ≡ 44 ∷ take (length after - 1) (drop 1 after) = grind (arith, common_steps) in
    items_more c.args.text.now c.loop.rest.now _ c.in_ok-_leaf._leaf c.loop.invariant
    (c.in_ok-_leaf.ensures.piece ∙ ap (λ s. leaf_piece c.in_ok-_leaf._leaf ++ s) comma) c.in_ok-_leaf.ensures.held

pub returns-in-93 : goal.returns-in-93
returns-in-93 c =
    let after = c.in_ok-_leaf.after.now in
    let closing : after ≡ 93 ∷ take (length after - 1) (drop 1 after) = grind (arith, common_steps) in
    items_close c.args.text.now c.loop.rest.now _ c.in_ok-_leaf._leaf c.loop.invariant
    (c.in_ok-_leaf.ensures.piece ∙ ap (λ s. leaf_piece c.in_ok-_leaf._leaf ++ s) closing) c.in_ok-_leaf.ensures.held
