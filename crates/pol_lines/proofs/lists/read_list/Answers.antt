use Rattle.std.proofs.Common.{◌≡◌, ◌-◌, ◌∷◌, length, take, drop, sym, ap, ◌∙◌, subst, arith}
use Rattle.std.proofs.lemmas.Grind.{common_steps}
use Rattle.std.proofs.lemmas.List.{map_push}
use Rattle.pol_lines.specs.Begins.{Reads}
use Rattle.pol_lines.proofs.Listing.{list_closes, list_empty, list_more, list_opens}
use Rattle.pol_lines.proofs.lists.read_list.Goals as goal

pub returns-in-Some-clause-list : goal.returns-in-Some-clause-list
returns-in-Some-clause-list g c =
    rw c.requires
    (list_empty g.T.Front.form g.T.Front.deep c.args.text.now c.in-Some.after.now
    (c.in_ok-rest.ensures ∙ ap (λ s. 91 ∷ s) c.in-Some.ensures))

pub loop-rest-init : goal.loop-rest-init
loop-rest-init g c = rw c.requires (list_opens g.T.Front.form g.T.Front.deep c.args.text.now c.in_ok-rest.rest.now
    c.in_ok-rest.ensures)

pub loop-rest-preserved : goal.loop-rest-preserved
loop-rest-preserved g c =
    let after = c.last.result.now in
    let comma : after ≡ 44 ∷ take (length after - 1) (drop 1 after) = grind (arith, common_steps) in
    let reads = subst (λ s. Reads g.T.Front.form g.T.Front.deep c.loop-rest.rest.now
    (g.T.Front.plain c.in_ok-item.item) s) (sym c.last.ensures ∙ comma) c.in_ok-item.ensures in
    rw (c.in-Ok.ensures.items, map_push g.T.Front.plain c.loop-rest.found.items c.in_ok-item.item)
    (list_more g.T.Front.form g.T.Front.deep c.args.text.now c.loop-rest.rest.now _ _ _ c.loop-rest.invariant reads)

pub returns-in-93-clause-list : goal.returns-in-93-clause-list
returns-in-93-clause-list g c =
    let after = c.last.result.now in
    let closing : after ≡ 93 ∷ take (length after - 1) (drop 1 after) = grind (arith, common_steps) in
    let reads = subst (λ s. Reads g.T.Front.form g.T.Front.deep c.loop-rest.rest.now
    (g.T.Front.plain c.in_ok-item.item) s) (sym c.last.ensures ∙ closing) c.in_ok-item.ensures in
    rw (c.in-Ok.ensures.items, map_push g.T.Front.plain c.loop-rest.found.items c.in_ok-item.item)
    (list_closes g.T.Front.form g.T.Front.deep c.args.text.now c.loop-rest.rest.now _ _ _ c.loop-rest.invariant reads)
