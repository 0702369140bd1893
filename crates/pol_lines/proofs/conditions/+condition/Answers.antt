use Rattle.std.proofs.Common.{◌≡◌, ◌+◌, ◌*◌, ◌-◌, ◌≤◌, suc, ◌∷◌, length, map, take, drop, sym, ◌∙◌, subst, arith}
use Rattle.std.proofs.lemmas.Grind.{common_steps}
use Rattle.std.proofs.lemmas.List.{map_push}
use Rattle.chart_core.specs.Formulas.{plain_condition}
use Rattle.chart_json.specs.Form.{formula_of}
use Rattle.pol_lines.specs.Begins.{Reads}
use Rattle.pol_lines.proofs.Formulas.{all_reads, any_reads, nestings_push, not_reads, tests_push}
use Rattle.pol_lines.proofs.Listing.{list_closes, list_more, list_opens}
use Rattle.pol_lines.proofs.Printed.{reads_as}
use Rattle.pol_lines.proofs.conditions.+condition.Goals as goal

pub read_all-returns-clause-reads : goal.read_all-returns-clause-reads
read_all-returns-clause-reads t c =
    let deep = 2 * c.args.levels + 2 in
    let conditions = map plain_condition c.read_each.new.found.items in
    let some : 1 ≤ length conditions = grind (arith, common_steps, c.in_ok-rest.ensures.some) in
    let few : length conditions ≤ 16 = grind (arith, common_steps, c.in_ok-rest.ensures.few) in
    reads_as formula_of (suc deep) (2 * c.args.levels + 3) c.args.text.now _ _ _ c.of_all.ensures (omega arith)
    (all_reads deep c.args.text.now c.in_ok-inner.inner.now c.in_ok-rest.rest.now c.in_ok-rest-2.rest.now conditions
    c.in_ok-inner.ensures c.in_ok-rest.ensures.list c.in_ok-rest-2.ensures some few)

pub read_any-returns-clause-reads : goal.read_any-returns-clause-reads
read_any-returns-clause-reads t c =
    let deep = 2 * c.args.levels + 2 in
    let conditions = map plain_condition c.read_each.new.found.items in
    let some : 1 ≤ length conditions = grind (arith, common_steps, c.in_ok-rest.ensures.some) in
    let few : length conditions ≤ 16 = grind (arith, common_steps, c.in_ok-rest.ensures.few) in
    reads_as formula_of (suc deep) (2 * c.args.levels + 3) c.args.text.now _ _ _ c.of_any.ensures (omega arith)
    (any_reads deep c.args.text.now c.in_ok-inner.inner.now c.in_ok-rest.rest.now c.in_ok-rest-2.rest.now conditions
    c.in_ok-inner.ensures c.in_ok-rest.ensures.list c.in_ok-rest-2.ensures some few)

pub read_not-returns-clause-reads : goal.read_not-returns-clause-reads
read_not-returns-clause-reads t c =
    let deep = 2 * c.args.levels + 1 in
    reads_as formula_of (suc deep) (2 * c.args.levels + 3) c.args.text.now _ _ _ c.in_ok-condition-2.ensures
    (omega arith) (not_reads deep c.args.text.now c.in_ok-inner.inner.now _ c.in_ok-rest.rest.now
    (plain_condition c.in_ok-condition.condition) c.in_ok-inner.ensures c.in_ok-condition.ensures.reads
    (sym c.last.ensures ∙ c.in_ok-rest.ensures))

pub read_each-loop-rest-init : goal.read_each-loop-rest-init
read_each-loop-rest-init t c = record {
  opens = rw c.requires (list_opens formula_of (2 * c.args.levels + 1) c.args.text.now c.in_ok-rest.rest.now
      c.in_ok-rest.ensures);
  nested = rw c.requires (omega arith);
  tests = rw c.requires (omega arith);
}

pub read_each-loop-rest-preserved : goal.read_each-loop-rest-preserved
read_each-loop-rest-preserved t c =
    let deep = 2 * c.args.levels + 1 in
    let before = c.loop-rest.invariant in
    let here = c.in_ok-condition.ensures in
    let last = plain_condition c.in_ok-condition.condition in
    let after = c.last.result.now in
    let comma : after ≡ 44 ∷ take (length after - 1) (drop 1 after) = grind (arith, common_steps) in
    let reads = subst (λ s. Reads formula_of deep c.loop-rest.rest.now last s) (sym c.last.ensures ∙ comma)
    here.reads in
    let pushed = map_push plain_condition c.loop-rest.found.items c.in_ok-condition.condition in record {
      opens = rw (c.in-Ok.ensures.items, pushed)
          (list_more formula_of deep c.args.text.now c.loop-rest.rest.now _ _ _ before.opens reads);
      nested = rw (c.in-Ok.ensures.items, pushed)
          (nestings_push (c.args.levels + 1) _ last before.nested here.nested);
      tests = rw (c.in-Ok.ensures.items, pushed)
          (tests_push _ last _ _ _ before.tests here.tests);
    }

pub read_each-returns-in-93-clause-list : goal.read_each-returns-in-93-clause-list
read_each-returns-in-93-clause-list t c =
    let deep = 2 * c.args.levels + 1 in
    let last = plain_condition c.in_ok-condition.condition in
    let after = c.last.result.now in
    let more = take (length after - 1) (drop 1 after) in
    let closing : after ≡ 93 ∷ more = grind (arith, common_steps) in
    let reads = subst (λ s. Reads formula_of deep c.loop-rest.rest.now last s) (sym c.last.ensures ∙ closing)
    c.in_ok-condition.ensures.reads in
    let levels : suc deep ≡ 2 * c.args.levels + 2 = omega arith in
    rw (c.in-Ok.ensures.items, map_push plain_condition c.loop-rest.found.items c.in_ok-condition.condition, ← levels)
    (list_closes formula_of deep c.args.text.now c.loop-rest.rest.now more _ _ c.loop-rest.invariant.opens reads)

pub read_each-returns-in-93-clause-nested : goal.read_each-returns-in-93-clause-nested
read_each-returns-in-93-clause-nested t c =
    rw (c.in-Ok.ensures.items, map_push plain_condition c.loop-rest.found.items c.in_ok-condition.condition)
    (nestings_push (c.args.levels + 1) _ (plain_condition c.in_ok-condition.condition) c.loop-rest.invariant.nested
    c.in_ok-condition.ensures.nested)

pub read_each-returns-in-93-clause-tests : goal.read_each-returns-in-93-clause-tests
read_each-returns-in-93-clause-tests t c =
    rw (c.in-Ok.ensures.items, map_push plain_condition c.loop-rest.found.items c.in_ok-condition.condition)
    (tests_push _ (plain_condition c.in_ok-condition.condition) _ _ _ c.loop-rest.invariant.tests
    c.in_ok-condition.ensures.tests)
