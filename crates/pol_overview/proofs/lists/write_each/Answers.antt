-- One more name is told.
use Rattle.std.proofs.Common.{sym, ◌∙◌, arith, refl}
use Rattle.std.proofs.lemmas.Option.{slice_get_within}
use Rattle.std.proofs.lemmas.Result.{on_ok_weaker}
use Rattle.json.specs.Token as token
use Rattle.pol_overview.proofs.Places.{all_told, next_told}
use Rattle.pol_overview.proofs.lists.write_each.Goals as goal

pub overflow_add-place : goal.overflow_add-place
overflow_add-place g c =
    let names = g.L.Listed.names c.args.list.now in
    omega (arith, slice_get_within names c.loop-name.place c.in-Some.name (sym c.in-Some.ensures), c.requires)

pub loop-name-smaller : goal.loop-name-smaller
loop-name-smaller g c =
    let names = g.L.Listed.names c.args.list.now in
    omega (arith, slice_get_within names c.loop-name.place c.in-Some.name (sym c.in-Some.ensures))

pub loop-name-preserved : goal.loop-name-preserved
loop-name-preserved g c =
    let names = g.L.Listed.names c.args.list.now in
    record {
      tokens = next_told (g.L.Listed.told c.args.list.now) names c.loop-name.place c.in-Some.name _ _ _
          (sym c.in-Some.ensures) c.loop-name.invariant.tokens c.in_ok-write.ensures.tokens;
      before = c.in_ok-write.ensures.before ∙ c.loop-name.invariant.before;
      low = let within = slice_get_within names c.loop-name.place c.in-Some.name (sym c.in-Some.ensures) in omega arith;
    }

pub returns-clause-tokens : goal.returns-clause-tokens
returns-clause-tokens g c =
    on_ok_weaker c.end_array.result
    (λ written. all_told (g.L.Listed.told c.args.list.now) (g.L.Listed.names c.args.list.now) c.loop-name.place
    c.loop-name.writer.tokens _ _ token.end_array (sym c.name_at.ensures ∙ c.in_default.is) refl
    c.loop-name.invariant.tokens written)
    c.end_array.ensures.ok
