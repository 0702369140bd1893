-- Each turn forgets one value, and the turns reach every name.
use Rattle.std.proofs.Common.{◌≤◌, length, ◌∙◌, ap, arith}
use Rattle.std.specs.Str.{bytes_eq}
use Rattle.pol_slots.proofs.Forgetting.{length_forgotten, forgotten_next, all_forgotten}
use Rattle.pol_slots.proofs.last_values.LastValues.forget.Goals as goal

pub pair_mut-last-requires : goal.pair_mut-last-requires
pair_mut-last-requires g c =
    let same = ap length c.loop-place.invariant ∙ length_forgotten c.loop-place.place c.self.inside.values.entries in
    omega (arith, c.loop-place-test.true, c.len-place-end.ensures.len, same)

pub loop-place-preserved : goal.loop-place-preserved
loop-place-preserved g c = forgotten_next _ _ _ c.loop-place.invariant

pub returns : goal.returns
returns g c = λ name.
    let past : length c.self.inside.values.entries ≤ c.loop-place.place =
    omega (arith, c.loop-place-test.false, c.len-place-end.ensures.len) in
    rw (← c.self.view_is, c.loop-place.invariant) (all_forgotten (bytes_eq name) _ _ past)
