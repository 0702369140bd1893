use denote.Enum.Bare.{same_false, same_true}
use Rattle.std.proofs.Common.{◌≡◌, ◌+◌, ◌-◌, ◌<◌, length, take, ap, sym, ◌∙◌, rules, arith}
use Rattle.serde_json.specs.Find.{get}
use Rattle.pol_lines.specs.contracts.key.Key.{the_type}
use Rattle.pol_lines.specs.Flat.{flat_data}
use Rattle.pol_lines.specs.Keys.{key_text}
use Rattle.pol_lines.proofs.Lookups.{found_before, found_here}
use Rattle.pol_lines.proofs.fields.leaf_at.Goals as goal

pub returns-then-eq : goal.returns-then-eq
returns-then-eq c =
    let members = c.args.members.now in
    let key = c.args.key in
    let place = c.loop-i.i - 1 in
    let next : c.loop-i.i ≡ place + 1 = omega (arith, c.loop-i-test.true) in
    let within : place < length members = omega (arith, c.loop-i.auto.i, c.loop-i-test.true) in
    sym (c.loop-i.invariant ∙ ap (λ count. get (key_text key) (flat_data (take count members))) next
    ∙ found_here members place _ key within (same_true the_type (search rules) _ _ (sym c.eq.ensures ∙ c.if-eq.true)))

pub loop-i-preserved : goal.loop-i-preserved
loop-i-preserved c =
    let members = c.args.members.now in
    let key = c.args.key in
    let place = c.loop-i.i - 1 in
    let next : c.loop-i.i ≡ place + 1 = omega (arith, c.loop-i-test.true) in
    let within : place < length members = omega (arith, c.loop-i.auto.i, c.loop-i-test.true) in
    c.loop-i.invariant ∙ ap (λ count. get (key_text key) (flat_data (take count members))) next
    ∙ found_before members place _ key within (same_false the_type _ _ (sym c.eq.ensures ∙ c.if-eq.false))
