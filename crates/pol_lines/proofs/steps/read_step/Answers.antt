use Rattle.std.proofs.Common.{[], refl, sym, subst, arith, codes}
use Rattle.std.specs.Prelude.{option_map}
use Rattle.serde_json.specs.Data.{array}
use Rattle.chart_json.specs.Form.{setting_of, step_of}
use Rattle.chart_core.specs.Trees.{plain_step}
use Rattle.pol_lines.specs.Objects.{GivesEach, IsObject, Stands, with_value}
use Rattle.pol_lines.proofs.Cuts.{object_reads}
use Rattle.pol_lines.proofs.Stepping.{around, same_list, step_around}
use Rattle.pol_lines.proofs.steps.read_step.Goals as goal

pub returns : goal.returns
returns c =
    let text = c.args.text.now in
    let begun = subst (λ held. Stands 15 text held [] c.in_ok-cut.cut) (sym c.new-members.ensures)
    (c.in_ok-cut.ensures 15) in
    let early = c.in_ok-cut-2.ensures 15 (codes "finish") (omega arith) refl
    (record { plain = refl; no_key = refl }) in
    let front = with_value (codes "finish") early.value [] in
    let first = c.read_flats-cut.ensures 15 text front (early.passes text _ [] begun) in
    let list = c.in_ok-cut-3.ensures.list 15 (codes "settings") (omega arith) refl
    (record { plain = refl; no_key = refl }) in
    let gives = subst (λ held. GivesEach setting_of held list.values)
    (same_list c.read_list_at.new.found.items) list.gives in
    let between = with_value (codes "settings") (option_map array list.values) front in
    let second = c.read_flats-cut-2.ensures 15 text between (list.passes text _ front first) in
    let late = c.in_ok-cut-4.ensures 15 (codes "finish") (omega arith) refl
    (record { plain = refl; no_key = refl }) in
    let others = around early.value list.values late.value in
    let last = c.read_flats.ensures 15 text others (late.passes text _ between second) in
    let is = subst (λ held. IsObject 15 text held others c.in-End.rest.now) (sym c.as_slice.ensures.value)
    (rw c.in-End.is at last) in
    object_reads step_of (plain_step c.in_ok-step.step) 15 text c.in-End.rest.now
    c.as_slice.result.now others is (c.in_ok-step.ensures others
    (rw c.or.ensures (step_around early.value late.value list.values _ _ _ gives early.gives late.gives)))
