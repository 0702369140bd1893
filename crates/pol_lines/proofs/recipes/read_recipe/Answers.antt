use Rattle.std.proofs.Common.{◌<◌, ◌≤◌, [], length, map, refl, sym, subst, arith, codes}
use Rattle.std.proofs.lemmas.Grind.{common_steps}
use Rattle.std.specs.Prelude.{option_map}
use Rattle.serde_json.specs.Data.{array}
use Rattle.chart_core.specs.Roles.{plain_role}
use Rattle.chart_core.specs.Trees.{plain_node}
use Rattle.pol_events.specs.Events.{plain_event}
use Rattle.pol_lines.specs.Objects.{Stands, with_value}
use Rattle.pol_lines.proofs.Making.{line_of_recipe, read_is_formed}
use Rattle.pol_lines.proofs.recipes.read_recipe.Goals as goal

pub recipe_in-requires : goal.recipe_in-requires
recipe_in-requires c =
    let roles = map plain_role c.read_list_at.new.found.items in
    let some : 0 < length roles = grind (arith, common_steps, c.if-is_empty.ensures) in
    let few : length roles ≤ 64 = grind (arith, common_steps, c.in_ok-cut.ensures.few) in
    let played = c.in_ok-cut.ensures.list 2 (codes "roles") (omega arith) refl
    (record { plain = refl; no_key = refl }) in
    let charted = c.in_ok-cut-2.ensures 64 (codes "chart") (omega arith) refl
    (record { plain = refl; no_key = refl }) in
    let formed = read_is_formed played.values charted.value roles (plain_node c.in_ok-root.root) played.gives some few
    (rw c.in_ok-root.was at charted.gives) in
    record { sized = formed.0; formed = formed.1 }

pub returns : goal.returns
returns c =
    let line = c.args.line.now in
    let roles = map plain_role c.read_list_at.new.found.items in
    let some : 0 < length roles = grind (arith, common_steps, c.if-is_empty.ensures) in
    let few : length roles ≤ 64 = grind (arith, common_steps, c.in_ok-cut.ensures.few) in
    let played = c.in_ok-cut.ensures.list 64 (codes "roles") (omega arith) refl
    (record { plain = refl; no_key = refl }) in
    let charted = c.in_ok-cut-2.ensures 64 (codes "chart") (omega arith) refl
    (record { plain = refl; no_key = refl }) in
    let rolled = with_value (codes "roles") (option_map array played.values) [] in
    let others = with_value (codes "chart") charted.value rolled in
    let read = c.read_flats.ensures 64 line others
    (charted.passes line _ rolled (played.passes line _ [] (c.requires 64))) in
    let stands = subst (λ held. Stands 64 line held others c.read_flats.result) (sym c.as_slice.ensures.value) read in
    line_of_recipe line c.read_flats.result c.as_slice.result.now played.values charted.value roles
    (plain_node c.in_ok-root.root)
    (plain_event c.in_ok-event.event) (c.if-not-ends.ensures.text refl) played.gives some few
    (rw c.in_ok-root.was at charted.gives) stands (c.if-not-ends.ensures.ended refl)
    c.in_ok-event.ensures.says c.in_ok-event.ensures.faultless
