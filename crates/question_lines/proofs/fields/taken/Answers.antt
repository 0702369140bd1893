use Rattle.std.proofs.Common.{ap, option_map, ◌∙◌, sym}
use Rattle.serde_json.specs.Find.{get}
use Rattle.serde_json.specs.View.{view}
use Rattle.serde_json.proofs.Views.{view-Object, view-lookup}
use Rattle.question_lines.proofs.fields.taken.Goals as goal

pub returns-in-Object : goal.returns-in-Object
returns-in-Object c =
    ap (option_map view) c.remove.ensures.value
    ∙ view-lookup c.args.key.now c.in-Object.members.entries
    ∙ ap (get c.args.key.now) (sym (view-Object c.in-Object.members) ∙ sym (ap view c.in-Object.is))
