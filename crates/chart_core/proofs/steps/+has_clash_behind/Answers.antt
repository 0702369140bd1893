use Rattle.std.proofs.Common.{◌≡◌, ◌-◌, arith, ap, sym, ◌∙◌}
use Rattle.chart_core.specs.Trees.{Tree, PlainArm, node_step, arm_step, plain_node, seq, par, choice, trees, arms}
use Rattle.chart_core.specs.declared.node.Node.TheFolds.{fold-roll-Node}
use Rattle.chart_core.specs.declared.node.Node.TheVariants.{rolls-Seq, rolls-Par, rolls-Sel}
use Rattle.chart_core.proofs.Seeking.{behind_in_turn, behind_at_once, behind_in_arms}
use Rattle.chart_core.proofs.steps.+has_clash_behind.Goals as goal

pub returns-in-Seq : goal.returns-in-Seq
returns-in-Seq t c =
    let kids = trees c.in-Seq.field-0.items in
    let laid : plain_node c.args.node.now ≡ seq kids =
    ap plain_node (c.in-Seq.is ∙ sym (rolls-Seq c.in-Seq.field-0))
    ∙ fold-roll-Node Tree PlainArm node_step arm_step _ in
    λ place behind. rw laid (sym (behind_in_turn kids (place - 1) c.args.role c.args.service
    (omega (arith, rw laid at behind))))

pub returns-in-Par : goal.returns-in-Par
returns-in-Par t c =
    let kids = trees c.in-Par.kids.items in
    let laid : plain_node c.args.node.now ≡ par kids =
    ap plain_node (c.in-Par.is ∙ sym (rolls-Par c.in-Par.kids)) ∙ fold-roll-Node Tree PlainArm node_step arm_step _ in
    λ place behind. rw (laid, c.is_used_among.ensures, c.deref.ensures.value)
    (sym (behind_at_once kids (place - 1) c.args.role c.args.service
    (omega (arith, rw laid at behind))))

pub returns-in-Sel : goal.returns-in-Sel
returns-in-Sel t c =
    let each = arms c.in-Sel.field-0.items in
    let laid : plain_node c.args.node.now ≡ choice each =
    ap plain_node (c.in-Sel.is ∙ sym (rolls-Sel c.in-Sel.field-0))
    ∙ fold-roll-Node Tree PlainArm node_step arm_step _ in
    λ place behind. rw laid (sym (behind_in_arms each (place - 1) c.args.role c.args.service
    (omega (arith, rw laid at behind))))
