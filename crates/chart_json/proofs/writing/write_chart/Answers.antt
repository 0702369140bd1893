use Rattle.std.proofs.lemmas.Result.{IfOk-weaker}
use Rattle.chart_core.specs.Charts.{plain_chart}
use Rattle.chart_json.proofs.Again.{chart_again}
use Rattle.chart_json.proofs.Depths.{roles_depth, root_depth}
use Rattle.chart_json.proofs.Floats.{roles_whole, tree_whole}
use Rattle.chart_json.proofs.Shallow.{valid_shallow}
use Rattle.chart_json.proofs.writing.write_chart.Goals as goal

pub returns-clause-reads_back : goal.returns-clause-reads_back
returns-clause-reads_back c =
    IfOk-weaker c.write_both.result _ _
    (λ pair is. rw (is.roles_are, is.root_is)
    (chart_again (plain_chart c.args.chart.now) c.args.chart.now.form is.sound)) c.write_both.ensures

pub returns-clause-nests : goal.returns-clause-nests
returns-clause-nests c =
    IfOk-weaker c.write_both.result _ _
    (λ pair is. λ valid. rw (is.roles_are, is.root_is) (
      roles_depth (plain_chart c.args.chart.now).roles,
      root_depth (plain_chart c.args.chart.now) c.args.chart.now.form
          (valid_shallow (plain_chart c.args.chart.now) valid),
    )) c.write_both.ensures

pub returns-clause-whole : goal.returns-clause-whole
returns-clause-whole c =
    IfOk-weaker c.write_both.result _ _
    (λ pair is. rw (is.roles_are, is.root_is)
    (roles_whole (plain_chart c.args.chart.now).roles, tree_whole (plain_chart c.args.chart.now).root))
    c.write_both.ensures
