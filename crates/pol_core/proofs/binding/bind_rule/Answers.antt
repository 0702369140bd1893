-- The first rule that the binds or the modules break: those before it are kept.
use Rattle.std.proofs.Common.{rules, ◌≡◌, [], Some, None}
use Rattle.chart_core.specs.Charts.{plain_chart}
use Rattle.chart_core.specs.Roles.{role_names}
use Rattle.pol_events.specs.Bound.{given, plain_allocation}
use Rattle.pol_history.specs.Rules.{one_module_twice, role_unbound, role_unknown, steps_in, watched_step}
use Rattle.pol_core.specs.Judging.{table_busy, table_unfit}
use Rattle.pol_core.proofs.Found.{next_rule, this_rule}
use Rattle.pol_core.proofs.binding.bind_rule.Goals as goal

pub returns-in-Some-role_unknown : goal.returns-in-Some-role_unknown
returns-in-Some-role_unknown c =
    let binds = plain_allocation c.args.binds in
    let roles = role_names (plain_chart c.args.chart.now) in
    let unbound : None ≡ role_unbound (given binds) roles = search rules in
    let here : Some c.in-Some-role_unknown.rule ≡ role_unknown binds roles = search rules in
    next_rule _ _ _ unbound (this_rule _ _ _ here)

pub returns-in-Some-one_module_twice : goal.returns-in-Some-one_module_twice
returns-in-Some-one_module_twice c =
    let binds = plain_allocation c.args.binds in
    let roles = role_names (plain_chart c.args.chart.now) in
    let unbound : None ≡ role_unbound (given binds) roles = search rules in
    let unknown : None ≡ role_unknown binds roles = search rules in
    let here : Some c.in-Some-one_module_twice.rule ≡ one_module_twice (given binds) [] roles = search rules in
    next_rule _ _ _ unbound (next_rule _ _ _ unknown (this_rule _ _ _ here))

pub returns-in-Some-watched_step : goal.returns-in-Some-watched_step
returns-in-Some-watched_step c =
    let binds = plain_allocation c.args.binds in
    let chart = plain_chart c.args.chart.now in
    let roles = role_names chart in
    let unbound : None ≡ role_unbound (given binds) roles = search rules in
    let unknown : None ≡ role_unknown binds roles = search rules in
    let twice : None ≡ one_module_twice (given binds) [] roles = search rules in
    let here : Some c.in-Some-watched_step.rule ≡ watched_step binds.watched (steps_in chart) roles = search rules in
    next_rule _ _ _ unbound (next_rule _ _ _ unknown (next_rule _ _ _ twice (this_rule _ _ _ here)))

pub returns-in-Some-first_unfit : goal.returns-in-Some-first_unfit
returns-in-Some-first_unfit c =
    let binds = plain_allocation c.args.binds in
    let chart = plain_chart c.args.chart.now in
    let roles = role_names chart in
    let unbound : None ≡ role_unbound (given binds) roles = search rules in
    let unknown : None ≡ role_unknown binds roles = search rules in
    let twice : None ≡ one_module_twice (given binds) [] roles = search rules in
    let stepped : None ≡ watched_step binds.watched (steps_in chart) roles = search rules in
    let here : Some c.in-Some-first_unfit.rule ≡ table_unfit c.args.modules.now chart (given binds) roles =
    search rules in
    next_rule _ _ _ unbound (next_rule _ _ _ unknown (next_rule _ _ _ twice (next_rule _ _ _ stepped
    (this_rule _ _ _ here))))

pub returns : goal.returns
returns c =
    let binds = plain_allocation c.args.binds in
    let chart = plain_chart c.args.chart.now in
    let roles = role_names chart in
    let unbound : None ≡ role_unbound (given binds) roles = search rules in
    let unknown : None ≡ role_unknown binds roles = search rules in
    let twice : None ≡ one_module_twice (given binds) [] roles = search rules in
    let stepped : None ≡ watched_step binds.watched (steps_in chart) roles = search rules in
    let unfit : None ≡ table_unfit c.args.modules.now chart (given binds) roles = search rules in
    let busy : c.first_busy.result ≡ table_busy c.args.modules.now binds.held roles = search rules in
    next_rule _ _ _ unbound (next_rule _ _ _ unknown (next_rule _ _ _ twice (next_rule _ _ _ stepped
    (next_rule _ _ _ unfit busy))))
