use Rattle.std.proofs.Common.{◌∙◌, arith}
use Rattle.chart_core.specs.Trees.{plain_node}
use Rattle.chart_core.proofs.Few.{few_nodes}
use Rattle.chart_core.proofs.StepNumbers.{numbers_are}
use Rattle.chart_core.proofs.numbers.step_number.Goals as goal

pub number_in-requires : goal.number_in-requires
number_in-requires c = let small = few_nodes c.args.chart.now c.requires in omega arith

pub returns : goal.returns
returns c = c.ok.ensures.value ∙ c.number_in.ensures.found
    ∙ numbers_are c.args.name (plain_node c.args.chart.now.root) 0
