use Rattle.std.proofs.Common.{◌≡◌, ◌∙◌, ap, subst, sym, arith, length}
use Rattle.chart_core.specs.Sizes.{HasSizes, sizes_in, sizes_of}
use Rattle.chart_core.specs.Trees.{plain_node}
use Rattle.chart_core.proofs.Few.{few_nodes}
use Rattle.chart_core.proofs.Sized.{count_sizes, has_sizes}
use Rattle.chart_core.proofs.size.node_sizes.Goals as goal

pub put_sizes-requires : goal.put_sizes-requires
put_sizes-requires c = let small = few_nodes c.args.chart.now c.requires in omega arith

pub returns-clause-room : goal.returns-clause-room
returns-clause-room c =
    let root = plain_node c.args.chart.now.root in
    let all : c.put_sizes.new.found.items ≡ sizes_in root = rw c.new-found.ensures.items at c.in_ok-put_sizes.ensures in
    ap length all ∙ count_sizes root

pub returns-clause-sizes : goal.returns-clause-sizes
returns-clause-sizes c =
    let root = plain_node c.args.chart.now.root in
    let all : c.put_sizes.new.found.items ≡ sizes_in root = rw c.new-found.ensures.items at c.in_ok-put_sizes.ensures in
    subst (λ items. HasSizes root 0 (sizes_of items)) (sym all) (has_sizes root)
