use Rattle.chart_examples.proofs.charts.+below.Given as goal

abbrev pub decreases-below : goal.decreases-below
decreases-below l = l.above
