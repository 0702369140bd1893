-- Where a place is that was sought in a tree.
use Rattle.std.specs.Prelude.{ℕ, ◌-◌, Bool, nat_lt, if◌then◌else◌}
use Rattle.chart_core.specs.declared.steps.Sought.{Sought}
use Rattle.chart_core.specs.declared.steps.Sought.TheVariants.{Within, Beyond}

-- what is found of a place sought among so many nodes: whether it clashes, or how far it is behind them
abbrev pub sought : ℕ → ℕ → Bool → Sought
sought place nodes clash = if nat_lt place nodes then Within clash else Beyond (place - nodes)
