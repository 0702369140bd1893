use Rattle.std.proofs.Common.{◌≡◌, ◌++◌, drop}
use Rattle.chart_core.specs.Trees.{trees, arms}
use Rattle.mtp_procs.specs.Tests.{tests_in_all, tests_in_arms}
use Rattle.pol_bind.specs.Gathered.{plain_tests}
use Rattle.pol_bind.proofs.gathered.+gather.Given as goal

-- the tests found and those that are left
abbrev pub invariant-gather_all-loop-kid : goal.invariant-gather_all-loop-kid
invariant-gather_all-loop-kid l =
    plain_tests l.found.items ++ tests_in_all (trees (drop l.kid-index l.kids))
    ≡ plain_tests l.fn.found.items ++ tests_in_all (trees l.kids)

-- the tests found and those that are left
abbrev pub invariant-gather_arms-loop-arm : goal.invariant-gather_arms-loop-arm
invariant-gather_arms-loop-arm l =
    plain_tests l.found.items ++ tests_in_arms (arms (drop l.arm-index l.each))
    ≡ plain_tests l.fn.found.items ++ tests_in_arms (arms l.each)
