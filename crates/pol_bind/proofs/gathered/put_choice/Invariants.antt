use Rattle.std.proofs.Common.{◌≡◌, ◌++◌, drop}
use Rattle.chart_core.specs.Trees.{arms, arm_conditions}
use Rattle.mtp_procs.specs.Tests.{tests_of_all}
use Rattle.pol_bind.specs.Gathered.{plain_tests}
use Rattle.pol_bind.proofs.gathered.put_choice.Given as goal

-- the tests found and those that are left
abbrev pub invariant-loop-arm : goal.invariant-loop-arm
invariant-loop-arm l =
    plain_tests l.found.items ++ tests_of_all (arm_conditions (arms (drop l.arm-index l.each)))
    ≡ plain_tests l.fn.found.items ++ tests_of_all (arm_conditions (arms l.each))
