use Rattle.std.proofs.Common.{◌≡◌, ◌++◌, drop}
use Rattle.chart_core.specs.Formulas.{formulas}
use Rattle.mtp_procs.specs.Tests.{tests_of_all}
use Rattle.pol_bind.specs.Gathered.{plain_tests}
use Rattle.pol_bind.proofs.gathered.+condition.Given as goal

-- the tests found and those that are left
abbrev pub invariant-put_tests_of_all-loop-each : goal.invariant-put_tests_of_all-loop-each
invariant-put_tests_of_all-loop-each l =
    plain_tests l.found.items ++ tests_of_all (formulas (drop l.each-index l.conditions))
    ≡ plain_tests l.fn.found.items ++ tests_of_all (formulas l.conditions)
