use Rattle.std.proofs.Common.{◌≡◌, ◌++◌, drop, filter}
use Rattle.mtp_codes.specs.Names.{same_name}
use Rattle.pol_bind.proofs.needs.tests_of.Given as goal

-- the tests found and those of the role that are left
abbrev pub invariant-loop-test : goal.invariant-loop-test
invariant-loop-test l =
    l.found.items ++ filter (λ test. same_name test.role l.role) (drop l.test-index l.all)
    ≡ filter (λ test. same_name test.role l.role) l.all
