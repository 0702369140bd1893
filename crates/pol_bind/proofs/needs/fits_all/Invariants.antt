use Rattle.std.proofs.Common.{◌≡◌, drop}
use Rattle.mtp_desc.specs.PlainDescription.{plain_description}
use Rattle.pol_bind.specs.Gathered.{plain_tests}
use Rattle.pol_bind.specs.Needs.{fit_all}
use Rattle.pol_bind.proofs.needs.fits_all.Given as goal

-- what is left decides
abbrev pub invariant-loop-test : goal.invariant-loop-test
invariant-loop-test l = fit_all (plain_description l.description) (plain_tests (drop l.test-index l.tests))
    ≡ fit_all (plain_description l.description) (plain_tests l.tests)
