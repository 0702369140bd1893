use Rattle.std.proofs.Common.{arith, ◌≡◌, ◌∙◌, ap, sym, filter, ◌++◌, append-nil}
use Rattle.std.proofs.lemmas.List.{drop_all}
use Rattle.mtp_codes.specs.Names.{same_name}
use Rattle.pol_bind.specs.Gathered.{plain_tests}
use Rattle.pol_bind.proofs.Needed.{plain_of_role}
use Rattle.pol_bind.proofs.needs.tests_of.Goals as goal

pub returns : goal.returns
returns c =
    let kept : c.loop-test.found.items ≡ filter (λ test. same_name test.role c.args.role) c.args.all.now =
    sym (append-nil c.loop-test.found.items)
    ∙ (ap (λ rest. c.loop-test.found.items ++ filter (λ test. same_name test.role c.args.role) rest)
    (sym (drop_all c.loop-test.test-index c.args.all.now (omega (arith, c.loop-test-test.false))))
    ∙ c.loop-test.invariant) in
    ap plain_tests kept ∙ plain_of_role c.args.role c.args.all.now
