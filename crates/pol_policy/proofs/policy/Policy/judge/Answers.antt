use Rattle.std.proofs.Common.{◌∙◌, sym, subst}
use Rattle.pol_policy.specs.Allowing.{Judges, Request, request_of}
use Rattle.pol_policy.specs.Deciding.{matches, verdict_of}
use Rattle.pol_policy.specs.PlainPolicy.{plain_policy}
use Rattle.pol_policy.specs.Places.{IsPlacesOf}
use Rattle.pol_policy.specs.Policies.{PlainPolicy}
use Rattle.pol_policy.proofs.Judging.{judged}
use Rattle.pol_policy.proofs.Matching.{table_matches}
use Rattle.pol_policy.proofs.policy.Policy.judge.Goals as goal

pub returns-clause-value : goal.returns-clause-value
unfolding verdict_of
returns-clause-value c =
    let policy : PlainPolicy = plain_policy c.args.self.now in
    let request : Request = request_of c.args.person c.args.tag c.args.service c.args.command in
    let matching : IsPlacesOf (matches policy.groups request) policy.rules c.matching-matching.result =
    λ place. c.matching-matching.ensures place ∙ table_matches policy c.args.self.now.table request
    c.args.self.now.tabled place in
    let decided = rw c.deref.ensures.value at c.verdict.ensures in
    decided policy.groups (matches policy.groups request) c.args.self.now.tabled.people matching

pub returns-clause-judged : goal.returns-clause-judged
returns-clause-judged c =
    let policy : PlainPolicy = plain_policy c.args.self.now in
    let request : Request = request_of c.args.person c.args.tag c.args.service c.args.command in
    subst (λ verdict. Judges policy request verdict) (sym (returns-clause-value c)) (judged policy request)
