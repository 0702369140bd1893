use Rattle.std.proofs.Common.{rules as known, ◌<◌, ◌≤◌, ◌∙◌, length, sym}
use Rattle.std.proofs.lemmas.Result.{IfOk-weaker}
use Rattle.pol_audit.specs.declared.judging.TheConstants.{MOST_JUDGED}
use Rattle.pol_audit.proofs.Audited.{front_few, many_found, orderly_front, tail_found, wrong_found}
use Rattle.pol_audit.proofs.audit.Audit.found.Goals as goal

pub judge-requires-clause-few : goal.judge-requires-clause-few
judge-requires-clause-few c = front_few c.args.self.now.entries.items c.front.result.now c.front.ensures

pub judge-requires-clause-orderly : goal.judge-requires-clause-orderly
judge-requires-clause-orderly c =
    orderly_front c.args.self.now.entries.items c.front.result.now c.front.ensures c.args.self.now.orderly

pub returns-in-Ok-Wrong : goal.returns-in-Ok-Wrong
returns-in-Ok-Wrong c =
    wrong_found c.args.self.now.entries.items c.front.result.now _ c.in-Ok-Wrong.place c.in-Ok-Wrong.says
    c.front.ensures (sym c.in-Ok-Wrong.field-0-is ∙ c.in-Ok-Wrong.ensures.value)

pub returns-in-Ok-Good : goal.returns-in-Ok-Good
returns-in-Ok-Good c =
    let many : MOST_JUDGED < length c.args.self.now.entries.items = search known in
    many_found c.args.self.now.entries.items c.front.result.now _ many c.front.ensures
    (sym c.in-Ok-Good.field-0-is ∙ c.in-Ok-Good.ensures.value)

pub returns-in-Ok-Good-2 : goal.returns-in-Ok-Good-2
returns-in-Ok-Good-2 c =
    let few : length c.args.self.now.entries.items ≤ MOST_JUDGED = search known in
    IfOk-weaker c.tail_verdict.result _ _
    (λ found is. tail_found c.args.self.now.entries.items c.front.result.now _ found few c.front.ensures
    (sym c.in-Ok-Good.field-0-is ∙ c.in-Ok-Good.ensures.value) is)
    c.tail_verdict.ensures
