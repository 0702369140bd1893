use Rattle.std.proofs.Common.{rules as known, ◌<◌, ◌∙◌, ap, sym, length}
use Rattle.std.proofs.lemmas.Result.{IfOk-weaker}
use Rattle.mtp_codes.specs.declared.limits.TheConstants.{LONGEST_HISTORY}
use Rattle.pol_events.specs.Events.{plain_event, plain_history}
use Rattle.pol_history.specs.Answers.{otherwise}
use Rattle.pol_audit.proofs.Answered.{refused_or, answered}
use Rattle.pol_audit.proofs.answers.answered.Goals as goal

pub returns-in-Some : goal.returns-in-Some
returns-in-Some c =
    let room : length c.args.history.now < LONGEST_HISTORY = search known in
    sym (answered c.args.history.now (plain_event c.args.event.now) room
    ∙ ap (λ rule. refused_or rule (otherwise (plain_history c.args.history.now) (plain_event c.args.event.now)))
    (sym c.in_ok-rule.ensures ∙ c.in-Some.is))

pub returns-in-None : goal.returns-in-None
returns-in-None c =
    let room : length c.args.history.now < LONGEST_HISTORY = search known in
    IfOk-weaker c.otherwise.result _ _
    (λ answer is.
    is
    ∙ sym (answered c.args.history.now (plain_event c.args.event.now) room
    ∙ ap (λ rule. refused_or rule (otherwise (plain_history c.args.history.now) (plain_event c.args.event.now)))
    (sym c.in_ok-rule.ensures ∙ c.in-None.is)))
    c.otherwise.ensures
