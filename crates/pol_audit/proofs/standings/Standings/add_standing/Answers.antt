use Rattle.std.proofs.Common.{◌∙◌, sym}
use Rattle.std.proofs.lemmas.Result.{on_ok_weaker}
use Rattle.pol_audit.specs.Listed.{items_under}
use Rattle.pol_audit.specs.Standing.{held_more, running_more}
use Rattle.pol_audit.proofs.Standing.{told_none, told_one}
use Rattle.pol_audit.proofs.standings.Standings.add_standing.Goals as goal

pub returns-in-Some-clause-running : goal.returns-in-Some-clause-running
returns-in-Some-clause-running c =
    on_ok_weaker c.take_of.result
    (λ changes batch. changes batch
    ∙ told_one running_more batch _ _ _ c.in-Some.did (items_under c.args.self.now.running.named.entries batch)
    c.accepted_batch.ensures (sym c.taken.ensures ∙ c.in-Some.is))
    c.take_of.ensures.running

pub returns-in-Some-clause-held : goal.returns-in-Some-clause-held
returns-in-Some-clause-held c =
    on_ok_weaker c.take_of.result
    (λ changes batch. changes batch
    ∙ told_one held_more batch _ _ _ c.in-Some.did (items_under c.args.self.now.held.named.entries batch)
    c.accepted_batch.ensures (sym c.taken.ensures ∙ c.in-Some.is))
    c.take_of.ensures.held

pub returns-in-None-clause-running : goal.returns-in-None-clause-running
returns-in-None-clause-running c = λ batch.
    told_none running_more batch _ _ (items_under c.args.self.now.running.named.entries batch)
    (sym c.taken.ensures ∙ c.in-None.is)

pub returns-in-None-clause-held : goal.returns-in-None-clause-held
returns-in-None-clause-held c = λ batch.
    told_none held_more batch _ _ (items_under c.args.self.now.held.named.entries batch)
    (sym c.taken.ensures ∙ c.in-None.is)
