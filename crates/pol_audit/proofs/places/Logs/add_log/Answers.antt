use Rattle.std.proofs.Common.{◌∙◌, sym}
use Rattle.std.proofs.lemmas.Result.{on_ok_weaker}
use Rattle.std.specs.Prelude.{is_some}
use Rattle.chart_core.specs.Entries.{chart_entry}
use Rattle.pol_audit.specs.Halts.{is_halt}
use Rattle.pol_audit.specs.Listed.{items_under}
use Rattle.pol_audit.proofs.Listing.{kept_none, kept_nothing, kept_one, kept_some}
use Rattle.pol_audit.proofs.places.Logs.add_log.Goals as goal

pub returns-in-Some-clause-logs : goal.returns-in-Some-clause-logs
returns-in-Some-clause-logs c =
    on_ok_weaker c.add_did.result
    (λ grows batch. grows batch
    ∙ kept_one batch _ _ _ c.in-Some.did (items_under c.args.self.now.logs.named.entries batch)
    c.accepted_batch.ensures (sym c.taken.ensures ∙ c.in-Some.is))
    c.add_did.ensures.logs

pub returns-in-Some-clause-runs : goal.returns-in-Some-clause-runs
returns-in-Some-clause-runs c =
    on_ok_weaker c.add_did.result
    (λ grows batch. grows batch
    ∙ kept_some (λ entry. is_some (chart_entry entry)) batch _ _ _ c.in-Some.did
    (items_under c.args.self.now.runs.named.entries batch)
    c.accepted_batch.ensures (sym c.taken.ensures ∙ c.in-Some.is))
    c.add_did.ensures.runs

pub returns-in-Some-clause-halts : goal.returns-in-Some-clause-halts
returns-in-Some-clause-halts c =
    on_ok_weaker c.add_did.result
    (λ grows batch. grows batch
    ∙ kept_some is_halt batch _ _ _ c.in-Some.did (items_under c.args.self.now.halts.named.entries batch)
    c.accepted_batch.ensures (sym c.taken.ensures ∙ c.in-Some.is))
    c.add_did.ensures.halts

pub returns-in-None-clause-logs : goal.returns-in-None-clause-logs
returns-in-None-clause-logs c = λ batch.
    kept_none batch _ _ (items_under c.args.self.now.logs.named.entries batch) (sym c.taken.ensures ∙ c.in-None.is)

pub returns-in-None-clause-runs : goal.returns-in-None-clause-runs
returns-in-None-clause-runs c = λ batch.
    kept_nothing (λ entry. is_some (chart_entry entry)) batch _ _
    (items_under c.args.self.now.runs.named.entries batch) (sym c.taken.ensures ∙ c.in-None.is)

pub returns-in-None-clause-halts : goal.returns-in-None-clause-halts
returns-in-None-clause-halts c = λ batch.
    kept_nothing is_halt batch _ _ (items_under c.args.self.now.halts.named.entries batch)
    (sym c.taken.ensures ∙ c.in-None.is)
