use Rattle.std.proofs.Common.{rules, ◌+◌, ℕ, length, sym, ◌∙◌, ap}
use Rattle.mtp_codes.specs.declared.limits.TheConstants.{LONGEST_HISTORY}
use Rattle.pol_ledger.specs.Ledgers.{PlainLedger, ledger_state}
use Rattle.pol_ledger.specs.Work.{items_of}
use Rattle.pol_ledger.proofs.Finding.{full_names, length-items}
use Rattle.pol_ledger.proofs.ledger.LedgerChronicle.is_full.Goals as goal

pub returns-then-is_some : goal.returns-then-is_some
returns-then-is_some c =
    let inside = c.self.inside in
    let many = length-items inside.plant inside.names.items inside.build inside.sum c.self.invariant
    (sym c.is_some.ensures ∙ c.if-is_some.true) in
    full_names c.len.result (length (items_of (ledger_state c.args.self.now))) LONGEST_HISTORY
    (ap (λ (l : PlainLedger). length (items_of (ledger_state l))) (sym c.self.view_is) ∙ many
    ∙ ap (λ (n : ℕ). n + 1) (search rules))
