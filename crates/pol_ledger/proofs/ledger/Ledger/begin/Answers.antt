use Rattle.std.proofs.Common.{◌≡◌, ℕ, List, [], Option, Some, None, subst, sym, ◌∙◌, ap}
use Rattle.pol_ledger.specs.Items.{header}
use Rattle.pol_ledger.specs.Ledgers.{IsLedger, PlainLedger}
use Rattle.pol_ledger.proofs.Taking.{begins, text_long}
use Rattle.pol_ledger.proofs.ledger.Ledger.begin.Goals as goal

pub sum_of_text-requires : goal.sum_of_text-requires
sum_of_text-requires c = text_long [] (header c.args.build) c.args.text.now c.requires.text.written

pub invariant_of-self : goal.invariant_of-self
invariant_of-self c =
    let inside = c.self.inside in
    let none : inside.build ≡ None = ap (λ (l : PlainLedger). l.build) c.self.view_is ∙ c.requires.none in
    let is = subst (λ (build : Option (List ℕ)). IsLedger
    (record { plant = inside.plant; names = inside.names.items; build = build }) inside.sum) none c.self.invariant in
    subst (λ (sum : List ℕ). IsLedger
    (record { plant = inside.plant; names = inside.names.items; build = Some c.args.build }) (Some sum))
    (sym c.sum_of_text.ensures)
    (begins inside.plant inside.names.items c.args.build c.args.text.now inside.sum is c.requires.text)
