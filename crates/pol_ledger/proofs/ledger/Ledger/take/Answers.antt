use Rattle.std.proofs.Common.{◌≡◌, true, ℕ, List, [], ◌∷◌, ◌++◌, Option, Some, is_some, subst, sym, ◌∙◌, ap}
use Rattle.pol_history.specs.Runs.{is_recorded}
use Rattle.pol_kept.specs.Work.{IsTextIfKept}
use Rattle.pol_ledger.specs.Items.{asked, plain_asked}
use Rattle.pol_ledger.specs.Ledgers.{IsLedger, PlainLedger, ledger_state}
use Rattle.pol_ledger.specs.Work.{ledger_after, ledger_work}
use Rattle.pol_ledger.proofs.Taking.{takes, takes_on, text_taken}
use Rattle.pol_ledger.proofs.ledger.Ledger.take.Goals as goal

pub sum_of_text-requires : goal.sum_of_text-requires
sum_of_text-requires c =
    let inside = c.self.inside in
    let one = plain_asked c.args.one in
    let text = c.args.text.now in
    let begun : is_some inside.build ≡ true =
    ap (λ (l : PlainLedger). is_some l.build) c.self.view_is ∙ c.requires.begun in
    let has = subst (λ (l : PlainLedger). IsTextIfKept ledger_work (ledger_state l) (asked one) text)
    (sym c.self.view_is) c.requires.text in
    let kept = ap is_recorded (sym c.in-Ok.ensures.answer) ∙ sym c.is_recorded.ensures ∙ c.if-not-is_recorded.false in
    text_taken inside.plant c.apply.new.self inside.names.items inside.sum one inside.build text begun
    c.self.invariant kept has

pub invariant_of-self-in-Ok : goal.invariant_of-self-in-Ok
invariant_of-self-in-Ok c =
    let inside = c.self.inside in
    let one = plain_asked c.args.one in
    let text = c.args.text.now in
    let begun : is_some inside.build ≡ true =
    ap (λ (l : PlainLedger). is_some l.build) c.self.view_is ∙ c.requires.begun in
    let has = subst (λ (l : PlainLedger). IsTextIfKept ledger_work (ledger_state l) (asked one) text)
    (sym c.self.view_is) c.requires.text in
    let kept = ap is_recorded (sym c.in-Ok.ensures.answer) ∙ sym c.is_recorded.ensures ∙ c.if-not-is_recorded.false in
    let names : c.append.new.names.items ≡ inside.names.items ++ one.by ∷ [] =
    c.append.ensures ∙ ap (λ (l : List (Option (List ℕ))). l ++ one.by ∷ []) c.in_default.ensures.items in
    let is = takes_on inside.plant c.apply.new.self inside.names.items inside.sum one inside.build text begun
    c.self.invariant kept c.in-Ok.ensures.history has in
    subst (λ (l : List (Option (List ℕ))). IsLedger
    (record { plant = c.apply.new.self; names = l; build = inside.build }) (Some c.sum_of_text.result)) (sym names)
    (subst (λ (sum : List ℕ). IsLedger
    (record { plant = c.apply.new.self; names = inside.names.items ++ one.by ∷ []; build = inside.build }) (Some sum))
    (sym c.sum_of_text.ensures) is)

pub returns-else-not-is_recorded-clause-after : goal.returns-else-not-is_recorded-clause-after
returns-else-not-is_recorded-clause-after c =
    let inside = c.self.inside in
    let one = plain_asked c.args.one in
    let begun : is_some inside.build ≡ true =
    ap (λ (l : PlainLedger). is_some l.build) c.self.view_is ∙ c.requires.begun in
    let kept = ap is_recorded (sym c.in-Ok.ensures.answer) ∙ sym c.is_recorded.ensures ∙ c.if-not-is_recorded.false in
    let names : c.append.new.names.items ≡ inside.names.items ++ one.by ∷ [] =
    c.append.ensures ∙ ap (λ (l : List (Option (List ℕ))). l ++ one.by ∷ []) c.in_default.ensures.items in
    let after = takes inside.plant c.apply.new.self inside.names.items inside.sum one inside.build begun
    c.self.invariant kept c.in-Ok.ensures.history in
    ap (λ (l : List (Option (List ℕ))). ledger_state
    (record { plant = c.apply.new.self; names = l; build = inside.build })) names
    ∙ after
    ∙ ap (λ (l : PlainLedger). ledger_after (ledger_state l) (asked one)) c.self.view_is
