use Rattle.std.proofs.Common.{◌≡◌, subst, sym, ◌∙◌, ap}
use Rattle.pol_ledger.specs.Items.{plain_item, sum_of}
use Rattle.pol_ledger.specs.Ledgers.{PlainLedger, ledger_state}
use Rattle.pol_ledger.specs.Read.{NamesItem}
use Rattle.pol_ledger.specs.Sums.{bytes_before}
use Rattle.pol_ledger.specs.Work.{items_of}
use Rattle.pol_ledger.proofs.Finding.{alike, cut_of, found_item, long_of, no_body, no_place, not_both, not_sealed, too_short, unlike}
use Rattle.pol_ledger.proofs.ledger.LedgerChronicle.item_of.Goals as goal

pub returns-in_default-clause-names : goal.returns-in_default-clause-names
returns-in_default-clause-names c =
    too_short (items_of (ledger_state c.args.self.now)) c.args.text.now c.in_default.ensures.cases

pub returns-then-ne-clause-names : goal.returns-then-ne-clause-names
returns-then-ne-clause-names c =
    let text = c.args.text.now in
    let sum = c.in-Some.sum.now in
    let body = c.in-Some.body.now in
    let cases = c.in-Some.ensures.cases in
    let before = items_of (ledger_state c.args.self.now) in
    let last : bytes_before c.self.inside.sum ≡ sum_of before =
    c.self.invariant.sealed ∙ ap (λ (l : PlainLedger). sum_of (items_of (ledger_state l))) c.self.view_is in
    not_sealed before text sum body (bytes_before c.self.inside.sum) (cut_of text sum body cases.0 cases.1)
    (long_of text sum body cases.0 cases.2) last
    (λ same. unlike c.as_slice.result.now c.as_slice-2.result.now c.ne.result c.ne.ensures c.if-ne.true
    (c.as_slice.ensures ∙ c.sum_after-sealed.ensures ∙ same ∙ sym c.as_slice-2.ensures))

pub returns-in_default-2-clause-names : goal.returns-in_default-2-clause-names
returns-in_default-2-clause-names c =
    let text = c.args.text.now in
    let sum = c.in-Some.sum.now in
    let body = c.in-Some.body.now in
    let cases = c.in-Some.ensures.cases in
    let found = subst (NamesItem body) c.in_default-2.is c.in_ok-item.ensures.names in
    no_body (items_of (ledger_state c.args.self.now)) text sum body (cut_of text sum body cases.0 cases.1)
    (long_of text sum body cases.0 cases.2) found

pub returns-then-has_place-clause-names : goal.returns-then-has_place-clause-names
returns-then-has_place-clause-names c =
    let text = c.args.text.now in
    let sum = c.in-Some.sum.now in
    let body = c.in-Some.body.now in
    let cases = c.in-Some.ensures.cases in
    let before = items_of (ledger_state c.args.self.now) in
    let last : bytes_before c.self.inside.sum ≡ sum_of before =
    c.self.invariant.sealed ∙ ap (λ (l : PlainLedger). sum_of (items_of (ledger_state l))) c.self.view_is in
    let found = subst (NamesItem body) c.in-Some-2.is c.in_ok-item.ensures.names in
    found_item before text sum body (bytes_before c.self.inside.sum) (plain_item c.in-Some-2.item)
    (cut_of text sum body cases.0 cases.1) last
    (sym c.sum_after-sealed.ensures ∙ sym c.as_slice.ensures
    ∙ alike c.as_slice.result.now c.as_slice-2.result.now c.ne.result c.ne.ensures c.if-ne.false
    ∙ c.as_slice-2.ensures) found.0 found.1 (c.has_place.ensures.0 c.if-has_place.true)

pub returns-else-has_place-clause-names : goal.returns-else-has_place-clause-names
returns-else-has_place-clause-names c =
    let text = c.args.text.now in
    let sum = c.in-Some.sum.now in
    let body = c.in-Some.body.now in
    let cases = c.in-Some.ensures.cases in
    let found = subst (NamesItem body) c.in-Some-2.is c.in_ok-item.ensures.names in
    no_place (items_of (ledger_state c.args.self.now)) text sum body (plain_item c.in-Some-2.item)
    (cut_of text sum body cases.0 cases.1) (long_of text sum body cases.0 cases.2) found.0 found.1
    (λ place. not_both c.has_place.result (c.has_place.ensures.1 place) c.if-has_place.false)
