use Rattle.std.proofs.Common.{◌∙◌, List, ap, subst, sym}
use Rattle.std.proofs.lemmas.Result.{IfErr-weaker}
use Rattle.kept_jobs.specs.Keeping.{Admits}
use Rattle.kept_jobs.proofs.Admitting.{untouched}
use Rattle.named_lines.specs.Named.{named_of}
use Rattle.pol_jobs.specs.InputLines.{plain_line}
use Rattle.pol_ledger.specs.Items.{PlainItem}
use Rattle.pol_ledger.specs.Ledgers.{ledger_state}
use Rattle.pol_ledger.specs.Work.{items_of, ledger_work}
use Rattle.pol_replay.specs.Meanings.{meaning_met}
use Rattle.pol_operate.proofs.Going.{answered_or_halted, ledger_answered, ledger_asked, ledger_some, on_ok_anyway}
use Rattle.pol_operate.proofs.Going.{put_alike, reply_asked, reply_some, text_answered}
use Rattle.pol_operate.proofs.operating.Operating.answer.Goals as goal

pub returns-then-asks-clause-line : goal.returns-then-asks-clause-line
returns-then-asks-clause-line g c =
    let before = c.args.self.now in
    let asked = reply_asked before.policy c.requires.known.0 (ledger_state before.store.chronicle) (plain_line c.args.line)
    c.requires.known.1 (sym c.asks.ensures ∙ c.if-asks.true) in
    put_alike c.tell.result _ _ _ _ asked c.tell.ensures.line

pub returns-then-asks-clause-ledger : goal.returns-then-asks-clause-ledger
returns-then-asks-clause-ledger g c =
    let before = c.args.self.now in
    on_ok_anyway c.tell.result (ledger_asked before.policy c.requires.known.0 (ledger_state before.store.chronicle)
    (plain_line c.args.line) c.requires.known.1 (sym c.asks.ensures ∙ c.if-asks.true))

pub returns-then-asks-clause-admits : goal.returns-then-asks-clause-admits
returns-then-asks-clause-admits g c = untouched ledger_work ledger_state c.args.self.now.store _

pub returns-clause-line : goal.returns-clause-line
returns-clause-line g c =
    let before = c.args.self.now in
    let now = c.answer_line.new.answering in
    let said = reply_some before.policy c.requires.known.0 (ledger_state before.store.chronicle) (plain_line c.args.line)
    c.requires.known.1 (sym c.asks.ensures ∙ c.if-asks.false) in
    text_answered before.policy now.policy before.store now.store _ _ (meaning_met named_of (plain_line c.args.line))
    c.answer_line.result _ said c.answer_line.ensures.answers

pub returns-clause-policy : goal.returns-clause-policy
returns-clause-policy g c =
    let before = c.args.self.now in
    let now = c.answer_line.new.answering in
    (answered_or_halted before.policy now.policy before.store now.store _ _
    (meaning_met named_of (plain_line c.args.line)) c.answer_line.result c.answer_line.ensures.answers
    c.answer_line.ensures.halts).0

pub returns-clause-ledger : goal.returns-clause-ledger
returns-clause-ledger g c =
    let before = c.args.self.now in
    let now = c.answer_line.new.answering in
    let leaves = ledger_some before.policy c.requires.known.0 (ledger_state before.store.chronicle)
    (plain_line c.args.line) c.requires.known.1 (sym c.asks.ensures ∙ c.if-asks.false) in
    ledger_answered before.policy now.policy before.store now.store _ _ (meaning_met named_of (plain_line c.args.line))
    c.answer_line.result _ leaves c.answer_line.ensures.answers

pub returns-clause-admits : goal.returns-clause-admits
returns-clause-admits g c =
    let before = c.args.self.now in
    let now = c.answer_line.new.answering in
    let met = answered_or_halted before.policy now.policy before.store now.store _ _
    (meaning_met named_of (plain_line c.args.line)) c.answer_line.result c.answer_line.ensures.answers
    c.answer_line.ensures.halts in
    subst (λ (due : List PlainItem). Admits ledger_work ledger_state before.store now.store due)
    (ap items_of (ledger_some before.policy c.requires.known.0 (ledger_state before.store.chronicle)
    (plain_line c.args.line) c.requires.known.1 (sym c.asks.ensures ∙ c.if-asks.false))) met.1

pub returns-clause-failed : goal.returns-clause-failed
returns-clause-failed g c =
    IfErr-weaker c.answer_line.result _ _ (λ stop halted. halted.1.failed) c.answer_line.ensures.halts

pub returns-clause-unrefused : goal.returns-clause-unrefused
returns-clause-unrefused g c =
    IfErr-weaker c.answer_line.result _ _ (λ stop halted. halted.1.unrefused) c.answer_line.ensures.halts
