-- What lines keep stands behind the old items.
use Rattle.std.proofs.Common.{ℕ, ◌≡◌, ◌∙◌, List, [], ◌∷◌, ◌++◌, map, Bool, true, false, Option, Some, None, ap, refl}
use Rattle.std.proofs.Common.{append-nil, append_assoc, sym}
use Rattle.kept_jobs.specs.Life.{KeepsOld}
use Rattle.kept_jobs.proofs.Running.{items_more}
use Rattle.named_lines.specs.Named.{PlainNamed}
use Rattle.pol_jobs.specs.LineWork.{Line}
use Rattle.pol_kept.specs.Stands.{AreTextsOf}
use Rattle.pol_policy.specs.declared.verdict.Verdict.{Verdict}
use Rattle.pol_policy.specs.declared.verdict.Verdict.TheVariants.{Allowed, Denied}
use Rattle.pol_replay.specs.Meanings.{LineMeaning, at_fault, nothing, says}
use Rattle.pol_rights.specs.Rules.{PlainPlantPolicy}
use Rattle.pol_ledger.specs.Items.{PlainItem, asked, header}
use Rattle.pol_ledger.specs.Lawful.{ledgers_are_lawful}
use Rattle.pol_ledger.specs.Opens.{begun_anyway, this_header}
use Rattle.pol_ledger.specs.Work.{BegunLedger, items_of, keeps_item, ledger_after, ledger_answer, ledger_work}
use Rattle.pol_operate.specs.Kept.{asked_in, first_known, ledger_of, operate_job}
use Rattle.pol_operate.specs.Lines.{asked_by, by_verdict, verdict_under}
use Rattle.pol_operate.specs.Operated.{known_items}
use Rattle.pol_operate.specs.Saying.{ledger_met, ledger_with}
use Rattle.pol_operate.specs.Work.{ledger_by, operate_work, said_by}

-- the later items are the earlier ones and more
abbrev pub Grows : Option BegunLedger → Option BegunLedger → Type 0
Grows ledger later = (more : List PlainItem) × (items_of later ≡ items_of ledger ++ more)

-- where nothing was asked, no more are
stays : (ledger : Option BegunLedger) → Grows ledger ledger
stays ledger = ([], sym (append-nil (items_of ledger)))

-- where an item was asked for, it is one more or none
grows_item : (ledger : Option BegunLedger) (item : PlainItem) → Grows ledger (ledger_after ledger item)
grows_item ledger item = by_kept (keeps_item (ledger_answer ledger item)) refl
  where
    by_kept : (kept : Bool) → keeps_item (ledger_answer ledger item) ≡ kept → Grows ledger (ledger_after ledger item)
    by_kept true is = (item ∷ [], ledgers_are_lawful.grows ledger item is)
    by_kept false is =
        ([], ap items_of (ledgers_are_lawful.stays ledger item is) ∙ sym (append-nil (items_of ledger)))

-- behind what a line says
grows_said : (ledger : Option BegunLedger) (said : PlainNamed) (verdict : Option Verdict) →
    Grows ledger (ledger_with ledger (by_verdict said verdict))
grows_said ledger said None = grows_item ledger (asked (asked_by said))
grows_said ledger said (Some (Denied rule)) = stays ledger
grows_said ledger said (Some (Allowed name)) = grows_item ledger (asked (asked_by said))

-- behind a line
grows_line : (policy : Option PlainPlantPolicy) (ledger : Option BegunLedger) (line : Line) →
    Grows ledger (ledger_by policy ledger line)
grows_line None ledger line = stays ledger
grows_line (Some policy) ledger line = by_meaning (said_by line)
  where
    by_meaning : (meaning : LineMeaning PlainNamed) → Grows ledger (ledger_met (Some policy) ledger meaning)
    by_meaning nothing = stays ledger
    by_meaning (at_fault fault) = stays ledger
    by_meaning (says said) = grows_said ledger said (verdict_under (Some policy) said)

-- where an image stands for items behind a header, all of them were asked for
asked_all : (build : List ℕ) (before items : List PlainItem) (texts : List (List ℕ)) →
    AreTextsOf ledger_work (header build ∷ before) items texts → map asked (asked_in items) ≡ items
asked_all build before [] texts are = refl
asked_all build before (item ∷ items) [] are = absurd are
asked_all build before (header other ∷ items) (text ∷ texts) are = absurd are.0.place
asked_all build before (asked one ∷ items) (text ∷ texts) are =
    ap (λ (others : List PlainItem). asked one ∷ others) (asked_all build (before ++ asked one ∷ []) items texts are.1)

-- so they are those of a ledger
items_again : (old : List PlainItem) (texts : List (List ℕ)) → AreTextsOf ledger_work [] old texts →
    items_of (ledger_of old) ≡ old
items_again [] texts are = refl
items_again (item ∷ items) [] are = absurd are
items_again (header build ∷ items) (text ∷ texts) are =
    ap (λ (others : List PlainItem). header build ∷ others) (asked_all build [] items texts are.1)
items_again (asked one ∷ items) (text ∷ texts) are = absurd are.0.place

-- what opening makes of a ledger has its items, or a header more
begins_more : (ledger : Option BegunLedger) → Grows ledger (begun_anyway ledger)
begins_more None = (this_header ∷ [], refl)
begins_more (Some ledger) = stays (Some ledger)

-- the old items stand before those of lines
pub keeps_old : KeepsOld ledger_work operate_job
keeps_old old image stands lines =
    let begun = begun_anyway (ledger_of old) in
    let first = begins_more (ledger_of old) in
    let later = items_more operate_work known_items
    (λ known line. grows_line known.policy known.ledger line) (first_known begun) lines in (
      first.0 ++ later.0,
      later.1 ∙ ap (λ (some : List PlainItem). some ++ later.0) (first.1
          ∙ ap (λ (some : List PlainItem). some ++ first.0) (items_again old stands.texts stands.are))
          ∙ append_assoc old first.0 later.0,
    )
