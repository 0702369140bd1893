-- The history behind lines is legal and orderly.
use Rattle.std.proofs.Common.{ℕ, ◌≡◌, ◌∙◌, List, [], ◌∷◌, ◌++◌, map, Bool, true, false, Option, Some, None, Result, Ok}
use Rattle.std.proofs.Common.{Err, refl, if◌then◌else◌}
use Rattle.std.specs.List.{AllByRecursion, list_all}
use Rattle.event_json.specs.Lines.{is_blank_byte}
use Rattle.event_json.specs.declared.fault.LineFault.{LineFault}
use Rattle.event_json.proofs.Orderly.{line_orderly}
use Rattle.named_lines.specs.Named.{PlainNamed, named_of}
use Rattle.named_lines.proofs.Said.{line_said}
use Rattle.pol_events.specs.Orderly.{is_orderly}
use Rattle.pol_history.specs.Answers.{answer_of}
use Rattle.pol_history.specs.Runs.{AreOrderly, IsLegal, IsOrderly, is_recorded}
use Rattle.pol_history.proofs.Legal.{legal_after, orderly_after}
use Rattle.pol_jobs.specs.LineWork.{Line, after_all, line_met}
use Rattle.pol_kept.specs.Stands.{AreTextsOf, StandsFor}
use Rattle.pol_policy.specs.declared.verdict.Verdict.{Verdict}
use Rattle.pol_policy.specs.declared.verdict.Verdict.TheVariants.{Allowed, Denied}
use Rattle.pol_record.specs.Texts.{event_text}
use Rattle.pol_replay.specs.Meanings.{LineMeaning, at_fault, meaning_from, meaning_met, nothing, says}
use Rattle.pol_rights.specs.Rules.{PlainPlantPolicy}
use Rattle.pol_ledger.specs.Items.{IsInForm, PlainAsked, PlainItem, asked}
use Rattle.pol_ledger.specs.Work.{BegunLedger, asked_after, history_of, items_of, ledger_work}
use Rattle.pol_operate.specs.Kept.{first_known, known_behind}
use Rattle.pol_operate.specs.Lines.{asked_by, by_verdict, verdict_under}
use Rattle.pol_operate.specs.Texts.{history_in, so_far_in}
use Rattle.pol_operate.specs.Questions.{asks}
use Rattle.pol_operate.specs.Saying.{ledger_met, ledger_with}
use Rattle.pol_operate.specs.Work.{Known, ledger_by, operate_work, said_by}

-- what was asked for is as lines say it
abbrev pub AreSound : List PlainAsked → Type 0
AreSound so_far = AreOrderly (map (λ (one : PlainAsked). one.event) so_far)

-- one more
sound_more : (so_far : List PlainAsked) (one : PlainAsked) → AreSound so_far → is_orderly one.event ≡ true →
    AreSound (so_far ++ one ∷ [])
sound_more [] one sound here = (here, tt)
sound_more (first ∷ so_far) one sound here = (sound.0, sound_more so_far one sound.1 here)

-- unless the history is full
sound_after : (so_far : List PlainAsked) (one : PlainAsked) → AreSound so_far → is_orderly one.event ≡ true →
    AreSound (asked_after so_far one)
sound_after so_far one sound here = by_kept (is_recorded (answer_of (history_of so_far) one.event))
  where
    by_kept : (kept : Bool) → AreSound (if kept then so_far ++ one ∷ [] else so_far)
    by_kept true = sound_more so_far one sound here
    by_kept false = sound

-- behind what a line says
sound_said : (ledger : Option BegunLedger) (said : PlainNamed) (verdict : Option Verdict) →
    AreSound (so_far_in ledger) → is_orderly said.event ≡ true →
    AreSound (so_far_in (ledger_with ledger (by_verdict said verdict)))
sound_said None said None sound here = tt
sound_said None said (Some (Denied rule)) sound here = tt
sound_said None said (Some (Allowed name)) sound here = tt
sound_said (Some ledger) said None sound here = sound_after ledger.so_far (asked_by said) sound here
sound_said (Some ledger) said (Some (Denied rule)) sound here = sound
sound_said (Some ledger) said (Some (Allowed name)) sound here = sound_after ledger.so_far (asked_by said) sound here

-- an event that a line says is orderly
met_orderly : (line : Line) (said : PlainNamed) → meaning_met named_of line ≡ says said →
    is_orderly said.event ≡ true
met_orderly None said is = cc
met_orderly (Some text) said is = by_blank (list_all is_blank_byte text) (named_of text) refl is
  where
    by_blank : (blank : Bool) (read : Result PlainNamed LineFault) → named_of text ≡ read →
        (if blank then nothing else meaning_from read) ≡ says said → is_orderly said.event ≡ true
    by_blank true read told is = cc
    by_blank false (Ok found) told is =
        let same : found ≡ said = cc in (line_said text said (told ∙ (λ i. Ok (same i)))).orderly
    by_blank false (Err fault) told is = cc

-- an event that a line says which doesn't ask
said_orderly : (line : Line) (said : PlainNamed) → said_by line ≡ says said → is_orderly said.event ≡ true
said_orderly line said is = by_asking (asks line) is
  where
    by_asking : (asking : Bool) → (if asking then nothing else meaning_met named_of line) ≡ says said →
        is_orderly said.event ≡ true
    by_asking true is = cc
    by_asking false is = met_orderly line said is

-- behind a line
sound_line : (policy : Option PlainPlantPolicy) (ledger : Option BegunLedger) (line : Line) →
    AreSound (so_far_in ledger) → AreSound (so_far_in (ledger_by policy ledger line))
sound_line None ledger line sound = sound
sound_line (Some policy) ledger line sound = by_meaning (said_by line) refl
  where
    by_meaning : (meaning : LineMeaning PlainNamed) → said_by line ≡ meaning →
        AreSound (so_far_in (ledger_met (Some policy) ledger meaning))
    by_meaning nothing is = sound
    by_meaning (at_fault fault) is = sound
    by_meaning (says said) is =
        sound_said ledger said (verdict_under (Some policy) said) sound (said_orderly line said is)

-- behind lines
sound_lines : (known : Known) (lines : List (List ℕ)) → AreSound (so_far_in known.ledger) →
    AreSound (so_far_in (after_all operate_work known lines).ledger)
sound_lines known [] sound = sound
sound_lines known (line ∷ lines) sound =
    sound_lines (operate_work.after known (line_met line)) lines
    (sound_line known.policy known.ledger (line_met line) sound)

-- so their history is legal and orderly
pub sound_runs : (ledger : Option BegunLedger) → AreSound (so_far_in ledger) → (lines : List (List ℕ)) →
    IsLegal (history_in (known_behind ledger lines).ledger) × IsOrderly (history_in (known_behind ledger lines).ledger)
sound_runs ledger sound lines =
    let events = map (λ (one : PlainAsked). one.event) (so_far_in (known_behind ledger lines).ledger) in (
      legal_after [] events tt,
      orderly_after [] events tt (sound_lines (first_known ledger) lines sound),
    )

-- ---- what an image stands for

-- the items of texts are in form
forms_of : (before items : List PlainItem) (texts : List (List ℕ)) → AreTextsOf ledger_work before items texts →
    AllByRecursion IsInForm items
forms_of before [] texts are = tt
forms_of before (item ∷ items) [] are = absurd are
forms_of before (item ∷ items) (text ∷ texts) are = (are.0.form, forms_of (before ++ item ∷ []) items texts are.1)

-- so what was asked for is as lines say it
sound_forms : (so_far : List PlainAsked) → AllByRecursion IsInForm (map asked so_far) → AreSound so_far
sound_forms [] all = tt
sound_forms (one ∷ so_far) all = (line_orderly (event_text one.event) one.event all.0.1, sound_forms so_far all.1)

-- of a ledger for which an image stands
pub sound_stands : (ledger : Option BegunLedger) (image : List ℕ) → StandsFor ledger_work (items_of ledger) image →
    AreSound (so_far_in ledger)
sound_stands None image stands = tt
sound_stands (Some ledger) image stands =
    sound_forms ledger.so_far (forms_of [] (items_of (Some ledger)) stands.texts stands.are).1
