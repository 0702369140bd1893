-- What a guard replies to a line behind its policy and what it knows after it, by what the line says.
use Rattle.std.proofs.Common.{◌≡◌, Bool, true, false, Result, Ok, Err, Some, None, refl, ap}
use Rattle.std.proofs.Common.{not, if◌then◌else◌}
use Rattle.std.specs.List.{list_all}
use Rattle.event_json.specs.Guarded.{PlainGuarded, guarded_of}
use Rattle.event_json.specs.Lines.{is_blank_byte}
use Rattle.event_json.specs.declared.fault.LineFault.{LineFault}
use Rattle.event_json.specs.declared.fault.LineFault.TheVariants.{TooLong}
use Rattle.pol_history.specs.Looking.{History}
use Rattle.pol_jobs.specs.LineWork.{Line}
use Rattle.pol_policy.specs.Policies.{PlainPolicy}
use Rattle.pol_record.specs.Texts.{fault_text}
use Rattle.pol_replay.specs.Meanings.{at_fault, is_some_line, meaning_from, meaning_met, nothing, says}
use Rattle.pol_guard.specs.Lines.{guarded_line, guarded_saying}
use Rattle.pol_guard.specs.Work.{begun, guard_work, history_with, text_after}

-- a line that says or is at fault so isn't blank, and that comes of it
comes : (policy : PlainPolicy) (line : Line) (read : Result PlainGuarded LineFault) →
    meaning_met guarded_of line ≡ meaning_from read →
    (is_some_line line ≡ true) × (guarded_line policy line ≡ guarded_saying policy read)
comes policy None (Ok said) is = cc
comes policy None (Err fault) is = (refl, let same : Err TooLong ≡ Err fault = cc in ap (guarded_saying policy) same)
comes policy (Some text) read is = by_blank (list_all is_blank_byte text) (guarded_of text) read is
  where
    by_blank : (blank : Bool) (found read : Result PlainGuarded LineFault) →
        (if blank then nothing else meaning_from found) ≡ meaning_from read →
        (not blank ≡ true) × (guarded_saying policy found ≡ guarded_saying policy read)
    by_blank true found (Ok said) is = cc
    by_blank true found (Err fault) is = cc
    by_blank false (Ok found) (Ok said) is =
        let same : found ≡ said = cc in (refl, ap (λ one. guarded_saying policy (Ok one)) same)
    by_blank false (Ok found) (Err fault) is = cc
    by_blank false (Err found) (Ok said) is = cc
    by_blank false (Err found) (Err fault) is =
        let same : found ≡ fault = cc in (refl, ap (λ one. guarded_saying policy (Err one)) same)

-- so a guard replies what comes of what was said or is at fault, and knows it after it
met : (policy : PlainPolicy) (history : History) (line : Line) (read : Result PlainGuarded LineFault) →
    meaning_met guarded_of line ≡ meaning_from read →
    (guard_work.reply (begun (Ok policy) history) line ≡ text_after history (guarded_saying policy read))
    × (guard_work.after (begun (Ok policy) history) line
    ≡ begun (Ok policy) (history_with history (guarded_saying policy read)))
met policy history line read is =
    let it = comes policy line read is in
    rw it.0 (ap (text_after history) it.1, ap (λ one. begun (Ok policy) (history_with history one)) it.1)

-- of a line that says this
pub to_saying : (policy : PlainPolicy) (history : History) (line : Line) (said : PlainGuarded) →
    meaning_met guarded_of line ≡ says said →
    (guard_work.reply (begun (Ok policy) history) line ≡ text_after history (guarded_saying policy (Ok said)))
    × (guard_work.after (begun (Ok policy) history) line
    ≡ begun (Ok policy) (history_with history (guarded_saying policy (Ok said))))
to_saying policy history line said is = met policy history line (Ok said) is

-- and of one that is at fault
pub to_fault : (policy : PlainPolicy) (history : History) (line : Line) (fault : LineFault) →
    meaning_met guarded_of line ≡ at_fault fault →
    (guard_work.reply (begun (Ok policy) history) line ≡ fault_text fault)
    × (guard_work.after (begun (Ok policy) history) line ≡ begun (Ok policy) history)
to_fault policy history line fault is = met policy history line (Err fault) is
