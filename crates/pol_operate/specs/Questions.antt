-- What is replied to a question; it changes nothing.
use Rattle.std.specs.Prelude.{ℕ, ◌-◌, List, [], ◌++◌, length, map, reverse, take, Bool, true, false, codes, Option, Some}
use Rattle.std.specs.Prelude.{None, Result, Ok, Err}
use Rattle.event_json.specs.declared.fault.LineFault.{LineFault}
use Rattle.pol_find.specs.Bindings.{bindings_text}
use Rattle.pol_jobs.specs.LineWork.{Line}
use Rattle.pol_overview.specs.Entries.{NamedEntry, all_named, cut_of, entries_text}
use Rattle.pol_overview.specs.May.{Allows}
use Rattle.pol_overview.specs.Overview.{plant_text}
use Rattle.pol_policy.specs.Allowing.{request_of}
use Rattle.pol_policy.specs.Deciding.{verdict_of}
use Rattle.pol_policy.specs.declared.verdict.Verdict.{Verdict}
use Rattle.pol_policy.specs.declared.verdict.Verdict.TheVariants.{Allowed, Denied}
use Rattle.pol_record.specs.Texts.{fault_text}
use Rattle.pol_replay.specs.Meanings.{meaning_from}
use Rattle.pol_rights.specs.Rules.{PlainPlantPolicy}
use Rattle.pol_ledger.specs.Items.{PlainAsked}
use Rattle.pol_ledger.specs.Work.{BegunLedger}
use Rattle.pol_operate.specs.Saying.{text_met}
use Rattle.pol_operate.specs.Texts.{begun_text, history_in, so_far_in, sum_text}
use Rattle.question_lines.specs.Front.{is_question}
use Rattle.question_lines.specs.Questions.{PlainQuestion, bindings, entries, plant, question_of, would}

-- a line that asks: one that isn't too long and whose first key is `ask`
abbrev pub asks : Line → Bool
asks None = false
asks (Some text) = is_question text

-- what an event would be answered with: the object of that line, at `would`
abbrev pub would_text : List ℕ → List ℕ
would_text line = codes "{\"would\":" ++ take (length line - 1) line ++ codes "}\n"

-- a verdict that allows
abbrev pub is_allowing : Verdict → Bool
is_allowing (Allowed rule) = true
is_allowing (Denied rule) = false

-- whether a policy lets a person send a command; where nobody is named, it isn't asked
abbrev pub allows_by : PlainPlantPolicy → Option (List ℕ) → Allows
allows_by policy None = λ tag service command. true
allows_by policy (Some person) =
    λ tag service command. is_allowing (verdict_of policy.commands (request_of person tag service command))

-- the entries of the ledger's history, the oldest first, each with who asked for its event
abbrev pub entries_in : Option BegunLedger → List NamedEntry
entries_in ledger =
    all_named (map (λ (one : PlainAsked). one.by) (so_far_in ledger)) (reverse (history_in ledger))

-- what is replied to a question under a policy, by the ledger as it is: what an event would be answered, the overview
-- of the plant with its file's header and last sum and with what a person may command there, how recipes could be
-- bound, and entries
abbrev pub told : PlainPlantPolicy → Option BegunLedger → PlainQuestion → List ℕ
told policy ledger (would read) = would_text (text_met (Some policy) ledger (meaning_from read))
told policy ledger (plant person) =
    plant_text (allows_by policy person) (history_in ledger) (begun_text ledger) (sum_text ledger)
told policy ledger bindings = bindings_text (history_in ledger)
told policy ledger (entries from most) = entries_text (cut_of from most (entries_in ledger))

-- what is replied by what a line asks, or by its fault
abbrev pub told_of : PlainPlantPolicy → Option BegunLedger → Result PlainQuestion LineFault → List ℕ
told_of policy ledger (Ok question) = told policy ledger question
told_of policy ledger (Err fault) = fault_text fault

-- what is replied to a line that asks
abbrev pub told_to : PlainPlantPolicy → Option BegunLedger → Line → List ℕ
told_to policy ledger None = []
told_to policy ledger (Some text) = told_of policy ledger (question_of text)

-- what is replied to a line that asks, where a policy is known; nothing before
abbrev pub told_by : Option PlainPlantPolicy → Option BegunLedger → Line → List ℕ
told_by None ledger line = []
told_by (Some policy) ledger line = told_to policy ledger line
