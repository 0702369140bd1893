-- Which inputs are refused: those whose policy has a fault.
use Rattle.std.proofs.Common.{◌≡◌, ◌⊎◌, inl, inr, ℕ, Bool, true, false, List, [], ◌∷◌, ◌++◌, Option, Some, None, Ok, Err}
use Rattle.std.proofs.Common.{map, cond, refl, sym, ap, ◌∙◌, append-nil, if◌then◌else◌}
use Rattle.std.specs.Prelude.{IsTrue, filter}
use Rattle.std.specs.Io.KnownBytes.{Appends, Keeps}
use Rattle.std.proofs.lemmas.List.{map-append}
use Rattle.std.proofs.lemmas.List.Elements.{filter-append}
use Rattle.mtp_json.specs.ReadResult.{ReadResult}
use Rattle.mtp_json.specs.declared.fault.JsonFault.{JsonFault}
use Rattle.pol_history.specs.Looking.{History}
use Rattle.pol_io.specs.Pieces.{pieces}
use Rattle.pol_jobs.specs.Deeds.{RefusesBehind}
use Rattle.pol_jobs.specs.Ends.{IsRefused, refused_line, refused_input, RefusesLine}
use Rattle.pol_jobs.specs.LineWork.{Line, after_each, line_met, replies_to}
use Rattle.pol_policy.specs.Policies.{PlainPolicy}
use Rattle.pol_replay.specs.Meanings.{is_some_line}
use Rattle.pol_replay.proofs.Silent.{appends_nothing, unwritten as unwritten_waiting}
use Rattle.pol_guard.specs.Guarded.{IsNoPolicy, behind_first, guarded, journal_of, policy_among, policy_of, replies_by}
use Rattle.pol_guard.specs.Guarded.{policy_said, some_lines}
use Rattle.pol_guard.specs.Laws.{RefusalsAreFaults}
use Rattle.pol_guard.specs.Lines.{guarded_line}
use Rattle.pol_guard.specs.Work.{Known, waiting, begun, after_some, guard_work, history_with, reply_some, said_in}

-- where the policy has a fault, nothing is replied
nothing_replied : (said : ReadResult PlainPolicy) (fault : JsonFault) (journal : List Line) → said ≡ Err fault →
    replies_by said journal ≡ []
nothing_replied said fault journal is = rw is refl

-- lines that aren't blank behind which one is refused: none, so nothing was replied to them
none_before : (lines : List Line) (line : Line) (fault : JsonFault) → IsNoPolicy lines line fault →
    replies_by (policy_among lines) (behind_first lines) ≡ []
none_before [] line fault no_policy = refl
none_before (first ∷ others) line fault no_policy = absurd no_policy

-- and that line should say the policy
first_of_all : (lines others : List Line) (line : Line) (fault : JsonFault) → IsNoPolicy lines line fault →
    policy_among (lines ++ line ∷ others) ≡ Err fault
first_of_all [] others line fault no_policy = no_policy
first_of_all (first ∷ lines) others line fault no_policy = absurd no_policy

-- the lines of some pieces that aren't blank
abbrev some_of : List (List ℕ) → List Line
some_of parts = filter is_some_line (map line_met parts)

-- those of some pieces, one whose line isn't blank, and others
some_around : (before : List (List ℕ)) (piece : List ℕ) (behind : List (List ℕ)) →
    IsTrue (is_some_line (line_met piece)) →
    some_of (before ++ piece ∷ behind) ≡ some_of before ++ line_met piece ∷ some_of behind
some_around before piece behind some =
    ap (filter is_some_line) (map-append line_met before (piece ∷ behind))
    ∙ filter-append is_some_line (map line_met before) (map line_met (piece ∷ behind))
    ∙ ap (λ kept. some_of before ++ cond kept (line_met piece ∷ some_of behind) (some_of behind)) some

-- an input that is refused with a line has a policy with that fault
faulty_line : (fault : JsonFault) (held held' : Option (List ℕ)) (bytes left : List ℕ) →
    RefusesLine guarded fault held held' bytes left → policy_of bytes ≡ Err fault
faulty_line fault held held' bytes left line =
    ap (λ parts. policy_among (some_of parts)) line.is_line
    ∙ ap policy_among (some_around (pieces line.done) line.piece (pieces (line.waiting ++ left)) line.refuses.0)
    ∙ first_of_all (some_lines line.done) (some_of (pieces (line.waiting ++ left))) (line_met line.piece) fault
    line.refuses.1

-- one that is refused has, and nothing is written
refused : (fault : JsonFault) (held held' : Option (List ℕ)) (bytes left : List ℕ) →
    IsRefused guarded fault held held' bytes left → (policy_of bytes ≡ Err fault) × Keeps held held'
refused fault held held' bytes left (refused_line line) = (
  faulty_line fault held held' bytes left line,
  appends_nothing held held' (replies_by (policy_of line.done) (journal_of line.done))
      (none_before (some_lines line.done) (line_met line.piece) fault line.refuses.1) line.written,
)
refused fault held held' bytes left (refused_input input) = (
  input.refuses,
  appends_nothing held held' (replies_by (policy_of bytes) (journal_of bytes))
      (nothing_replied (policy_of bytes) fault (journal_of bytes) input.refuses) input.written,
)

-- ---- whatever the source tells

-- no policy is known
abbrev IsUnsaid : Known → Type 0
IsUnsaid known = (fault : JsonFault) × (said_in known ≡ Err fault)

-- where none is known behind a line, none was before it, and nothing is replied to it
unsaid_before : (some : Bool) (known : Known) (line : Line) →
    IsUnsaid (if some then after_some known line else known) →
    IsUnsaid known × ((if some then reply_some known line else []) ≡ [])
unsaid_before false known line unsaid = (unsaid, refl)
unsaid_before true waiting line unsaid = ((_, refl), refl)
unsaid_before true (begun (Err fault) history) line unsaid = ((fault, refl), refl)
unsaid_before true (begun (Ok policy) history) line unsaid = absurd (let said = unsaid.1 in cc)

-- a guard that refuses its input knows no policy
none_known : (known : Known) (fault : JsonFault) →
    ((line : Line) × guard_work.Refuses known line fault) ⊎ guard_work.RefusesEnd known fault → IsUnsaid known
none_known waiting fault refuses = (_, refl)
none_known (begun said history) fault (inl refused) = absurd refused.1.1
none_known (begun said history) fault (inr refuses) = (fault, refuses)

-- so it has written nothing
pub unwritten : (fault : JsonFault) (held held' : Option (List ℕ)) →
    RefusesBehind guard_work waiting held held' fault → Keeps held held'
unwritten fault held held' behind =
    unwritten_waiting guard_work IsUnsaid
    (record { silent = λ known line. unsaid_before (is_some_line line) known line; refusing = none_known })
    waiting fault held held' behind

-- ---- the law

-- a policy that has no fault is said
said_well : (said : ReadResult PlainPolicy) → ((fault : JsonFault) → ¬ (said ≡ Err fault)) →
    (policy : PlainPolicy) × (said ≡ Ok policy)
said_well (Ok policy) faultless = (policy, refl)
said_well (Err fault) faultless = absurd (faultless fault refl)

-- inputs are refused for the faults of their policies
pub refusals : RefusalsAreFaults
refusals =
    record {
      refused = refused;
      unwritten = unwritten;
      accepted = λ bytes accepts. said_well (policy_of bytes) accepts.1;
    }
