-- Of what stays nothing goes where it is compacted again.
use Rattle.std.proofs.Common.{◌≡◌, ℕ, Bool, true, false, cond, not, List, [], ◌∷◌, refl, ap, sym, ◌∙◌, ◌⊎◌, inl, inr}
use Rattle.std.proofs.Common.{Option, Some, None}
use Rattle.std.specs.Prelude.{◌&&◌, ◌||◌, option_map}
use Rattle.std.specs.List.{AllByRecursion, cons_option}
use Rattle.std.proofs.lemmas.Bool.{and_parts, or_parts}
use Rattle.mtp_codes.proofs.Names.{same_true, same_refl}
use Rattle.mtp_assembly.specs.declared.control.ServiceControl.{ServiceControl}
use Rattle.pol_events.specs.Events.{PlainEvent, plug, unplug, report, variable, start, advance, exchange_begin}
use Rattle.pol_events.specs.Events.{exchange_end, exchange_cancel, PlainEntry}
use Rattle.pol_history.specs.Looking.{History, subject, is_module, past}
use Rattle.pol_events.specs.declared.answer.Answer.{Answer}
use Rattle.pol_history.specs.Modules.{absent, docking_by, is_plug, is_moving, reported, reported_value}
use Rattle.pol_history.specs.Answers.{rules}
use Rattle.pol_history.proofs.Accepted.{NoneHolds, paired}
use Rattle.pol_compaction.specs.Reading.{is_replacing, replaces, is_replaced, reads, is_read}
use Rattle.pol_compaction.specs.Marks.{Mark, told, read, moved, mark_of, marks_of, report_stays, value_stays}
use Rattle.pol_compaction.specs.Compaction.{stays_between, kept_before, kept_from}
use Rattle.pol_compaction.proofs.Along.{own_mark, moved_mark, apart_mark, report_says, value_says, unreplaced}
use Rattle.pol_compaction.proofs.Along.{apart_replaced}
use Rattle.pol_safety.proofs.Covering.{there_by_rule}
use Rattle.pol_compaction.proofs.Again.{not_parts}
use Rattle.pol_compaction.proofs.Follows.{IsNext, Follows, next_free, own_past, apart_past}
use Rattle.pol_compaction.proofs.Keeping.{absent_plugs}
use Rattle.pol_compaction.proofs.Lists.{either}
use Rattle.pol_compaction.proofs.Thin.{thin, report_passes, value_passes, report_again, value_again}
use Rattle.pol_compaction.proofs.Walk.{own_reads_none}

-- what isn't replaced by these entries isn't by those of them that stay
pub kept_unreplaced : (tag : List ℕ) (whole older : History) (newer : List PlainEntry) → is_replaced tag newer ≡ false →
    is_replaced tag (kept_from whole older newer) ≡ false
kept_unreplaced tag whole older [] is = refl
kept_unreplaced tag whole older (entry ∷ newer) is =
    go (stays_between whole older newer entry.event) (kept_unreplaced tag whole (entry ∷ older) newer parts.1)
  where
    parts : (replaces tag entry.event ≡ false) × (is_replaced tag newer ≡ false)
    parts = or_parts (replaces tag entry.event) (is_replaced tag newer) is

    go : (stay : Bool) → is_replaced tag (kept_from whole (entry ∷ older) newer) ≡ false →
        is_replaced tag (kept_before stay entry (kept_from whole (entry ∷ older) newer)) ≡ false
    go true rest = ap (λ replacing. replacing || is_replaced tag (kept_from whole (entry ∷ older) newer)) parts.0 ∙ rest
    go false rest = rest

-- an event that reads stays
pub reads_stays : (whole older : History) (newer : List PlainEntry) (tag : List ℕ) (event : PlainEvent) →
    reads whole tag event ≡ true → stays_between whole older newer event ≡ true
reads_stays whole older newer tag (start at batch name binds) is = refl
reads_stays whole older newer tag (advance at batch) is = refl
reads_stays whole older newer tag _ is = cc

-- an exchange of a module that isn't replaced later stays
pub moves_stays : (whole older : History) (newer : List PlainEntry) (tag : List ℕ) (event : PlainEvent) →
    is_module tag (subject event) ≡ true → is_moving event ≡ true → replaces tag event ≡ false →
    is_replaced tag newer ≡ false → stays_between whole older newer event ≡ true
moves_stays whole older newer tag (exchange_begin at other) own moving still later =
    ap (λ name. not (is_replaced name newer)) (same_true other tag own) ∙ ap not later
moves_stays whole older newer tag (exchange_end at other ticket description) own moving still later =
    ap (λ name. not (is_replaced name newer)) (same_true other tag own) ∙ ap not later
moves_stays whole older newer tag (exchange_cancel at other ticket) own moving still later =
    ap (λ name. not (is_replaced name newer)) (same_true other tag own) ∙ ap not later
moves_stays whole older newer tag (plug at other description) own moving still later =
    let clash : true ≡ false = sym (ap (λ same. same && true) own) ∙ still in cc
moves_stays whole older newer tag (unplug at other) own moving still later =
    let clash : true ≡ false = sym (ap (λ same. same && true) own) ∙ still in cc
moves_stays whole older newer tag _ own moving still later = cc

module _ (whole again : History) where
  -- an event reads the same modules by both histories
  abbrev pub ReadsSame : PlainEntry → Type 0
  ReadsSame entry = (tag : List ℕ) → reads again tag entry.event ≡ reads whole tag entry.event

  -- what was read is the same with an event of another subject
  pub read_apart : (tag : List ℕ) (by older : History) (entry : PlainEntry) →
      is_module tag (subject entry.event) ≡ false →
      is_read by tag (entry ∷ older) ≡ (reads by tag entry.event || is_read by tag older)
  read_apart tag by older entry apart =
      ap (λ own. cond (own && is_moving entry.event) false (reads by tag entry.event || is_read by tag older)) apart

  -- and with one of the module
  pub read_own : (tag : List ℕ) (by older : History) (entry : PlainEntry) → is_module tag (subject entry.event) ≡ true →
      is_read by tag (entry ∷ older) ≡ cond (is_moving entry.event) false (is_read by tag older)
  read_own tag by older entry own =
      ap (λ own. cond (own && is_moving entry.event) false (reads by tag entry.event || is_read by tag older)) own
      ∙ ap (λ reading. cond (is_moving entry.event) false (reading || is_read by tag older))
      (own_reads_none by tag entry.event own)

  -- ---- marks

  -- what an event of the module says passes just where it stays
  abbrev pub PassesAsItStays : {A : Type 0} → List ℕ → (PlainEvent → Option A) → (A → Bool → List (Mark A) → Bool) →
      Type 0
  PassesAsItStays {A} tag says passes =
      (older : History) (newer : List PlainEntry) (event : PlainEvent) (x : A) → is_module tag (subject event) ≡ true →
      is_replaced tag newer ≡ false → says event ≡ Some x →
      stays_between whole older newer event ≡ passes x (is_read whole tag older) (marks_of whole tag says newer)

  -- the marks of what stays are those that stay of all marks
  marks_kept : {A : Type 0} (tag : List ℕ) (says : PlainEvent → Option A) (passes : A → Bool → List (Mark A) → Bool) →
      PassesAsItStays tag says passes → (older : History) (newer : List PlainEntry) →
      is_replaced tag newer ≡ false → AllByRecursion ReadsSame newer →
      marks_of again tag says (kept_from whole older newer)
      ≡ thin passes (is_read whole tag older) (marks_of whole tag says newer)
  marks_kept tag says passes fits older [] later same = refl
  marks_kept {A} tag says passes fits older (entry ∷ newer) later same =
      go (is_module tag (subject entry.event)) (is_moving entry.event) refl refl
      (marks_kept tag says passes fits (entry ∷ older) newer parts.1 same.1)
    where
      parts : (replaces tag entry.event ≡ false) × (is_replaced tag newer ≡ false)
      parts = or_parts (replaces tag entry.event) (is_replaced tag newer) later

      stay : Bool
      stay = stays_between whole older newer entry.event

      rest : List PlainEntry
      rest = kept_from whole (entry ∷ older) newer

      was_read : Bool
      was_read = is_read whole tag older

      marks : List (Mark A)
      marks = marks_of whole tag says newer

      -- with the marks that the entry has by both histories
      by_marks : (one other : Option (Mark A)) → mark_of whole tag says entry.event ≡ one →
          mark_of again tag says entry.event ≡ other →
          marks_of again tag says (kept_before stay entry rest)
          ≡ cond stay (cons_option other (marks_of again tag says rest)) (marks_of again tag says rest)
      by_marks one other is also = which stay
        where
          which : (stay : Bool) → marks_of again tag says (kept_before stay entry rest)
              ≡ cond stay (cons_option other (marks_of again tag says rest)) (marks_of again tag says rest)
          which true = ap (λ mark. cons_option mark (marks_of again tag says rest)) also
          which false = refl

      -- where the entry is at most a look
      looked : (reading : Bool) → reads whole tag entry.event ≡ reading →
          marks_of again tag says rest ≡ thin passes (reading || was_read) marks →
          cond stay (cons_option (cond reading (Some read) None) (marks_of again tag says rest))
          (marks_of again tag says rest)
          ≡ thin passes was_read (cons_option (cond reading (Some read) None) marks)
      looked true is now =
          ap (λ stay. cond stay (read ∷ marks_of again tag says rest) (marks_of again tag says rest))
          (reads_stays whole older newer tag entry.event is) ∙ ap (λ marks. read ∷ marks) now
      looked false is now = either (marks_of again tag says rest) stay ∙ now

      -- where it says something, or nothing
      said : (found : Option A) → says entry.event ≡ found → is_module tag (subject entry.event) ≡ true →
          marks_of again tag says rest ≡ thin passes was_read marks →
          cond stay (cons_option (option_map told found) (marks_of again tag says rest)) (marks_of again tag says rest)
          ≡ thin passes was_read (cons_option (option_map told found) marks)
      said None is own now = either (marks_of again tag says rest) stay ∙ now
      said (Some x) is own now =
          ap (λ stay. cond stay (told x ∷ marks_of again tag says rest) (marks_of again tag says rest))
          (fits older newer entry.event x own parts.1 is)
          ∙ ap (λ others. cond (passes x was_read marks) (told x ∷ others) others) now

      go : (own moving : Bool) → is_module tag (subject entry.event) ≡ own → is_moving entry.event ≡ moving →
          marks_of again tag says rest ≡ thin passes (is_read whole tag (entry ∷ older)) marks →
          marks_of again tag says (kept_before stay entry rest)
          ≡ thin passes was_read (marks_of whole tag says (entry ∷ newer))
      go false moving apart is now =
          by_marks (cond (reads whole tag entry.event) (Some read) None)
          (cond (reads whole tag entry.event) (Some read) None) (apart_mark whole tag says entry.event apart)
          (apart_mark again tag says entry.event apart ∙ ap (λ reading. cond reading (Some read) None) (same.0 tag))
          ∙ looked (reads whole tag entry.event) refl
          (now ∙ ap (λ found. thin passes found marks) (read_apart tag whole older entry apart))
          ∙ sym (ap (λ mark. thin passes was_read (cons_option mark marks))
          (apart_mark whole tag says entry.event apart))
      go true true own is now =
          by_marks (Some moved) (Some moved) (moved_mark whole tag says entry.event own is)
          (moved_mark again tag says entry.event own is)
          ∙ ap (λ stay. cond stay (moved ∷ marks_of again tag says rest) (marks_of again tag says rest))
          (moves_stays whole older newer tag entry.event own is parts.0 parts.1)
          ∙ ap (λ marks. moved ∷ marks) (now ∙ ap (λ found. thin passes found marks)
          (read_own tag whole older entry own ∙ ap (λ moving. cond moving false was_read) is))
          ∙ sym (ap (λ mark. thin passes was_read (cons_option mark marks))
          (moved_mark whole tag says entry.event own is))
      go true false own is now =
          by_marks (option_map told (says entry.event)) (option_map told (says entry.event))
          (own_mark whole tag says entry.event own is) (own_mark again tag says entry.event own is)
          ∙ said (says entry.event) refl own (now ∙ ap (λ found. thin passes found marks)
          (read_own tag whole older entry own ∙ ap (λ moving. cond moving false was_read) is))
          ∙ sym (ap (λ mark. thin passes was_read (cons_option mark marks))
          (own_mark whole tag says entry.event own is))

  -- a report passes as it stays
  pub report_fits : (tag service : List ℕ) → PassesAsItStays tag (reported service) report_passes
  report_fits tag service older newer (report at other name control) x own later says =
      let same = report_says name service control x says in
      ap (λ tag. not (is_replaced tag newer) && report_stays control.state (is_read whole tag older)
      (marks_of whole tag (reported name) newer)) (same_true other tag own)
      ∙ ap (λ replaced. not replaced && report_stays control.state (is_read whole tag older)
      (marks_of whole tag (reported name) newer)) later
      ∙ ap (λ name. report_stays control.state (is_read whole tag older) (marks_of whole tag (reported name) newer))
      same.0
      ∙ ap (λ (control : ServiceControl). report_stays control.state (is_read whole tag older)
      (marks_of whole tag (reported service) newer)) same.1
  report_fits tag service older newer _ x own later says = cc

  -- and so does a value
  pub value_fits : (tag name : List ℕ) → PassesAsItStays tag (reported_value name) value_passes
  value_fits tag name older newer (variable at other called value) x own later says =
      ap (λ tag. not (is_replaced tag newer) && value_stays (marks_of whole tag (reported_value called) newer))
      (same_true other tag own)
      ∙ ap (λ replaced. not replaced && value_stays (marks_of whole tag (reported_value called) newer)) later
      ∙ ap (λ name. value_stays (marks_of whole tag (reported_value name) newer)) (value_says called name value x says)
  value_fits tag name older newer _ x own later says = cc

  -- ---- what was read

  -- where the module isn't replaced later it isn't there, or was read by what stayed as by all entries
  abbrev pub ReadAlong : List ℕ → History → History → List PlainEntry → Type 0
  ReadAlong tag older kept newer = is_replaced tag newer ≡ false →
      (docking_by (past tag older) ≡ absent) ⊎ (is_read again tag kept ≡ is_read whole tag older)

  -- an event of another subject
  read_other : (tag : List ℕ) (older kept : History) (entry : PlainEntry) (newer : List PlainEntry) →
      ReadsSame entry → is_module tag (subject entry.event) ≡ false → (stay : Bool) →
      stays_between whole older newer entry.event ≡ stay → is_read again tag kept ≡ is_read whole tag older →
      is_read again tag (cond stay (entry ∷ kept) kept) ≡ is_read whole tag (entry ∷ older)
  read_other tag older kept entry newer same apart true is before =
      read_apart tag again kept entry apart
      ∙ ap (λ reading. reading || is_read again tag kept) (same tag)
      ∙ ap (λ found. reads whole tag entry.event || found) before
      ∙ sym (read_apart tag whole older entry apart)
  read_other tag older kept entry newer same apart false is before =
      before ∙ sym (read_apart tag whole older entry apart
      ∙ ap (λ reading. reading || is_read whole tag older) (none (reads whole tag entry.event) refl))
    where
      none : (reading : Bool) → reads whole tag entry.event ≡ reading → reads whole tag entry.event ≡ false
      none false reading = reading
      none true reading =
          let clash : false ≡ true = sym is ∙ reads_stays whole older newer tag entry.event reading in cc

  -- after an event that moves the module nothing has read it
  pub read_none : (tag : List ℕ) (by history : History) (entry : PlainEntry) →
      is_module tag (subject entry.event) ≡ true → is_moving entry.event ≡ true →
      is_read by tag (entry ∷ history) ≡ false
  read_none tag by history entry own moving =
      read_own tag by history entry own ∙ ap (λ moving. cond moving false (is_read by tag history)) moving

  -- so it is the same by both
  pub read_both : (tag : List ℕ) (older kept : History) (entry : PlainEntry) (newer : List PlainEntry) →
      is_module tag (subject entry.event) ≡ true → is_moving entry.event ≡ true → (stay : Bool) → stay ≡ true →
      is_read again tag (cond stay (entry ∷ kept) kept) ≡ is_read whole tag (entry ∷ older)
  read_both tag older kept entry newer own moving true is =
      read_none tag again kept entry own moving ∙ sym (read_none tag whole older entry own moving)
  read_both tag older kept entry newer own moving false is = cc

  -- an event that moves the module
  read_moved : (tag : List ℕ) (older kept : History) (event : PlainEvent) (answer : Answer)
      (newer : List PlainEntry) → IsNext older (paired event answer) → is_module tag (subject event) ≡ true →
      is_moving event ≡ true →
      ReadAlong tag (paired event answer ∷ older)
      (cond (stays_between whole older newer event) (paired event answer ∷ kept) kept) newer
  read_moved tag older kept (plug at other description) answer newer next own moving later =
      inr (read_both tag older kept (paired (plug at other description) answer) newer own refl
      (not (is_replaced other newer))
      (ap (λ name. not (is_replaced name newer)) (same_true other tag own) ∙ ap not later))
  read_moved tag older kept (unplug at other) answer newer next own moving later =
      inl (ap docking_by (own_past older (paired (unplug at other) answer) tag own next.accepted))
  read_moved tag older kept (exchange_begin at other) answer newer next own moving later =
      inr (read_both tag older kept (paired (exchange_begin at other) answer) newer own refl
      (not (is_replaced other newer))
      (ap (λ name. not (is_replaced name newer)) (same_true other tag own) ∙ ap not later))
  read_moved tag older kept (exchange_end at other ticket description) answer newer next own moving later =
      inr (read_both tag older kept (paired (exchange_end at other ticket description) answer) newer own refl
      (not (is_replaced other newer))
      (ap (λ name. not (is_replaced name newer)) (same_true other tag own) ∙ ap not later))
  read_moved tag older kept (exchange_cancel at other ticket) answer newer next own moving later =
      inr (read_both tag older kept (paired (exchange_cancel at other ticket) answer) newer own refl
      (not (is_replaced other newer))
      (ap (λ name. not (is_replaced name newer)) (same_true other tag own) ∙ ap not later))
  read_moved tag older kept _ answer newer next own moving later = cc

  -- a plug moves its module, and an event that moves none replaces none
  pub still_plugs : {A : Type 0} (event : PlainEvent) → is_moving event ≡ false → is_plug event ≡ true → A
  still_plugs (plug at tag description) still plugs = cc
  still_plugs _ still plugs = cc

  pub still_replaces : (event : PlainEvent) → is_moving event ≡ false → is_replacing event ≡ false
  still_replaces (plug at tag description) still = cc
  still_replaces (unplug at tag) still = cc
  still_replaces _ still = refl

  -- an event of the module that doesn't move it
  pub read_still : (tag : List ℕ) (older kept : History) (entry : PlainEntry) →
      is_module tag (subject entry.event) ≡ true → is_moving entry.event ≡ false → (stay : Bool) →
      is_read again tag kept ≡ is_read whole tag older →
      is_read again tag (cond stay (entry ∷ kept) kept) ≡ is_read whole tag (entry ∷ older)
  read_still tag older kept entry own still stay before = which stay ∙ before ∙ sym (same whole older)
    where
      same : (by history : History) → is_read by tag (entry ∷ history) ≡ is_read by tag history
      same by history = read_own tag by history entry own
          ∙ ap (λ moving. cond moving false (is_read by tag history)) still

      which : (stay : Bool) → is_read again tag (cond stay (entry ∷ kept) kept) ≡ is_read again tag kept
      which true = same again kept
      which false = refl

  -- what was read after the next entry
  read_then : (tag : List ℕ) (older kept : History) (entry : PlainEntry) (newer : List PlainEntry) →
      IsNext older entry → ReadsSame entry → ReadAlong tag older kept (entry ∷ newer) →
      ReadAlong tag (entry ∷ older) (cond (stays_between whole older newer entry.event) (entry ∷ kept) kept) newer
  read_then tag older kept entry newer next same before later =
      go (is_module tag (subject entry.event)) (is_moving entry.event) refl refl
    where
      stay : Bool
      stay = stays_between whole older newer entry.event

      apart_then : is_module tag (subject entry.event) ≡ false →
          (docking_by (past tag older) ≡ absent) ⊎ (is_read again tag kept ≡ is_read whole tag older) →
          (docking_by (past tag (entry ∷ older)) ≡ absent)
          ⊎ (is_read again tag (cond stay (entry ∷ kept) kept) ≡ is_read whole tag (entry ∷ older))
      apart_then apart (inl away) = inl (ap docking_by (apart_past older entry tag apart) ∙ away)
      apart_then apart (inr found) = inr (read_other tag older kept entry newer same apart stay refl found)

      still_then : is_module tag (subject entry.event) ≡ true → is_moving entry.event ≡ false →
          (docking_by (past tag older) ≡ absent) ⊎ (is_read again tag kept ≡ is_read whole tag older) →
          (docking_by (past tag (entry ∷ older)) ≡ absent)
          ⊎ (is_read again tag (cond stay (entry ∷ kept) kept) ≡ is_read whole tag (entry ∷ older))
      still_then own still (inl away) =
          still_plugs entry.event still (absent_plugs older entry.event tag own (next_free older entry next) away)
      still_then own still (inr found) = inr (read_still tag older kept entry own still stay found)

      go : (own moving : Bool) → is_module tag (subject entry.event) ≡ own → is_moving entry.event ≡ moving →
          (docking_by (past tag (entry ∷ older)) ≡ absent)
          ⊎ (is_read again tag (cond stay (entry ∷ kept) kept) ≡ is_read whole tag (entry ∷ older))
      go false moving apart is = apart_then apart (before (apart_replaced tag entry newer apart ∙ later))
      go true true own is = read_moved tag older kept entry.event entry.answer newer next own is later
      go true false own still =
          still_then own still (before (unreplaced tag entry newer (still_replaces entry.event still) ∙ later))

  -- ---- all entries

  -- an event that stays does so again
  stays_again : (older kept : History) (event : PlainEvent) (answer : Answer) (newer : List PlainEntry) →
      NoneHolds (rules older event) → AllByRecursion ReadsSame newer →
      ((tag : List ℕ) → ReadAlong tag older kept (paired event answer ∷ newer)) →
      stays_between whole older newer event ≡ true →
      stays_between again kept (kept_from whole (paired event answer ∷ older) newer) event ≡ true
  stays_again older kept (unplug at tag) answer newer none same along is = cc
  stays_again older kept (plug at tag description) answer newer none same along is =
      ap not (kept_unreplaced tag whole (paired (plug at tag description) answer ∷ older) newer
      (not_parts (is_replaced tag newer) is))
  stays_again older kept (exchange_begin at tag) answer newer none same along is =
      ap not (kept_unreplaced tag whole (paired (exchange_begin at tag) answer ∷ older) newer
      (not_parts (is_replaced tag newer) is))
  stays_again older kept (exchange_end at tag ticket description) answer newer none same along is =
      ap not (kept_unreplaced tag whole (paired (exchange_end at tag ticket description) answer ∷ older) newer
      (not_parts (is_replaced tag newer) is))
  stays_again older kept (exchange_cancel at tag ticket) answer newer none same along is =
      ap not (kept_unreplaced tag whole (paired (exchange_cancel at tag ticket) answer ∷ older) newer
      (not_parts (is_replaced tag newer) is))
  stays_again older kept (report at tag service control) answer newer none same along is =
      ap (λ replaced. not replaced && report_stays control.state (is_read again tag kept)
      (marks_of again tag (reported service) rest)) (kept_unreplaced tag whole (entry ∷ older) newer later)
      ∙ ap (λ found. report_stays control.state found (marks_of again tag (reported service) rest))
      (was_read (along tag (unreplaced tag entry newer refl ∙ later)))
      ∙ ap (report_stays control.state (is_read whole tag older))
      (marks_kept tag (reported service) report_passes (report_fits tag service) (entry ∷ older) newer later same
      ∙ ap (λ found. thin report_passes found (marks_of whole tag (reported service) newer))
      (read_own tag whole older entry (same_refl tag)))
      ∙ report_again control.state (is_read whole tag older) (marks_of whole tag (reported service) newer) parts.1
    where
      entry : PlainEntry
      entry = paired (report at tag service control) answer

      rest : List PlainEntry
      rest = kept_from whole (entry ∷ older) newer

      parts : (not (is_replaced tag newer) ≡ true)
          × (report_stays control.state (is_read whole tag older) (marks_of whole tag (reported service) newer) ≡ true)
      parts = and_parts (not (is_replaced tag newer)) (report_stays control.state (is_read whole tag older)
          (marks_of whole tag (reported service) newer)) is

      later : is_replaced tag newer ≡ false
      later = not_parts (is_replaced tag newer) parts.0

      was_read : (docking_by (past tag older) ≡ absent) ⊎ (is_read again tag kept ≡ is_read whole tag older) →
          is_read again tag kept ≡ is_read whole tag older
      was_read (inl away) = absurd (there_by_rule tag (docking_by (past tag older)) none.0 away)
      was_read (inr found) = found
  stays_again older kept (variable at tag name value) answer newer none same along is =
      ap (λ replaced. not replaced && value_stays (marks_of again tag (reported_value name) rest))
      (kept_unreplaced tag whole (entry ∷ older) newer later)
      ∙ ap value_stays (marks_kept tag (reported_value name) value_passes (value_fits tag name) (entry ∷ older) newer
      later same)
      ∙ value_again (is_read whole tag (entry ∷ older)) (marks_of whole tag (reported_value name) newer) parts.1
    where
      entry : PlainEntry
      entry = paired (variable at tag name value) answer

      rest : List PlainEntry
      rest = kept_from whole (entry ∷ older) newer

      parts : (not (is_replaced tag newer) ≡ true)
          × (value_stays (marks_of whole tag (reported_value name) newer) ≡ true)
      parts = and_parts (not (is_replaced tag newer)) (value_stays (marks_of whole tag (reported_value name) newer)) is

      later : is_replaced tag newer ≡ false
      later = not_parts (is_replaced tag newer) parts.0
  stays_again older kept _ answer newer none same along is = refl

  -- so of what stays nothing goes
  pub again_kept : (older kept : History) (newer : List PlainEntry) → Follows whole older newer →
      AllByRecursion ReadsSame newer → ((tag : List ℕ) → ReadAlong tag older kept newer) →
      kept_from again kept (kept_from whole older newer) ≡ kept_from whole older newer
  again_kept older kept [] follows same along = refl
  again_kept older kept (entry ∷ newer) (next, follows) same along =
      go (stays_between whole older newer entry.event) refl
      (again_kept (entry ∷ older) (cond (stays_between whole older newer entry.event) (entry ∷ kept) kept) newer follows
      same.1 (λ tag. read_then tag older kept entry newer next same.0 (along tag)))
    where
      rest : List PlainEntry
      rest = kept_from whole (entry ∷ older) newer

      go : (stay : Bool) → stays_between whole older newer entry.event ≡ stay →
          kept_from again (cond (stays_between whole older newer entry.event) (entry ∷ kept) kept) rest ≡ rest →
          kept_from again kept (kept_before stay entry rest) ≡ kept_before stay entry rest
      go true is now =
          ap (λ stay. kept_before stay entry (kept_from again (entry ∷ kept) rest))
          (stays_again older kept entry.event entry.answer newer (next_free older entry next) same.1 along is)
          ∙ ap (λ others. entry ∷ others)
          (sym (ap (λ stay. kept_from again (cond stay (entry ∷ kept) kept) rest) is) ∙ now)
      go false is now = sym (ap (λ stay. kept_from again (cond stay (entry ∷ kept) kept) rest) is) ∙ now
