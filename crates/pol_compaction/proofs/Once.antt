-- Compacting once more after later entries, entry by entry.
use Rattle.std.proofs.Common.{◌≡◌, ℕ, Bool, true, false, cond, not, List, [], ◌∷◌, ◌++◌, refl, ap, sym, ◌∙◌, ◌⊎◌, inl}
use Rattle.std.proofs.Common.{inr}
use Rattle.std.specs.Prelude.{◌&&◌, ◌||◌}
use Rattle.std.specs.List.{AllByRecursion}
use Rattle.std.proofs.lemmas.Bool.{and_parts, and_right, or_right}
use Rattle.mtp_codes.proofs.Names.{same_true, same_refl}
use Rattle.pol_events.specs.Events.{PlainEvent, plug, unplug, report, variable, exchange_begin, exchange_end}
use Rattle.pol_events.specs.Events.{exchange_cancel, PlainEntry}
use Rattle.pol_events.specs.declared.answer.Answer.{Answer}
use Rattle.pol_history.specs.Looking.{History, subject, is_module, past}
use Rattle.pol_history.specs.Modules.{absent, docking_by, is_moving, reported, reported_value}
use Rattle.pol_history.specs.Answers.{rules}
use Rattle.pol_history.proofs.Accepted.{NoneHolds, paired}
use Rattle.pol_compaction.specs.Lasting.{is_lasting}
use Rattle.pol_compaction.specs.Reading.{is_replaced, reads, is_read}
use Rattle.pol_compaction.specs.Marks.{marks_of, report_stays, value_stays}
use Rattle.pol_compaction.specs.Compaction.{stays_between, kept_before, kept_from}
use Rattle.pol_compaction.proofs.Again.{not_parts}
use Rattle.pol_compaction.proofs.Along.{unreplaced, apart_replaced}
use Rattle.pol_compaction.proofs.Follows.{IsNext, Follows, next_free, own_past, apart_past}
use Rattle.pol_compaction.proofs.Keeping.{absent_plugs}
use Rattle.pol_compaction.proofs.More.{Old, SameLater, lasts_in, by_short, by_last, signs_of, marks_before, marks_later}
use Rattle.pol_compaction.proofs.More.{kept_later, marks_same, replaced_same, replaced_by}
use Rattle.pol_compaction.proofs.Signs.{later, goes_later, same_later, value_goes_later, value_same_later}
use Rattle.pol_compaction.proofs.Thin.{report_passes, value_passes}
use Rattle.pol_compaction.proofs.Twice.{reads_stays, read_own, read_apart, report_fits, value_fits, read_none}
use Rattle.pol_compaction.proofs.Twice.{read_both, read_still, still_plugs, still_replaces}

-- what isn't not true is
not_false : (test : Bool) → not test ≡ false → test ≡ true
not_false true is = refl
not_false false is = cc

module _ (whole last short : History) where
  -- what was read at the later time was read at the earlier one
  abbrev pub ReadLess : List ℕ → History → History → Type 0
  ReadLess tag older now = is_read last tag now ≡ true → is_read whole tag older ≡ true

  -- where the module isn't replaced by these it isn't there, or was read by what stayed as by all
  abbrev pub ReadLater : List ℕ → History → History → History → List PlainEntry → Type 0
  ReadLater tag older now kept newer = is_replaced tag newer ≡ false →
      (docking_by (past tag older) ≡ absent) ⊎ (is_read short tag kept ≡ is_read last tag now)

  -- a module that is there was read the same
  there_read : (tag : List ℕ) (older now kept : History) (entry : PlainEntry) (newer : List PlainEntry) →
      NoneHolds (rules older entry.event) → is_module tag (subject entry.event) ≡ true →
      is_moving entry.event ≡ false → is_replaced tag newer ≡ false →
      ReadLater tag older now kept (entry ∷ newer) → is_read short tag kept ≡ is_read last tag now
  there_read tag older now kept entry newer none own still later read =
      go (read (unreplaced tag entry newer (still_replaces last short entry.event still) ∙ later))
    where
      go : (docking_by (past tag older) ≡ absent) ⊎ (is_read short tag kept ≡ is_read last tag now) →
          is_read short tag kept ≡ is_read last tag now
      go (inl away) =
          still_plugs last short entry.event still (absent_plugs older entry.event tag own none away)
      go (inr same) = same

  -- ---- before the later time

  -- an entry that stayed is decided the same
  decided : (older now kept : History) (event : PlainEvent) (answer : Answer) (newer others : List PlainEntry) →
      NoneHolds (rules older event) → AllByRecursion (Old whole last short) newer →
      AllByRecursion (SameLater whole last short) others →
      ((tag : List ℕ) → ReadLater tag older now kept (paired event answer ∷ newer)) →
      ((tag : List ℕ) → ReadLess tag older now) → stays_between whole older newer event ≡ true →
      stays_between short kept (by_short whole last short (paired event answer ∷ older) newer others) event
      ≡ stays_between last now (by_last whole last short newer others) event
  decided older now kept (unplug at tag) answer newer others none old same read less is = refl
  decided older now kept (plug at tag description) answer newer others none old same read less is =
      ap not (replaced_same whole last short tag (paired (plug at tag description) answer ∷ older) newer others old
      (not_parts (is_replaced tag newer) is))
  decided older now kept (exchange_begin at tag) answer newer others none old same read less is =
      ap not (replaced_same whole last short tag (paired (exchange_begin at tag) answer ∷ older) newer others old
      (not_parts (is_replaced tag newer) is))
  decided older now kept (exchange_end at tag ticket description) answer newer others none old same read less is =
      ap not (replaced_same whole last short tag (paired (exchange_end at tag ticket description) answer ∷ older) newer
      others old (not_parts (is_replaced tag newer) is))
  decided older now kept (exchange_cancel at tag ticket) answer newer others none old same read less is =
      ap not (replaced_same whole last short tag (paired (exchange_cancel at tag ticket) answer ∷ older) newer others
      old (not_parts (is_replaced tag newer) is))
  decided older now kept (report at tag service control) answer newer others none old same read less is =
      ap (λ replaced. not replaced && report_stays control.state (is_read short tag kept)
      (marks_of short tag (reported service) (by_short whole last short (entry ∷ older) newer others)))
      (replaced_same whole last short tag (entry ∷ older) newer others old still)
      ∙ ap (λ stays. not (is_replaced tag (by_last whole last short newer others)) && stays) (
      ap (λ found. report_stays control.state found
      (marks_of short tag (reported service) (by_short whole last short (entry ∷ older) newer others)))
      (there_read tag older now kept entry newer none (same_refl tag) refl still (read tag))
      ∙ ap (report_stays control.state (is_read last tag now))
      (kept_later whole last short tag (reported service) report_passes (report_fits whole short tag service)
      (entry ∷ older) newer others still old same)
      ∙ same_later control.state (is_read whole tag (entry ∷ older)) (is_read last tag now)
      (signs_of whole last tag (reported service) newer) (marks_of last tag (reported service) others)
      (λ now_read. read_own whole short tag whole older entry (same_refl tag) ∙ less tag now_read)
      ∙ ap (report_stays control.state (is_read last tag now))
      (sym (marks_later whole last short tag (reported service) newer others old)))
    where
      entry : PlainEntry
      entry = paired (report at tag service control) answer

      still : is_replaced tag newer ≡ false
      still = not_parts (is_replaced tag newer) (and_parts (not (is_replaced tag newer))
          (report_stays control.state (is_read whole tag older) (marks_of whole tag (reported service) newer)) is).0
  decided older now kept (variable at tag name value) answer newer others none old same read less is =
      ap (λ replaced. not replaced
      && value_stays (marks_of short tag (reported_value name)
      (by_short whole last short (entry ∷ older) newer others)))
      (replaced_same whole last short tag (entry ∷ older) newer others old still)
      ∙ ap (λ stays. not (is_replaced tag (by_last whole last short newer others)) && stays) (
      ap value_stays (kept_later whole last short tag (reported_value name) value_passes
      (value_fits whole short tag name) (entry ∷ older) newer others still old same)
      ∙ value_same_later (is_read whole tag (entry ∷ older)) (signs_of whole last tag (reported_value name) newer)
      (marks_of last tag (reported_value name) others)
      ∙ ap value_stays (sym (marks_later whole last short tag (reported_value name) newer others old)))
    where
      entry : PlainEntry
      entry = paired (variable at tag name value) answer

      still : is_replaced tag newer ≡ false
      still = not_parts (is_replaced tag newer) (and_parts (not (is_replaced tag newer))
          (value_stays (marks_of whole tag (reported_value name) newer)) is).0
  decided older now kept _ answer newer others none old same read less is = refl

  -- a module that is replaced before the later time is so then
  then_replaced : (tag : List ℕ) (newer others : List PlainEntry) → AllByRecursion (Old whole last short) newer →
      not (is_replaced tag newer) ≡ false → not (is_replaced tag (by_last whole last short newer others)) ≡ false
  then_replaced tag newer others old is =
      ap not (replaced_by whole last short tag newer others old (not_false (is_replaced tag newer) is))

  -- an entry that went goes
  goes : (older now : History) (event : PlainEvent) (newer others : List PlainEntry) →
      AllByRecursion (Old whole last short) newer → ((tag : List ℕ) → ReadLess tag older now) →
      stays_between whole older newer event ≡ false →
      stays_between last now (by_last whole last short newer others) event ≡ false
  goes older now (unplug at tag) newer others old less is = refl
  goes older now (plug at tag description) newer others old less is = then_replaced tag newer others old is
  goes older now (exchange_begin at tag) newer others old less is = then_replaced tag newer others old is
  goes older now (exchange_end at tag ticket description) newer others old less is =
      then_replaced tag newer others old is
  goes older now (exchange_cancel at tag ticket) newer others old less is = then_replaced tag newer others old is
  goes older now (report at tag service control) newer others old less is = go (is_replaced tag newer) refl
    where
      stays : Bool
      stays = report_stays control.state (is_read last tag now)
          (marks_of last tag (reported service) (by_last whole last short newer others))

      go : (replaced : Bool) → is_replaced tag newer ≡ replaced →
          (not (is_replaced tag (by_last whole last short newer others)) && stays) ≡ false
      go true replaced =
          ap (λ replaced. not replaced && stays) (replaced_by whole last short tag newer others old replaced)
      go false still = and_right (not (is_replaced tag (by_last whole last short newer others))) stays
          (ap (report_stays control.state (is_read last tag now))
          (marks_later whole last short tag (reported service) newer others old)
          ∙ goes_later control (is_read whole tag older) (is_read last tag now)
          (signs_of whole last tag (reported service) newer) (marks_of last tag (reported service) others) (less tag)
          (ap (report_stays control.state (is_read whole tag older))
          (marks_before whole last tag (reported service) newer)
          ∙ sym (ap (λ replaced. not replaced && report_stays control.state (is_read whole tag older)
          (marks_of whole tag (reported service) newer)) still) ∙ is))
  goes older now (variable at tag name value) newer others old less is = go (is_replaced tag newer) refl
    where
      stays : Bool
      stays = value_stays (marks_of last tag (reported_value name) (by_last whole last short newer others))

      go : (replaced : Bool) → is_replaced tag newer ≡ replaced →
          (not (is_replaced tag (by_last whole last short newer others)) && stays) ≡ false
      go true replaced =
          ap (λ replaced. not replaced && stays) (replaced_by whole last short tag newer others old replaced)
      go false still = and_right (not (is_replaced tag (by_last whole last short newer others))) stays
          (ap value_stays (marks_later whole last short tag (reported_value name) newer others old)
          ∙ value_goes_later (signs_of whole last tag (reported_value name) newer)
          (marks_of last tag (reported_value name) others)
          (ap value_stays (marks_before whole last tag (reported_value name) newer)
          ∙ sym (ap (λ replaced. not replaced
          && value_stays (marks_of whole tag (reported_value name) newer)) still) ∙ is))
  goes older now _ newer others old less is = cc

  -- ---- after it

  -- an entry of later is decided the same
  decided_later : (now kept : History) (event : PlainEvent) (answer : Answer) (others : List PlainEntry) →
      NoneHolds (rules now event) → AllByRecursion (SameLater whole last short) others →
      ((tag : List ℕ) → ReadLater tag now now kept (paired event answer ∷ others)) →
      stays_between short kept others event ≡ stays_between last now others event
  decided_later now kept (report at tag service control) answer others none same read = go (is_replaced tag others) refl
    where
      go : (replaced : Bool) → is_replaced tag others ≡ replaced →
          (not replaced && report_stays control.state (is_read short tag kept)
          (marks_of short tag (reported service) others))
          ≡ (not replaced && report_stays control.state (is_read last tag now)
          (marks_of last tag (reported service) others))
      go true replaced = refl
      go false still =
          ap (λ found. report_stays control.state found (marks_of short tag (reported service) others))
          (there_read tag now now kept (paired (report at tag service control) answer) others none (same_refl tag) refl
          still (read tag))
          ∙ ap (report_stays control.state (is_read last tag now))
          (marks_same whole last short tag (reported service) others same)
  decided_later now kept (variable at tag name value) answer others none same read =
      ap (λ marks. not (is_replaced tag others) && value_stays marks)
      (marks_same whole last short tag (reported_value name) others same)
  decided_later now kept (plug at tag description) answer others none same read = refl
  decided_later now kept (unplug at tag) answer others none same read = refl
  decided_later now kept (exchange_begin at tag) answer others none same read = refl
  decided_later now kept (exchange_end at tag ticket description) answer others none same read = refl
  decided_later now kept (exchange_cancel at tag ticket) answer others none same read = refl
  decided_later now kept _ answer others none same read = refl

  -- what was read, with the same entry in both
  read_with : (tag : List ℕ) (now kept : History) (entry : PlainEntry) (others : List PlainEntry) →
      IsNext now entry → SameLater whole last short entry → ReadLater tag now now kept (entry ∷ others) →
      ReadLater tag (entry ∷ now) (entry ∷ now) (entry ∷ kept) others
  read_with tag now kept entry others next same read later =
      go (is_module tag (subject entry.event)) (is_moving entry.event) refl refl
    where
      apart_then : is_module tag (subject entry.event) ≡ false →
          (docking_by (past tag now) ≡ absent) ⊎ (is_read short tag kept ≡ is_read last tag now) →
          (docking_by (past tag (entry ∷ now)) ≡ absent)
          ⊎ (is_read short tag (entry ∷ kept) ≡ is_read last tag (entry ∷ now))
      apart_then apart (inl away) = inl (ap docking_by (apart_past now entry tag apart) ∙ away)
      apart_then apart (inr found) =
          inr (read_apart last short tag short kept entry apart
          ∙ ap (λ reading. reading || is_read short tag kept) (same tag)
          ∙ ap (λ found. reads last tag entry.event || found) found
          ∙ sym (read_apart last short tag last now entry apart))

      go : (own moving : Bool) → is_module tag (subject entry.event) ≡ own → is_moving entry.event ≡ moving →
          (docking_by (past tag (entry ∷ now)) ≡ absent)
          ⊎ (is_read short tag (entry ∷ kept) ≡ is_read last tag (entry ∷ now))
      go false moving apart is = apart_then apart (read (apart_replaced tag entry others apart ∙ later))
      go true true own moving = inr (read_none last short tag short kept entry own moving
          ∙ sym (read_none last short tag last now entry own moving))
      go true false own still = inr (read_still last short tag now kept entry own still true
          (there_read tag now now kept entry others (next_free now entry next) own still later read))

  -- so from there on the same stays
  pub same_rest : (now kept : History) (others : List PlainEntry) → Follows last now others →
      AllByRecursion (SameLater whole last short) others → ((tag : List ℕ) → ReadLater tag now now kept others) →
      kept_from short kept others ≡ kept_from last now others
  same_rest now kept [] follows same read = refl
  same_rest now kept (entry ∷ others) (next, follows) same read =
      ap (λ stay. kept_before stay entry (kept_from short (entry ∷ kept) others))
      (decided_later now kept entry.event entry.answer others (next_free now entry next) same.1 read)
      ∙ ap (kept_before (stays_between last now others entry.event) entry)
      (same_rest (entry ∷ now) (entry ∷ kept) others follows same.1
      (λ tag. read_with tag now kept entry others next same.0 (read tag)))

  -- ---- all entries

  -- an event that moves the module stays, or leaves it away
  moved_or_away : (tag : List ℕ) (older : History) (newer : List PlainEntry) (event : PlainEvent) →
      is_module tag (subject event) ≡ true → is_moving event ≡ true → is_replaced tag newer ≡ false →
      (stays_between whole older newer event ≡ true)
      ⊎ ((answer : Answer) (history : History) → docking_by (paired event answer ∷ history) ≡ absent)
  moved_or_away tag older newer (plug at other description) own moving later =
      inl (ap (λ name. not (is_replaced name newer)) (same_true other tag own) ∙ ap not later)
  moved_or_away tag older newer (unplug at other) own moving later = inr (λ answer history. refl)
  moved_or_away tag older newer (exchange_begin at other) own moving later =
      inl (ap (λ name. not (is_replaced name newer)) (same_true other tag own) ∙ ap not later)
  moved_or_away tag older newer (exchange_end at other ticket description) own moving later =
      inl (ap (λ name. not (is_replaced name newer)) (same_true other tag own) ∙ ap not later)
  moved_or_away tag older newer (exchange_cancel at other ticket) own moving later =
      inl (ap (λ name. not (is_replaced name newer)) (same_true other tag own) ∙ ap not later)
  moved_or_away tag older newer _ own moving later = cc

  -- what was read after an entry of before
  read_old : (tag : List ℕ) (older now kept : History) (entry : PlainEntry) (newer : List PlainEntry) →
      IsNext older entry → Old whole last short entry → ReadLater tag older now kept (entry ∷ newer) →
      ReadLater tag (entry ∷ older) (cond (is_lasting last entry) (entry ∷ now) now)
      (cond (stays_between whole older newer entry.event && is_lasting last entry) (entry ∷ kept) kept) newer
  read_old tag older now kept entry newer next old read later =
      by (is_lasting last entry) (stays_between whole older newer entry.event) (is_module tag (subject entry.event))
      (is_moving entry.event) refl refl refl refl
    where
      unread : stays_between whole older newer entry.event ≡ false → (reading : Bool) →
          reads whole tag entry.event ≡ reading → reads whole tag entry.event ≡ false
      unread stay false reading = reading
      unread stay true reading =
          let clash : false ≡ true = sym stay ∙ reads_stays whole older newer tag entry.event reading in cc

      apart_then : (lasts stay : Bool) → is_lasting last entry ≡ lasts →
          stays_between whole older newer entry.event ≡ stay → is_module tag (subject entry.event) ≡ false →
          (docking_by (past tag older) ≡ absent) ⊎ (is_read short tag kept ≡ is_read last tag now) →
          (docking_by (past tag (entry ∷ older)) ≡ absent)
          ⊎ (is_read short tag (cond (stay && lasts) (entry ∷ kept) kept)
          ≡ is_read last tag (cond lasts (entry ∷ now) now))
      apart_then lasts stay last_is stay_is apart (inl away) =
          inl (ap docking_by (apart_past older entry tag apart) ∙ away)
      apart_then true true last_is stay_is apart (inr found) =
          inr (read_apart last short tag short kept entry apart
          ∙ ap (λ reading. reading || is_read short tag kept)
          (old.short_reads last_is tag ∙ sym (old.last_reads last_is tag))
          ∙ ap (λ found. reads last tag entry.event || found) found
          ∙ sym (read_apart last short tag last now entry apart))
      apart_then true false last_is stay_is apart (inr found) =
          inr (found ∙ sym (read_apart last short tag last now entry apart
          ∙ ap (λ reading. reading || is_read last tag now)
          (old.last_reads last_is tag ∙ unread stay_is (reads whole tag entry.event) refl)))
      apart_then false true last_is stay_is apart (inr found) = inr found
      apart_then false false last_is stay_is apart (inr found) = inr found

      moved_then : (stay : Bool) → stays_between whole older newer entry.event ≡ stay →
          is_module tag (subject entry.event) ≡ true → is_moving entry.event ≡ true →
          (stays_between whole older newer entry.event ≡ true)
          ⊎ ((answer : Answer) (history : History) → docking_by (paired entry.event answer ∷ history) ≡ absent) →
          (docking_by (past tag (entry ∷ older)) ≡ absent)
          ⊎ (is_read short tag (cond (stay && true) (entry ∷ kept) kept) ≡ is_read last tag (entry ∷ now))
      moved_then stay stay_is own moving (inr away) =
          inl (ap docking_by (own_past older entry tag own next.accepted) ∙ away entry.answer (past tag older))
      moved_then true stay_is own moving (inl stays) =
          inr (read_both last short tag now kept entry newer own moving true refl)
      moved_then false stay_is own moving (inl stays) = let clash : false ≡ true = sym stay_is ∙ stays in cc

      still_then : (stay : Bool) → is_module tag (subject entry.event) ≡ true → is_moving entry.event ≡ false →
          (docking_by (past tag (entry ∷ older)) ≡ absent)
          ⊎ (is_read short tag (cond (stay && true) (entry ∷ kept) kept) ≡ is_read last tag (entry ∷ now))
      still_then true own still = inr (read_still last short tag now kept entry own still true
          (there_read tag older now kept entry newer (next_free older entry next) own still later read))
      still_then false own still = inr (read_still last short tag now kept entry own still false
          (there_read tag older now kept entry newer (next_free older entry next) own still later read))

      by : (lasts stay own moving : Bool) → is_lasting last entry ≡ lasts →
          stays_between whole older newer entry.event ≡ stay → is_module tag (subject entry.event) ≡ own →
          is_moving entry.event ≡ moving →
          (docking_by (past tag (entry ∷ older)) ≡ absent)
          ⊎ (is_read short tag (cond (stay && lasts) (entry ∷ kept) kept)
          ≡ is_read last tag (cond lasts (entry ∷ now) now))
      by lasts stay false moving last_is stay_is apart is =
          apart_then lasts stay last_is stay_is apart (read (apart_replaced tag entry newer apart ∙ later))
      by false stay true moving last_is stay_is own is =
          let clash : false ≡ true = sym last_is ∙ old.of_module tag own in cc
      by true stay true true last_is stay_is own moving =
          moved_then stay stay_is own moving (moved_or_away tag older newer entry.event own moving later)
      by true stay true false last_is stay_is own still = still_then stay own still

  -- what was read at the later time was read before
  less_old : (tag : List ℕ) (older now : History) (entry : PlainEntry) → Old whole last short entry →
      ReadLess tag older now → ReadLess tag (entry ∷ older) (cond (is_lasting last entry) (entry ∷ now) now)
  less_old tag older now entry old less =
      by (is_lasting last entry) (is_module tag (subject entry.event)) refl refl
    where
      either_read : (reading : Bool) → (reading || is_read last tag now) ≡ true →
          (reading || is_read whole tag older) ≡ true
      either_read true is = refl
      either_read false is = less is

      unmoved : (moving : Bool) → cond moving false (is_read last tag now) ≡ true →
          cond moving false (is_read whole tag older) ≡ true
      unmoved true is = cc
      unmoved false is = less is

      by : (lasts own : Bool) → is_lasting last entry ≡ lasts → is_module tag (subject entry.event) ≡ own →
          is_read last tag (cond lasts (entry ∷ now) now) ≡ true → is_read whole tag (entry ∷ older) ≡ true
      by true false last_is apart is =
          read_apart last short tag whole older entry apart
          ∙ either_read (reads whole tag entry.event)
          (ap (λ reading. reading || is_read last tag now) (sym (old.last_reads last_is tag))
          ∙ sym (read_apart last short tag last now entry apart) ∙ is)
      by true true last_is own is =
          read_own last short tag whole older entry own
          ∙ unmoved (is_moving entry.event) (sym (read_own last short tag last now entry own) ∙ is)
      by false false last_is apart is =
          read_apart last short tag whole older entry apart
          ∙ or_right (reads whole tag entry.event) (is_read whole tag older) (less is)
      by false true last_is own is = let clash : false ≡ true = sym last_is ∙ old.of_module tag own in cc

  -- each module has the same past at both times
  past_old : (tag : List ℕ) (older now : History) (entry : PlainEntry) → IsNext older entry →
      Old whole last short entry → past tag now ≡ past tag older →
      past tag (cond (is_lasting last entry) (entry ∷ now) now) ≡ past tag (entry ∷ older)
  past_old tag older now entry next old same =
      by (is_lasting last entry) (is_module tag (subject entry.event)) refl refl
    where
      by : (lasts own : Bool) → is_lasting last entry ≡ lasts → is_module tag (subject entry.event) ≡ own →
          past tag (cond lasts (entry ∷ now) now) ≡ past tag (entry ∷ older)
      by true true last_is own = own_past now entry tag own next.accepted ∙ ap (λ past. entry ∷ past) same
          ∙ sym (own_past older entry tag own next.accepted)
      by true false last_is apart = apart_past now entry tag apart ∙ same ∙ sym (apart_past older entry tag apart)
      by false false last_is apart = same ∙ sym (apart_past older entry tag apart)
      by false true last_is own = let clash : false ≡ true = sym last_is ∙ old.of_module tag own in cc

  -- so what stays at the later time is the same
  pub once : (older now kept : History) (newer others : List PlainEntry) → Follows whole older newer →
      Follows last now (by_last whole last short newer others) → AllByRecursion (Old whole last short) newer →
      AllByRecursion (SameLater whole last short) others → ((tag : List ℕ) → ReadLater tag older now kept newer) →
      ((tag : List ℕ) → ReadLess tag older now) → ((tag : List ℕ) → past tag now ≡ past tag older) →
      kept_from short kept (by_short whole last short older newer others)
      ≡ kept_from last now (by_last whole last short newer others)
  once older now kept [] others follows then old same read less pasts =
      same_rest now kept others then same (λ tag later. go tag (read tag refl))
    where
      go : (tag : List ℕ) → (docking_by (past tag older) ≡ absent) ⊎ (is_read short tag kept ≡ is_read last tag now) →
          (docking_by (past tag now) ≡ absent) ⊎ (is_read short tag kept ≡ is_read last tag now)
      go tag (inl away) = inl (ap docking_by (pasts tag) ∙ away)
      go tag (inr found) = inr found
  once older now kept (entry ∷ newer) others (next, follows) then old same read less pasts =
      go (is_lasting last entry) (stays_between whole older newer entry.event) refl refl
      (once (entry ∷ older) (cond (is_lasting last entry) (entry ∷ now) now)
      (cond (stays_between whole older newer entry.event && is_lasting last entry) (entry ∷ kept) kept) newer others
      follows (behind (is_lasting last entry) then) old.1 same
      (λ tag. read_old tag older now kept entry newer next old.0 (read tag))
      (λ tag. less_old tag older now entry old.0 (less tag))
      (λ tag. past_old tag older now entry next old.0 (pasts tag)))
    where
      rest : List PlainEntry
      rest = kept_from whole (entry ∷ older) newer

      behind : (lasts : Bool) →
          Follows last now
          (cond lasts (entry ∷ lasts_in whole last short newer) (lasts_in whole last short newer) ++ others) →
          Follows last (cond lasts (entry ∷ now) now) (by_last whole last short newer others)
      behind true then = then.1
      behind false then = then

      go : (lasts stay : Bool) → is_lasting last entry ≡ lasts → stays_between whole older newer entry.event ≡ stay →
          kept_from short (cond (stay && lasts) (entry ∷ kept) kept)
          (by_short whole last short (entry ∷ older) newer others)
          ≡ kept_from last (cond lasts (entry ∷ now) now) (by_last whole last short newer others) →
          kept_from short kept (lasts_in whole last short (kept_before stay entry rest) ++ others)
          ≡ kept_from last now
          (cond lasts (entry ∷ lasts_in whole last short newer) (lasts_in whole last short newer) ++ others)
      go true true last_is stay_is then =
          ap (λ lasts. kept_from short kept
          (cond lasts (entry ∷ lasts_in whole last short rest) (lasts_in whole last short rest) ++ others)) last_is
          ∙ ap (λ stay. kept_before stay entry
          (kept_from short (entry ∷ kept) (by_short whole last short (entry ∷ older) newer others)))
          (decided older now kept entry.event entry.answer newer others (next_free older entry next) old.1 same read
          less stay_is)
          ∙ ap (kept_before (stays_between last now (by_last whole last short newer others) entry.event) entry) then
      go true false last_is stay_is then =
          then ∙ sym (ap (λ stay. kept_before stay entry
          (kept_from last (entry ∷ now) (by_last whole last short newer others)))
          (goes older now entry.event newer others old.1 less stay_is))
      go false true last_is stay_is then =
          ap (λ lasts. kept_from short kept
          (cond lasts (entry ∷ lasts_in whole last short rest) (lasts_in whole last short rest) ++ others)) last_is
          ∙ then
      go false false last_is stay_is then = then
