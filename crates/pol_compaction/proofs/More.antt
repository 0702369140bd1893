-- Compacting once more after later entries: the marks of what stayed, and of all, and which modules are replaced.
use Rattle.std.proofs.Common.{◌≡◌, ℕ, Bool, true, false, cond, List, [], ◌∷◌, ◌++◌, refl, ap, sym, ◌∙◌, Option, Some}
use Rattle.std.proofs.Common.{None, option_map}
use Rattle.std.specs.Prelude.{◌&&◌, ◌||◌, filter, filter_map}
use Rattle.std.specs.List.{AllByRecursion, cons_option}
use Rattle.std.proofs.lemmas.Bool.{or_parts}
use Rattle.pol_events.specs.Events.{PlainEvent, PlainEntry}
use Rattle.pol_history.specs.Looking.{History, subject, is_module}
use Rattle.pol_history.specs.Modules.{is_moving}
use Rattle.pol_compaction.specs.Lasting.{is_lasting}
use Rattle.pol_compaction.specs.Reading.{replaces, is_replaced, moves, reads, is_read}
use Rattle.pol_compaction.specs.Marks.{Mark, told, read, moved, said_of, mark_of, marks_of}
use Rattle.pol_compaction.specs.Compaction.{stays_between, kept_before, kept_from}
use Rattle.pol_compaction.proofs.Along.{apart_mark, apart_replaced}
use Rattle.pol_compaction.proofs.Walk.{own_reads_none}
use Rattle.pol_compaction.proofs.Lists.{either}
use Rattle.pol_compaction.proofs.Signs.{Sign, tells, looks, looked, moves_on, earlier, later, later_kept}
use Rattle.pol_compaction.proofs.Twice.{reads_stays, moves_stays, read_own, read_apart, kept_unreplaced}
use Rattle.pol_compaction.proofs.Twice.{PassesAsItStays}

-- an entry of before: what of it lasts until the later time reads the same, and all of modules lasts
pub record IsOld (whole last short : History) (entry : PlainEntry) : Type 0 where
  pub last_reads : is_lasting last entry ≡ true → (tag : List ℕ) →
      reads last tag entry.event ≡ reads whole tag entry.event
  pub short_reads : is_lasting last entry ≡ true → (tag : List ℕ) →
      reads short tag entry.event ≡ reads whole tag entry.event
  pub of_module : (tag : List ℕ) → is_module tag (subject entry.event) ≡ true → is_lasting last entry ≡ true

-- the sign that an entry is
abbrev pub sign_of : {A : Type 0} → History → History → List ℕ → (PlainEvent → Option A) → PlainEntry → Option (Sign A)
sign_of whole last tag says entry =
    cond (reads whole tag entry.event) (Some (cond (is_lasting last entry) looks looked))
    (cond (moves tag entry.event) (Some moves_on) (option_map tells (said_of tag says entry.event)))

-- the signs of some entries
abbrev pub signs_of : {A : Type 0} → History → History → List ℕ → (PlainEvent → Option A) → List PlainEntry →
    List (Sign A)
signs_of whole last tag says entries = filter_map (sign_of whole last tag says) entries

-- at the earlier time they are its marks
pub marks_before : {A : Type 0} (whole last : History) (tag : List ℕ) (says : PlainEvent → Option A)
    (entries : List PlainEntry) → earlier (signs_of whole last tag says entries) ≡ marks_of whole tag says entries
marks_before whole last tag says [] = refl
marks_before {A} whole last tag says (entry ∷ entries) =
    go (reads whole tag entry.event) (is_lasting last entry) (moves tag entry.event) (said_of tag says entry.event)
    (marks_before whole last tag says entries)
  where
    signs : List (Sign A)
    signs = signs_of whole last tag says entries

    go : (reading lasts moving : Bool) (found : Option A) → earlier signs ≡ marks_of whole tag says entries →
        earlier (cons_option (cond reading (Some (cond lasts looks looked))
        (cond moving (Some moves_on) (option_map tells found))) signs)
        ≡ cons_option (cond reading (Some read) (cond moving (Some moved) (option_map told found)))
        (marks_of whole tag says entries)
    go true true moving found rest = ap (λ marks. read ∷ marks) rest
    go true false moving found rest = ap (λ marks. read ∷ marks) rest
    go false lasts true found rest = ap (λ marks. moved ∷ marks) rest
    go false lasts false (Some x) rest = ap (λ marks. told x ∷ marks) rest
    go false lasts false None rest = rest

-- an event of another subject is at most a look
apart_sign : {A : Type 0} (whole last : History) (tag : List ℕ) (says : PlainEvent → Option A) (entry : PlainEntry) →
    is_module tag (subject entry.event) ≡ false →
    sign_of whole last tag says entry
    ≡ cond (reads whole tag entry.event) (Some (cond (is_lasting last entry) looks looked)) None
apart_sign whole last tag says entry apart = rw apart refl

-- one of the module is what it says, or a move
own_sign : {A : Type 0} (whole last : History) (tag : List ℕ) (says : PlainEvent → Option A) (entry : PlainEntry) →
    is_module tag (subject entry.event) ≡ true →
    sign_of whole last tag says entry
    ≡ cond (is_moving entry.event) (Some moves_on) (option_map tells (says entry.event))
own_sign whole last tag says entry own =
    ap (λ reading. cond reading (Some (cond (is_lasting last entry) looks looked))
    (cond (moves tag entry.event) (Some moves_on) (option_map tells (said_of tag says entry.event))))
    (own_reads_none whole tag entry.event own) ∙ rw own refl

module _ (whole last short : History) where
  -- the entry is of before
  abbrev pub Old : PlainEntry → Type 0
  Old entry = IsOld whole last short entry

  -- those of some entries that last until the later time
  abbrev pub lasts_in : List PlainEntry → List PlainEntry
  lasts_in entries = filter (is_lasting last) entries

  -- at the later time they are its marks, before those of others
  pub marks_later : {A : Type 0} (tag : List ℕ) (says : PlainEvent → Option A) (entries others : List PlainEntry) →
      AllByRecursion Old entries →
      marks_of last tag says (lasts_in entries ++ others)
      ≡ later (signs_of whole last tag says entries) (marks_of last tag says others)
  marks_later tag says [] others old = refl
  marks_later {A} tag says (entry ∷ entries) others old =
      go (is_lasting last entry) (is_module tag (subject entry.event)) refl refl
      (marks_later tag says entries others old.1)
    where
      rest : List (Mark A)
      rest = marks_of last tag says (lasts_in entries ++ others)

      then : List (Mark A)
      then = later (signs_of whole last tag says entries) (marks_of last tag says others)

      by_sign : (sign : Option (Sign A)) → sign_of whole last tag says entry ≡ sign →
          later (cons_option sign (signs_of whole last tag says entries)) (marks_of last tag says others)
          ≡ later (signs_of whole last tag says (entry ∷ entries)) (marks_of last tag says others)
      by_sign sign is = sym (ap (λ sign. later (cons_option sign (signs_of whole last tag says entries))
          (marks_of last tag says others)) is)

      looked_at : (reading : Bool) → rest ≡ then → cons_option (cond reading (Some read) None) rest
          ≡ later (cons_option (cond reading (Some looks) None) (signs_of whole last tag says entries))
          (marks_of last tag says others)
      looked_at true now = ap (λ marks. read ∷ marks) now
      looked_at false now = now

      unseen : (reading : Bool) → rest ≡ then → rest
          ≡ later (cons_option (cond reading (Some looked) None) (signs_of whole last tag says entries))
          (marks_of last tag says others)
      unseen true now = now
      unseen false now = now

      own_marks : (moving : Bool) (found : Option A) → rest ≡ then →
          cons_option (cond moving (Some moved) (option_map told found)) rest
          ≡ later (cons_option (cond moving (Some moves_on) (option_map tells found))
          (signs_of whole last tag says entries)) (marks_of last tag says others)
      own_marks true found now = ap (λ marks. moved ∷ marks) now
      own_marks false (Some x) now = ap (λ marks. told x ∷ marks) now
      own_marks false None now = now

      go : (lasts own : Bool) → is_lasting last entry ≡ lasts → is_module tag (subject entry.event) ≡ own →
          rest ≡ then →
          marks_of last tag says (cond lasts (entry ∷ lasts_in entries) (lasts_in entries) ++ others)
          ≡ later (signs_of whole last tag says (entry ∷ entries)) (marks_of last tag says others)
      go true false lasts apart now =
          ap (λ mark. cons_option mark rest) (apart_mark last tag says entry.event apart
          ∙ ap (λ reading. cond reading (Some read) None) (old.0.last_reads lasts tag))
          ∙ looked_at (reads whole tag entry.event) now
          ∙ by_sign (cond (reads whole tag entry.event) (Some looks) None)
          (apart_sign whole last tag says entry apart
          ∙ ap (λ lasts. cond (reads whole tag entry.event) (Some (cond lasts looks looked)) None) lasts)
      go true true lasts own now =
          ap (λ mark. cons_option mark rest) (own_last own)
          ∙ own_marks (is_moving entry.event) (says entry.event) now
          ∙ by_sign (cond (is_moving entry.event) (Some moves_on) (option_map tells (says entry.event)))
          (own_sign whole last tag says entry own)
        where
          own_last : is_module tag (subject entry.event) ≡ true → mark_of last tag says entry.event
              ≡ cond (is_moving entry.event) (Some moved) (option_map told (says entry.event))
          own_last own =
              ap (λ reading. cond reading (Some read)
              (cond (moves tag entry.event) (Some moved) (option_map told (said_of tag says entry.event))))
              (own_reads_none last tag entry.event own) ∙ rw own refl
      go false false lasts apart now =
          unseen (reads whole tag entry.event) now
          ∙ by_sign (cond (reads whole tag entry.event) (Some looked) None)
          (apart_sign whole last tag says entry apart
          ∙ ap (λ lasts. cond (reads whole tag entry.event) (Some (cond lasts looks looked)) None) lasts)
      go false true lasts own now =
          let clash : false ≡ true = sym lasts ∙ old.0.of_module tag own in cc

  -- ---- what stays before the later time

  -- an entry that comes later reads the same by what stayed
  abbrev pub SameLater : PlainEntry → Type 0
  SameLater entry = (tag : List ℕ) → reads short tag entry.event ≡ reads last tag entry.event

  -- so it has the same marks
  pub marks_same : {A : Type 0} (tag : List ℕ) (says : PlainEvent → Option A) (others : List PlainEntry) →
      AllByRecursion SameLater others → marks_of short tag says others ≡ marks_of last tag says others
  marks_same tag says [] same = refl
  marks_same tag says (entry ∷ others) same =
      ap (λ reading. cons_option (cond reading (Some read)
      (cond (moves tag entry.event) (Some moved) (option_map told (said_of tag says entry.event))))
      (marks_of short tag says others)) (same.0 tag)
      ∙ ap (cons_option (mark_of last tag says entry.event)) (marks_same tag says others same.1)

  -- the marks at the later time of what stayed at the earlier one
  pub kept_later : {A : Type 0} (tag : List ℕ) (says : PlainEvent → Option A)
      (passes : A → Bool → List (Mark A) → Bool) → PassesAsItStays whole short tag says passes →
      (older : History) (newer others : List PlainEntry) →
      is_replaced tag newer ≡ false → AllByRecursion Old newer → AllByRecursion SameLater others →
      marks_of short tag says (lasts_in (kept_from whole older newer) ++ others)
      ≡ later_kept passes (is_read whole tag older) (signs_of whole last tag says newer) (marks_of last tag says others)
  kept_later tag says passes fits older [] others still old same = marks_same tag says others same
  kept_later {A} tag says passes fits older (entry ∷ newer) others still old same =
      by_stay stay
      ∙ go (is_lasting last entry) (is_module tag (subject entry.event)) refl refl
      (kept_later tag says passes fits (entry ∷ older) newer others parts.1 old.1 same)
    where
      parts : (replaces tag entry.event ≡ false) × (is_replaced tag newer ≡ false)
      parts = or_parts (replaces tag entry.event) (is_replaced tag newer) still

      stay : Bool
      stay = stays_between whole older newer entry.event

      was_read : Bool
      was_read = is_read whole tag older

      kept : List PlainEntry
      kept = kept_from whole (entry ∷ older) newer

      rest : List (Mark A)
      rest = marks_of short tag says (lasts_in kept ++ others)

      signs : List (Sign A)
      signs = signs_of whole last tag says newer

      ends : List (Mark A)
      ends = marks_of last tag says others

      by_stay : (stay : Bool) → marks_of short tag says (lasts_in (kept_before stay entry kept) ++ others)
          ≡ cond (stay && is_lasting last entry) (cons_option (mark_of short tag says entry.event) rest) rest
      by_stay true = which (is_lasting last entry)
        where
          which : (lasts : Bool) →
              marks_of short tag says (cond lasts (entry ∷ lasts_in kept) (lasts_in kept) ++ others)
              ≡ cond lasts (cons_option (mark_of short tag says entry.event) rest) rest
          which true = refl
          which false = refl
      by_stay false = refl

      by_sign : (sign : Option (Sign A)) → sign_of whole last tag says entry ≡ sign →
          later_kept passes was_read (cons_option sign signs) ends
          ≡ later_kept passes was_read (signs_of whole last tag says (entry ∷ newer)) ends
      by_sign sign is = sym (ap (λ sign. later_kept passes was_read (cons_option sign signs) ends) is)

      looked_at : (reading : Bool) → reads whole tag entry.event ≡ reading →
          rest ≡ later_kept passes (reading || was_read) signs ends →
          cond (stay && true) (cons_option (cond reading (Some read) None) rest) rest
          ≡ later_kept passes was_read (cons_option (cond reading (Some looks) None) signs) ends
      looked_at true is now =
          ap (λ stay. cond (stay && true) (read ∷ rest) rest) (reads_stays whole older newer tag entry.event is)
          ∙ ap (λ marks. read ∷ marks) now
      looked_at false is now = either rest (stay && true) ∙ now

      unseen : (reading : Bool) → rest ≡ later_kept passes (reading || was_read) signs ends →
          rest ≡ later_kept passes was_read (cons_option (cond reading (Some looked) None) signs) ends
      unseen true now = now
      unseen false now = now

      not_both : (stay : Bool) (marks : List (Mark A)) → cond (stay && false) marks rest ≡ rest
      not_both true marks = refl
      not_both false marks = refl

      said : (found : Option A) → says entry.event ≡ found → is_module tag (subject entry.event) ≡ true →
          rest ≡ later_kept passes was_read signs ends →
          cond (stay && true) (cons_option (option_map told found) rest) rest
          ≡ later_kept passes was_read (cons_option (option_map tells found) signs) ends
      said None is own now = either rest (stay && true) ∙ now
      said (Some x) is own now =
          ap (λ stay. cond (stay && true) (told x ∷ rest) rest)
          (fits older newer entry.event x own parts.1 is
          ∙ sym (ap (passes x was_read) (marks_before whole last tag says newer)))
          ∙ both (passes x was_read (earlier signs))
          ∙ ap (λ marks. cond (passes x was_read (earlier signs)) (told x ∷ marks) marks) now
        where
          both : (test : Bool) → cond (test && true) (told x ∷ rest) rest ≡ cond test (told x ∷ rest) rest
          both true = refl
          both false = refl

      own_mark_of : is_module tag (subject entry.event) ≡ true → mark_of short tag says entry.event
          ≡ cond (is_moving entry.event) (Some moved) (option_map told (says entry.event))
      own_mark_of own =
          ap (λ reading. cond reading (Some read)
          (cond (moves tag entry.event) (Some moved) (option_map told (said_of tag says entry.event))))
          (own_reads_none short tag entry.event own) ∙ rw own refl

      own_then : (moving : Bool) → is_moving entry.event ≡ moving → is_module tag (subject entry.event) ≡ true →
          rest ≡ later_kept passes (cond moving false was_read) signs ends →
          cond (stay && true) (cons_option (cond moving (Some moved) (option_map told (says entry.event))) rest) rest
          ≡ later_kept passes was_read
          (cons_option (cond moving (Some moves_on) (option_map tells (says entry.event))) signs) ends
      own_then true is own now =
          ap (λ stay. cond (stay && true) (moved ∷ rest) rest)
          (moves_stays whole older newer tag entry.event own is parts.0 parts.1)
          ∙ ap (λ marks. moved ∷ marks) now
      own_then false is own now = said (says entry.event) refl own now

      go : (lasts own : Bool) → is_lasting last entry ≡ lasts → is_module tag (subject entry.event) ≡ own →
          rest ≡ later_kept passes (is_read whole tag (entry ∷ older)) signs ends →
          cond (stay && is_lasting last entry) (cons_option (mark_of short tag says entry.event) rest) rest
          ≡ later_kept passes was_read (signs_of whole last tag says (entry ∷ newer)) ends
      go true false lasts apart now =
          ap (λ lasts. cond (stay && lasts) (cons_option (mark_of short tag says entry.event) rest) rest) lasts
          ∙ ap (λ mark. cond (stay && true) (cons_option mark rest) rest) (apart_mark short tag says entry.event apart
          ∙ ap (λ reading. cond reading (Some read) None) (old.0.short_reads lasts tag))
          ∙ looked_at (reads whole tag entry.event) refl
          (now ∙ ap (λ found. later_kept passes found signs ends) (read_apart whole short tag whole older entry apart))
          ∙ by_sign (cond (reads whole tag entry.event) (Some looks) None) (apart_sign whole last tag says entry apart
          ∙ ap (λ lasts. cond (reads whole tag entry.event) (Some (cond lasts looks looked)) None) lasts)
      go false false lasts apart now =
          ap (λ lasts. cond (stay && lasts) (cons_option (mark_of short tag says entry.event) rest) rest) lasts
          ∙ not_both stay (cons_option (mark_of short tag says entry.event) rest)
          ∙ unseen (reads whole tag entry.event)
          (now ∙ ap (λ found. later_kept passes found signs ends) (read_apart whole short tag whole older entry apart))
          ∙ by_sign (cond (reads whole tag entry.event) (Some looked) None) (apart_sign whole last tag says entry apart
          ∙ ap (λ lasts. cond (reads whole tag entry.event) (Some (cond lasts looks looked)) None) lasts)
      go true true lasts own now =
          ap (λ lasts. cond (stay && lasts) (cons_option (mark_of short tag says entry.event) rest) rest) lasts
          ∙ ap (λ mark. cond (stay && true) (cons_option mark rest) rest) (own_mark_of own)
          ∙ own_then (is_moving entry.event) refl own
          (now ∙ ap (λ found. later_kept passes found signs ends) (read_own whole short tag whole older entry own))
          ∙ by_sign (cond (is_moving entry.event) (Some moves_on) (option_map tells (says entry.event)))
          (own_sign whole last tag says entry own)
      go false true lasts own now = let clash : false ≡ true = sym lasts ∙ old.0.of_module tag own in cc

  -- ---- replaced modules

  -- by one of these or of those
  replaced_either : (tag : List ℕ) (ones others : List PlainEntry) →
      is_replaced tag (ones ++ others) ≡ (is_replaced tag ones || is_replaced tag others)
  replaced_either tag [] others = refl
  replaced_either tag (entry ∷ ones) others = go (replaces tag entry.event) (replaced_either tag ones others)
    where
      go : (replacing : Bool) → is_replaced tag (ones ++ others) ≡ (is_replaced tag ones || is_replaced tag others) →
          (replacing || is_replaced tag (ones ++ others))
          ≡ ((replacing || is_replaced tag ones) || is_replaced tag others)
      go true rest = refl
      go false rest = rest

  -- what replaces a module lasts
  replaced_lasts : (tag : List ℕ) (newer : List PlainEntry) → AllByRecursion Old newer →
      is_replaced tag (lasts_in newer) ≡ is_replaced tag newer
  replaced_lasts tag [] old = refl
  replaced_lasts tag (entry ∷ newer) old =
      go (is_lasting last entry) (is_module tag (subject entry.event)) refl refl (replaced_lasts tag newer old.1)
    where
      go : (lasts own : Bool) → is_lasting last entry ≡ lasts → is_module tag (subject entry.event) ≡ own →
          is_replaced tag (lasts_in newer) ≡ is_replaced tag newer →
          is_replaced tag (cond lasts (entry ∷ lasts_in newer) (lasts_in newer)) ≡ is_replaced tag (entry ∷ newer)
      go true own lasts is rest = ap (λ others. replaces tag entry.event || others) rest
      go false false lasts apart rest = rest ∙ sym (apart_replaced tag entry newer apart)
      go false true lasts own rest = let clash : false ≡ true = sym lasts ∙ old.0.of_module tag own in cc

  -- where none of these replaces it, none of those that last does
  filter_unreplaced : (tag : List ℕ) (entries : List PlainEntry) → is_replaced tag entries ≡ false →
      is_replaced tag (lasts_in entries) ≡ false
  filter_unreplaced tag [] is = refl
  filter_unreplaced tag (entry ∷ entries) is =
      go (is_lasting last entry) (filter_unreplaced tag entries parts.1)
    where
      parts : (replaces tag entry.event ≡ false) × (is_replaced tag entries ≡ false)
      parts = or_parts (replaces tag entry.event) (is_replaced tag entries) is

      go : (lasts : Bool) → is_replaced tag (lasts_in entries) ≡ false →
          is_replaced tag (cond lasts (entry ∷ lasts_in entries) (lasts_in entries)) ≡ false
      go true rest = ap (λ replacing. replacing || is_replaced tag (lasts_in entries)) parts.0 ∙ rest
      go false rest = rest

  -- what comes by what stayed, and by all
  abbrev pub by_short : History → List PlainEntry → List PlainEntry → List PlainEntry
  by_short older newer others = lasts_in (kept_from whole older newer) ++ others

  abbrev pub by_last : List PlainEntry → List PlainEntry → List PlainEntry
  by_last newer others = lasts_in newer ++ others

  -- a module that isn't replaced before the later time is replaced then by both, or by none
  pub replaced_same : (tag : List ℕ) (older : History) (newer others : List PlainEntry) → AllByRecursion Old newer →
      is_replaced tag newer ≡ false →
      is_replaced tag (by_short older newer others) ≡ is_replaced tag (by_last newer others)
  replaced_same tag older newer others old still =
      replaced_either tag (lasts_in (kept_from whole older newer)) others
      ∙ ap (λ replaced. replaced || is_replaced tag others)
      (filter_unreplaced tag (kept_from whole older newer) (kept_unreplaced tag whole older newer still)
      ∙ sym (filter_unreplaced tag newer still))
      ∙ sym (replaced_either tag (lasts_in newer) others)

  -- one that is replaced before is so by all
  pub replaced_by : (tag : List ℕ) (newer others : List PlainEntry) → AllByRecursion Old newer →
      is_replaced tag newer ≡ true → is_replaced tag (by_last newer others) ≡ true
  replaced_by tag newer others old is =
      replaced_either tag (lasts_in newer) others
      ∙ ap (λ replaced. replaced || is_replaced tag others) (replaced_lasts tag newer old ∙ is)
