-- The lines of flagged entries, one after another, and which flags are those of a journal.
use Rattle.std.proofs.Common.{ℕ, ◌≡◌, ◌<◌, ◌≤◌, ◌+◌, Bool, Option, true, false, List, [], ◌∷◌, ◌++◌, length, drop, get_or, map}
use Rattle.std.proofs.Common.{arith, refl, ap, sym, subst, ◌∙◌, reverse, replicate, zero, suc}
use Rattle.std.specs.Io.KnownBytes.{Appends}
use Rattle.std.proofs.lemmas.List.{drop_all, drop-drop, drop-map, length-map, map-append, reverse-append, reverse-reverse}
use Rattle.std.proofs.Math.Seq.{drop-cons}
use Rattle.std.specs.List.{AllByRecursion}
use Rattle.chart_core.proofs.Items.{one_more}
use Rattle.mtp_codes.proofs.Lists.{all_reverse}
use Rattle.pol_events.specs.Events.{PlainEntry, PlainEvent, plain_entry, plain_event, plain_history}
use Rattle.pol_events.specs.declared.event.Entry.{Entry}
use Rattle.pol_history.specs.Looking.{History}
use Rattle.pol_events.specs.Orderly.{is_orderly}
use Rattle.pol_history.specs.Runs.{IsLegal, IsOrderly, events_of, history_after}
use Rattle.pol_compaction.specs.Compaction.{compacted, compacted_events, kept_before}
use Rattle.pol_compaction.specs.Flags.{flagged, stay_flags}
use Rattle.pol_jobs.specs.Written.{WritesPart}
use Rattle.pol_replay.specs.BatchLines.{WritesUpTo}
use Rattle.pol_replay.proofs.BatchLines.{up_to_start}
use Rattle.pol_store.proofs.Histories.{runs_legal}
use Rattle.pol_journal.specs.Journals.{HandsOn, event_line, journal_text}
use Rattle.pol_journal.specs.Wanted.{flagged_text}
use Rattle.pol_journal.proofs.Handed.{cut_next, handed_on, last_handed, waits_longer}

-- the event of an entry
abbrev event : PlainEntry → PlainEvent
event entry = entry.event

-- ---- one entry more

-- of no entry none is flagged
none_flagged : (flags : List Bool) → flagged flags [] ≡ []
none_flagged [] = refl
none_flagged (flag ∷ flags) = refl

-- where the first flag isn't up, the first entry is passed
passed : (flags : List Bool) (entries : List PlainEntry) →
    flagged (false ∷ flags) entries ≡ flagged flags (drop 1 entries)
passed flags [] = sym (none_flagged flags)
passed flags (entry ∷ entries) = refl

module _ (flags : List Bool) (history : List Entry) (place : ℕ) (default : Bool) (flag_inside : place < length flags)
  where
    -- the flag that stands here
    abbrev flag : Bool
    flag = get_or flags place default

    -- what is flagged behind it
    abbrev behind : List PlainEntry
    behind = flagged (drop (place + 1) flags) (map plain_entry (drop (place + 1) history))

    -- the flags from here on
    flags_here : drop place flags ≡ flag ∷ drop (place + 1) flags
    flags_here =
        let next : suc place ≡ place + 1 = omega arith in
        drop-cons flags place default flag_inside ∙ ap (λ start. flag ∷ drop start flags) next

    -- where the flag is up, the entry's line comes first
    pub flagged_up : (entry : Entry) → place < length history → entry ≡ get_or history place entry → flag ≡ true →
        flagged_text (drop place flags) (map plain_entry (drop place history))
        ≡ event_line (plain_event entry.event)
        ++ flagged_text (drop (place + 1) flags) (map plain_entry (drop (place + 1) history))
    flagged_up entry inside entry_is up =
        ap (λ flags. flagged_text flags (map plain_entry (drop place history))) flags_here
        ∙ ap (λ entries. flagged_text (flag ∷ drop (place + 1) flags) (map plain_entry entries))
        (one_more history place entry inside entry_is)
        ∙ ap (λ up. journal_text (map event (kept_before up (plain_entry entry) behind))) up

    -- where it isn't, there is none
    pub flagged_down : flag ≡ false →
        flagged_text (drop place flags) (map plain_entry (drop place history))
        ≡ flagged_text (drop (place + 1) flags) (map plain_entry (drop (place + 1) history))
    flagged_down down =
        ap (λ entries. journal_text (map event entries))
        (ap (λ flags. flagged flags (map plain_entry (drop place history))) flags_here
        ∙ ap (λ flag. flagged (flag ∷ drop (place + 1) flags) (map plain_entry (drop place history))) down
        ∙ passed (drop (place + 1) flags) (map plain_entry (drop place history))
        ∙ ap (flagged (drop (place + 1) flags)) (drop-map plain_entry 1 (drop place history)
        ∙ ap (map plain_entry) (drop-drop 1 place history)))

-- ---- the flags

-- where each flag is up, each entry is flagged
all_flagged : (entries : List PlainEntry) → flagged (replicate (length entries) true) entries ≡ entries
all_flagged [] = refl
all_flagged (entry ∷ entries) = ap (λ rest. entry ∷ rest) (all_flagged entries)

-- there is a flag for each entry
pub many_flags : (whole older : History) (entries : List PlainEntry) →
    length (stay_flags whole older entries) ≡ length entries
many_flags whole older [] = refl
many_flags whole older (entry ∷ entries) = ap (λ many. suc many) (many_flags whole (entry ∷ older) entries)

-- what is said of each item in reverse is what is said of each, in reverse
map_reverse : {A B : Type 0} (f : A → B) (items : List A) → map f (reverse items) ≡ reverse (map f items)
map_reverse f [] = refl
map_reverse f (item ∷ items) =
    ap (map f) (reverse-append (item ∷ []) items) ∙ map-append f (reverse items) (item ∷ [])
    ∙ ap (λ front. front ++ f item ∷ []) (map_reverse f items) ∙ sym (reverse-append (f item ∷ []) (map f items))

-- the events of the entries in order are those of their history
in_order : (history : List Entry) → map event (map plain_entry history) ≡ events_of (plain_history history)
in_order history =
    ap (map event) (sym (reverse-reverse (map plain_entry history)))
    ∙ map_reverse event (reverse (map plain_entry history))

-- a journal of all events has that of each entry
pub all_wanted : (history : List Entry) (flags : List Bool) → flags ≡ replicate (length history) true →
    flagged_text flags (map plain_entry history) ≡ journal_text (events_of (plain_history history))
all_wanted history flags up =
    ap (λ flags. flagged_text flags (map plain_entry history))
    (up ∙ ap (λ many. replicate many true) (sym (length-map history plain_entry)))
    ∙ ap (λ entries. journal_text (map event entries)) (all_flagged (map plain_entry history))
    ∙ ap journal_text (in_order history)

-- one of those that stay has those that stay of the run of all
pub kept_wanted : (history : List Entry) (flags : List Bool) → IsLegal (plain_history history) →
    flagged flags (map plain_entry history) ≡ compacted (plain_history history) →
    flagged_text flags (map plain_entry history)
    ≡ journal_text (compacted_events (history_after [] (events_of (plain_history history))))
kept_wanted history flags legal kept =
    ap (λ entries. journal_text (map event entries)) kept
    ∙ ap (λ whole. journal_text (compacted_events whole)) (runs_legal (plain_history history) legal)

-- as many flags as entries
pub many_kept : (whole : History) (history : List Entry) (flags : List Bool) →
    flags ≡ stay_flags whole [] (map plain_entry history) → length flags ≡ length history
many_kept whole history flags is =
    ap length is ∙ many_flags whole [] (map plain_entry history) ∙ length-map history plain_entry

-- each event of an orderly history is as a line says it
pub event_orderly : (history : List Entry) (place : ℕ) (entry : Entry) → IsOrderly (plain_history history) →
    place < length history → entry ≡ get_or history place entry → is_orderly (plain_event entry.event) ≡ true
event_orderly history place entry orderly inside is =
    first_of (subst (AllByRecursion (λ (each : PlainEntry). is_orderly each.event ≡ true)) here
    (all_from (λ (each : PlainEntry). is_orderly each.event ≡ true) (map plain_entry history) place all))
  where
    all : AllByRecursion (λ (each : PlainEntry). is_orderly each.event ≡ true) (map plain_entry history)
    all = subst (AllByRecursion (λ (each : PlainEntry). is_orderly each.event ≡ true))
        (reverse-reverse (map plain_entry history))
        (all_reverse (λ (each : PlainEntry). is_orderly each.event ≡ true) (reverse (map plain_entry history)) orderly)

    here : drop place (map plain_entry history) ≡ plain_entry entry ∷ map plain_entry (drop (place + 1) history)
    here = drop-map plain_entry place history ∙ ap (map plain_entry) (one_more history place entry inside is)

    first_of : AllByRecursion (λ (each : PlainEntry). is_orderly each.event ≡ true)
        (plain_entry entry ∷ map plain_entry (drop (place + 1) history)) →
        is_orderly (plain_event entry.event) ≡ true
    first_of all = all.0

    all_from : {A : Type 0} (P : A → Type 0) (items : List A) (place : ℕ) → AllByRecursion P items →
        AllByRecursion P (drop place items)
    all_from P items zero all = all
    all_from P [] (suc place) all = tt
    all_from P (item ∷ items) (suc place) all = all_from P items place all.1

-- ---- what was written so far

module _ (flags : List Bool) (history : List Entry) (held : Option (List ℕ)) where
  -- the lines of all flagged entries
  abbrev all : List ℕ
  all = flagged_text flags (map plain_entry history)

  -- those from a place on
  abbrev rest : ℕ → List ℕ
  rest place = flagged_text (drop place flags) (map plain_entry (drop place history))

  -- nothing yet
  pub writes_none : (waiting : List ℕ) → waiting ≡ [] → WritesUpTo held held (waiting ++ rest 0) all
  writes_none waiting none = rw none (up_to_start held all all refl)

  module _ (between : Option (List ℕ)) (place : ℕ) (default : Bool) (waiting : List ℕ)
      (flag_inside : place < length flags) (so_far : WritesUpTo held between (waiting ++ rest place) all) where
    -- no line waits of an entry that isn't flagged
    pub writes_same : get_or flags place default ≡ false → WritesUpTo held between (waiting ++ rest (place + 1)) all
    writes_same down = subst (λ text. WritesUpTo held between (waiting ++ text) all)
        (flagged_down flags history place default flag_inside down) so_far

    module _ (entry : Entry) (inside : place < length history) (entry_is : entry ≡ get_or history place entry)
        (up : get_or flags place default ≡ true) where
      -- one line more waits
      waits : WritesUpTo held between ((waiting ++ event_line (plain_event entry.event)) ++ rest (place + 1)) all
      waits = waits_longer held between waiting (event_line (plain_event entry.event)) (rest (place + 1)) all
          (subst (λ text. WritesUpTo held between (waiting ++ text) all)
          (flagged_up flags history place default flag_inside entry inside entry_is up) so_far)

      -- and some were handed on
      pub writes_on : (held' : Option (List ℕ)) (now : List ℕ) →
          HandsOn between held' (waiting ++ event_line (plain_event entry.event)) now →
          WritesUpTo held held' (now ++ rest (place + 1)) all
      writes_on held' now hands =
          handed_on held between held' (waiting ++ event_line (plain_event entry.event)) now (rest (place + 1)) all
          waits hands

      -- or not all of them
      pub writes_part : (held' : Option (List ℕ)) →
          WritesPart between held' (waiting ++ event_line (plain_event entry.event)) → WritesPart held held' all
      writes_part held' part =
          cut_next held between held' (waiting ++ event_line (plain_event entry.event)) (rest (place + 1)) all waits
          part

  -- behind the last entry there is no line
  none_behind : (place : ℕ) → length history ≤ place → rest place ≡ []
  none_behind place past =
      ap (λ entries. flagged_text (drop place flags) (map plain_entry entries)) (drop_all place history past)
      ∙ ap (λ entries. journal_text (map event entries)) (none_flagged (drop place flags))

  -- so what waits is the rest
  pub writes_all : (between held' : Option (List ℕ)) (place : ℕ) (waiting : List ℕ) → length history ≤ place →
      WritesUpTo held between (waiting ++ rest place) all → Appends between held' waiting → Appends held held' all
  writes_all between held' place waiting past so_far appended =
      last_handed held between held' waiting (rest place) all (none_behind place past) so_far appended

  -- or a part of it
  pub writes_last : (between held' : Option (List ℕ)) (place : ℕ) (waiting : List ℕ) →
      WritesUpTo held between (waiting ++ rest place) all → WritesPart between held' waiting →
      WritesPart held held' all
  writes_last between held' place waiting so_far part =
      cut_next held between held' waiting (rest place) all so_far part
