-- The journal of a kept plant, line by line, and how the job ends that writes it.
use Rattle.std.proofs.Common.{ℕ, ◌≡◌, List, [], ◌∷◌, ◌++◌, Option, inl, inr, refl, sym, ap, arith}
use Rattle.std.specs.Prelude.{IfErr, OnErr, OnOk, Result, Ok, Err, ◌≢◌}
use Rattle.std.specs.Io.KnownBytes.{Appends}
use Rattle.std.specs.declared.convert.Infallible.{Infallible}
use Rattle.pol_events.specs.Events.{PlainEvent}
use Rattle.pol_io.specs.Causes.{HasCauseOf}
use Rattle.pol_io.proofs.Known.{Appends_none, Keeps_refl}
use Rattle.pol_jobs.specs.Ends.{Ends, IsRead, LeavesPart, edge, stopped_at_end, stopped_closing}
use Rattle.pol_jobs.specs.LineWork.{Output}
use Rattle.pol_jobs.specs.Written.{WritesPart}
use Rattle.pol_jobs.specs.declared.output.PutFault.{PutFault}
use Rattle.pol_jobs.specs.declared.output.PutFault.TheVariants as put_fault
use Rattle.pol_replay.specs.BatchLines.{WritesUpTo}
use Rattle.pol_store.specs.Stands.{HasFirst, StandsFor}
use Rattle.pol_journal.specs.Journals.{HandsOn, StopsWithin, event_line, journal_events, journal_text}
use Rattle.pol_journal.specs.declared.extent.Extent.{Extent}
use Rattle.pol_journal.proofs.Handed.{cut_next, cut_waiting, handed_on, last_handed, some_behind_waiting, waits_longer}
use Rattle.pol_keep.specs.Exported.{exported_output, no_input, put_result}
use Rattle.pol_keep.specs.Kept.{job_result}
use Rattle.pol_keep.specs.declared.fault.KeepFault.TheVariants.{Disk, NotAStore}

-- ---- line after line

-- The journal of these events was written, but for what waits and for the lines of later events. The rest of an image
-- stands for those.
pub record IsExported (held held' : Option (List ℕ)) (waiting rest : List ℕ) (events : List PlainEvent) : Type 0 where
  pub later : List PlainEvent
  pub stands : StandsFor later rest
  pub so_far : WritesUpTo held held' (waiting ++ journal_text later) (journal_text events)

-- at first nothing was
pub exports_none : (held : Option (List ℕ)) (waiting image : List ℕ) (events : List PlainEvent) → waiting ≡ [] →
    StandsFor events image → IsExported held held waiting image events
exports_none held waiting image events none stands = rw none (record {
  later = events;
  stands = stands;
  so_far = record { written = []; appended = Appends_none held held (Keeps_refl held); up_to = refl };
})

module _ (held between : Option (List ℕ)) (waiting rest text behind : List ℕ) (events : List PlainEvent)
    (first : (events : List PlainEvent) → StandsFor events rest → HasFirst text behind events) where
  -- one line more was put behind those that wait
  exports_more : (now : List ℕ) → now ≡ waiting ++ (text ++ 10 ∷ []) →
      IsExported held between waiting rest events → IsExported held between now behind events
  exports_more now now_is exported =
      go exported.later (first exported.later exported.stands) exported.so_far
    where
      go : (later : List PlainEvent) → HasFirst text behind later →
          WritesUpTo held between (waiting ++ journal_text later) (journal_text events) →
          IsExported held between now behind events
      go [] has so_far = absurd has
      go (event ∷ later) has so_far = rw now_is (rw has.0 (record {
        later = later;
        stands = has.1;
        so_far = waits_longer held between waiting (event_line event) (journal_text later) (journal_text events) so_far;
      }))

  -- and what waited was handed on, where it was enough
  pub exports_on : (held' : Option (List ℕ)) (put now : List ℕ) → put ≡ waiting ++ (text ++ 10 ∷ []) →
      IsExported held between waiting rest events → HandsOn between held' put now →
      IsExported held held' now behind events
  unfolding exports_more
  exports_on held' put now put_is exported hands =
      let more = exports_more put put_is exported in
      record {
        later = more.later;
        stands = more.stands;
        so_far = handed_on held between held' put now (journal_text more.later) (journal_text events) more.so_far hands;
      }

  -- or not all of it
  pub exports_part : (held' : Option (List ℕ)) (put : List ℕ) → put ≡ waiting ++ (text ++ 10 ∷ []) →
      IsExported held between waiting rest events → WritesPart between held' put →
      WritesPart held held' (journal_text events)
  exports_part held' put put_is exported part =
      let more = exports_more put put_is exported in
      cut_next held between held' put (journal_text more.later) (journal_text events) more.so_far part

  -- or there was no memory to put it there
  pub exports_unput : IsExported held between waiting rest events → WritesPart held between (journal_text events)
  exports_unput exported = go exported.later (first exported.later exported.stands) exported.so_far
    where
      go : (later : List PlainEvent) → HasFirst text behind later →
          WritesUpTo held between (waiting ++ journal_text later) (journal_text events) →
          WritesPart held between (journal_text events)
      go [] has so_far = absurd has
      go (event ∷ later) has so_far =
          cut_waiting held between (waiting ++ (event_line event ++ journal_text later)) (journal_text events)
          (some_behind_waiting waiting event (journal_text later)) so_far

module _ (held between held' : Option (List ℕ)) (waiting rest : List ℕ) (events : List PlainEvent)
    (none : (events : List PlainEvent) → StandsFor events rest → events ≡ []) where
  -- the last that waited was written
  pub exports_all : IsExported held between waiting rest events → Appends between held' waiting →
      Appends held held' (journal_text events)
  exports_all exported appended =
      last_handed held between held' waiting (journal_text exported.later) (journal_text events)
      (ap journal_text (none exported.later exported.stands)) exported.so_far appended

  -- or a proper part of it
  pub exports_last : IsExported held between waiting rest events → WritesPart between held' waiting →
      WritesPart held held' (journal_text events)
  exports_last exported part =
      cut_next held between held' waiting (journal_text exported.later) (journal_text events) exported.so_far part

-- ---- how it ends

-- of no input nothing was left
none_read : IsRead [] []
none_read = record { to_end = refl; fits = omega arith }

-- nothing was written, or a proper front part of what closes the output
stops_part : (output : Output Infallible) (closing : List ℕ) → output.Closing [] closing → output.replies [] ≡ [] →
    {K : Type 0} (held : K → Option (List ℕ)) (sink sink' : K) → StopsWithin held sink sink' closing →
    LeavesPart output (held sink) (held sink') [] []
stops_part output closing may silent held sink sink' (inl same) = stopped_at_end (record {
  read = none_read;
  some = record {
    written = [];
    more = [];
    appended = rw same (Appends_none (held sink) (held sink) (Keeps_refl (held sink)));
    front = sym silent;
  };
})
stops_part output closing may silent held sink sink' (inr part) =
    stopped_closing (record { read = none_read; closing = closing; may = may; part = rw silent part })

-- the journal of these events was written, or a proper front part of it
module _ (extent : Extent) (events : List PlainEvent) {K : Type 0} (held : K → Option (List ℕ)) (faults : K → ℕ)
    (sink sink' : K) where
  pub exported_ends : (result : Result (Unit {0}) PutFault) →
      OnOk result (Appends (held sink) (held sink') (journal_text (journal_events extent events))) →
      OnErr result (StopsWithin held sink sink' (journal_text (journal_events extent events))) →
      HasCauseOf put_fault.Write (faults sink) (faults sink') result →
      Ends (exported_output extent events) no_input no_input (edge (held sink) (faults sink))
      (edge (held sink') (faults sink')) (job_result (put_result result))
  exported_ends (Ok done) whole part cause = (
    record {
      read = none_read;
      accepted = (tt, λ reason refuses. refuses);
      closing = journal_text (journal_events extent events);
      may = refl;
      written = whole;
    },
    refl,
    cause.done,
  )
  exported_ends (Err put_fault.Write) whole part cause = (
    stops_part (exported_output extent events) (journal_text (journal_events extent events)) refl refl held sink sink'
        part,
    refl,
    cause.failed refl,
  )
  exported_ends (Err put_fault.Memory) whole part cause = (
    stops_part (exported_output extent events) (journal_text (journal_events extent events)) refl refl held sink sink'
        part,
    refl,
    cause.other (λ same. cc),
  )

-- a job that only writes tells nothing of the disk
pub put_no_disk : (result : Result (Unit {0}) PutFault) → IfErr (put_result result) (λ fault. fault ≢ Disk)
put_no_disk (Ok done) = tt
put_no_disk (Err put_fault.Write) = λ is. cc
put_no_disk (Err put_fault.Memory) = λ is. cc

-- nor that it is no store
pub put_is_store : (result : Result (Unit {0}) PutFault) →
    IfErr (put_result result) (λ fault. (place : ℕ) → fault ≢ NotAStore place)
put_is_store (Ok done) = tt
put_is_store (Err put_fault.Write) = λ place is. cc
put_is_store (Err put_fault.Memory) = λ place is. cc
