-- How the job plant ended, by how its input was read and its run was written.
use Rattle.std.proofs.Common.{ℕ, ◌≡◌, ◌∙◌, List, [], ◌∷◌, ◌++◌, refl, sym, arith}
use Rattle.std.specs.Prelude.{Option, None, Result, Ok, Err, IfErr, ◌≢◌}
use Rattle.std.specs.declared.convert.Infallible.{Infallible}
use Rattle.mtp_json.specs.declared.fault.JsonFault.{JsonFault}
use Rattle.pol_io.specs.Causes.{HasCauseOf, Rose}
use Rattle.pol_io.specs.Edge.{Edge}
use Rattle.pol_io.specs.Known.{Between}
use Rattle.pol_io.proofs.Known.{Appends_none, Keeps_refl, between_weaker}
use Rattle.pol_jobs.specs.Ends.{Ends, IsRefused, LeavesPart, Writes, WritesTaken, WritesTakenAndMore, edge}
use Rattle.pol_jobs.specs.Ends.{refused_input, refused_line, stopped_at_end, stopped_closing, stopped_within}
use Rattle.pol_jobs.specs.Faults.{of_output}
use Rattle.pol_jobs.specs.LineWork.{AcceptsBehind, Output, output_by}
use Rattle.pol_jobs.specs.declared.fault.JobFault.{JobFault}
use Rattle.pol_jobs.specs.declared.fault.JobFault.TheVariants.{Read, Write, Memory, TooMuch, Failed, Refused}
use Rattle.pol_jobs.specs.declared.output.PutFault.{PutFault}
use Rattle.pol_jobs.specs.declared.output.PutFault.TheVariants as put_fault
use Rattle.pol_jobs.proofs.Ending.{completes}
use Rattle.pol_jobs.proofs.Written.{nothing_written}
use Rattle.pol_site.specs.Sites.{PlainSite}
use Rattle.pol_cli.specs.SiteRuns.{PutsPart, PutsRun, RunWrites, planted}
use Rattle.pol_cli.specs.SiteTexts.{Says, none_yet, site_work}
use Rattle.pol_cli.specs.Statuses.{refused_as, status_of}
use Rattle.pol_cli.specs.Tasks.{PlantEnds}
use Rattle.pol_cli.specs.Worked.{Edges}
use Rattle.pol_cli.specs.declared.status.Wanted.TheVariants.{Site}
use Rattle.pol_cli.specs.declared.status.Status.TheVariants as status
use Rattle.pol_cli.proofs.SiteTexts.{text_told}

-- no line of a site text is refused
all_accepted : (done : List ℕ) (parts : List (List ℕ)) → AcceptsBehind planted done parts
all_accepted done [] = tt
all_accepted done (piece ∷ parts) = (λ reason refuses. refuses, all_accepted (done ++ piece) parts)

-- ---- a text that was read to nowhere

-- nowhere nothing fails
not_nowhere : Rose 0 0 → ⊥
not_nowhere rose = omega (arith, rose)

-- the reading of a site text, and what it wrote
abbrev reading : Output JsonFault
reading = output_by site_work none_yet

module _ (held nowhere nowhere' : Option (List ℕ)) where
  -- the lines that were taken
  taken_so : (bytes left : List ℕ) → WritesTaken reading nowhere nowhere' bytes left →
      WritesTaken planted held held bytes left
  taken_so bytes left it = record {
    takes = it.takes;
    accepted = all_accepted [] _;
    written = Appends_none held held (Keeps_refl held);
  }

  -- and a byte more
  more_so : (bytes left : List ℕ) → WritesTakenAndMore reading nowhere nowhere' bytes left →
      WritesTakenAndMore planted held held bytes left
  unfolding taken_so
  more_so bytes left it = record { last = it.last; taken = taken_so bytes _ it.taken; full = it.full }

  -- what is left where there was no memory
  part_so : (bytes left : List ℕ) → LeavesPart reading nowhere nowhere' bytes left →
      LeavesPart planted held held bytes left
  part_so bytes left (stopped_within part) =
      stopped_within (record { takes = part.takes; some = nothing_written held [] })
  part_so bytes left (stopped_at_end part) =
      stopped_at_end (record { read = part.read; some = nothing_written held [] })
  part_so bytes left (stopped_closing part) =
      stopped_at_end (record { read = part.read; some = nothing_written held [] })

  -- the text says no site
  refused_so : (fault : JsonFault) (bytes left : List ℕ) → IsRefused reading fault nowhere nowhere' bytes left →
      IsRefused planted fault held held bytes left
  refused_so fault bytes left (refused_line line) = absurd line.refuses
  refused_so fault bytes left (refused_input input) =
      refused_input (record {
        read = input.read;
        accepted = all_accepted [] _;
        refuses = text_told bytes ∙ input.refuses;
        written = Appends_none held held (Keeps_refl held);
      })

-- where the text wasn't read, or says no site, nothing was written
pub unread_ends : (source source' sink : Edge) (fault : JobFault JsonFault Infallible) →
    Ends reading source source' (edge None 0) (edge None 0) (Err fault) →
    Ends planted source source' sink sink (Err fault)
unread_ends source source' sink Read ends =
    (between_weaker _ _ source.bytes source'.bytes (taken_so sink.bytes None None) ends.0, ends.1, refl)
unread_ends source source' sink Write ends = absurd (not_nowhere ends.2)
unread_ends source source' sink Memory ends =
    (between_weaker _ _ source.bytes source'.bytes (part_so sink.bytes None None) ends.0, ends.1, refl)
unread_ends source source' sink TooMuch ends =
    (between_weaker _ _ source.bytes source'.bytes (more_so sink.bytes None None) ends.0, ends.1, refl, ends.3)
unread_ends source source' sink (Failed never) ends =
    (between_weaker _ _ source.bytes source'.bytes (part_so sink.bytes None None) ends.0, ends.1, refl)
unread_ends source source' sink (Refused fault) ends =
    (between_weaker _ _ source.bytes source'.bytes (refused_so sink.bytes None None fault) ends.0, ends.1, refl)

-- nor did the sink fail
pub no_write : (source source' : Edge) (fault : JobFault JsonFault Infallible) →
    Ends reading source source' (edge None 0) (edge None 0) (Err fault) → fault ≢ Write
no_write source source' Read ends = λ is. cc
no_write source source' Write ends = λ is. not_nowhere ends.2
no_write source source' Memory ends = λ is. cc
no_write source source' TooMuch ends = λ is. cc
no_write source source' (Failed never) ends = λ is. cc
no_write source source' (Refused fault) ends = λ is. cc

-- ---- a text that says a site

module _ (site : PlainSite) (source source' : Edge) (says : Between (Says (Ok site)) source.bytes source'.bytes)
    (well : source'.faults ≡ source.faults) where
  -- all of a run was written
  pub run_done : (sink sink' : Edge) → PutsRun site sink.bytes sink'.bytes → sink'.faults ≡ sink.faults →
      Ends {Failure = Infallible} planted source source' sink sink' (Ok tt)
  run_done sink sink' puts wrote = (
    between_weaker _ (Writes planted sink.bytes sink'.bytes) source.bytes source'.bytes
        (λ bytes left said. record {
          read = said.read;
          accepted = (all_accepted [] _, λ fault refuses. other site fault (sym said.text ∙ refuses));
          closing = _;
          may = (
            site,
            said.text,
            record { history = puts.history; is_run = puts.is_run; text_is = refl },
          );
          written = puts.written;
        }) says,
    well,
    wrote,
  )
    where
      other : (site : PlainSite) (fault : JsonFault) → Ok site ≡ Err fault → ⊥
      other site fault is = cc

  -- or a part of it
  broken_leaves : (sink sink' : Edge) → PutsPart site sink.bytes sink'.bytes →
      Between (LeavesPart planted sink.bytes sink'.bytes) source.bytes source'.bytes
  broken_leaves sink sink' puts =
      between_weaker _ (LeavesPart planted sink.bytes sink'.bytes) source.bytes source'.bytes
      (λ bytes left said. stopped_closing (record {
        read = said.read;
        closing = _;
        may = (
          site,
          said.text,
          record { history = puts.history; is_run = puts.is_run; text_is = refl },
        );
        part = puts.part;
      })) says

  -- with the fault that ended it
  pub run_broken : (sink sink' : Edge) (fault : PutFault) → PutsPart site sink.bytes sink'.bytes →
      HasCauseOf {T = Unit {0}} put_fault.Write sink.faults sink'.faults (Err fault) →
      Ends {Failure = Infallible} planted source source' sink sink' (Err (of_output fault))
  run_broken sink sink' put_fault.Write puts wrote = (broken_leaves sink sink' puts, well, wrote.failed refl)
  run_broken sink sink' put_fault.Memory puts wrote =
      (broken_leaves sink sink' puts, well, wrote.other (λ same. cc))

-- ---- its status

-- where nothing was to be written yet, its status tells so
begun_with : (Same : Type 0) (result : Result (Unit {0}) (JobFault JsonFault Infallible)) →
    IfErr result (λ fault. fault ≢ Write → fault ≢ Memory → Same) →
    status_of (refused_as Site) result ≢ status.Good → status_of (refused_as Site) result ≢ status.WriteFault →
    status_of (refused_as Site) result ≢ status.OutOfMemory → Same
begun_with Same (Ok done) same good write memory = absurd (good refl)
begun_with Same (Err Read) same good write memory = same (λ is. cc) (λ is. cc)
begun_with Same (Err Write) same good write memory = absurd (write refl)
begun_with Same (Err Memory) same good write memory = absurd (memory refl)
begun_with Same (Err TooMuch) same good write memory = same (λ is. cc) (λ is. cc)
begun_with Same (Err (Failed never)) same good write memory = same (λ is. cc) (λ is. cc)
begun_with Same (Err (Refused fault)) same good write memory = same (λ is. cc) (λ is. cc)

-- what is known of the result is known of its status
pub plant_ends : (source sink : Edges) (result : Result (Unit {0}) (JobFault JsonFault Infallible)) →
    Ends planted source.before source.after sink.before sink.after result →
    RunWrites source.before.bytes source.after.bytes sink.before.bytes sink.after.bytes result →
    IfErr result (λ fault. fault ≢ Write → fault ≢ Memory → sink.Untouched) →
    PlantEnds source sink (status_of (refused_as Site) result)
plant_ends source sink result ends writes unbegun = record {
  job = record {
    result = result;
    told = refl;
    ends = ends;
    complete = completes planted source.before source.after sink.before sink.after result ends;
  };
  writes = writes;
  unbegun = begun_with sink.Untouched result unbegun;
}
