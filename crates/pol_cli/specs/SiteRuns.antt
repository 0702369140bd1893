-- What the job plant writes: the site that the input says, the history that a run of it leaves, and its text.
use Rattle.std.specs.Prelude.{ℕ, ◌≡◌, ◌≤◌, ◌++◌, ◌⊎◌, List, [], length, reverse, Option, Result, Ok, Err}
use Rattle.std.specs.List.{AllByRecursion, flat_map}
use Rattle.std.specs.Io.KnownBytes.{Appends, Keeps}
use Rattle.std.specs.declared.convert.Infallible.{Infallible}
use Rattle.mtp_json.specs.declared.fault.JsonFault.{JsonFault}
use Rattle.pol_io.specs.Known.{Between}
use Rattle.pol_events.specs.Events.{PlainEntry, plain_entry}
use Rattle.pol_events.specs.declared.event.Entry.{Entry}
use Rattle.pol_history.specs.Looking.{History}
use Rattle.pol_history.specs.Runs.{IsLegal, IsOrderly}
use Rattle.pol_record.specs.Lines.{closing_text, output_of}
use Rattle.pol_record.specs.Texts.{IsReadBack, entry_line_text}
use Rattle.pol_audit.specs.declared.judging.TheConstants.{MOST_JUDGED}
use Rattle.pol_retold.specs.Inputs.{IsShortLine, lines_read, run_text}
use Rattle.pol_retold.specs.Replayed.{IsShortEvent, answers_text, journal_of}
use Rattle.pol_retold.specs.Retold.{AreGood, IsRetold, run_lines}
use Rattle.pol_site.specs.Commanded.{IsCommanded}
use Rattle.pol_site.specs.Following.{FollowsSite}
use Rattle.pol_site.specs.Settled.{IsSettled}
use Rattle.pol_site.specs.Sites.{PlainSite}
use Rattle.pol_jobs.specs.LineWork.{Output}
use Rattle.pol_jobs.specs.Written.{WritesPart}
use Rattle.pol_jobs.specs.declared.fault.JobFault.{JobFault}
use Rattle.pol_jobs.specs.declared.fault.JobFault.TheVariants.{Write, Memory}
use Rattle.site_json.specs.Texts.{site_of}
use Rattle.pol_cli.specs.SiteTexts.{Says}

-- ---- a run and its text

-- the history is one that a run of the site leaves: each answer is the defined one, each entry is one that the site
-- allows, each change has its command, and no actor has anything left to do, or the history is full
pub record IsRunOf (site : PlainSite) (history : History) : Type 0 where
  pub legal : IsLegal history
  pub orderly : IsOrderly history
  pub follows : FollowsSite site history
  pub commanded : IsCommanded history
  pub settled : IsSettled site history

-- the lines of these entries
abbrev pub entry_lines : List Entry → List ℕ
entry_lines entries = flat_map (λ entry. entry_line_text (plain_entry entry)) entries

-- the lines of the entries of a history, the oldest first
abbrev pub entries_text : History → List ℕ
entries_text history = flat_map entry_line_text (reverse history)

-- each of these entries' events is read back from what is written of it
abbrev pub AreReadBack : List PlainEntry → Type 0
AreReadBack entries = AllByRecursion IsReadBack entries

-- each of these entries is read back from its line
abbrev pub AreRetold : List PlainEntry → Type 0
AreRetold entries = AllByRecursion IsRetold entries

-- What is written of the history says it: of at most 20,000 entries, where no line is too long, none of an entry and
-- none of a batch, the audit finds it good; and a replay of its events, where none is too long for a line, gives its
-- answers, its batch lines and the end line.
pub record IsToldWell (history : History) : Type 0 where
  pub audited : length history ≤ MOST_JUDGED → AllByRecursion IsShortLine (run_lines history)
      → AreGood history (lines_read (run_text history))
  pub replayed : AllByRecursion IsShortEvent history
      → output_of (journal_of history) ≡ answers_text history ++ closing_text history

-- all that a run of the site is to write was written, the events of its entries are read back from it, and it says the
-- history
pub record PutsRun (site : PlainSite) (held held' : Option (List ℕ)) : Type 0 where
  pub history : History
  pub is_run : IsRunOf site history
  pub written : Appends held held' (run_text history)
  pub read_back : AreReadBack history
  pub told : IsToldWell history

-- a proper front part of what a run of the site is to write was written
pub record PutsPart (site : PlainSite) (held held' : Option (List ℕ)) : Type 0 where
  pub history : History
  pub is_run : IsRunOf site history
  pub part : WritesPart held held' (run_text history)

-- the input was read to its end and says a site, and all of a run of it was written
pub record WritesRun (begin left held held' : Option (List ℕ)) : Type 0 where
  pub site : PlainSite
  pub says : Between (Says (Ok site)) begin left
  pub puts : PutsRun site held held'

-- the input was read to its end and says a site, and a proper front part of a run of it was written
pub record WritesRunPart (begin left held held' : Option (List ℕ)) : Type 0 where
  pub site : PlainSite
  pub says : Between (Says (Ok site)) begin left
  pub puts : PutsPart site held held'

-- what was written, whether the source gives its bytes or not: at the end all; where the sink failed a part; where
-- there was no memory none or a part; and where no run was begun nothing
abbrev pub RunWrites : Option (List ℕ) → Option (List ℕ) → Option (List ℕ) → Option (List ℕ)
    → Result (Unit {0}) (JobFault JsonFault Infallible) → Type 0
RunWrites begin left held held' (Ok done) = WritesRun begin left held held'
RunWrites begin left held held' (Err Write) = WritesRunPart begin left held held'
RunWrites begin left held held' (Err Memory) = Keeps held held' ⊎ WritesRunPart begin left held held'
RunWrites begin left held held' (Err _) = Keeps held held'

-- ---- the output

-- this is the text of a run of the site
pub record IsRunText (site : PlainSite) (text : List ℕ) : Type 0 where
  pub history : History
  pub is_run : IsRunOf site history
  pub text_is : text ≡ run_text history

-- the output of a plant: nothing is replied; what may close it is the text of any run of the site that the input says;
-- and an input that says none is refused, for its fault
abbrev pub planted : Output JsonFault
planted =
    record {
      replies = λ bytes. [];
      Closing = λ bytes text. (site : PlainSite) × (site_of bytes ≡ Ok site) × IsRunText site text;
      Refuses = λ bytes line fault. ⊥;
      RefusesEnd = λ bytes fault. site_of bytes ≡ Err fault;
    }
