-- What the words of the command line ask for.
use Rattle.std.specs.Prelude.{◌≡◌, ◌<◌, ◌≤◌, ◌^◌, ℕ, List, [], ◌∷◌, String, Option, Some, None, codes, string_bytes, map, true, option_and_then, if◌then◌else◌}
use Rattle.std.specs.Str.{bytes_eq}
use Rattle.std.specs.Str.Parse.{IsNumeral, digits_value, without_leading_plus}
use Rattle.std.specs.declared.alloc.Global.{Global}
use Rattle.clap.specs.Words.{App, Rule, Text, first_of, matches_of, new_app, new_rule, with_rule, fault_of}
use Rattle.clap.specs.Simple.{on_top}
use Rattle.clap.specs.declared.builder.action.ArgAction.TheVariants.{Set}
use Rattle.pol_arguments.specs.declared.JobForm.{JobForm}
use Rattle.pol_arguments.specs.declared.JobForm.TheVariants.{Alone, Seeded, Watched}
use Rattle.pol_arguments.specs.declared.SerialTask.TheVariants.{Replay, Demo, Audit, Attest, Find, Guard, Migrate}
use Rattle.pol_arguments.specs.declared.TheConstants.{MOST_WATCHERS}
use Rattle.pol_arguments.specs.declared.Task.{Task}
use Rattle.pol_arguments.specs.declared.Task.TheVariants.{Serial, Live, Keep, Export, Compact, Operate}

-- an option that takes one value
abbrev pub option_rule : Text → Rule
option_rule name = record (new_rule name) { long = Some name; action = Some Set }

-- the option `--job`, which is required
abbrev pub job_rule : Rule
job_rule = record (option_rule (codes "job")) { required = true }

-- the command `pol`, with neither help nor version
unfoldable pub pol : App
pol = with_rule (with_rule (with_rule
    (on_top (λ settings. record settings { disable_help_flag = true; disable_version_flag = true })
    (new_app (codes "pol")))
    job_rule) (option_rule (codes "seed"))) (option_rule (codes "watchers"))

-- ---- the jobs

-- the jobs by their words, and what each takes beside its name
abbrev pub job_words : List (Text × JobForm)
job_words =
    (codes "replay", Alone (Serial Replay))
    ∷ (codes "demo", Seeded)
    ∷ (codes "audit", Alone (Serial Audit))
    ∷ (codes "attest", Alone (Serial Attest))
    ∷ (codes "find", Alone (Serial Find))
    ∷ (codes "guard", Alone (Serial Guard))
    ∷ (codes "migrate", Alone (Serial Migrate))
    ∷ (codes "plant", Watched)
    ∷ (codes "keep", Alone Keep)
    ∷ (codes "export", Alone Export)
    ∷ (codes "compact", Alone Compact)
    ∷ (codes "operate", Alone Operate)
    ∷ []

-- the row of a word
abbrev pub row_of : Text → List (Text × JobForm) → Option JobForm
row_of word [] = None
row_of word (row ∷ rows) = if bytes_eq word row.0 then Some row.1 else row_of word rows

-- the form of the job that a word names
abbrev pub form_named : Text → Option JobForm
form_named word = row_of word job_words

-- ---- the numbers that jobs take

-- a text is this number in decimal, a plus before it allowed, and it is at most 4294967295
pub record IsSeed (seed : ℕ) (text : Text) : Type 0 where
  pub numeral : IsNumeral 10 (without_leading_plus text)
  pub number : seed ≡ digits_value 10 (without_leading_plus text)
  pub in_range : seed < 2 ^ 32

-- a text is this number of watchers in decimal, a plus before it allowed, and there are at most 16
pub record IsWatchers (count : ℕ) (text : Text) : Type 0 where
  pub numeral : IsNumeral 10 (without_leading_plus text)
  pub number : count ≡ digits_value 10 (without_leading_plus text)
  pub in_range : count ≤ MOST_WATCHERS

-- there are this many watchers: none where no text is given
abbrev pub IsCount : ℕ → Option Text → Type 0
IsCount count None = count ≡ 0
IsCount count (Some text) = IsWatchers count text

-- ---- what the words ask for

-- a job of this form, with these values of `--seed` and `--watchers`, is this task
abbrev pub Gives : JobForm → Option Text → Option Text → Task → Type 0
Gives (Alone job) None None task = task ≡ job
Gives Seeded (Some text) None task = (seed : ℕ) × (task ≡ Serial (Demo seed)) × IsSeed seed text
Gives Watched None watchers task = (count : ℕ) × (task ≡ Live (record { watchers = count })) × IsCount count watchers
Gives _ _ _ task = ⊥

-- the value of an option that clap finds in some words, where it is given
abbrev pub value_of : Text → List Text → Option Text
value_of name words = first_of name (matches_of pol words)

-- the value of `--job` names a job that, with the other values, is this task
pub record Asks (words : List Text) (task : Task) : Type 0 where
  pub form : JobForm
  pub named : option_and_then form_named (value_of (codes "job") words) ≡ Some form
  pub gives : Gives form (value_of (codes "seed") words) (value_of (codes "watchers") words) task

-- the words as texts
abbrev pub texts_of : List (String Global) → List Text
texts_of words = map string_bytes words

-- clap refuses nothing of the words, and the values that it finds ask for the task
abbrev pub Means : List Text → Task → Type 0
Means words task = (fault_of pol words ≡ []) × Asks words task
