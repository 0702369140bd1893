-- How the lines that wait are settled, and the replies to them written.
use Rattle.std.specs.Prelude.{ℕ, ◌≡◌, ◌⊎◌, List, [], ◌∷◌, ◌++◌, Bool, true, false, IsTrue, Option}
use Rattle.std.specs.Io.KnownBytes.{Appends}
use Rattle.pol_io.specs.LinesState.{LinesState, needs_no_source}
use Rattle.pol_jobs.specs.LineWork.{Line}
use Rattle.pol_jobs.specs.Written.{WritesSome}

-- what jobs of a kind do from one state to another: the lines that are settled then, those that wait behind them, and
-- whether the last of these was replied to as well
abbrev pub Deeds : Type 0 → Type 1
Deeds Job = Job → Job → List Line → List Line → Bool → Type 0

-- the next line was met, and waits behind the others
abbrev pub Meets : {Job : Type 0} → Deeds Job → Job → Job → Line → Bool → Type 0
Meets {Job} Did before now line whole =
    (first : Job) (settled waiting : List Line) → Did first before settled waiting true
    → Did first now settled (waiting ++ line ∷ []) whole

-- the lines that waited were settled; and of a job that had stopped at the last of them, those before it
pub record Settles {Job : Type 0} (Did : Deeds Job) (each : Bool) (before now : Job) : Type 0 where
  pub all : (first : Job) (settled waiting : List Line) → Did first before settled waiting true
      → Did first now (settled ++ waiting) [] true
  pub stopped : each ≡ false → (first : Job) (settled waiting : List Line) (last : Line)
      → Did first before settled (waiting ++ last ∷ []) false → Did first now (settled ++ waiting) (last ∷ []) false

-- the lines that waited were not settled, and the job stopped there
pub record SettlesNone {Job : Type 0} (Did : Deeds Job) (each : Bool) (before now : Job) : Type 0 where
  pub all : (first : Job) (settled waiting : List Line) → Did first before settled waiting true
      → Did first now settled waiting false
  pub stopped : each ≡ false → (first : Job) (settled waiting : List Line) (last : Line)
      → Did first before settled (waiting ++ last ∷ []) false → Did first now settled (waiting ++ last ∷ []) false

-- the lines that waited were settled, and then the replies to them were written
pub record Puts {Job : Type 0} (Did : Deeds Job) (each : Bool) (before now : Job) (held held' : Option (List ℕ))
    (replies : List ℕ) : Type 0 where
  pub settles : Settles Did each before now
  pub written : Appends held held' replies

-- the lines that waited were settled, and a front part of the replies to them was written; or they weren't settled, and
-- nothing was written
abbrev pub PutsPart : {Job : Type 0} → Deeds Job → Bool → Job → Job → Option (List ℕ) → Option (List ℕ) → List ℕ
    → Type 0
PutsPart Did each before now held held' replies =
    (Settles Did each before now × WritesSome held held' replies)
    ⊎ (SettlesNone Did each before now × (held' ≡ held))

-- the replies wait on, since the next line is there too and the job doesn't settle each
pub record PutsOff {Job : Type 0} (each : Bool) (lines : LinesState) (before now : Job) (held held' : Option (List ℕ))
    (replies replies' : List ℕ) : Type 0 where
  pub grouped : each ≡ false
  pub next : IsTrue (needs_no_source lines)
  pub job : now ≡ before
  pub sink : held' ≡ held
  pub waits : replies' ≡ replies

-- the replies were put off, or put out
abbrev pub PutsDue : {Job : Type 0} → Deeds Job → Bool → LinesState → Job → Job → Option (List ℕ) → Option (List ℕ)
    → List ℕ → List ℕ → Type 0
PutsDue Did each lines before now held held' replies replies' =
    PutsOff each lines before now held held' replies replies'
    ⊎ (Puts Did each before now held held' replies × (replies' ≡ []))

-- where a job stopped at a line: it settles each line, and nothing waited; or the lines before were settled, and the
-- replies to them written
abbrev pub PutsBefore : {Job : Type 0} → Deeds Job → Bool → Job → Job → Option (List ℕ) → Option (List ℕ) → List ℕ
    → Type 0
PutsBefore Did each before now held held' replies =
    ((each ≡ true) × (now ≡ before) × (held' ≡ held))
    ⊎ ((each ≡ false) × Puts Did each before now held held' replies)
