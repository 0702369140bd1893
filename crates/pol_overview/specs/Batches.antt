-- The batches of a plant as the overview shows them.
use Rattle.std.specs.Prelude.{ℕ, Bool, List, ◌∷◌, ◌++◌, codes, Option, Some, None}
use Rattle.json.specs.Token as token
use Rattle.json.specs.Token.{Token}
use Rattle.serde_json.specs.Data.{Data, null, boolean, string, object, member, no_members}
use Rattle.chart_core.specs.declared.next.Outcome.{Outcome}
use Rattle.pol_events.specs.Events.{advance}
use Rattle.event_json.specs.Written.{written_binds}
use Rattle.pol_history.specs.Answers.{answer_of}
use Rattle.pol_history.specs.Batches.{Started, batches, start_of}
use Rattle.pol_history.specs.Looking.{History}
use Rattle.pol_core.specs.Calls.{standing_of}
use Rattle.pol_core.specs.Steps.{active_of, waits_of}
use Rattle.pol_core.specs.declared.standing.Standing.{Standing}
use Rattle.pol_record.specs.Objects.{data_tokens}
use Rattle.pol_record.specs.Texts.{answer_data, outcome_name}
use Rattle.pol_overview.specs.Lists.{each_data}
use Rattle.pol_overview.specs.Steps.{active_data, held_steps, unheld_steps, waiting_data}

-- whether the services of a batch are held while it is frozen; null while it isn't frozen
abbrev pub hold_data : Option Bool → Data
hold_data None = null
hold_data (Some hold) = boolean hold

-- a batch that is closed: its name, what it held, its outcome, its recipe and what it watched
unfoldable pub closed_object : List ℕ → Data → List ℕ → List ℕ → Data → Data
closed_object batch held outcome recipe watched = object
    (member (codes "batch") (string batch)
    (member (codes "bind") held
    (member (codes "outcome") (string outcome)
    (member (codes "recipe") (string recipe)
    (member (codes "watch") watched no_members)))))

-- the tokens of the first fields of a batch that is open: its active steps, its name, what it holds, how it is frozen
-- and what comes next
abbrev pub front_tokens : Data → List ℕ → Data → Data → Data → List Token
front_tokens active batch held hold next =
    token.key (codes "active")
    ∷ (data_tokens active
    ++ (token.key (codes "batch")
    ∷ token.string batch
    ∷ token.key (codes "bind")
    ∷ (data_tokens held
    ++ (token.key (codes "hold") ∷ (data_tokens hold ++ (token.key (codes "next") ∷ data_tokens next))))))

-- the tokens of the last fields of a batch that is open: that it runs, its recipe, whether it is to be stopped, the
-- steps that a hold doesn't reach, what its nodes wait for and what it watches
abbrev pub back_tokens : List ℕ → Bool → Data → Data → Data → List Token
back_tokens recipe stopping unheld waits watched =
    token.key (codes "outcome")
    ∷ token.string (codes "Running")
    ∷ token.key (codes "recipe")
    ∷ token.string recipe
    ∷ token.key (codes "stopping")
    ∷ token.boolean stopping
    ∷ token.key (codes "unheld")
    ∷ (data_tokens unheld
    ++ (token.key (codes "waits")
    ∷ (data_tokens waits ++ (token.key (codes "watch") ∷ data_tokens watched))))

-- a batch that is open: its active steps, its name, what it holds, how it is frozen, what comes next, its recipe,
-- whether it is to be stopped, the steps that a hold doesn't reach, what its nodes wait for, and what it watches
unfoldable pub open_object : Data → List ℕ → Data → Data → Data → List ℕ → Bool → Data → Data → Data → Data
open_object active batch held hold next recipe stopping unheld waits watched = object
    (member (codes "active") active
    (member (codes "batch") (string batch)
    (member (codes "bind") held
    (member (codes "hold") hold
    (member (codes "next") next
    (member (codes "outcome") (string (codes "Running"))
    (member (codes "recipe") (string recipe)
    (member (codes "stopping") (boolean stopping)
    (member (codes "unheld") unheld
    (member (codes "waits") waits
    (member (codes "watch") watched no_members)))))))))))

-- what an advance of the batch would be answered with now; its stamp is no matter
abbrev pub next_data : History → List ℕ → Data
next_data history batch = answer_data (answer_of history (advance 0 batch))

-- a batch with this start that is open, by how it is frozen, and whether it is to be stopped
abbrev pub open_data : History → List ℕ → Started → Option Bool → Bool → Data
open_data history batch started hold stopping =
    open_object (each_data (active_data history) (active_of history batch)) batch (written_binds started.binds.held)
    (hold_data hold) (next_data history batch) started.recipe stopping
    (unheld_steps history (held_steps hold (active_of history batch))) (each_data waiting_data (waits_of history batch))
    (written_binds started.binds.watched)

-- a batch with this start, by its outcome, how it is frozen, and whether it is to be stopped
abbrev pub course_data : History → List ℕ → Started → Option Outcome → Option Bool → Bool → Data
course_data history batch started (Some outcome) hold stopping =
    closed_object batch (written_binds started.binds.held) (outcome_name outcome) started.recipe
    (written_binds started.binds.watched)
course_data history batch started None hold stopping = open_data history batch started hold stopping

-- a batch that was started, by its standing; null for any other
abbrev pub standing_data : History → List ℕ → Option Started → Option Standing → Data
standing_data history batch None standing = null
standing_data history batch (Some started) None = null
standing_data history batch (Some started) (Some standing) =
    course_data history batch started standing.outcome standing.hold standing.is_stopping

-- a batch
abbrev pub batch_data : History → List ℕ → Data
batch_data history batch = standing_data history batch (start_of history batch) (standing_of history batch)

-- the batches that were started, in the order of their starts
abbrev pub batches_data : History → Data
batches_data history = each_data (batch_data history) (batches history)
