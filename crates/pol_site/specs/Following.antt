-- A history follows a site: each entry is one that the site allows after those before it.
use Rattle.std.specs.Prelude.{ℕ, pred, ◌≡◌, ◌≢◌, ◌≤◌, Bool, true, false, List, [], ◌∷◌, ◌++◌, length, map, filter, find}
use Rattle.std.specs.Prelude.{Option, Some, None, option_map, unwrap_or, slice_get, if◌then◌else◌}
use Rattle.std.specs.List.{Contains}
use Rattle.std.specs.Str.{bytes_eq}
use Rattle.mtp_codes.specs.declared.command.Command.{Command}
use Rattle.mtp_codes.specs.declared.state.State.{State}
use Rattle.mtp_codes.specs.declared.state.State.TheVariants.{Idle}
use Rattle.mtp_codes.specs.declared.value.Value.{Value}
use Rattle.mtp_codes.specs.declared.value.Value.TheVariants.{Whole}
use Rattle.mtp_assembly.specs.declared.control.ServiceControl.{ServiceControl}
use Rattle.mtp_desc.specs.Plain.{PlainDescription}
use Rattle.mtp_sim.specs.declared.plan.Drift.{Drift}
use Rattle.mtp_sim.specs.Ticks.{control_in, next_value}
use Rattle.pol_events.specs.Events.{PlainEvent, plug, unplug, report, variable, recipe, start, advance, freeze, thaw}
use Rattle.pol_events.specs.Events.{stop_batch, abandon, desk, exchange_begin, exchange_end, exchange_cancel}
use Rattle.pol_events.specs.Events.{PlainEntry}
use Rattle.pol_events.specs.Bound.{PlainAllocation}
use Rattle.pol_events.specs.declared.answer.Answer.{Answer}
use Rattle.pol_events.specs.declared.answer.Answer.TheVariants.{Ticket, Did, Closed, Refused}
use Rattle.pol_events.specs.declared.answer.Rule.{Rule}
use Rattle.pol_events.specs.declared.answer.Rule.TheVariants.{NoModule, InExchange, NoRecipe, NotReported, NotIdle}
use Rattle.pol_events.specs.declared.answer.Rule.TheVariants.{Busy, HeldBack}
use Rattle.pol_history.specs.Looking.{History, subject, is_accepted, is_batch, past, last_of}
use Rattle.pol_history.specs.Modules.{control_by, value_by, description_by, completes_by}
use Rattle.pol_site.specs.Sites.{PlainSite, PlainSiteBatch, PlainSiteExchange}
use Rattle.pol_site.specs.Stories.{story, procedure_started}
use Rattle.pol_site.specs.Plans.{plan_by, drifts_in, whole_in, begun_in}

-- ---- recipes and modules

-- the events by which the recipes of a site are made known and its modules plugged, in their order
abbrev pub openings : PlainSite → List PlainEvent
openings site =
    map (λ each. recipe 0 each.recipe each.chart) site.recipes
    ++ map (λ each. plug 0 each.tag each.description) site.modules

-- the event makes a recipe known or plugs a module
abbrev pub is_opening : PlainEvent → Bool
is_opening (recipe at name chart) = true
is_opening (plug at tag description) = true
is_opening _ = false

-- how many recipes and modules had their events
abbrev pub opened : History → ℕ
opened history = length (filter (λ entry. is_opening entry.event) history)

-- ---- exchanges

-- the state of the exchanges: none is open; one was begun; its end was held back, and it is to be cancelled
pub data Exchanging : Type 0 where
  none_open : Exchanging
  was_begun : (tag : List ℕ) (ticket : ℕ) → Exchanging
  was_held : (tag : List ℕ) (ticket : ℕ) → Exchanging

-- the state of the exchanges after a begin, by its answer
abbrev pub begun_with : List ℕ → Answer → Exchanging
begun_with tag (Ticket ticket) = was_begun tag ticket
begun_with tag _ = none_open

-- the state of the exchanges after an end, by its answer
abbrev pub ended_with : List ℕ → ℕ → Answer → Exchanging
ended_with tag ticket (Refused (HeldBack batch missing)) = was_held tag ticket
ended_with tag ticket _ = none_open

-- the state in which an event of an exchange leaves the exchanges; none for any other event
abbrev pub exchanging_after : PlainEvent → Answer → Option Exchanging
exchanging_after (exchange_begin at tag) answer = Some (begun_with tag answer)
exchanging_after (exchange_end at tag ticket description) answer = Some (ended_with tag ticket answer)
exchanging_after (exchange_cancel at tag ticket) answer = Some none_open
exchanging_after _ answer = None

-- the state after the last event of an exchange, if there was one
abbrev pub last_exchanging : History → Option Exchanging
last_exchanging history = last_of (λ entry. exchanging_after entry.event entry.answer) history

-- the state of the exchanges after a history
abbrev pub exchanging : History → Exchanging
exchanging history = unwrap_or (last_exchanging history) none_open

-- the event is that of the site's next recipe or module, before the first exchange; stamps are never compared
pub record IsOpening (site : PlainSite) (older : History) (event : PlainEvent) : Type 0 where
  pub listed : slice_get (openings site) (opened older) ≡ Some event
  pub unexchanged : last_exchanging older ≡ None

-- the next exchange of the site begins: no exchange is open, and there are as many entries as it waits for
pub record IsBegin (site : PlainSite) (older : History) (tag : List ℕ) (answer : Answer) : Type 0 where
  pub exchange : PlainSiteExchange
  pub listed : slice_get site.exchanges (begun_in older) ≡ Some exchange
  pub tag_is : tag ≡ exchange.tag
  pub waited : exchange.after ≤ length older
  pub closed : exchanging older ≡ none_open
  pub accepted : is_accepted answer ≡ true

-- the exchange that was begun last ends, with its ticket and the listed description
pub record IsEnd (site : PlainSite) (older : History) (tag : List ℕ) (ticket : ℕ) (description : PlainDescription) :
    Type 0 where
  pub exchange : PlainSiteExchange
  pub listed : slice_get site.exchanges (pred (begun_in older)) ≡ Some exchange
  pub description_is : description ≡ exchange.description
  pub begun : exchanging older ≡ was_begun tag ticket

-- an exchange whose end was held back is cancelled
pub record IsCancel (older : History) (tag : List ℕ) (ticket : ℕ) (answer : Answer) : Type 0 where
  pub held : exchanging older ≡ was_held tag ticket
  pub accepted : is_accepted answer ≡ true

-- ---- batches

-- the batch of the site with this name
abbrev pub listed_batch : PlainSite → List ℕ → Option PlainSiteBatch
listed_batch site name = find (λ batch. bytes_eq batch.batch name) site.batches

-- an entry, where it is of the batch
abbrev pub of_batch_named : List ℕ → PlainEntry → Option PlainEntry
of_batch_named batch entry = if is_batch batch (subject entry.event) then Some entry else None

-- the last entry of the batch, whatever its answer
abbrev pub last_entry_of : List ℕ → History → Option PlainEntry
last_entry_of batch history = last_of (of_batch_named batch) history

-- a start waits while this rule holds: its modules aren't ready, or its recipe isn't known
abbrev pub is_passing : Rule → Bool
is_passing (NoModule tag) = true
is_passing (InExchange tag ticket) = true
is_passing NoRecipe = true
is_passing (NotReported tag name) = true
is_passing (NotIdle tag service state) = true
is_passing (Busy tag batch) = true
is_passing _ = false

-- the answer is a refusal that passes
abbrev pub is_put_off : Answer → Bool
is_put_off (Refused rule) = is_passing rule
is_put_off _ = false

-- the batch did something
abbrev pub is_stepped : Answer → Bool
is_stepped (Did entry) = true
is_stepped (Closed outcome) = true
is_stepped _ = false

-- the first event of a batch of the site: its start, which isn't put off
pub record IsStart (site : PlainSite) (older : History) (batch recipe : List ℕ) (binds : PlainAllocation)
    (answer : Answer) : Type 0 where
  pub listed : listed_batch site batch ≡ Some (record { batch = batch; recipe = recipe; binds = binds })
  pub first : last_entry_of batch older ≡ None
  pub not_put_off : is_put_off answer ≡ false

-- the batch did something, and its entry before was accepted: a refused start is the last entry of a batch
pub record IsAdvance (older : History) (batch : List ℕ) (answer : Answer) : Type 0 where
  pub before : PlainEntry
  pub last : last_entry_of batch older ≡ Some before
  pub accepted : is_accepted before.answer ≡ true
  pub stepped : is_stepped answer ≡ true

-- ---- the desk

-- the event is a command of the desk
abbrev pub is_order : PlainEvent → Bool
is_order (desk at tag service command) = true
is_order _ = false

-- how many commands the desk sent
abbrev pub ordered : History → ℕ
ordered history = length (filter (λ entry. is_order entry.event) history)

-- the next command of the desk, once there are as many entries as it waits for
pub record IsOrder (site : PlainSite) (older : History) (tag service : List ℕ) (command : Command) : Type 0 where
  pub after : ℕ
  pub listed :
      slice_get site.desk (ordered older)
      ≡ Some (record { tag = tag; service = service; command = command; after = after })
  pub waited : after ≤ length older

-- ---- modules

-- the first state that a service reports after docking is Idle, and each later one is another than the last
abbrev pub IsNewState : Option ServiceControl → State → Type 0
IsNewState None state = state ≡ Idle
IsNewState (Some last) state = state ≢ last.state

-- what the service reports that is in this state, by the module's past and story: Automatic and External, with the
-- procedure that was started last, and the commands that leave its state
abbrev pub control_due : List ℕ → List ℕ → History → History → State → ServiceControl
control_due tag service past story state =
    control_in (completes_by service (procedure_started tag service story) (description_by past))
    (procedure_started tag service story) state

-- a report of a service, by the module's past and story
pub record IsReport (tag service : List ℕ) (past story : History) (control : ServiceControl) (answer : Answer) :
    Type 0 where
  pub accepted : is_accepted answer ≡ true
  pub new : IsNewState (control_by service past) control.state
  pub due : control ≡ control_due tag service past story control.state

-- a value of a variable, by the module's past: the next one of a drift of its plan
pub record IsValue (site : PlainSite) (tag name : List ℕ) (past : History) (value : Value) (answer : Answer) :
    Type 0 where
  pub accepted : is_accepted answer ≡ true
  pub drift : Drift
  pub listed : Contains (drifts_in (plan_by site tag past)) drift
  pub name_is : drift.name ≡ name
  pub next : option_map Whole (next_value drift (whole_in (value_by name past))) ≡ Some value

-- ---- histories

-- the site allows the event with this answer after these entries
abbrev pub IsAllowed : PlainSite → History → PlainEvent → Answer → Type 0
IsAllowed site older (plug at tag description) answer = IsOpening site older (plug 0 tag description)
IsAllowed site older (unplug at tag) answer = ⊥
IsAllowed site older (report at tag service control) answer =
    IsReport tag service (past tag older) (story tag older) control answer
IsAllowed site older (variable at tag name value) answer = IsValue site tag name (past tag older) value answer
IsAllowed site older (recipe at name chart) answer = IsOpening site older (recipe 0 name chart)
IsAllowed site older (start at batch name binds) answer = IsStart site older batch name binds answer
IsAllowed site older (advance at batch) answer = IsAdvance older batch answer
IsAllowed site older (freeze at batch hold) answer = ⊥
IsAllowed site older (thaw at batch) answer = ⊥
IsAllowed site older (stop_batch at batch) answer = ⊥
IsAllowed site older (abandon at batch) answer = ⊥
IsAllowed site older (desk at tag service command) answer = IsOrder site older tag service command
IsAllowed site older (exchange_begin at tag) answer = IsBegin site older tag answer
IsAllowed site older (exchange_end at tag ticket description) answer = IsEnd site older tag ticket description
IsAllowed site older (exchange_cancel at tag ticket) answer = IsCancel older tag ticket answer

-- Each entry of the history is one that the site allows after those before it.
abbrev pub FollowsSite : PlainSite → History → Type 0
FollowsSite site [] = Unit {0}
FollowsSite site (entry ∷ older) = IsAllowed site older entry.event entry.answer × FollowsSite site older
