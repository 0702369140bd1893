-- Starts and recipes: what every event keeps of them.
use Rattle.std.proofs.Common.{◌≡◌, ℕ, Bool, true, false, cond, List, [], ◌∷◌, Option, Some, None, refl, ap, sym, ◌∙◌}
use Rattle.std.proofs.Common.{subst, inl, inr}
use Rattle.std.specs.Prelude.{◌&&◌, IsTrue, is_some, is_none, if◌then◌else◌}
use Rattle.std.specs.List.{Contains}
use Rattle.std.specs.Option.{option_or}
use Rattle.std.specs.Str.{bytes_eq}
use Rattle.std.proofs.lemmas.Bool.{and_parts, or_left, or_right}
use Rattle.mtp_codes.specs.Names.{same_name}
use Rattle.mtp_codes.proofs.Names.{same_true, same_refl}
use Rattle.chart_core.specs.Roles.{PlainChart, role_names, is_chart_form}
use Rattle.chart_core.specs.Trees.{PlainStep, Placed, steps}
use Rattle.chart_core.specs.Valid.{IsValid, chart_fault}
use Rattle.chart_core.proofs.Lawful.{member_cases, roles_of_steps}
use Rattle.chart_core.specs.declared.fault.ChartFault.{ChartFault}
use Rattle.pol_events.specs.Events.{PlainEvent, recipe, start, advance, freeze, thaw, stop_batch, abandon, PlainEntry}
use Rattle.pol_events.specs.Orderly.{is_allocation, is_valid}
use Rattle.pol_events.specs.Bound.{PlainAllocation, bound_tag, given}
use Rattle.pol_events.specs.declared.answer.Rule.TheVariants.{RecipeKnown, BatchKnown, BatchClosed}
use Rattle.pol_events.proofs.Given.{given_once}
use Rattle.pol_events.proofs.Lists.{no_member, among_member, image_member}
use Rattle.pol_history.proofs.Open.{open_before}
use Rattle.pol_history.specs.Looking.{History, past_of_batch, recipes, is_accepted, is_accepted_of_batch}
use Rattle.pol_history.specs.Batches.{Started, starting, start_by, chart_named, outcome_of, start_of}
use Rattle.pol_history.specs.Rules.{no_batch, batch_closed, role_unbound, role_unknown, one_module_twice, has_step}
use Rattle.pol_history.specs.Rules.{watched_step, steps_in, modules_unfit, busy}
use Rattle.pol_history.specs.Answers.{start_rules, otherwise}
use Rattle.pol_history.specs.Runs.{IsLegal, IsOrderly}
use Rattle.pol_history.proofs.Accepted.{NoneHolds}
use Rattle.pol_events.proofs.Options.{not_some, no_both, some_same}
use Rattle.pol_safety.proofs.Sides.{Sides, sides, accepted, Comes, IsKeptBy, always, at_own}
use Rattle.pol_history.proofs.Binds.{IsFitting, fitting, given_known, step_unwatched, when_none}

-- ---- what no rule of a start says

-- a start that no rule is against
pub record MayStart (history : History) (batch : List ℕ) (binds : PlainAllocation) (chart : PlainChart) : Type 0 where
  pub fresh : start_of history batch ≡ None
  pub bound : role_unbound (given binds) (role_names chart) ≡ None
  pub known : role_unknown binds (role_names chart) ≡ None
  pub apart : one_module_twice (given binds) [] (role_names chart) ≡ None
  pub unwatched : watched_step binds.watched (steps_in chart) (role_names chart) ≡ None
  pub fit : modules_unfit history chart (given binds) (role_names chart) ≡ None
  pub free : busy history binds.held (role_names chart) ≡ None

-- its recipe is there
pub may_start : (history : History) (batch : List ℕ) (binds : PlainAllocation) (found : Option PlainChart)
    → NoneHolds (start_rules history batch binds found) →
    (chart : PlainChart) × (found ≡ Some chart) × MayStart history batch binds chart
may_start history batch binds None free = let none = free.0 in cc
may_start history batch binds (Some chart) free = (
  chart,
  refl,
  record {
    fresh = not_some (start_of history batch) (when_none (is_some (start_of history batch)) BatchKnown free.0);
    bound = free.1.0;
    known = free.1.1.0;
    apart = free.1.1.1.0;
    unwatched = free.1.1.1.1.0;
    fit = free.1.1.1.1.1.0;
    free = free.1.1.1.1.1.1.0;
  },
)

-- and its binds fit the chart
pub start_fits : (history : History) (batch : List ℕ) (binds : PlainAllocation) (chart : PlainChart)
    → is_allocation binds ≡ true →
    MayStart history batch binds chart → IsFitting chart (given binds)
start_fits history batch binds chart formed may =
    fitting chart (given binds) (given_once binds formed) may.bound
    (given_known binds (role_names chart) may.known) may.apart

-- the role of each step has a module that is held: it isn't watched
abbrev pub StepsAreHeld : PlainChart → PlainAllocation → Type 0
StepsAreHeld chart binds = (placed : Placed) → Contains (steps chart.root 0) placed →
    bound_tag binds.watched placed.step.role ≡ None

-- a step that is there has its role
step_there : (each : List PlainStep) (step : PlainStep) → Contains each step → has_step each step.role ≡ true
step_there [] step inside = no_member step inside
step_there (first ∷ others) step inside =
    elim (member_cases first step others inside) [
      | inl same ↦ or_left (same_name first.role step.role) (has_step others step.role)
          (ap (λ (one : PlainStep). same_name one.role step.role) same ∙ same_refl step.role)
      | inr later ↦ or_right (same_name first.role step.role) (has_step others step.role)
          (step_there others step later)
    ]

-- the steps of a start that no rule is against are held
start_holds : (history : History) (batch : List ℕ) (binds : PlainAllocation) (chart : PlainChart) → IsValid chart →
    MayStart history batch binds chart → StepsAreHeld chart binds
start_holds history batch binds chart valid may placed inside =
    step_unwatched binds.watched (steps_in chart) (role_names chart) placed.step.role may.unwatched
    (among_member (role_names chart) placed.step.role (roles_of_steps chart placed valid inside))
    (step_there (steps_in chart) placed.step
    (image_member (λ placed. placed.step) (steps chart.root 0) placed inside))

-- an event that no rule is against is of an open batch
pub is_open_batch : (history : History) (batch : List ℕ) → batch_closed (past_of_batch batch history) ≡ None
    → outcome_of history batch ≡ None
is_open_batch history batch free = not_some (outcome_of history batch)
    (when_none (is_some (outcome_of history batch)) BatchClosed free)

-- ---- recipes

-- the chart is formed and valid
pub record IsGoodChart (chart : PlainChart) : Type 0 where
  pub is_formed : IsTrue (is_chart_form chart)
  pub valid : IsValid chart

-- the charts of all recipes are
abbrev pub GoodCharts : Sides → Type 0
GoodCharts side = (name : List ℕ) (chart : PlainChart) → chart_named name side.recipes ≡ Some chart → IsGoodChart chart

-- a chart of which no fault is found has none
no_fault : (fault : Option ChartFault) → is_none fault ≡ true → fault ≡ None
no_fault None none = refl
no_fault (Some fault) none = cc

-- a chart that is valid and in form is a good one
sound_one : (chart : PlainChart) → (is_chart_form chart && is_valid chart) ≡ true → IsGoodChart chart
sound_one chart formed =
    let parts = and_parts (is_chart_form chart) (is_valid chart) formed in
    record { is_formed = parts.0; valid = no_fault (chart_fault chart) parts.1 }

-- each event keeps the known charts good
sound_more : IsKeptBy GoodCharts
sound_more history (recipe at other plan) comes sound name chart found = go (bytes_eq other name) found
  where
    go : (same : Bool) → option_or (if same then Some plan else None) (chart_named name (recipes history)) ≡ Some chart
        → IsGoodChart chart
    go true found = let same : plan ≡ chart = cc in subst IsGoodChart same (sound_one plan comes.is_formed)
    go false found = sound name chart found
sound_more history _ comes sound name chart found = sound name chart found

-- so each chart of a legal history is good
pub sound : (history : History) → IsLegal history → IsOrderly history → GoodCharts (sides history)
sound = always GoodCharts (λ name chart found. cc) sound_more

-- a recipe that is known stays
pub chart_stays : (history : History) (event : PlainEvent) (name : List ℕ) (chart : PlainChart) → Comes history event
    → chart_named name (recipes history) ≡ Some chart →
    chart_named name (recipes (accepted history event ∷ history)) ≡ Some chart
chart_stays history (recipe at other plan) name chart comes found = go (bytes_eq other name) refl
  where
    go : (same : Bool) → bytes_eq other name ≡ same → option_or (if same then Some plan else None)
        (chart_named name (recipes history)) ≡ Some chart
    go true is =
        let unknown = not_some (chart_named other (recipes history))
        (when_none (is_some (chart_named other (recipes history))) RecipeKnown comes.free.0) in
        no_both (chart_named name (recipes history)) chart (ap (λ name. chart_named name (recipes history))
        (sym (same_true other name is)) ∙ unknown) found
    go false is = found
chart_stays history _ name chart comes found = found

-- ---- starts

-- a batch that wasn't started has no past
abbrev pub Unstarted : Sides → Type 0
Unstarted side = (batch : List ℕ) → start_by (side.batches batch) ≡ None → side.batches batch ≡ []

-- a batch that wasn't started has no past after an event of another
unstarted_on : (history : History) (other batch : List ℕ) (entry : PlainEntry) (kept : Bool)
    → no_batch (start_of history other) ≡ None →
    (start_of history batch ≡ None → past_of_batch batch history ≡ []) → starting entry.event ≡ None →
    start_by (cond (bytes_eq other batch && kept) (entry ∷ past_of_batch batch history)
    (past_of_batch batch history)) ≡ None →
    cond (bytes_eq other batch && kept) (entry ∷ past_of_batch batch history) (past_of_batch batch history) ≡ []
unstarted_on history other batch entry kept known unstarted is =
    at_own (λ past. start_by past ≡ None → past ≡ []) (past_of_batch batch history) entry kept other batch unstarted
    (λ same none. unknown (start_of history other) (ap (start_of history) same ∙ (rw is at none)) known)
  where
    unknown : {A : Type 0} (found : Option Started) → found ≡ None → no_batch found ≡ None → A
    unknown None before known = cc
    unknown (Some started) before known = cc

-- each event keeps the unstarted batches without a past
unstarted_more : IsKeptBy Unstarted
unstarted_more history (start at other name binds) comes unstarted batch none = go (bytes_eq other batch) none
  where
    go : (same : Bool) → start_by
        (cond (same && true) (accepted history (start at other name binds) ∷ past_of_batch batch history)
        (past_of_batch batch history)) ≡ None →
        cond (same && true) (accepted history (start at other name binds) ∷ past_of_batch batch history)
        (past_of_batch batch history) ≡ []
    go true none = cc
    go false none = unstarted batch none
unstarted_more history (advance at other) comes unstarted batch none =
    unstarted_on history other batch (accepted history (advance at other))
    (is_accepted (otherwise history (advance at other))) comes.free.0 (unstarted batch) refl none
unstarted_more history (freeze at other hold) comes unstarted batch none =
    unstarted_on history other batch (accepted history (freeze at other hold)) true comes.free.0 (unstarted batch) refl
    none
unstarted_more history (thaw at other) comes unstarted batch none =
    unstarted_on history other batch (accepted history (thaw at other)) true comes.free.0 (unstarted batch) refl none
unstarted_more history (stop_batch at other) comes unstarted batch none =
    unstarted_on history other batch (accepted history (stop_batch at other))
    (is_accepted (otherwise history (stop_batch at other))) comes.free.0 (unstarted batch) refl none
unstarted_more history (abandon at other) comes unstarted batch none =
    unstarted_on history other batch (accepted history (abandon at other)) true comes.free.0 (unstarted batch) refl none
unstarted_more history _ comes unstarted batch none = unstarted batch none

-- so in a legal history a batch that wasn't started has no past
pub unstarted : (history : History) → IsLegal history → IsOrderly history → Unstarted (sides history)
unstarted = always Unstarted (λ batch none. refl) unstarted_more

-- an event that is no start changes no start
pub start_same : (history : History) (entry : PlainEntry) (batch : List ℕ) → starting entry.event ≡ None
    → start_of (entry ∷ history) batch ≡ start_of history batch
start_same history entry batch is = go (is_accepted_of_batch batch entry)
  where
    go : (kept : Bool) → start_by (cond kept (entry ∷ past_of_batch batch history) (past_of_batch batch history))
        ≡ start_of history batch
    go true = ap (λ found. option_or found (start_of history batch)) is
    go false = refl

-- a start stays the batch's start
pub start_stays : (history : History) (event : PlainEvent) (batch : List ℕ) (started : Started) → Comes history event
    → start_of history batch ≡ Some started →
    start_of (accepted history event ∷ history) batch ≡ Some started
start_stays history (start at other name binds) batch started comes found = go (bytes_eq other batch) refl
  where
    go : (same : Bool) → bytes_eq other batch ≡ same →
        start_by (cond (same && true) (accepted history (start at other name binds) ∷ past_of_batch batch history)
        (past_of_batch batch history)) ≡ Some started
    go true is =
        let may = may_start history other binds (chart_named name (recipes history)) comes.free in
        no_both (start_of history batch) started (ap (start_of history) (sym (same_true other batch is))
        ∙ may.2.fresh) found
    go false is = found
start_stays history event batch started comes found = start_same history (accepted history event) batch refl ∙ found

-- a start that is accepted is that of its batch
pub data StartCase (history : History) (batch : List ℕ) (started : Started) (other name : List ℕ)
    (binds : PlainAllocation) : Type 0 where
  its_own : other ≡ batch → record { recipe = name; binds = binds } ≡ started
      → StartCase history batch started other name binds
  earlier : bytes_eq other batch ≡ false → start_of history batch ≡ Some started
      → StartCase history batch started other name binds

-- a started batch was started before, or by this very event
pub start_case : (history : History) (batch : List ℕ) (started : Started) (at : ℕ) (other name : List ℕ)
    (binds : PlainAllocation) →
    start_of (accepted history (start at other name binds) ∷ history) batch ≡ Some started
    → StartCase history batch started other name binds
start_case history batch started at other name binds found = go (bytes_eq other batch) refl found
  where
    go : (same : Bool) → bytes_eq other batch ≡ same →
        start_by (cond (same && true) (accepted history (start at other name binds) ∷ past_of_batch batch history)
        (past_of_batch batch history)) ≡ Some started →
        StartCase history batch started other name binds
    go true is found = its_own (same_true other batch is) cc
    go false is found = earlier is found

-- a started batch has the chart of a recipe, its binds fit it, and its steps are held
pub record IsCharted (recipes : History) (started : Started) : Type 0 where
  pub chart : PlainChart
  pub chart_is : chart_named started.recipe recipes ≡ Some chart
  pub fits : IsFitting chart (given started.binds)
  pub steps_held : StepsAreHeld chart started.binds

-- each started batch does
abbrev pub Charted : Sides → Type 0
Charted side = (batch : List ℕ) (started : Started) → start_by (side.batches batch) ≡ Some started
    → IsCharted side.recipes started

-- the recipe of a started batch stays known
charted_stays : (history : History) (event : PlainEvent) (started : Started) → Comes history event
    → IsCharted (recipes history) started →
    IsCharted (recipes (accepted history event ∷ history)) started
charted_stays history event started comes charted =
    record {
      chart = charted.chart;
      chart_is = chart_stays history event started.recipe charted.chart comes
          charted.chart_is;
      fits = charted.fits;
      steps_held = charted.steps_held;
    }

-- an event that starts no batch keeps each started batch on a known chart
charted_by : (history : History) (event : PlainEvent) → starting event ≡ None → Comes history event
    → Charted (sides history) → Charted (sides (accepted history event ∷ history))
charted_by history event is comes charted batch started found =
    charted_stays history event started comes (charted batch started
    (sym (start_same history (accepted history event) batch is) ∙ found))

-- and so does a start
charted_more : IsKeptBy Charted
charted_more history (start at other name binds) comes charted batch started found =
    go (start_case history batch started at other name binds found)
  where
    go : StartCase history batch started other name binds → IsCharted (recipes history) started
    go (earlier is before) = charted batch started before
    go (its_own is same) =
        let may = may_start history other binds (chart_named name (recipes history)) comes.free in
        subst (IsCharted (recipes history)) same
        (record {
          chart = may.0;
          chart_is = may.1;
          fits = start_fits history other binds may.0 comes.is_formed may.2;
          steps_held = start_holds history other binds may.0
              (sound history comes.legal comes.orderly name may.0 may.1).valid may.2;
        })
charted_more history event comes charted batch started found =
    charted_by history event refl comes charted batch started found

-- so in a legal history each started batch has a known chart
pub charted : (history : History) → IsLegal history → IsOrderly history → Charted (sides history)
charted = always Charted (λ batch started found. cc) charted_more

-- the chart of a batch was the one of its recipe before
pub chart_before : (history : History) (event : PlainEvent) (batch : List ℕ) (started : Started) (chart : PlainChart)
    → Comes history event →
    start_of history batch ≡ Some started → chart_named started.recipe
    (recipes (accepted history event ∷ history)) ≡ Some chart →
    chart_named started.recipe (recipes history) ≡ Some chart
chart_before history event batch started chart comes found after =
    let before = charted history comes.legal comes.orderly batch started found in
    let same : before.chart ≡ chart
    = some_same (chart_named started.recipe (recipes (accepted history event ∷ history))) before.chart chart
    (chart_stays history event started.recipe before.chart comes before.chart_is) after in
    before.chart_is ∙ ap Some same

-- an open batch with its start and its chart
pub record IsRunning (history : History) (batch : List ℕ) (started : Started) (chart : PlainChart) : Type 0 where
  pub start_is : start_of history batch ≡ Some started
  pub chart_is : chart_named started.recipe (recipes history) ≡ Some chart
  pub unclosed : outcome_of history batch ≡ None

-- a batch that is open after an event that is no start was so before it
pub was_running : (history : History) (event : PlainEvent) (batch : List ℕ) (started : Started) (chart : PlainChart)
    → starting event ≡ None → Comes history event →
    IsRunning (accepted history event ∷ history) batch started chart → IsRunning history batch started chart
was_running history event batch started chart is comes now =
    let start_was = sym (start_same history (accepted history event) batch is) ∙ now.start_is in
    record {
      start_is = start_was;
      chart_is = chart_before history event batch started chart comes start_was now.chart_is;
      unclosed = open_before history (accepted history event) batch now.unclosed;
    }

-- and its binds fit its chart
pub running_fits : (history : History) (batch : List ℕ) (started : Started) (chart : PlainChart) → IsLegal history
    → IsOrderly history →
    IsRunning history batch started chart → IsFitting chart (given started.binds)
running_fits history batch started chart legal orderly running =
    let found = charted history legal orderly batch started running.start_is in
    subst (λ chart. IsFitting chart (given started.binds))
    (some_same (chart_named started.recipe
    (recipes history)) found.chart chart found.chart_is running.chart_is) found.fits

-- and its steps are held
pub running_holds : (history : History) (batch : List ℕ) (started : Started) (chart : PlainChart) → IsLegal history
    → IsOrderly history →
    IsRunning history batch started chart → StepsAreHeld chart started.binds
running_holds history batch started chart legal orderly running =
    let found = charted history legal orderly batch started running.start_is in
    subst (λ chart. StepsAreHeld chart started.binds)
    (some_same (chart_named started.recipe
    (recipes history)) found.chart chart found.chart_is running.chart_is) found.steps_held
