-- An entry that leaves a service as it was: what was owed to it is owed still.
use Rattle.std.proofs.Common.{◌≡◌, ℕ, Bool, true, false, cond, List, [], ◌∷◌, Option, Some, None, refl, ap, sym, ◌∙◌}
use Rattle.std.specs.Prelude.{◌||◌, is_some, option_map, unwrap_or, if◌then◌else◌}
use Rattle.std.specs.List.{Contains}
use Rattle.std.specs.Option.{option_or}
use Rattle.mtp_assembly.specs.declared.control.ServiceControl.{ServiceControl}
use Rattle.mtp_desc.specs.Plain.{PlainDescription}
use Rattle.chart_core.specs.Active.{phase_after, is_active, is_running}
use Rattle.chart_core.specs.Roles.{PlainChart}
use Rattle.chart_core.specs.Trees.{steps}
use Rattle.chart_core.specs.declared.entry.LogEntry.{LogEntry}
use Rattle.pol_events.proofs.Lists.{kept_member, member_kept}
use Rattle.pol_events.specs.Events.{PlainEvent, plug, exchange_end, PlainEntry}
use Rattle.pol_history.specs.Looking.{History, past, past_of_batch, recipes, last_of, is_accepted_of}
use Rattle.pol_history.specs.Modules.{is_moving, since_docking, reported, described, control_by, description_by}
use Rattle.pol_history.specs.Modules.{seen_with, view_by, view_of}
use Rattle.pol_history.specs.Batches.{Started, start_by, start_of, chart_named, outcome_by, outcome_of, log_by, log_of}
use Rattle.pol_history.specs.Commands.{sent_command}
use Rattle.pol_site.specs.Stories.{sent_to, if_to, story, is_for, answering, is_answered}
use Rattle.pol_stillness.specs.Apart.{waits_in, IsOwed}
use Rattle.chart_cursor.specs.Logs.{chart_entries}

-- ---- the story and the view after one more entry

-- the entry changes neither whether the module is docked nor what its service reported
abbrev pub Leaves : List ℕ → List ℕ → PlainEntry → Type 0
Leaves tag service entry = is_accepted_of tag entry ≡ true
    → (is_moving entry.event ≡ false) × (reported service entry.event ≡ None)

-- an unanswered command was sent now, or before, and then the entry leaves its service as it was
pub data StoryCase (tag service : List ℕ) (entry : PlainEntry) (older : History) : Type 0 where
  sends_now : is_for service (sent_to tag entry) ≡ true → StoryCase tag service entry older
  before : is_answered tag (story tag older) service ≡ false → is_for service (sent_to tag entry) ≡ false
      → Leaves tag service entry → StoryCase tag service entry older

-- a service that is unanswered after one more entry was commanded by it, or was so before and the entry leaves it
pub story_case : (tag service : List ℕ) (entry : PlainEntry) (older : History)
    → is_answered tag (story tag (entry ∷ older)) service ≡ false → StoryCase tag service entry older
story_case tag service entry older un = own (is_accepted_of tag entry) refl (sent_to tag entry) refl un
  where
    Case : Type 0
    Case = StoryCase tag service entry older

    looked : (moving : Bool) → is_moving entry.event ≡ moving → (told : Option ServiceControl)
        → reported service entry.event ≡ told → (sends : Bool) → is_for service (sent_to tag entry) ≡ sends
        → unwrap_or (last_of (answering tag service) (if moving then [] else entry ∷ since_docking (story tag older)))
        true ≡ false → Case
    looked true moves told tells sends is un = cc
    looked false moves (Some control) tells sends is un =
        let clash : true ≡ false
        = ap (λ (t : Option ServiceControl). unwrap_or
        (option_or (if is_some t then Some true else if is_for service (sent_to tag entry) then Some false else
        None)
        (last_of (answering tag service) (since_docking (story tag older)))) true) (sym tells) ∙ un in
        cc
    looked false moves None tells true is un = sends_now is
    looked false moves None tells false is un =
        let old : is_answered tag (story tag older) service ≡ false
        = ap (λ b. unwrap_or (option_or (if b then Some false else None)
        (last_of (answering tag service) (since_docking (story tag older)))) true) (sym is)
        ∙ ap (λ (t : Option ServiceControl). unwrap_or
        (option_or (if is_some t then Some true else if is_for service (sent_to tag entry) then Some false else
        None)
        (last_of (answering tag service) (since_docking (story tag older)))) true) (sym tells) ∙ un in
        before old is (λ accepted. (moves, tells))

    own : (mine : Bool) → is_accepted_of tag entry ≡ mine → (sent : _) → sent_to tag entry ≡ sent
        → is_answered tag (cond (mine || is_some sent) (entry ∷ story tag older) (story tag older)) service ≡ false
        → Case
    own true mine sent to un = looked (is_moving entry.event) refl (reported service entry.event) refl
        (is_for service (sent_to tag entry)) refl un
    own false mine (Some sent) to un = looked (is_moving entry.event) refl (reported service entry.event) refl
        (is_for service (sent_to tag entry)) refl un
    own false mine None to un = before un (ap (is_for service) to)
        (λ accepted. let clash : false ≡ true = sym mine ∙ accepted in cc)

-- an event that moves no module describes none
pub undescribed : (event : PlainEvent) → is_moving event ≡ false → described event ≡ None
undescribed (plug at tag description) moves = cc
undescribed (exchange_end at tag ticket description) moves = cc
undescribed _ moves = refl

-- then the view is as it was
view_same : (tag service : List ℕ) (entry : PlainEntry) (older : History) → Leaves tag service entry
    → view_of (entry ∷ older) tag service ≡ view_of older tag service
view_same tag service entry older leaves = go (is_accepted_of tag entry) refl
  where
    go : (mine : Bool) → is_accepted_of tag entry ≡ mine
        → view_by service (cond mine (entry ∷ past tag older) (past tag older)) ≡ view_of older tag service
    go false is = refl
    go true is =
        let l = leaves is in
        let controls : control_by service (entry ∷ past tag older) ≡ control_by service (past tag older)
        = ap (λ b. last_of (λ entry. reported service entry.event)
        (if b then [] else entry ∷ since_docking (past tag older))) l.0
        ∙ ap (λ (t : Option ServiceControl). option_or t (control_by service (past tag older))) l.1 in
        let description : description_by (entry ∷ past tag older) ≡ description_by (past tag older)
        = ap (λ (d : Option PlainDescription). option_or d (description_by (past tag older)))
        (undescribed entry.event l.0) in
        ap (λ (d : Option PlainDescription). option_map (seen_with service d)
        (control_by service (entry ∷ past tag older))) description
        ∙ ap (λ (c : Option ServiceControl). option_map (seen_with service (description_by (past tag older))) c)
        controls

-- ---- an owed report that stays owed

-- where its batch was started on the same chart and isn't closed, and its step and its service stand as they did
pub still_owed : (older now : History) (tag service : List ℕ) (owed : IsOwed older tag service)
    → start_of now owed.batch ≡ start_of older owed.batch
    → chart_named owed.started.recipe (recipes now) ≡ Some owed.chart
    → outcome_of now owed.batch ≡ outcome_of older owed.batch
    → phase_after (chart_entries (log_of now owed.batch)) owed.placed.step.name
    ≡ phase_after (chart_entries (log_of older owed.batch)) owed.placed.step.name
    → view_of now tag service ≡ view_of older tag service → IsOwed now tag service
still_owed older now tag service owed starts chart_is closes stands sees =
    record {
      batch = owed.batch;
      started = owed.started;
      chart = owed.chart;
      placed = owed.placed;
      start_is = starts ∙ owed.start_is;
      chart_is = chart_is;
      unclosed = closes ∙ owed.unclosed;
      inside = kept_member (is_active (chart_entries (log_of now owed.batch))) (steps owed.chart.root 0) owed.placed
          member.0 (ap is_running stands ∙ member.1);
      bound = owed.bound;
      service_is = owed.service_is;
      view = owed.view;
      seen = sees ∙ owed.seen;
      waits = ap waits_in stands ∙ owed.waits;
    }
  where
    log : List LogEntry
    log = chart_entries (log_of older owed.batch)

    member : Contains (steps owed.chart.root 0) owed.placed × (is_active log owed.placed ≡ true)
    member = member_kept (is_active log) (steps owed.chart.root 0) owed.placed owed.inside

-- where the batch has the past that it had
pub carry : (older now : History) (tag service : List ℕ) (owed : IsOwed older tag service)
    → past_of_batch owed.batch now ≡ past_of_batch owed.batch older
    → chart_named owed.started.recipe (recipes now) ≡ Some owed.chart
    → view_of now tag service ≡ view_of older tag service → IsOwed now tag service
carry older now tag service owed same chart_is view_is =
    still_owed older now tag service owed (ap start_by same) chart_is (ap outcome_by same)
    (ap (λ p. phase_after (chart_entries (log_by p)) owed.placed.step.name) same) view_is

-- what is owed
abbrev pub Owing : History → Type 0
Owing history = (tag service : List ℕ) → is_answered tag (story tag history) service ≡ false
    → IsOwed history tag service

-- an entry that sends nothing and changes no batch that was started
pub quiet_owing : (older : History) (entry : PlainEntry) → sent_command entry.answer ≡ None
    → ((batch : List ℕ) (started : Started) → start_of older batch ≡ Some started
    → past_of_batch batch (entry ∷ older) ≡ past_of_batch batch older)
    → ((name : List ℕ) (chart : PlainChart) → chart_named name (recipes older) ≡ Some chart
    → chart_named name (recipes (entry ∷ older)) ≡ Some chart)
    → Owing older → Owing (entry ∷ older)
quiet_owing older entry silent same charts again tag service un = go (story_case tag service entry older un)
  where
    go : StoryCase tag service entry older → IsOwed (entry ∷ older) tag service
    go (sends_now is) = let clash : false ≡ true = ap (λ s. is_for service (if_to tag s)) (sym silent) ∙ is in cc
    go (before old for leaves) =
        let owed = again tag service old in
        carry older (entry ∷ older) tag service owed (same owed.batch owed.started owed.start_is)
        (charts owed.started.recipe owed.chart owed.chart_is)
        (view_same tag service entry older leaves)
