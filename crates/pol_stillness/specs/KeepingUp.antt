-- A simulated module keeps up with a history: all that the laws ask of it, in one.
use Rattle.std.specs.Prelude.{ℕ, suc, ◌≡◌, ◌≤◌, true, false, List, [], ◌∷◌, length, Some, None}
use Rattle.mtp_codes.specs.Repeats.{repeats_by}
use Rattle.mtp_desc.specs.Plain.{PlainDescription, same_service}
use Rattle.mtp_sim.specs.Sims.{PlainSim, PlainPlan, first_sim}
use Rattle.mtp_sim.specs.Ticks.{is_pending, tick_report, ticked}
use Rattle.mtp_sim.specs.Commands.{took, after_command}
use Rattle.chart_core.specs.declared.entry.LogEntry.{LogEntry}
use Rattle.chart_cursor.specs.Commands.{Sent, sent_by}
use Rattle.mtp_codes.specs.declared.command.Command.{Command}
use Rattle.pol_events.specs.Events.{advance, PlainEntry}
use Rattle.pol_events.specs.declared.answer.Answer.TheVariants.{Did}
use Rattle.pol_history.specs.Looking.{History, past}
use Rattle.pol_history.specs.Modules.{since_docking, description_by}
use Rattle.pol_history.specs.Runs.{IsLegal, IsOrderly}
use Rattle.pol_site.specs.Sites.{PlainSite}
use Rattle.pol_site.specs.Sound.{is_plan_ranged, is_plan_sound, is_plan_unlike}
use Rattle.pol_site.specs.Plans.{plan_by}
use Rattle.pol_site.specs.Stories.{story, times_sent, touches}
use Rattle.pol_site.specs.Following.{FollowsSite}
use Rattle.pol_site.specs.Commanded.{IsCommanded, times_changed}
use Rattle.pol_simulated.specs.Units.{IsInStep, IsCounted}
use Rattle.pol_simulated.specs.Places.{before, Found, next_command, StaysFrom}
use Rattle.pol_simulated.specs.Values.{AreDriftsKept}
use Rattle.pol_stillness.specs.Phases.{asked_in}
use Rattle.pol_stillness.specs.Together.{AreServed, after_report}

-- The simulator looked at the commands before a place: it is in step with what it reported, its drifts are kept, its
-- changes are counted against those commands, and its services are served from the place on; from there on the module
-- stayed.
pub record KeepsUp (site : PlainSite) (tag : List ℕ) (from : ℕ) (history : History) (sim : PlainSim) : Type 0 where
  pub step : IsInStep site tag (past tag history) sim
  pub kept : AreDriftsKept sim
  pub counted : IsCounted tag (past tag history) (story tag (before from history)) sim
  pub served : AreServed sim.description tag from history sim.services
  pub stays : StaysFrom tag from history
  pub within : from ≤ length history

-- A new simulator of a module that was docked as its site says, and to which nothing happened since, keeps up.
abbrev pub FirstsKeepUp : Type 0
FirstsKeepUp =
    (site : PlainSite) (tag : List ℕ) (history : History) (description : PlainDescription) (plan : PlainPlan) →
    since_docking (past tag history) ≡ [] → since_docking (story tag history) ≡ [] →
    description_by (past tag history) ≡ Some description → plan_by site tag (past tag history) ≡ Some plan →
    repeats_by same_service description.services ≡ false → is_plan_ranged plan ≡ true →
    is_plan_unlike plan ≡ true → is_plan_sound description plan ≡ true →
    KeepsUp site tag (length history) history (first_sim description plan)

-- A simulator keeps up after a tick, with what it reports.
abbrev pub TicksKeepUp : Type 0
TicksKeepUp =
    (site : PlainSite) (tag : List ℕ) (at from : ℕ) (history : History) (sim : PlainSim) →
    KeepsUp site tag from history sim →
    KeepsUp site tag from (after_report at tag (tick_report sim) history) (ticked sim)

-- A simulator keeps up when it looked at the next command, with nothing pending.
abbrev pub LooksKeepUp : Type 0
LooksKeepUp =
    (site : PlainSite) (tag : List ℕ) (from : ℕ) (history : History) (sim : PlainSim) (ahead : Found) (sent : Sent) →
    is_pending sim ≡ false → next_command tag from history ≡ Some ahead → sent_by ahead.did ≡ Some sent →
    sent.tag ≡ tag → KeepsUp site tag from history sim →
    KeepsUp site tag (suc ahead.place) history
    (after_command sim (took sim sent.service sent.command (asked_in ahead.did)))

-- A simulator keeps up from the end of the history on, when no command was left to look at.
abbrev pub IdlesKeepUp : Type 0
IdlesKeepUp =
    (site : PlainSite) (tag : List ℕ) (from : ℕ) (history : History) (sim : PlainSim) →
    next_command tag from history ≡ None → KeepsUp site tag from history sim →
    KeepsUp site tag (length history) history sim

-- A simulator keeps up when a batch sends its module a command, in a history that follows its site.
abbrev pub SendsKeepUp : Type 0
SendsKeepUp =
    (site : PlainSite) (older : History) (at : ℕ) (batch : List ℕ) (did : LogEntry) (sent : Sent) (from : ℕ)
    (sim : PlainSim) →
    IsLegal (record { event = advance at batch; answer = Did did } ∷ older) →
    IsOrderly (record { event = advance at batch; answer = Did did } ∷ older) →
    FollowsSite site (record { event = advance at batch; answer = Did did } ∷ older) → IsCommanded older →
    sent_by did ≡ Some sent → KeepsUp site sent.tag from older sim →
    KeepsUp site sent.tag from (record { event = advance at batch; answer = Did did } ∷ older) sim

-- A simulator keeps up after an entry that doesn't touch its module.
abbrev pub OthersKeepUp : Type 0
OthersKeepUp =
    (site : PlainSite) (tag : List ℕ) (from : ℕ) (older : History) (entry : PlainEntry) (sim : PlainSim) →
    touches tag entry ≡ false → KeepsUp site tag from older sim → KeepsUp site tag from (entry ∷ older) sim

-- Where a simulator keeps up, each change of its module has its command.
abbrev pub KeptUpIsCommanded : Type 0
KeptUpIsCommanded =
    (site : PlainSite) (tag : List ℕ) (from : ℕ) (history : History) (sim : PlainSim) →
    KeepsUp site tag from history sim → (service : List ℕ) (command : Command) →
    times_changed service command (past tag history) ≤ times_sent tag service command (story tag history)
