-- All services of a simulated module in a history.
use Rattle.std.specs.Prelude.{ℕ, suc, ◌≡◌, false, true, List, ◌∷◌, Option, Some, None, is_some}
use Rattle.mtp_codes.specs.Repeats.{repeats_by}
use Rattle.mtp_desc.specs.Plain.{PlainDescription}
use Rattle.mtp_sim.specs.declared.report.SimReport.{SimReport}
use Rattle.mtp_sim.specs.declared.service.SimService.{SimService}
use Rattle.mtp_sim.specs.Sims.{PlainSim}
use Rattle.mtp_sim.specs.Ticks.{tick_report, ticked}
use Rattle.mtp_sim.specs.Commands.{took, after_command}
use Rattle.chart_cursor.specs.Commands.{Sent, sent_by}
use Rattle.pol_events.specs.declared.answer.Answer.TheVariants.{Done}
use Rattle.pol_history.specs.Looking.{History}
use Rattle.pol_simulated.specs.Units.{service_called, is_same_service, report_event}
use Rattle.pol_stillness.specs.Phases.{asked_in}
use Rattle.pol_simulated.specs.Places.{Found, next_command}
use Rattle.pol_stillness.specs.Served.{IsServed}

-- each service is served
abbrev pub AreServed : PlainDescription → List ℕ → ℕ → History → List SimService → Type 0
AreServed description tag from history services =
    (name : List ℕ) (service : SimService) → service_called name services ≡ Some service →
    IsServed description tag from history service

-- the history after the report, if there is one
abbrev pub after_report : ℕ → List ℕ → Option SimReport → History → History
after_report at tag None history = history
after_report at tag (Some told) history = record { event = report_event at tag told; answer = Done } ∷ history

-- A tick with its report leaves all services served.
abbrev pub TicksServeAll : Type 0
TicksServeAll =
    (sim : PlainSim) (tag : List ℕ) (at from : ℕ) (history : History)
    → repeats_by is_same_service sim.services ≡ false →
    AreServed sim.description tag from history sim.services →
    AreServed sim.description tag from (after_report at tag (tick_report sim) history) (ticked sim).services

-- Looking at the next command leaves all services served, and a service that the module has takes it.
abbrev pub LooksServeAll : Type 0
LooksServeAll =
    (sim : PlainSim) (tag : List ℕ) (history : History) (ahead : Found) (from : ℕ) (sent : Sent) →
    repeats_by is_same_service sim.services ≡ false → next_command tag from history ≡ Some ahead →
    sent_by ahead.did ≡ Some sent → sent.tag ≡ tag → AreServed sim.description tag from history sim.services →
    AreServed sim.description tag (suc ahead.place) history
    (after_command sim (took sim sent.service sent.command (asked_in ahead.did))).services
    × ((service : SimService) → service_called sent.service sim.services ≡ Some service →
    is_some (took sim sent.service sent.command (asked_in ahead.did)) ≡ true)
