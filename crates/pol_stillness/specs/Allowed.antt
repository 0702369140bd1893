-- What a simulated module reports is allowed by its site.
use Rattle.std.specs.Prelude.{ℕ, ◌≡◌, false, List, Some}
use Rattle.mtp_sim.specs.declared.report.SimReport.{SimReport}
use Rattle.mtp_sim.specs.Sims.{PlainSim}
use Rattle.mtp_sim.specs.Ticks.{tick_report}
use Rattle.pol_history.specs.Looking.{History, past}
use Rattle.pol_history.specs.Modules.{docked, docking_by}
use Rattle.pol_history.specs.Answers.{answer_of, is_full}
use Rattle.pol_site.specs.Following.{IsAllowed}
use Rattle.pol_site.specs.Sites.{PlainSite}
use Rattle.pol_simulated.specs.Units.{IsInStep, report_event}
use Rattle.pol_simulated.specs.Values.{AreDriftsKept}
use Rattle.pol_stillness.specs.Together.{AreServed}

-- What a docked module in step reports, whose drifts are kept and whose services are served, is allowed.
abbrev pub ReportsAreAllowed : Type 0
ReportsAreAllowed =
    (site : PlainSite) (tag : List ℕ) (history : History) (sim : PlainSim) (at count from : ℕ) (told : SimReport) →
    docking_by (past tag history) ≡ docked count → is_full history ≡ false →
    IsInStep site tag (past tag history) sim → AreDriftsKept sim →
    AreServed sim.description tag from history sim.services → tick_report sim ≡ Some told →
    IsAllowed site history (report_event at tag told) (answer_of history (report_event at tag told))
