-- What a simulated module reports is allowed by its site.
use Rattle.std.proofs.Common.{◌≡◌, Some, ap, sym, ◌∙◌}
use Rattle.mtp_codes.proofs.Names.{same_refl}
use Rattle.mtp_sim.specs.declared.report.SimReport.{SimReport}
use Rattle.mtp_sim.specs.declared.report.SimReport.TheVariants.{Service, Variable}
use Rattle.mtp_sim.specs.Ticks.{tick_report, ticked_service, limit_of, control_now}
use Rattle.mtp_sim.proofs.Edges.{name_ticked}
use Rattle.mtp_assembly.specs.declared.control.ServiceControl.{ServiceControl}
use Rattle.pol_history.specs.Looking.{past, is_accepted}
use Rattle.pol_history.specs.Answers.{answer_of}
use Rattle.pol_site.specs.Following.{IsAllowed, control_due}
use Rattle.pol_site.specs.Stories.{story}
use Rattle.pol_simulated.specs.Units.{report_event}
use Rattle.pol_simulated.proofs.Called.{called_at, service_name}
use Rattle.pol_simulated.proofs.Reports.{from_service, reports_accepted}
use Rattle.pol_simulated.proofs.Values.{values_allowed}
use Rattle.pol_stillness.specs.Allowed.{ReportsAreAllowed}
use Rattle.pol_stillness.proofs.Phases.{ticks_phased}

-- the reports of a module
pub reports_allowed : ReportsAreAllowed
reports_allowed site tag history sim at count from told docked_is space step kept served gives = go told gives
  where
    go : (told : SimReport) → tick_report sim ≡ Some told →
        IsAllowed site history (report_event at tag told) (answer_of history (report_event at tag told))
    go (Variable name value) gives =
        values_allowed site tag history sim at count name value docked_is space step kept gives
    go (Service name control) gives =
        let both = reports_accepted site tag history sim at count name control docked_is space step gives in
        let it = from_service sim name control gives in
        let s = it.service in
        let d = sim.description in
        let after = ticked_service sim s in
        let named : name ≡ s.name = it.name_is ∙ name_ticked d (limit_of sim s) s in
        let stands = served s.name s
        (called_at service_name sim.services sim.place s s.name step.unlike_services it.here (same_refl s.name)) in
        let due : control_now d after ≡ control_due tag s.name (past tag history) (story tag history) after.state =
        (ticks_phased d tag (limit_of sim s) s (story tag history) stands.ahead stands.phase).due it.reports
        (past tag history) step.described in
        let state : after.state ≡ control.state = sym (ap (λ (c : ServiceControl). c.state) it.control_is) in
        record {
          accepted = ap is_accepted both.0;
          new = both.1;
          due = it.control_is ∙ due
              ∙ ap (λ n. control_due tag n (past tag history) (story tag history) after.state) (sym named)
              ∙ ap (control_due tag name (past tag history) (story tag history)) state;
        }
