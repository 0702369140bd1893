use Rattle.std.proofs.Common.{◌≡◌, ap, sym, subst, map, ◌∙◌, false}
use Rattle.mtp_codes.specs.Repeats.{repeats_by}
use Rattle.chart_core.specs.Trees.{plain_finish}
use Rattle.chart_json.specs.Form.{same_setting}
use Rattle.pol_lines.proofs.Stepping.{same_list, step_of_parts}
use Rattle.pol_lines.proofs.steps.step_in.Goals as goal

pub returns : goal.returns
returns c = λ others given.
    let settings = c.args.settings.items in
    let apart : repeats_by same_setting settings ≡ false = subst (λ held. repeats_by same_setting held ≡ false)
    (ap (map (λ each. each)) c.deref.ensures.value ∙ same_list settings) (sym c.if-repeats.ensures) in
    step_of_parts c.args.members.now others c.in_ok-name.name c.in_ok-role.role c.in_ok-service.service
    c.in_ok-procedure.field-0 settings (plain_finish c.args.finish) c.in_ok-name.ensures c.in_ok-role.ensures
    c.in_ok-service.ensures c.in_ok-procedure.ensures.value (sym c.if-not-are_of_step.ensures) c.requires apart given
