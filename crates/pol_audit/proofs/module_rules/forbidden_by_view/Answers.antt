use Rattle.std.proofs.Common.{ap, sym, Some, ◌∙◌}
use Rattle.std.specs.Option.{option_map}
use Rattle.mtp_codes.specs.declared.mode.Speaker.TheVariants.{Operator}
use Rattle.mtp_modes.specs.Permission.{forbidden_by}
use Rattle.pol_events.specs.Refusals.{forbid_rule}
use Rattle.pol_audit.proofs.Asked.{is_forbidden}
use Rattle.pol_audit.proofs.module_rules.forbidden_by_view.Goals as goal

pub returns-in-Err : goal.returns-in-Err
returns-in-Err c =
    ap (λ rule. Some rule) c.into.ensures
    ∙ sym (ap (option_map forbid_rule)
    (is_forbidden (forbidden_by c.args.view.now Operator c.args.command) c.in-Err.forbid c.in-Err.ensures.answer))
