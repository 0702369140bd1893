use Rattle.std.proofs.Common.{◌∙◌, ap, sym}
use Rattle.std.specs.Prelude.{filter}
use Rattle.mtp_codes.specs.Names.{is_among}
use Rattle.chart_core.specs.Active.{is_running, phase_after}
use Rattle.chart_cursor.specs.Logs.{chart_entries, was_held}
use Rattle.pol_audit.specs.Halts.{is_halt}
use Rattle.pol_audit.proofs.Placing.{placed_now}
use Rattle.pol_audit.proofs.past.Past.log.Goals as goal

pub returns : goal.returns
returns c = c.of.ensures ∙ (placed_now _ c.self.view_is c.self.invariant).logs c.args.batch

pub invariant_of-result : goal.invariant_of-result
invariant_of-result c = record {
  ran = c.of-2.ensures ∙ c.self.invariant.runs c.args.batch
      ∙ ap chart_entries (sym (c.of.ensures ∙ c.self.invariant.logs c.args.batch));
  halted = c.of-3.ensures ∙ c.self.invariant.halts c.args.batch
      ∙ ap (filter is_halt) (sym (c.of.ensures ∙ c.self.invariant.logs c.args.batch));
  runs = λ name. ap (λ names. is_among names name) c.of-4.ensures ∙ c.self.invariant.running c.args.batch name
      ∙ ap (λ log. is_running (phase_after log name)) (sym (c.of.ensures ∙ c.self.invariant.logs c.args.batch));
  holds = λ name. ap (λ names. is_among names name) c.of-5.ensures ∙ c.self.invariant.held c.args.batch name
      ∙ ap (λ log. was_held log name) (sym (c.of.ensures ∙ c.self.invariant.logs c.args.batch));
}
