use Rattle.std.proofs.Common.{◌∙◌, ap}
use Rattle.pol_actors.specs.Exchanges.{is_refusal_busy}
use Rattle.pol_actors.proofs.exchanger.is_busy.Goals as goal

pub returns : goal.returns
returns c = c.is_refusal_busy.ensures ∙ ap is_refusal_busy (c.would_begin.ensures 0)
