use Rattle.std.proofs.Common.{ap, sym, ◌∙◌}
use Rattle.hex.specs.Hex.{encode_lower, encode_with}
use Rattle.pol_ledger.specs.Sums.{bytes_before}
use Rattle.pol_operate.proofs.telling.sum_text.Goals as goal

pub returns-in-None : goal.returns-in-None
unfolding encode_with
returns-in-None c = c.new.ensures.bytes ∙ ap encode_lower (sym (ap bytes_before c.in-None.is) ∙ c.sum.ensures)
