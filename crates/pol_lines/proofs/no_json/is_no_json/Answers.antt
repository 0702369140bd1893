use Rattle.std.proofs.Common.{◌≡◌, Bool, true, false, not, refl, sym, ◌∙◌}
use Rattle.std.specs.Bool.{IsTrue}
use Rattle.pol_lines.proofs.Closing.{cut_line, no_start_line}
use Rattle.pol_lines.proofs.no_json.is_no_json.Goals as goal

-- what is not said is false
unsaid : (said : Bool) → IsTrue (not said) → said ≡ false
unsaid false denied = refl
unsaid true denied = absurd cc

pub returns-then-opens : goal.returns-then-opens
returns-then-opens c unclosed =
    cut_line c.args.line.now c.in-len2-up.len_at_least (sym c.opens.ensures ∙ c.if-opens.true)
    (sym c.may_end.ensures ∙ unsaid c.may_end.result unclosed)

pub returns-else-opens : goal.returns-else-opens
returns-else-opens c none =
    no_start_line c.args.line.now c.in-len2-up.len_at_least
    (sym c.begins_value.ensures ∙ unsaid c.begins_value.result none)
