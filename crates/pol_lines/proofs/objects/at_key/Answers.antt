use Rattle.std.proofs.Common.{◌++◌, ap, ◌∙◌}
use Rattle.pol_lines.proofs.Cuts.{passes_value}
use Rattle.pol_lines.proofs.objects.at_key.Goals as goal

pub returns : goal.returns
returns c = λ deep name value after is_key other begins.
    rw c.in-More.is (passes_value deep c.in-More.rest c.in_ok-inner.inner.now name value after other
    (c.in_ok-inner.ensures ∙ ap (λ s. s ++ c.in_ok-inner.inner.now) is_key) begins)
