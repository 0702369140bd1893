use Rattle.std.proofs.Common.{refl, sym, subst, ◌∙◌}
use Rattle.std.specs.Prelude.{None, Some}
use Rattle.pol_lines.specs.Begins.{Begins}
use Rattle.pol_lines.proofs.Printed.{begins_within}
use Rattle.pol_lines.proofs.objects.read_value_at.Goals as goal

pub returns : goal.returns
returns g c = λ deep name fits is_key other.
    let reads = c.in_ok-item.ensures in
    let begins = subst (λ s. Begins g.T.Front.deep c.in-Some.inner.now reads.value s)
    (sym c.last.ensures ∙ c.in_ok-after.ensures) reads.begins in record {
      value = Some reads.value;
      gives = rw reads.gives refl;
      passes = c.in-Some.ensures deep name reads.value c.in_ok-after.after is_key other
          (begins_within g.T.Front.deep deep c.in-Some.inner.now reads.value _ fits begins);
    }

pub returns-in_default : goal.returns-in_default
returns-in_default g c = λ deep name fits is_key other. record {
  value = None;
  gives = rw c.requires refl;
  passes = λ text members others stands. stands;
}
