use Rattle.std.proofs.Common.{ap, map, subst}
use Rattle.serde_json.specs.Data.{array}
use Rattle.std.specs.Prelude.{None, Some, suc}
use Rattle.pol_lines.specs.Begins.{Begins}
use Rattle.pol_lines.proofs.Printed.{begins_within}
use Rattle.pol_lines.proofs.objects.read_list_at.Goals as goal

pub returns-clause-list : goal.returns-clause-list
returns-clause-list g c = λ deep name fits is_key other.
    let list = c.in_ok-rest.ensures.list in
    let begins = subst (λ s. Begins (suc g.T.Front.deep) c.in-Some.inner.now (array list.values) s)
    c.in_ok-after.ensures list.begins in record {
      values = Some list.values;
      gives = (list.gives, list.many);
      passes = c.in-Some.ensures deep name (array list.values) c.in_ok-after.after is_key other
          (begins_within (suc g.T.Front.deep) deep c.in-Some.inner.now (array list.values) _ fits begins);
    }

pub returns-in_default-clause-list : goal.returns-in_default-clause-list
returns-in_default-clause-list g c = λ deep name fits is_key other. record {
  values = None;
  gives = ap (map g.T.Front.plain) c.requires;
  passes = λ text members others stands. stands;
}
