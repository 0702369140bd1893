-- What is written in the holdings is written in the row.
use Rattle.std.proofs.Common.{sym, ◌∙◌, ap}
use borrow.Follows.Closed.{read_of}
use Rattle.std.proofs.Math.Path.{fun_ext}
use Rattle.std.specs.Option.{ghost_name_of}
use Rattle.pol_table.specs.Watches.{seen_rows}
use Rattle.pol_table.proofs.Seen.{part_seen, part_set, there_set}
use Rattle.pol_table.proofs.table.Table.get_mut.Goals as goal

pub invariant_of-self-lent : goal.invariant_of-self-lent
invariant_of-self-lent g c = λ lent. (
  λ part. there_set c.self.inside.watches.items c.self.inside.holdings c.args.tag part c.self.invariant,
  c.self.invariant,
)

pub returns : goal.returns
returns g c = rw (← c.self.view_is) (
  ap (λ change. read_of (ghost_name_of c.get_mut.result) change
      (seen_rows c.self.inside.watches.items c.self.inside.holdings))
      (fun_ext (λ part. part_set c.self.inside.watches.items c.args.tag c.self.inside.holdings part)),
  record {
    writes_back = tt;
    value = c.get_mut.ensures.value
        ∙ sym (part_seen c.self.inside.watches.items c.self.inside.holdings c.args.tag);
  },
)
