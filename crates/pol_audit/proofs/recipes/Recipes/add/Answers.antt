use Rattle.pol_audit.proofs.Placing.{orderly_added}
use Rattle.pol_audit.proofs.recipes.Recipes.add.Goals as goal

pub invariant_of-self : goal.invariant_of-self
invariant_of-self c = record {
  orderly = orderly_added c.args.self.now.entries.items c.push.new.self.items c.args.entry _ c.push.ensures.items
      c.requires c.args.self.now.orderly;
}
