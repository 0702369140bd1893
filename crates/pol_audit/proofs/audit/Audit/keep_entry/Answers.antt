use Rattle.pol_audit.proofs.Audited.{orderly_pushed}
use Rattle.pol_audit.proofs.audit.Audit.keep_entry.Goals as goal

pub invariant_of-self : goal.invariant_of-self
invariant_of-self c = record {
  orderly = orderly_pushed c.args.self.now.entries.items c.push.new.self.items c.args.entry _ c.push.ensures.items
      c.args.self.now.orderly c.requires;
}
