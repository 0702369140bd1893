-- The name's list is changed in its place.
use Rattle.std.proofs.Common.{◌∙◌, ap, sym}
use Rattle.std.specs.Option.{option_copied_mut}
use Rattle.pol_audit.specs.Listed.{items_under}
use Rattle.pol_audit.proofs.Listing.{items_written}
use Rattle.pol_audit.proofs.lists.Lists.add.Goals as goal

pub returns-in-Some : goal.returns-in-Some
returns-in-Some g c = λ other.
    ap (λ entries. items_under entries other) (c.get_mut.follows.holds c.push.new.self).0
    ∙ items_written c.args.self.now.named.entries c.args.name other c.args.item c.in-Some.items.now c.push.new.self
    (sym c.get_mut.ensures.value ∙ ap option_copied_mut c.in-Some.is) c.in_ok-push.ensures.items
