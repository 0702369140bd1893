use Rattle.std.proofs.Common.{rules, ◌≡◌, Some, None, sym, ap, ◌∙◌}
use Rattle.std.specs.Option.{option_or}
use Rattle.pol_events.specs.Bound.{bound_tag, plain_allocation}
use Rattle.pol_events.proofs.Given.{tag_given}
use Rattle.pol_events.proofs.bound.Allocation.tag_of.Goals as goal

pub returns-in-Some : goal.returns-in-Some
returns-in-Some c =
    let held : bound_tag c.args.self.now.held.now c.args.role ≡ Some c.in-Some.tag = search rules in
    sym (tag_given (plain_allocation c.args.self.now) c.args.role
    ∙ ap (λ held. option_or held (bound_tag c.args.self.now.watched.now c.args.role)) held)

pub returns-in-None : goal.returns-in-None
returns-in-None c =
    let held : bound_tag c.args.self.now.held.now c.args.role ≡ None = search rules in
    c.bound_tag-in-None.ensures
    ∙ sym (tag_given (plain_allocation c.args.self.now) c.args.role
    ∙ ap (λ held. option_or held (bound_tag c.args.self.now.watched.now c.args.role)) held)
