use Rattle.std.proofs.Common.{rules, ◌≡◌, Some, None, sym, ap, ◌∙◌}
use Rattle.std.specs.Option.{option_or}
use Rattle.pol_events.specs.Bound.{bound_role, plain_allocation}
use Rattle.pol_events.proofs.Given.{role_given}
use Rattle.pol_events.proofs.bound.Allocation.role_of.Goals as goal

pub returns-in-Some : goal.returns-in-Some
returns-in-Some c =
    let held : bound_role c.args.self.now.held.now c.args.tag ≡ Some c.in-Some.role = search rules in
    sym (role_given (plain_allocation c.args.self.now) c.args.tag
    ∙ ap (λ held. option_or held (bound_role c.args.self.now.watched.now c.args.tag)) held)

pub returns-in-None : goal.returns-in-None
returns-in-None c =
    let held : bound_role c.args.self.now.held.now c.args.tag ≡ None = search rules in
    c.bound_role-in-None.ensures
    ∙ sym (role_given (plain_allocation c.args.self.now) c.args.tag
    ∙ ap (λ held. option_or held (bound_role c.args.self.now.watched.now c.args.tag)) held)
