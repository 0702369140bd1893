-- The first step of a role, and the name of the first that is refused.
use Rattle.std.proofs.Common.{◌≡◌, ℕ, Bool, List, map, is_some, ap, ◌∙◌}
use Rattle.std.specs.Prelude.{option_map}
use Rattle.chart_core.specs.Finding.{first_passing}
use Rattle.chart_core.specs.Trees.{PlainStep, Tree, steps}
use Rattle.chart_core.proofs.Passing.{passing_is, passing_part}
use Rattle.mtp_procs.specs.Covers.{name_of_first}
use Rattle.pol_bind.specs.Roles.{is_of_role}
use Rattle.pol_bind.proofs.Firsts.{some_found}
use Rattle.pol_events.specs.BindRules.{has_step}

-- a step of the role is found exactly where there is one
pub found_is : (role : List ℕ) (root : Tree) →
    is_some (first_passing (is_of_role role) root) ≡ has_step (map (λ placed. placed.step) (steps root 0)) role
found_is role root =
    ap is_some (passing_is (is_of_role role) root 0)
    ∙ some_found (is_of_role role) (map (λ placed. placed.step) (steps root 0))

-- the first step that passes has the name of the first of the numbered ones that does
pub first_named : (test : PlainStep → Bool) (root : Tree) →
    option_map (λ step. step.name) (first_passing test root) ≡ name_of_first test (steps root 0)
first_named test root = passing_part (λ step. step.name) test root 0
