-- Words for rules: that a module is held, and the services of a role's steps.
use Rattle.std.specs.Prelude.{ℕ, List, map, filter, Option, Some}
use Rattle.mtp_codes.specs.Names.{same_name}
use Rattle.chart_core.specs.Trees.{PlainStep}
use Rattle.pol_events.specs.declared.answer.Rule.{Rule}
use Rattle.pol_events.specs.declared.answer.Rule.TheVariants.{Held}

-- the module is held by this batch
abbrev pub held_by : List ℕ → Option Rule
held_by batch = Some (Held batch)

-- the services of those of the steps that are of the role
abbrev pub services_in : List ℕ → List PlainStep → List (List ℕ)
services_in role steps = map (λ step. step.service) (filter (λ step. same_name step.role role) steps)
