-- The names of the description are known, and nothing was reported of them.
use Rattle.std.proofs.Common.{bytes_eq}
use Rattle.mtp_assembly.specs.Plain.{plain_variable}
use Rattle.mtp_desc.specs.PlainService.{plain_service}
use Rattle.pol_slots.proofs.Knowing.{known_where_found, reported_nothing_where}
use Rattle.pol_slots.proofs.reported.Reported.new.Goals as goal

pub returns-clause-services : goal.returns-clause-services
returns-clause-services c = λ name.
    known_where_found plain_service (λ service. bytes_eq service.name name) _ _
    ((rw c.deref.ensures.value at c.in_ok-controls.ensures) name)

pub returns-clause-variables : goal.returns-clause-variables
returns-clause-variables c = λ name.
    known_where_found plain_variable (λ variable. bytes_eq variable.name name) _ _
    ((rw c.deref-2.ensures.value at c.in_ok-values.ensures) name)

pub returns-clause-nothing : goal.returns-clause-nothing
returns-clause-nothing c = record {
  controls = λ name. reported_nothing_where _ _ (c.in_ok-controls.ensures name);
  values = λ name. reported_nothing_where _ _ (c.in_ok-values.ensures name);
}
