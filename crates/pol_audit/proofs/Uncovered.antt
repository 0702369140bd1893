-- What of a batch's chart a new module doesn't cover.
use Rattle.std.proofs.Common.{◌≡◌, ℕ, List, Option, Some, None, refl}
use Rattle.std.specs.Prelude.{option_map}
use Rattle.mtp_codes.specs.declared.cover.CoverFault.{CoverFault}
use Rattle.mtp_desc.specs.Plain.{PlainDescription}
use Rattle.mtp_procs.specs.Covers.{cover_fault, missing_by}
use Rattle.chart_core.specs.Roles.{PlainChart}
use Rattle.pol_events.specs.declared.answer.Rule.{Rule}
use Rattle.pol_events.specs.declared.answer.Rule.TheVariants.{HeldBack}
use Rattle.pol_events.specs.Bound.{bound_role, given}
use Rattle.pol_history.specs.Looking.{History}
use Rattle.pol_history.specs.Batches.{Started, start_by, chart_named}
use Rattle.pol_history.specs.Rules.{uncovered_by}

-- the rule with what is missing
abbrev pub held_back_for : List ℕ → Option (List ℕ) → Option Rule
held_back_for batch None = None
held_back_for batch (Some missing) = Some (HeldBack batch missing)

-- the rule of a fault of covering, if there is one, is the rule with what is missing by it
lacks : (batch role : List ℕ) (fault : Option CoverFault)
    → option_map (λ fault. HeldBack batch (missing_by role fault)) fault
    ≡ held_back_for batch (option_map (missing_by role) fault)
lacks batch role None = refl
lacks batch role (Some fault) = refl

-- a new module holds a batch back for what it lacks of the role to which its tag is bound
pub uncovered_is : (recipes past : History) (tag : List ℕ) (description : PlainDescription) (batch : List ℕ)
    (started : Started) (chart : PlainChart) (role : List ℕ) →
    start_by past ≡ Some started → chart_named started.recipe recipes ≡ Some chart
    → bound_role (given started.binds) tag ≡ Some role →
    uncovered_by recipes tag description batch past
    ≡ held_back_for batch (option_map (missing_by role) (cover_fault chart role description))
uncovered_is recipes past tag description batch started chart role is charted bound =
    rw (is, charted, bound) (lacks batch role (cover_fault chart role description))
