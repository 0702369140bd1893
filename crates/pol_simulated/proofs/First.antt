-- A new simulator is in step.
use Rattle.std.proofs.Common.{◌≡◌, ℕ, Bool, true, false, cond, List, [], ◌∷◌, Option, Some, None, refl, ap, sym, ◌∙◌}
use Rattle.std.proofs.Common.{subst, arith}
use Rattle.std.specs.Prelude.{map, find}
use Rattle.std.specs.Str.{bytes_eq}
use Rattle.std.proofs.lemmas.Option.{same_Some}
use Rattle.mtp_codes.specs.declared.command.Command.{Command}
use Rattle.mtp_codes.proofs.Repeats.{repeats_map}
use Rattle.mtp_desc.specs.Plain.{PlainDescription, PlainService}
use Rattle.mtp_sim.specs.declared.plan.Drift.{Drift}
use Rattle.mtp_sim.specs.declared.service.SimService.{SimService}
use Rattle.mtp_sim.specs.declared.drift.SimDrift.{SimDrift}
use Rattle.mtp_sim.specs.Sims.{first_service, first_drift}
use Rattle.mtp_sim.proofs.Edges.{firsts_next}
use Rattle.mtp_sim.proofs.Indexed.{first_named}
use Rattle.pol_simulated.specs.Units.{IsTold, IsServiceTold, IsServiceCounted, IsDriftTold, service_called}
use Rattle.pol_simulated.specs.Units.{drift_called, is_same_service}
use Rattle.pol_simulated.specs.Laws.{FirstSimsAreInStep}

-- a service at first
abbrev pub first_of : PlainService → SimService
first_of service = first_service service.name

-- what is found in an image is the image of something
pub found_image : {A B : Type 0} (f : A → B) (test : B → Bool) (xs : List A) (y : B) → find test (map f xs) ≡ Some y
    → (x : A) × (f x ≡ y)
found_image f test [] y is = cc
found_image {A} {B} f test (x ∷ xs) y is = go (test (f x)) is (found_image f test xs y)
  where
    go : (b : Bool) → cond b (Some (f x)) (find test (map f xs)) ≡ Some y
        → (find test (map f xs) ≡ Some y → (x : A) × (f x ≡ y)) → (x : A) × (f x ≡ y)
    go true is again = (x, same_Some (f x) y is)
    go false is again = again is

-- it told nothing
first_told : (d : PlainDescription) (service : PlainService) → IsTold d (first_of service) []
first_told d service = record { last = refl; now = λ no. cc }

-- so did the one of a name
told_first : (d : PlainDescription) (name : List ℕ) (found : Option SimService)
    → ((s : SimService) → found ≡ Some s → (service : PlainService) × (first_of service ≡ s))
    → IsServiceTold d found []
told_first d name None from = refl
told_first d name (Some s) from = let (service, is) =
    from s refl in subst (λ s. IsTold d s []) is (first_told d service)

-- its changes are counted, as there are none
counted_first : (d : PlainDescription) (name : List ℕ) (found : Option SimService) (sent : Command → ℕ)
    → ((s : SimService) → found ≡ Some s → (service : PlainService) × (first_of service ≡ s))
    → IsServiceCounted d name found [] sent
counted_first d name None sent from = tt
counted_first d name (Some s) sent from =
    let (service, is) = from s refl in subst (λ s. IsServiceCounted d name (Some s) [] sent) is (λ command. omega arith)

-- a drift at first has no value
drift_first : (found : Option SimDrift) → ((s : SimDrift) → found ≡ Some s → (drift : Drift) × (first_drift drift ≡ s))
    → IsDriftTold found None
drift_first None from = refl
drift_first (Some s) from = let (drift, is) = from s refl in ap (λ (s : SimDrift). s.last) is

-- a module at first
pub first_in_step : FirstSimsAreInStep
first_in_step site tag past d plan sent fresh described planned services drifts rises = (
  record {
    described = described;
    planned = planned ∙ ap (λ drifts. Some (record { ticks = plan.ticks; run = plan.run; drifts = drifts }))
        (sym rises);
    named = first_named d.services;
    unlike_services = repeats_map first_of is_same_service d.services ∙ services;
    unlike_drifts = drifts;
    next = firsts_next d.services;
    services = λ name. rw fresh (told_first d name (service_called name (map first_of d.services))
        (found_image first_of (λ s. bytes_eq s.name name) d.services));
    drifts = λ name. rw fresh (drift_first (drift_called name (map first_drift plan.drifts))
        (found_image first_drift (λ s. bytes_eq s.name name) plan.drifts));
  },
  λ name. rw fresh (counted_first d name (service_called name (map first_of d.services)) (sent name)
      (found_image first_of (λ s. bytes_eq s.name name) d.services)),
)
