-- What is kept at first.
use Rattle.std.proofs.Common.{◌≡◌, ◌<◌, ◌+◌, ℕ, List, [], ◌∷◌, length, None, refl, sym, subst, arith}
use Rattle.mtp_sim.proofs.Edges.{all_at}
use Rattle.pol_site.specs.Sites.{PlainSite, PlainSiteModule}
use Rattle.pol_site.specs.Sound.{IsSite}
use Rattle.pol_actors.specs.Exchanges.{first_exchanger}
use Rattle.pol_actors.specs.Kept.{AreFirstStages, AreFirstUnits, IsExchanger, IsKept, IsMadeUp, IsStage, IsUnit}
use Rattle.pol_actors.specs.declared.batch.Stage.{Stage}
use Rattle.pol_actors.specs.declared.batch.Stage.TheVariants as stage
use Rattle.pol_actors.specs.declared.exchanger.Exchanger.{Exchanger}
use Rattle.pol_actors.specs.declared.unit.Unit.{Unit as Module}

-- the exchanger
first_exchanger_is : (site : PlainSite) → IsExchanger site [] first_exchanger
first_exchanger_is site =
    record {
      opened_is = refl;
      begun_is = refl;
      standing_is = refl;
      unexchanged = λ less. refl;
      within = omega arith;
      begun_within = omega arith;
      listed = λ is. cc;
      there = λ place unit at less. absurd (never place less);
      few = λ some. absurd (nothing some);
    }
  where
    never : (place : ℕ) → length site.recipes + place < 0 → ⊥
    never place less = omega (arith, less)

    nothing : 0 < 0 → ⊥
    nothing less = omega (arith, less)

-- a module
first_unit : (site : PlainSite) (unit : PlainSiteModule) (own : Module) → (own.made ≡ None) × (own.brought ≡ None) →
    IsUnit site unit [] own
first_unit site unit own none =
    record {
      unbrought = λ gone. (none.1, none.0);
      brought = λ there. cc;
      made = subst (IsMadeUp site unit.tag []) (sym none.0) (refl, refl);
    }

-- all
pub first_kept : (site : PlainSite) (exchanger : Exchanger) (units : List Module) (stages : List Stage) → IsSite site →
    exchanger ≡ first_exchanger → AreFirstUnits (length site.modules) units →
    AreFirstStages (length site.batches) stages → IsKept site [] [] exchanger units stages (record { ordered = 0 })
first_kept site exchanger units stages sound is first_units first_stages =
    record {
      sound = sound;
      legal = tt;
      orderly = tt;
      follows = tt;
      commanded = tt;
      owned = refl;
      exchanger_is = subst (IsExchanger site []) (sym is) (first_exchanger_is site);
      units_are = λ n unit own at at'. first_unit site unit own
          (all_at (λ (own : Module). (own.made ≡ None) × (own.brought ≡ None)) units n own first_units.1 at');
      unit_count = first_units.0;
      stages_are = λ n batch one at at'. subst (IsStage [] batch.batch)
          (sym (all_at (λ each. each ≡ stage.Unsent) stages n one first_stages.1 at')) (refl, refl);
      stage_count = first_stages.0;
      desk_is = refl;
      desk_within = omega arith;
    }
