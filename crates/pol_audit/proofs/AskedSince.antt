-- A step was asked to hold since the last freeze where the last entry that says so says it.
use Rattle.std.proofs.Common.{◌≡◌, ◌∷◌, [], ℕ, List, Bool, true, false, cond, Option, Some, None, refl}
use Rattle.std.specs.Prelude.{unwrap_or}
use Rattle.std.specs.List.{filter_map}
use Rattle.std.specs.Option.{option_or}
use Rattle.mtp_codes.specs.Names.{is_among, same_name}
use Rattle.pol_history.specs.Looking.{History, after_last, last_of}
use Rattle.pol_history.specs.Batches.{asked_by, held_step, is_freeze}
use Rattle.pol_audit.specs.Freezes.{asked_step, asking}

-- what the last entry says of the step is whether it is among those that were asked since the last freeze
pub asked_since : (name : List ℕ) (past : History)
    → unwrap_or (last_of (asking name) past) false ≡ is_among (asked_by past) name
asked_since name [] = refl
asked_since name (entry ∷ older) = by_freeze (is_freeze entry.event) (asked_since name older)
  where
    Before : Type 0
    Before = unwrap_or (last_of (asking name) older) false ≡ is_among (asked_by older) name

    by_name : (step : List ℕ) (same : Bool) → same_name step name ≡ same → Before
        → unwrap_or (option_or (asked_step name (Some step)) (last_of (asking name) older)) false
        ≡ is_among (step ∷ asked_by older) name
    by_name step true is before = rw is refl
    by_name step false is before = rw is before

    by_step : (step : Option (List ℕ)) → held_step entry.answer ≡ step → Before
        → unwrap_or (option_or (asked_step name (held_step entry.answer)) (last_of (asking name) older)) false
        ≡ is_among (filter_map (λ entry. held_step entry.answer)
        (entry ∷ after_last (λ entry. is_freeze entry.event) older)) name
    by_step None is before = rw is before
    by_step (Some step) is before = rw is (by_name step (same_name step name) refl before)

    by_freeze : (frozen : Bool) → Before
        → unwrap_or (option_or (cond frozen (Some false) (asked_step name (held_step entry.answer)))
        (last_of (asking name) older)) false
        ≡ is_among (filter_map (λ entry. held_step entry.answer)
        (cond frozen [] (entry ∷ after_last (λ entry. is_freeze entry.event) older))) name
    by_freeze true before = refl
    by_freeze false before = by_step (held_step entry.answer) refl before
