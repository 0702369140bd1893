-- A disk that tells its bytes still told them before.
use Rattle.std.proofs.Common.{◌≡◌, ℕ, List, Option, Some, None, refl, subst}
use Rattle.std.specs.Prelude.{IfSome}
use Rattle.pol_disk.specs.Disks.{BothTell, StillTells, ToldOn, told_through}

-- what is told now was told before
pub told_before : (seen seen' : Option (List ℕ)) → StillTells seen seen' → (all : List ℕ) → seen' ≡ Some all →
    seen ≡ Some all
told_before seen seen' still all told = subst (λ (o : Option (List ℕ)). IfSome o (λ all. seen ≡ Some all)) told still

-- what holds of the bytes that were told holds of those that are told still
pub still_holds : (seen seen' : Option (List ℕ)) (P : List ℕ → Type 0) → StillTells seen seen' → IfSome seen P →
    IfSome seen' P
still_holds seen None P still holds = tt
still_holds seen (Some all) P still holds = subst (λ (o : Option (List ℕ)). IfSome o P) still holds

-- two calls, one after the other
pub still_then : (seen mid seen' : Option (List ℕ)) → StillTells seen mid → StillTells mid seen' → StillTells seen seen'
still_then seen mid None still later = tt
still_then seen mid (Some all) still later = told_before seen mid still all later

-- what both tell was told before
pub on_both : (P : List ℕ → List ℕ → Type 0) (seen seen' : Option (List ℕ)) → BothTell P seen seen' → ToldOn seen seen'
on_both P seen None both = tt
on_both P None (Some new) both = both
on_both P (Some old) (Some new) both = tt

-- so was what is told still
pub on_still : (seen seen' : Option (List ℕ)) → StillTells seen seen' → ToldOn seen seen'
on_still seen None still = tt
on_still None (Some new) still = cc
on_still (Some old) (Some new) still = tt

-- two calls, one after the other
pub on_then : (seen mid seen' : Option (List ℕ)) → ToldOn seen mid → ToldOn mid seen' → ToldOn seen seen'
on_then seen mid None first later = tt
on_then None None (Some new) first later = later
on_then None (Some old) (Some new) first later = first
on_then (Some old) mid (Some new) first later = tt

-- the bytes that were told before
pub was_told : (seen seen' : Option (List ℕ)) → ToldOn seen seen' → (now : List ℕ) → seen' ≡ Some now →
    (all : List ℕ) × (seen ≡ Some all)
was_told None None on now told = cc
was_told None (Some new) on now told = absurd on
was_told (Some old) seen' on now told = (old, refl)

-- where nothing was called
pub on_same : (seen : Option (List ℕ)) → ToldOn seen seen
on_same None = tt
on_same (Some all) = tt

-- what holds of the bytes that were told wherever they are told through two calls
pub through_known : (seen mid seen' : Option (List ℕ)) (P : List ℕ → Type 0) → ToldOn mid seen' →
    ((all now : List ℕ) → seen ≡ Some all → mid ≡ Some now → P all) → IfSome (told_through seen seen') P
through_known seen mid None P on known = tt
through_known None mid (Some new) P on known = tt
through_known (Some all) mid (Some new) P on known =
    let now = was_told mid (Some new) on new refl in known all now.0 refl now.1
