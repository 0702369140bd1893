-- Binds that are put in byte order of their roles.
use Rattle.std.proofs.Common.{◌≡◌, ◌<◌, ℕ, List, [], ◌∷◌, ◌++◌, length, get_or, drop, refl, ap, Less}
use Rattle.std.specs.Cmp.Lexicographic.{slice_cmp}
use Rattle.std.specs.Ordering.{nat_cmp}
use Rattle.std.proofs.Math.Seq.{drop-cons}
use Rattle.pol_events.specs.ByRole.{by_role, with_bind}
use Rattle.pol_events.specs.declared.event.Bind.{Bind}

-- binds in order, with each of these at its place, the last one first
abbrev pub with_each : List Bind → List Bind → List Bind
with_each [] sorted = sorted
with_each (bind ∷ binds) sorted = with_bind bind (with_each binds sorted)

-- from no binds on, that is their order
pub all_of_them : (binds : List Bind) → with_each binds [] ≡ by_role binds
all_of_them [] = refl
all_of_them (bind ∷ binds) = ap (with_bind bind) (all_of_them binds)

-- the last one is put in first
pub last_first : (binds : List Bind) (bind : Bind) (sorted : List Bind) →
    with_each (binds ++ bind ∷ []) sorted ≡ with_each binds (with_bind bind sorted)
last_first [] bind sorted = refl
last_first (first ∷ binds) bind sorted = ap (with_bind first) (last_first binds bind sorted)

-- a bind that stands before the one at a place stands before all from there on
pub stands_here : (bind : Bind) (binds : List Bind) (place : ℕ) (other : Bind) → place < length binds →
    slice_cmp nat_cmp bind.role (get_or binds place other).role ≡ Less →
    with_bind bind (drop place binds) ≡ bind ∷ drop place binds
stands_here bind binds place other low before = rw (drop-cons binds place other low, before) refl
