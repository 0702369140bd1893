-- Equal names, and names among others.
use Rattle.std.proofs.Common.{◌≡◌, ℕ, cond, List, Some, IsSome, refl, sym, subst}
use Rattle.std.proofs.lemmas.Cmp.{nat_list_eq_equiv}
use Rattle.std.proofs.lemmas.Map.{lookup-set_value}
use Rattle.std.specs.Map.{lookup, set_value}
use Rattle.std.specs.Str.{bytes_eq}

-- a value that is written over the one before it under a name finds its way to each look-up
pub written : {X : Type 0} (name other : List ℕ) (values : List (List ℕ × X)) (before after : X) →
    lookup (bytes_eq name) values ≡ Some before →
    lookup (bytes_eq other) (set_value (bytes_eq name) values after)
    ≡ cond (bytes_eq name other) (Some after) (lookup (bytes_eq other) values)
written name other values before after found =
    lookup-set_value nat_list_eq_equiv (bytes_eq name) (nat_list_eq_equiv.congr name) other after values
    (subst IsSome (sym found) refl)
