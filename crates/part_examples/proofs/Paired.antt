-- A bind alone is found by its role and by its tag.
use Rattle.std.proofs.Common.{◌≡◌, cond, [], ◌∷◌, Some, None, refl, ap, sym, ◌∙◌, inl, inr}
use Rattle.std.specs.Prelude.{option_map}
use Rattle.std.specs.List.{Contains}
use Rattle.std.specs.Str.{bytes_eq}
use Rattle.std.proofs.lemmas.Slice.Eq.{bytes_eq-Decides}
use Rattle.chart_core.proofs.Lawful.{member_cases}
use Rattle.pol_events.specs.Bound.{ArePaired}
use Rattle.pol_events.specs.declared.event.Bind.{Bind}
use Rattle.pol_events.proofs.Lists.{no_member}

-- the only member of a list of one
only_member : {X : Type 0} (x y : X) → Contains (x ∷ []) y → x ≡ y
only_member x y inside = elim (member_cases x y [] inside) [ inl same ↦ same | inr later ↦ no_member y later ]

-- a bind alone is paired
pub one_paired : (bind : Bind) → ArePaired (bind ∷ [])
one_paired bind =
    record {
      by_role = λ other inside.
          ap (λ same. option_map (λ (bind : Bind). bind.tag) (cond same (Some bind) None))
          (ap (λ (other : Bind). bytes_eq bind.role other.role) (sym (only_member bind other inside))
          ∙ (bytes_eq-Decides bind.role bind.role).1 refl)
          ∙ ap (λ (other : Bind). Some other.tag) (only_member bind other inside);
      by_tag = λ other inside.
          ap (λ same. option_map (λ (bind : Bind). bind.role) (cond same (Some bind) None))
          (ap (λ (other : Bind). bytes_eq bind.tag other.tag) (sym (only_member bind other inside))
          ∙ (bytes_eq-Decides bind.tag bind.tag).1 refl)
          ∙ ap (λ (other : Bind). Some other.role) (only_member bind other inside);
    }
