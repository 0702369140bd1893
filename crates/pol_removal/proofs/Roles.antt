-- Which roles the binds of a start give to a module.
use Rattle.std.proofs.Common.{◌≡◌, ℕ, Bool, true, false, cond, List, [], ◌∷◌, ap, sym, ◌∙◌, Some}
use Rattle.std.specs.Prelude.{find, option_map}
use Rattle.std.specs.Str.{bytes_eq}
use Rattle.std.proofs.lemmas.Bool.{or_parts}
use Rattle.mtp_codes.specs.Names.{is_among}
use Rattle.pol_events.specs.declared.event.Bind.{Bind}
use Rattle.pol_events.specs.Bound.{bound_tag, tags_of}
use Rattle.pol_removal.specs.Removal.{is_some_among}

-- a module that plays a role isn't taken out, where none of the bound ones is
pub played_outside : (tags : List (List ℕ)) (binds : List Bind) (role tag : List ℕ)
    → is_some_among tags (tags_of binds) ≡ false →
    bound_tag binds role ≡ Some tag → is_among tags tag ≡ false
played_outside tags [] role tag apart is = cc
played_outside tags (bind ∷ binds) role tag apart is = go (bytes_eq bind.role role) is
    (played_outside tags binds role tag parts.1)
  where
    parts : (is_among tags bind.tag ≡ false) × (is_some_among tags (tags_of binds) ≡ false)
    parts = or_parts (is_among tags bind.tag) (is_some_among tags (tags_of binds)) apart

    go : (same : Bool) → option_map (λ bind. bind.tag) (cond same (Some bind)
        (find (λ bind. bytes_eq bind.role role) binds)) ≡ Some tag →
        (bound_tag binds role ≡ Some tag → is_among tags tag ≡ false) → is_among tags tag ≡ false
    go true is rest = let same : bind.tag ≡ tag = cc in ap (is_among tags) (sym same) ∙ parts.0
    go false is rest = rest is
