-- Texts of no site and of two: the first fault of each, with the empty path.
use Rattle.std.proofs.Common.{◌≡◌, refl}
use Rattle.std.specs.Prelude.{◌++◌, ◌∷◌, [], codes, Err}
use Rattle.mtp_json.specs.ReadResult.{here}
use Rattle.mtp_json.specs.declared.fault.FaultKind.TheVariants.{Missing, Unknown}
use Rattle.site_json.specs.Texts.{site_of}

-- an empty text has no site
empty_has_none : site_of [] ≡ here (Err Missing)
unfolding site_of
empty_has_none = refl

-- nor has one of blank lines
blanks_have_none : site_of (32 ∷ 10 ∷ 13 ∷ 10 ∷ 9 ∷ []) ≡ here (Err Missing)
unfolding site_of
blanks_have_none = refl

-- two lines are one too many, whatever they say
two_are_too_many : site_of (codes "{}" ++ 10 ∷ codes "{}") ≡ here (Err Unknown)
unfolding site_of
two_are_too_many = refl
