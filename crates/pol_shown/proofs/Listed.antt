-- Modules of a site, as plain data.
use Rattle.std.proofs.Common.{◌≡◌, ◌<◌, ◌∙◌, ℕ, List, Some, length, map, refl, ap}
use Rattle.std.specs.Prelude.{option_map, slice_get, slice_index_or}
use Rattle.std.proofs.lemmas.List.{length-map}
use Rattle.std.proofs.lemmas.Option.{slice_get-map, slice_get_read}
use Rattle.pol_site.specs.Views.{plain_module}
use Rattle.pol_site.specs.declared.parts.SiteModule.{SiteModule}

-- a site has as many modules as it lists
pub length_modules : (modules : List SiteModule) → length (map plain_module modules) ≡ length modules
length_modules modules = length-map modules plain_module

-- the module at a place
pub module_at : (modules : List SiteModule) (place : ℕ) (unit : SiteModule) → place < length modules →
    unit ≡ slice_index_or modules place unit → slice_get (map plain_module modules) place ≡ Some (plain_module unit)
module_at modules place unit inside is =
    slice_get-map plain_module modules place
    ∙ ap (option_map plain_module) (slice_get_read modules (length modules) place unit refl inside is)
