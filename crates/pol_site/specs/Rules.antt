-- A site's own rules.
use Rattle.std.specs.Prelude.{ℕ, ◌&&◌, int_lt, pos, Bool, true, false, not, List, Option, Some, None}
use Rattle.std.specs.List.{list_any}
use Rattle.std.specs.Str.{bytes_eq}
use Rattle.mtp_assembly.specs.Plain.{PlainVariable}
use Rattle.mtp_assembly.specs.declared.variable.ViewKind.{ViewKind}
use Rattle.mtp_assembly.specs.declared.variable.ViewKind.TheVariants as variable
use Rattle.mtp_desc.specs.Plain.{PlainDescription}
use Rattle.mtp_desc.specs.Lookup.{variable_named}
use Rattle.mtp_sim.specs.declared.plan.Drift.{Drift}
use Rattle.pol_site.specs.Sites.{PlainSiteModule, PlainSiteBatch}

-- two modules of one tag
abbrev pub same_tag : PlainSiteModule → PlainSiteModule → Bool
same_tag unit other = bytes_eq unit.tag other.tag

-- two batches of one name
abbrev pub same_batch : PlainSiteBatch → PlainSiteBatch → Bool
same_batch batch other = bytes_eq batch.batch other.batch

-- two drifts of one variable
abbrev pub same_drift : Drift → Drift → Bool
same_drift drift other = bytes_eq drift.name other.name

-- a variable of this kind can drift: it is a number
abbrev pub can_drift : ViewKind → Bool
can_drift variable.Ana = true
can_drift variable.DInt = true
can_drift variable.Bin = false
can_drift variable.Text = false

-- a variable that was found can drift
abbrev pub found_drifts : Option PlainVariable → Bool
found_drifts None = false
found_drifts (Some found) = can_drift found.kind

-- the drift is of a variable of the module that can drift, it rises, and from its first value to its greatest
abbrev pub is_drift_sound : PlainDescription → Drift → Bool
is_drift_sound description drift =
    found_drifts (variable_named drift.name description)
    && (not (int_lt drift.by (pos 1)) && not (int_lt drift.to drift.from))

-- some module has the tag
abbrev pub has_module : List PlainSiteModule → List ℕ → Bool
has_module modules tag = list_any (λ unit. bytes_eq unit.tag tag) modules
