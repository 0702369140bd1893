-- What is seen of a module by its docking, without the count of its dockings.
use Rattle.std.proofs.Common.{◌≡◌, Option, refl}
use Rattle.mtp_codes.specs.declared.value.Value.{Value}
use Rattle.mtp_modes.specs.declared.view.ServiceView.{ServiceView}
use Rattle.chart_cursor.specs.declared.sight.Sight.{Sight}
use Rattle.chart_cursor.specs.declared.sight.Sight.TheVariants as sight
use Rattle.chart_cursor.specs.declared.sight.ReadingSight.{ReadingSight}
use Rattle.chart_cursor.specs.declared.sight.ReadingSight.TheVariants as reading_sight
use Rattle.chart_cursor.specs.Sights.{sight_of_view, reading_of_value}
use Rattle.pol_history.specs.Modules as modules
use Rattle.pol_history.specs.Following.{sight_in, reading_in}
use Rattle.pol_audit.specs.Dockings.{docking_seen}
use Rattle.pol_audit.specs.declared.modules.Docking.{Docking}
use Rattle.pol_audit.specs.declared.modules.Docking.TheVariants.{Absent, Docked, Away}

-- what is seen of a service with this view
abbrev pub sight_where : Docking → Option ServiceView → Sight
sight_where Absent view = sight.Unreported
sight_where Docked view = sight_of_view view
sight_where (Away ticket) view = sight.Away

-- what is seen of a service is decided by its view and by the docking without its count
pub sight_is : (docking : modules.Docking) (view : Option ServiceView)
    → sight_in docking view ≡ sight_where (docking_seen docking) view
sight_is modules.absent view = refl
sight_is (modules.docked count) view = refl
sight_is (modules.away ticket) view = refl

-- what is seen of a variable with this value
abbrev pub reading_where : Docking → Option Value → ReadingSight
reading_where Absent value = reading_sight.Unreported
reading_where Docked value = reading_of_value value
reading_where (Away ticket) value = reading_sight.Away

-- what is seen of a variable is decided by its value and by the docking without its count
pub reading_is : (docking : modules.Docking) (value : Option Value)
    → reading_in docking value ≡ reading_where (docking_seen docking) value
reading_is modules.absent value = refl
reading_is (modules.docked count) value = refl
reading_is (modules.away ticket) value = refl
