-- What a batch sees of a service was reported since its module was docked.
use Rattle.std.proofs.Common.{◌≡◌, ℕ, List, Option, Some, None, refl, ap}
use Rattle.mtp_modes.specs.declared.view.ServiceView.{ServiceView}
use Rattle.chart_cursor.specs.Sights.{or_role, tag_of}
use Rattle.chart_cursor.specs.declared.sight.Sight.TheVariants as sight
use Rattle.chart_cursor.specs.Sights.{sight_of_view}
use Rattle.pol_events.specs.declared.event.Bind.{Bind}
use Rattle.pol_events.specs.Bound.{bound_tag}
use Rattle.pol_history.specs.Looking.{History, past}
use Rattle.pol_history.specs.Modules.{Docking, absent, docked, away, docking_of, view_of}
use Rattle.pol_history.specs.Following.{sight_in, service_sight, sights_by}
use Rattle.pol_safety.specs.Kept.{IsSeen}

-- a sight of a view is of that view
is_view : (found : Option ServiceView) (view : ServiceView) → sight_of_view found ≡ sight.Is view → found ≡ Some view
is_view None view is = cc
is_view (Some other) view is = let same : other ≡ view = cc in ap Some same

-- and the module is docked
in_docking : (docking : Docking) (found : Option ServiceView) (view : ServiceView)
    → sight_in docking found ≡ sight.Is view →
    (count : ℕ) × (docking ≡ docked count) × (found ≡ Some view)
in_docking absent found view is = cc
in_docking (away ticket) found view is = cc
in_docking (docked count) found view is = (count, refl, is_view found view is)

-- what is seen of a service shows that
pub seen_of : (history : History) (binds : List Bind) (role service : List ℕ) (view : ServiceView) →
    (sights_by binds (λ tag. past tag history)).view role service ≡ sight.Is view →
    (seen : IsSeen (λ tag. past tag history) binds role service) × (seen.live.view ≡ view)
seen_of history binds role service view is = go (bound_tag binds role) refl is
  where
    go : (found : Option (List ℕ)) → bound_tag binds role ≡ found
        → service_sight (λ tag. past tag history) service found ≡ sight.Is view →
        (seen : IsSeen (λ tag. past tag history) binds role service) × (seen.live.view ≡ view)
    go None bound is = cc
    go (Some tag) bound is =
        let parts = in_docking (docking_of history tag) (view_of history tag service) view is in (
          record {
            tag = tag;
            bound = bound;
            live = record {
              count = parts.0;
              is_docked = parts.1;
              view = view;
              seen =
                  parts.2;
            };
          },
          refl,
        )

-- the tag that a batch sees of a bound role is the one of the bind
pub tag_of_bound : (history : History) (binds : List Bind) (role tag : List ℕ) → bound_tag binds role ≡ Some tag →
    tag_of (sights_by binds (λ tag. past tag history)) role ≡ tag
tag_of_bound history binds role tag bound = ap (λ found. or_role found role) bound
