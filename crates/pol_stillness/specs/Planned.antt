-- A docked module has a plan: the site says how it is simulated.
use Rattle.std.specs.Prelude.{ℕ, ◌≡◌, List, Some}
use Rattle.mtp_sim.specs.Sims.{PlainPlan}
use Rattle.pol_history.specs.Looking.{History, past}
use Rattle.pol_history.specs.Modules.{docked, docking_of}
use Rattle.pol_history.specs.Runs.{IsLegal}
use Rattle.pol_site.specs.Following.{FollowsSite}
use Rattle.pol_site.specs.Plans.{plan_by}
use Rattle.pol_site.specs.Sites.{PlainSite}

-- In every legal history that follows its site each docked tag has a plan.
abbrev pub DockedArePlanned : Type 0
DockedArePlanned =
    (site : PlainSite) (history : History) (tag : List ℕ) (count : ℕ) → IsLegal history → FollowsSite site history
    → docking_of history tag ≡ docked count → (plan : PlainPlan) × (plan_by site tag (past tag history) ≡ Some plan)
