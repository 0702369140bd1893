-- A simulated module rests exactly where it is settled.
use Rattle.std.specs.Prelude.{ℕ, ◌≡◌, true, List, None}
use Rattle.mtp_sim.specs.Sims.{PlainSim}
use Rattle.mtp_sim.specs.Ticks.{is_at_rest}
use Rattle.pol_history.specs.Looking.{History, past}
use Rattle.pol_history.specs.Modules.{docked, docking_by}
use Rattle.pol_history.specs.Runs.{IsLegal, IsOrderly}
use Rattle.pol_site.specs.Sites.{PlainSite}
use Rattle.pol_site.specs.Following.{FollowsSite}
use Rattle.pol_site.specs.Commanded.{IsCommanded}
use Rattle.pol_site.specs.Settled.{is_settled_module}
use Rattle.pol_simulated.specs.Places.{next_command}
use Rattle.pol_stillness.specs.KeepingUp.{KeepsUp}

-- Where a docked module keeps up, no command is left to look at and it is at rest, the module is settled.
abbrev pub RestsAreSettled : Type 0
RestsAreSettled =
    (site : PlainSite) (tag : List ℕ) (from count : ℕ) (history : History) (sim : PlainSim) →
    IsLegal history → IsOrderly history → FollowsSite site history → IsCommanded history →
    docking_by (past tag history) ≡ docked count → KeepsUp site tag from history sim →
    next_command tag from history ≡ None → is_at_rest sim ≡ true →
    is_settled_module site history tag ≡ true

-- Where a docked module keeps up and is settled, no command is left to look at and it is at rest.
abbrev pub SettledRest : Type 0
SettledRest =
    (site : PlainSite) (tag : List ℕ) (from count : ℕ) (history : History) (sim : PlainSim) →
    IsLegal history → docking_by (past tag history) ≡ docked count → KeepsUp site tag from history sim →
    is_settled_module site history tag ≡ true →
    (next_command tag from history ≡ None) × (is_at_rest sim ≡ true)
