-- Which plan an event of a module brings, in a history that follows its site.
use Rattle.std.specs.Prelude.{ℕ, pred, ◌≡◌, false, List, ◌∷◌, Some, slice_get}
use Rattle.mtp_codes.specs.Repeats.{repeats_by}
use Rattle.mtp_desc.specs.Plain.{PlainDescription}
use Rattle.pol_events.specs.Events.{plug, exchange_end}
use Rattle.pol_events.specs.declared.answer.Answer.TheVariants.{Done}
use Rattle.pol_history.specs.Looking.{History, past}
use Rattle.pol_site.specs.Following.{FollowsSite, exchanging, was_begun}
use Rattle.pol_site.specs.Plans.{begun_in, plan_by}
use Rattle.pol_site.specs.Rules.{same_tag}
use Rattle.pol_site.specs.Sites.{PlainSite, PlainSiteModule, PlainSiteExchange}

-- A plug brings the plan of the site's module with its tag.
abbrev pub PlugsBringPlans : Type 0
PlugsBringPlans =
    (site : PlainSite) (older : History) (at : ℕ) (tag : List ℕ) (description : PlainDescription) (place : ℕ)
    (unit : PlainSiteModule) →
    repeats_by same_tag site.modules ≡ false → slice_get site.modules place ≡ Some unit → unit.tag ≡ tag →
    plan_by site tag (past tag (record { event = plug at tag description; answer = Done } ∷ older)) ≡ Some unit.plan

-- The end of an exchange brings the plan of the site's exchange that was begun last.
abbrev pub EndsBringPlans : Type 0
EndsBringPlans =
    (site : PlainSite) (older : History) (at : ℕ) (tag : List ℕ) (ticket : ℕ) (description : PlainDescription)
    (exchange : PlainSiteExchange) →
    FollowsSite site older → exchanging older ≡ was_begun tag ticket →
    slice_get site.exchanges (pred (begun_in older)) ≡ Some exchange →
    plan_by site tag (past tag (record { event = exchange_end at tag ticket description; answer = Done } ∷ older))
    ≡ Some exchange.plan
