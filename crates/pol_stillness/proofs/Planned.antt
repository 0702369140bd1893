-- A tag that is counted as present was plugged, and its plug brought the plan of the site's module.
use Rattle.std.proofs.Common.{◌≡◌, ℕ, suc, zero, Bool, true, false, not, ◌||◌, List, [], ◌∷◌, ◌++◌, map, Option, Some}
use Rattle.std.proofs.Common.{None, refl, ap, sym, ◌∙◌, if◌then◌else◌}
use Rattle.std.specs.Prelude.{find, is_some, option_map, slice_get}
use Rattle.std.specs.Option.{option_or}
use Rattle.std.specs.Str.{bytes_eq}
use Rattle.mtp_desc.specs.Plain.{PlainDescription}
use Rattle.mtp_codes.specs.Names.{is_among}
use Rattle.mtp_codes.proofs.Names.{same_true, same_refl}
use Rattle.mtp_sim.specs.Sims.{PlainPlan}
use Rattle.pol_events.specs.Events.{PlainEntry, PlainEvent, plug, recipe, unplug}
use Rattle.pol_events.specs.declared.answer.Answer.{Answer}
use Rattle.pol_history.specs.Looking.{History, is_accepted, is_accepted_of, past}
use Rattle.pol_history.specs.Modules.{present_after, present_tags, tags_without}
use Rattle.pol_safety.specs.Known.{is_there}
use Rattle.pol_safety.proofs.Present.{tags_counted}
use Rattle.pol_site.specs.Following.{FollowsSite, IsAllowed, opened}
use Rattle.pol_site.specs.Plans.{module_plan, plan_brought, plan_by}
use Rattle.pol_site.specs.Sites.{PlainSite, PlainSiteModule, PlainSiteRecipe}
use Rattle.pol_stillness.specs.Planned.{DockedArePlanned}

-- ---- what a plug brings

-- the plan of the module with this tag, among these
abbrev plan_among : List PlainSiteModule → List ℕ → Option PlainPlan
plan_among units tag = option_map (λ unit. unit.plan) (find (λ unit. bytes_eq unit.tag tag) units)

-- a module more, and there still is one
one_more : (unit : PlainSiteModule) (units : List PlainSiteModule) (tag : List ℕ)
    → is_some (plan_among units tag) ≡ true → is_some (plan_among (unit ∷ units) tag) ≡ true
one_more unit units tag some = go (bytes_eq unit.tag tag)
  where
    go : (own : Bool) → is_some (option_map (λ (unit : PlainSiteModule). unit.plan)
        (if own then Some unit else find (λ unit. bytes_eq unit.tag tag) units)) ≡ true
    go true = refl
    go false = some

-- a plug that is one of the openings is of a module with a plan
opening_planned : (recipes : List PlainSiteRecipe) (units : List PlainSiteModule) (place : ℕ) (tag : List ℕ)
    (description : PlainDescription)
    → slice_get (map (λ each. recipe 0 each.recipe each.chart) recipes
    ++ map (λ each. plug 0 each.tag each.description) units) place ≡ Some (plug 0 tag description)
    → is_some (plan_among units tag) ≡ true
opening_planned [] [] place tag description is = absurd cc
opening_planned [] (unit ∷ units) zero tag description is =
    let same : unit.tag ≡ tag = cc in rw (ap (λ name. bytes_eq name tag) same ∙ same_refl tag) refl
opening_planned [] (unit ∷ units) (suc place) tag description is =
    one_more unit units tag (opening_planned [] units place tag description is)
opening_planned (each ∷ recipes) units zero tag description is = absurd cc
opening_planned (each ∷ recipes) units (suc place) tag description is =
    opening_planned recipes units place tag description is

-- ---- one entry more

-- a tag that is among others without one of them is among all
among_more : (other tag : List ℕ) (tags : List (List ℕ)) → is_among (tags_without other tags) tag ≡ true
    → is_among tags tag ≡ true
among_more other tag [] is = is
among_more other tag (each ∷ tags) is =
    go (bytes_eq each tag) (bytes_eq each other) refl is (among_more other tag tags)
  where
    go : (own without : Bool) → bytes_eq each tag ≡ own
        → is_among (if not without then each ∷ tags_without other tags else tags_without other tags) tag ≡ true
        → (is_among (tags_without other tags) tag ≡ true → is_among tags tag ≡ true)
        → (own || is_among tags tag) ≡ true
    go true without its is further = refl
    go false true its is further = further is
    go false false its is further =
        further (ap (λ own. own || is_among (tags_without other tags) tag) (sym its) ∙ is)

-- where there is a plan, whatever comes before leaves one
some_or : {A : Type 0} (found later : Option A) → is_some later ≡ true → is_some (option_or found later) ≡ true
some_or None later some = some
some_or (Some plan) later some = refl

-- where a plan is brought, there is one
some_by : {A : Type 0} (found later : Option A) → is_some found ≡ true → is_some (option_or found later) ≡ true
some_by None later some = absurd cc
some_by (Some plan) later some = refl

-- a plan that is there stays
plan_stays : (site : PlainSite) (entry : PlainEntry) (older : History) (tag : List ℕ)
    → is_some (plan_by site tag (past tag older)) ≡ true → is_some (plan_by site tag (past tag (entry ∷ older))) ≡ true
plan_stays site entry older tag some = go (is_accepted_of tag entry)
  where
    go : (own : Bool) → is_some (plan_by site tag (if own then entry ∷ past tag older else past tag older)) ≡ true
    go true = some_or (plan_brought site tag entry.event (past tag older)) (plan_by site tag (past tag older)) some
    go false = some

-- so after an event, if its plug brought one and all that were present before have one
after_event : (site : PlainSite) (older : History) (tag : List ℕ) (event : PlainEvent) (answer : Answer)
    → IsAllowed site older event answer
    → (is_among (present_tags older) tag ≡ true → is_some (plan_by site tag (past tag older)) ≡ true)
    → is_among (present_after event (is_accepted answer) (present_tags older)) tag ≡ true
    → is_some (plan_by site tag (past tag (record { event = event; answer = answer } ∷ older))) ≡ true
after_event site older tag (plug at other description) answer allowed before is =
    go (is_accepted answer) (bytes_eq other tag) refl refl is
  where
    entry : PlainEntry
    entry = record { event = plug at other description; answer = answer }

    here : other ≡ tag → is_some (module_plan site tag) ≡ true
    here same =
        ap (λ name. is_some (module_plan site name)) (sym same)
        ∙ opening_planned site.recipes site.modules (opened older) other description allowed.listed

    go : (accepted own : Bool) → is_accepted answer ≡ accepted → bytes_eq other tag ≡ own
        → is_among (present_after (plug at other description) accepted (present_tags older)) tag ≡ true
        → is_some (plan_by site tag (past tag (entry ∷ older))) ≡ true
    go false own refused its is = plan_stays site entry older tag (before is)
    go true true accepted its is =
        rw (its, accepted) (some_by (module_plan site tag) (plan_by site tag (past tag older))
        (here (same_true other tag its)))
    go true false accepted its is =
        plan_stays site entry older tag (before (among_more other tag (present_tags older)
        (ap (λ own. own || is_among (tags_without other (present_tags older)) tag) (sym its) ∙ is)))
after_event site older tag (unplug at other) answer allowed before is = absurd allowed
after_event site older tag event answer allowed before is =
    plan_stays site (record { event = event; answer = answer }) older tag (before is)

-- each tag that is counted as present has a plan
present_planned : (site : PlainSite) (history : History) (tag : List ℕ) → FollowsSite site history
    → is_among (present_tags history) tag ≡ true → is_some (plan_by site tag (past tag history)) ≡ true
present_planned site [] tag follows is = absurd cc
present_planned site (entry ∷ older) tag follows is =
    after_event site older tag entry.event entry.answer follows.0 (present_planned site older tag follows.1) is

-- ---- the law

-- each docked tag has a plan
pub docked_planned : DockedArePlanned
docked_planned site history tag count legal follows is =
    go (plan_by site tag (past tag history))
    (present_planned site history tag follows ((tags_counted history legal).members tag ∙ ap is_there is))
  where
    go : (plan : Option PlainPlan) → is_some plan ≡ true → (found : PlainPlan) × (plan ≡ Some found)
    go None some = absurd cc
    go (Some plan) some = (plan, refl)
