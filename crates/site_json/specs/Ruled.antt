-- A site's own rules, as steps of reading: what is refused, and where.
use Rattle.std.specs.Prelude.{ℕ, suc, not, codes, List, [], ◌∷◌, is_some, Ok, ⊤}
use Rattle.mtp_codes.specs.Repeats.{repeats_by}
use Rattle.mtp_json.specs.Form.{refused_if}
use Rattle.mtp_json.specs.ReadResult.{ReadResult, ◌>>=◌, under, in_place}
use Rattle.mtp_json.specs.declared.fault.FaultKind.TheVariants.{Repeated, Unsound, BadChart}
use Rattle.mtp_desc.specs.Plain.{PlainDescription}
use Rattle.mtp_sim.specs.declared.plan.Drift.{Drift}
use Rattle.mtp_sim.specs.Sims.{PlainPlan}
use Rattle.chart_core.specs.Valid.{chart_fault}
use Rattle.pol_site.specs.Rules.{same_tag, same_batch, same_drift, is_drift_sound, has_module}
use Rattle.pol_site.specs.Sites.{PlainSite, PlainSiteModule, PlainSiteRecipe, PlainSiteExchange}

-- a rule of each item of a list, from first to last, the first at this place
unfoldable pub each_ruled : {A : Type 0} → (A → ReadResult ⊤) → ℕ → List A → ReadResult ⊤
each_ruled rule place [] = Ok tt
each_ruled rule place (item ∷ items) =
    in_place place (rule item) >>= λ _.
    each_ruled rule (suc place) items

-- no variable drifts twice
abbrev pub unlike_drifts : PlainPlan → ReadResult ⊤
unlike_drifts plan =
    under (codes "sim") (under (codes "drift") (refused_if (repeats_by same_drift plan.drifts) Repeated))

-- the drift is sound
abbrev pub sound_drift : PlainDescription → Drift → ReadResult ⊤
sound_drift description drift = refused_if (not (is_drift_sound description drift)) Unsound

-- each drift is sound
abbrev pub sound_drifts : PlainDescription → PlainPlan → ReadResult ⊤
sound_drifts description plan =
    under (codes "sim") (under (codes "drift") (each_ruled (sound_drift description) 0 plan.drifts))

-- the exchange is of a tag that some module has
abbrev pub known_tag : List PlainSiteModule → PlainSiteExchange → ReadResult ⊤
known_tag modules exchange = refused_if (not (has_module modules exchange.tag)) Unsound

-- the chart of the recipe is valid
abbrev pub valid_chart : PlainSiteRecipe → ReadResult ⊤
valid_chart each = under (codes "chart") (refused_if (is_some (chart_fault each.chart)) BadChart)

-- The site's own rules, each over the whole site before the next: first what is there twice, then what is unsound, and
-- last the charts; modules before exchanges.
unfoldable pub ruled_site : PlainSite → ReadResult PlainSite
ruled_site site =
    under (codes "modules") (refused_if (repeats_by same_tag site.modules) Repeated) >>= λ _.
    under (codes "batches") (refused_if (repeats_by same_batch site.batches) Repeated) >>= λ _.
    under (codes "modules") (each_ruled (λ unit. unlike_drifts unit.plan) 0 site.modules) >>= λ _.
    under (codes "exchanges") (each_ruled (λ exchange. unlike_drifts exchange.plan) 0 site.exchanges) >>= λ _.
    under (codes "modules") (each_ruled (λ unit. sound_drifts unit.description unit.plan) 0 site.modules) >>= λ _.
    under (codes "exchanges")
    (each_ruled (λ exchange. sound_drifts exchange.description exchange.plan) 0 site.exchanges) >>= λ _.
    under (codes "exchanges") (each_ruled (known_tag site.modules) 0 site.exchanges) >>= λ _.
    under (codes "recipes") (each_ruled valid_chart 0 site.recipes) >>= λ _.
    Ok site
