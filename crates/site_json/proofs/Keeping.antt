-- What is read as a site keeps the ranges of its form and its own rules.
use Rattle.std.proofs.Common.{◌≡◌, ℕ, suc, ℤ, Bool, true, false, not, List, [], ◌∷◌, Ok, Option, Some, None, refl}
use Rattle.std.specs.Prelude.{IfOk, codes, ⊤, ◌&&◌, is_none, is_some}
use Rattle.std.specs.List.{list_all}
use Rattle.std.proofs.lemmas.Bool.{and_parts}
use Rattle.std.proofs.lemmas.Result.{IfOk-weaker}
use Rattle.serde_json.specs.Data.{Data}
use Rattle.mtp_codes.specs.Codes.{command_codes}
use Rattle.mtp_codes.specs.declared.limits.TheConstants.{LONGEST_HISTORY, MOST_BATCHES, MOST_MODULES, MOST_RECIPES}
use Rattle.mtp_codes.specs.Numbers.{is_between, is_within, least_i32, greatest_i32}
use Rattle.mtp_codes.specs.Repeats.{repeats_by}
use Rattle.mtp_json.specs.declared.fault.FaultKind.{FaultKind}
use Rattle.mtp_json.specs.declared.fault.FaultKind.TheVariants.{OutOfRange, Repeated, Unsound, BadChart}
use Rattle.mtp_json.specs.declared.path.PathPart.TheVariants.{Key, Place}
use Rattle.mtp_json.specs.Form.{required, nested, list, object_here, nothing_but, refused_if}
use Rattle.mtp_json.specs.Leaf.{code, count, items_in, name, whole, whole_in, whole_number}
use Rattle.mtp_json.specs.ReadResult.{ReadResult, ◌>>=◌, in_place, under}
use Rattle.mtp_desc.specs.Plain.{PlainDescription}
use Rattle.desc_json.specs.Form.{description_of}
use Rattle.mtp_sim.specs.Sims.{PlainPlan}
use Rattle.chart_core.specs.Form.{is_tree_formed}
use Rattle.chart_core.specs.Roles.{PlainRole, is_chart_form}
use Rattle.chart_core.specs.Trees.{Tree}
use Rattle.chart_core.specs.Valid.{chart_fault}
use Rattle.chart_core.specs.declared.fault.ChartFault.{ChartFault}
use Rattle.chart_json.specs.Form.{are_roles_sized, chart_from, roles_of, same_role, tree_of}
use Rattle.chart_json.proofs.Formed.{chart_formed, roles_sized, tree_formed}
use Rattle.chart_json.proofs.Told.{IsListOf, any_before, kept, told_at, told_before, told_count, told_inside}
use Rattle.chart_json.proofs.Told.{told_items, told_list, told_need, told_if}
use Rattle.pol_events.specs.Events.{recipe, start}
use Rattle.pol_events.specs.Orderly.{is_orderly, is_valid}
use Rattle.event_json.proofs.Members.{AreOrderly, binds_orderly}
use Rattle.event_json.proofs.Orderly.{IsAllocation, allocation_orderly, none_orderly}
use Rattle.event_json.specs.Binds.{allocation_from, binds_of, binds_or_none}
use Rattle.pol_site.specs.declared.limits.TheConstants.{MOST_DRIFTS, MOST_EXCHANGES, MOST_ORDERS, MOST_TICKS}
use Rattle.site_json.specs.Ruled.{each_ruled, known_tag, ruled_site, sound_drift, sound_drifts, unlike_drifts}
use Rattle.site_json.specs.Ruled.{valid_chart}
use Rattle.site_json.specs.Form.{drift_of, plan_of, module_of, recipe_of, batch_of, exchange_of, desk_of, site_in}
use Rattle.pol_site.specs.Sites.{PlainSite, PlainSiteRecipe}
use Rattle.pol_site.specs.Sound.{IsSite, is_drift_ranged, is_plan_ranged, is_plan_sound, is_plan_unlike}
use Rattle.pol_site.specs.Rules.{has_module, is_drift_sound, same_batch, same_drift, same_tag}

-- ---- what is read

-- a whole number from low to high
told_whole_in : (low high : ℤ) (found : Option ℤ) → IfOk (whole_in low high found) (λ z. is_within low high z ≡ true)
told_whole_in low high None = tt
told_whole_in low high (Some z) = told_if (λ z. is_within low high z ≡ true) (is_within low high z) z OutOfRange
    (λ within. within)

-- the same of a value
told_whole : (low high : ℤ) (value : Data) → IfOk (whole low high value) (λ z. is_within low high z ≡ true)
told_whole low high value = told_whole_in low high (whole_number value)

-- a number of 32 bits
abbrev IsWord : ℤ → Type 0
IsWord z = is_within least_i32 greatest_i32 z ≡ true

-- the numbers of a drift have 32 bits
told_drift : (value : Data) → IfOk (drift_of value) (λ drift. is_drift_ranged drift ≡ true)
unfolding drift_of
told_drift value =
    any_before _ (object_here value) _ (λ _.
    any_before _ (required (codes "name") name value) _ (λ named.
    told_before IsWord _ (required (codes "from") (whole least_i32 greatest_i32) value) _
    (told_need IsWord (codes "from") (whole least_i32 greatest_i32) (told_whole least_i32 greatest_i32) value)
    (λ from from_in.
    told_before IsWord _ (required (codes "by") (whole least_i32 greatest_i32) value) _
    (told_need IsWord (codes "by") (whole least_i32 greatest_i32) (told_whole least_i32 greatest_i32) value)
    (λ by by_in.
    told_before IsWord _ (required (codes "to") (whole least_i32 greatest_i32) value) _
    (told_need IsWord (codes "to") (whole least_i32 greatest_i32) (told_whole least_i32 greatest_i32) value)
    (λ to to_in.
    any_before _ (nothing_but (codes "name from by to") value) _ (λ _. rw (from_in, by_in, to_in) refl))))))

-- the numbers of a plan are in their ranges
told_plan : (value : Data) → IfOk (plan_of value) (λ plan. is_plan_ranged plan ≡ true)
unfolding plan_of
told_plan value =
    any_before _ (object_here value) _ (λ _.
    told_before (λ n. is_between 1 MOST_TICKS n ≡ true) _ (required (codes "ticks") (count 1 MOST_TICKS) value) _
    (told_need _ (codes "ticks") (count 1 MOST_TICKS) (told_count 1 MOST_TICKS) value) (λ ticks ticks_in.
    told_before (λ n. is_between 1 MOST_TICKS n ≡ true) _ (required (codes "run") (count 1 MOST_TICKS) value) _
    (told_need _ (codes "run") (count 1 MOST_TICKS) (told_count 1 MOST_TICKS) value) (λ run run_in.
    told_before (IsListOf (is_between 0 MOST_DRIFTS) is_drift_ranged) _
    (list (codes "drift") 0 MOST_DRIFTS drift_of value) _
    (told_list (is_between 0 MOST_DRIFTS) is_drift_ranged (codes "drift") (items_in 0 MOST_DRIFTS) drift_of
    (told_items 0 MOST_DRIFTS) told_drift
    value) (λ drifts drifts_in.
    any_before _ (nothing_but (codes "ticks run drift") value) _
    (λ _. rw (ticks_in, run_in, drifts_in.0, drifts_in.1) refl)))))

-- so are those of a module
told_module : (value : Data) → IfOk (module_of value) (λ unit. is_plan_ranged unit.plan ≡ true)
unfolding module_of
told_module value =
    any_before _ (object_here value) _ (λ _.
    any_before _ (required (codes "tag") name value) _ (λ tag.
    any_before _ (nested (codes "desc") description_of value) _ (λ description.
    told_before (λ plan. is_plan_ranged plan ≡ true) _ (nested (codes "sim") plan_of value) _
    (told_inside (λ plan. is_plan_ranged plan ≡ true) (codes "sim") plan_of told_plan value) (λ plan ranged.
    any_before _ (nothing_but (codes "tag desc sim") value) _ (λ _. ranged)))))

-- and of an exchange
told_exchange : (value : Data) →
    IfOk (exchange_of value) (λ exchange.
    (is_between 0 LONGEST_HISTORY exchange.after && is_plan_ranged exchange.plan) ≡ true)
unfolding exchange_of
told_exchange value =
    any_before _ (object_here value) _ (λ _.
    any_before _ (required (codes "tag") name value) _ (λ tag.
    told_before (λ n. is_between 0 LONGEST_HISTORY n ≡ true) _
    (required (codes "after") (count 0 LONGEST_HISTORY) value) _
    (told_need _ (codes "after") (count 0 LONGEST_HISTORY) (told_count 0 LONGEST_HISTORY) value) (λ after after_in.
    any_before _ (nested (codes "desc") description_of value) _ (λ description.
    told_before (λ plan. is_plan_ranged plan ≡ true) _ (nested (codes "sim") plan_of value) _
    (told_inside (λ plan. is_plan_ranged plan ≡ true) (codes "sim") plan_of told_plan value) (λ plan ranged.
    any_before _ (nothing_but (codes "tag after desc sim") value) _ (λ _. rw (after_in, ranged) refl))))))

-- and of a command of the desk
told_desk : (value : Data) → IfOk (desk_of value) (λ order. is_between 0 LONGEST_HISTORY order.after ≡ true)
unfolding desk_of
told_desk value =
    any_before _ (object_here value) _ (λ _.
    any_before _ (required (codes "tag") name value) _ (λ tag.
    any_before _ (required (codes "service") name value) _ (λ service.
    any_before _ (required (codes "CommandOp") (code command_codes) value) _ (λ command.
    told_before (λ n. is_between 0 LONGEST_HISTORY n ≡ true) _
    (required (codes "after") (count 0 LONGEST_HISTORY) value) _
    (told_need _ (codes "after") (count 0 LONGEST_HISTORY) (told_count 0 LONGEST_HISTORY) value) (λ after after_in.
    any_before _ (nothing_but (codes "tag service CommandOp after") value) _ (λ _. after_in))))))

-- the binds of a batch stand in order
told_batch : (value : Data) →
    IfOk (batch_of value) (λ batch. is_orderly (start 0 batch.batch batch.recipe batch.binds) ≡ true)
unfolding batch_of
told_batch value =
    any_before _ (object_here value) _ (λ _.
    any_before _ (required (codes "batch") name value) _ (λ batch.
    any_before _ (required (codes "recipe") name value) _ (λ named.
    told_before AreOrderly _ (nested (codes "bind") binds_of value) _
    (told_inside AreOrderly (codes "bind") binds_of binds_orderly value) (λ held first.
    told_before AreOrderly _ (binds_or_none (codes "watch") value) _ (none_orderly (codes "watch") value)
    (λ watched second.
    any_before _ (nothing_but (codes "batch recipe bind watch") value) _ (λ _.
    told_before IsAllocation _ (allocation_from (record { held = held; watched = watched })) _
    (allocation_orderly held watched first second) (λ binds orderly. orderly)))))))

-- a chart of sized roles and a formed root is formed, where no role is named twice
made_formed : (named : List ℕ) (roles : List PlainRole) (root : Tree) → are_roles_sized roles ≡ true
    → is_tree_formed root ≡ true →
    IfOk (chart_from roles root >>= λ chart. Ok (record { recipe = named; chart = chart }))
    (λ (each : PlainSiteRecipe). is_chart_form each.chart ≡ true)
unfolding chart_from
made_formed named roles root sized formed = go (repeats_by same_role roles) refl
  where
    go : (broken : Bool) → repeats_by same_role roles ≡ broken →
        IfOk ((under (codes "roles") (refused_if broken Repeated) >>= λ _. Ok (record { roles = roles; root = root }))
        >>= λ chart. Ok (record { recipe = named; chart = chart }))
        (λ (each : PlainSiteRecipe). is_chart_form each.chart ≡ true)
    go true is = tt
    go false is = chart_formed roles root sized formed is

-- the chart of a recipe is formed
told_recipe : (value : Data) → IfOk (recipe_of value) (λ each. is_chart_form each.chart ≡ true)
unfolding recipe_of
told_recipe value =
    any_before _ (object_here value) _ (λ _.
    any_before _ (required (codes "recipe") name value) _ (λ named.
    told_before (λ roles. are_roles_sized roles ≡ true) _ (nested (codes "roles") roles_of value) _
    (told_inside (λ roles. are_roles_sized roles ≡ true) (codes "roles") roles_of roles_sized value) (λ roles sized.
    told_before (λ root. is_tree_formed root ≡ true) _ (nested (codes "chart") tree_of value) _
    (told_inside (λ root. is_tree_formed root ≡ true) (codes "chart") tree_of tree_formed value) (λ root formed.
    any_before _ (nothing_but (codes "recipe roles chart") value) _ (λ _. made_formed named roles root sized formed)))))

-- ---- what is asked

-- where a rule was asked of each item without a fault, each passes the test
told_each : {A : Type 0} (test : A → Bool) (rule : A → ReadResult ⊤)
    → ((item : A) → IfOk (rule item) (λ _. test item ≡ true))
    → (place : ℕ) (items : List A) → IfOk (each_ruled rule place items) (λ _. list_all test items ≡ true)
unfolding each_ruled
told_each test rule told place [] = refl
told_each test rule told place (item ∷ items) =
    told_before (λ _. test item ≡ true) (λ _. list_all test (item ∷ items) ≡ true) (in_place place (rule item))
    (λ _. each_ruled rule (suc place) items) (told_at (λ _. test item ≡ true) (Place place) (rule item) (told item))
    (λ _ passes.
    IfOk-weaker (each_ruled rule (suc place) items) (λ _. list_all test items ≡ true)
    (λ _. list_all test (item ∷ items) ≡ true)
    (λ _ pass. rw (passes, pass) refl) (told_each test rule told (suc place) items))

-- a test that was refused where it fails holds
holds : (test : Bool) (kind : FaultKind) → IfOk (refused_if (not test) kind) (λ _. test ≡ true)
holds true kind = refl
holds false kind = tt

-- what is known once a rule was asked is known below a key as well
asked_at : (known : Type 0) (key : List ℕ) (asked : ReadResult ⊤) → IfOk asked (λ _. known)
    → IfOk (under key asked) (λ _. known)
asked_at known key asked told = told_at (λ _. known) (Key key) asked told

-- the same of a rule that was asked of each item of the list at a key
asked_each : {A : Type 0} (key : List ℕ) (test : A → Bool) (rule : A → ReadResult ⊤) (items : List A)
    → ((item : A) → IfOk (rule item) (λ _. test item ≡ true))
    → IfOk (under key (each_ruled rule 0 items)) (λ _. list_all test items ≡ true)
asked_each key test rule items told = asked_at (list_all test items ≡ true) key (each_ruled rule 0 items)
    (told_each test rule told 0 items)

-- no variable drifts twice
told_unlike : (plan : PlainPlan) → IfOk (unlike_drifts plan) (λ _. is_plan_unlike plan ≡ true)
told_unlike plan =
    let asked = refused_if (repeats_by same_drift plan.drifts) Repeated in
    asked_at (is_plan_unlike plan ≡ true) (codes "sim") (under (codes "drift") asked)
    (asked_at (is_plan_unlike plan ≡ true) (codes "drift") asked (go (repeats_by same_drift plan.drifts)))
  where
    go : (broken : Bool) → IfOk (refused_if broken Repeated) (λ _. not broken ≡ true)
    go true = tt
    go false = refl

-- each drift is sound
told_sound : (description : PlainDescription) (plan : PlainPlan) →
    IfOk (sound_drifts description plan) (λ _. is_plan_sound description plan ≡ true)
told_sound description plan =
    let asked = each_ruled (sound_drift description) 0 plan.drifts in
    asked_at (is_plan_sound description plan ≡ true) (codes "sim") (under (codes "drift") asked)
    (asked_at (is_plan_sound description plan ≡ true) (codes "drift") asked
    (told_each (is_drift_sound description) (sound_drift description)
    (λ drift. holds (is_drift_sound description drift) Unsound) 0 plan.drifts))

-- the chart is valid
told_valid : (each : PlainSiteRecipe) → IfOk (valid_chart each) (λ _. is_valid each.chart ≡ true)
told_valid each =
    asked_at (is_valid each.chart ≡ true) (codes "chart") (refused_if (is_some (chart_fault each.chart)) BadChart)
    (go (chart_fault each.chart))
  where
    go : (fault : Option ChartFault) → IfOk (refused_if (is_some fault) BadChart) (λ _. is_none fault ≡ true)
    go None = refl
    go (Some fault) = tt

-- a recipe whose chart is formed and valid is orderly
all_orderly : (recipes : List PlainSiteRecipe) → list_all (λ each. is_chart_form each.chart) recipes ≡ true
    → list_all (λ each. is_valid each.chart) recipes ≡ true
    → list_all (λ each. is_orderly (recipe 0 each.recipe each.chart)) recipes ≡ true
all_orderly [] formed valid = refl
all_orderly (each ∷ others) formed valid =
    let one = and_parts (is_chart_form each.chart) (list_all (λ each. is_chart_form each.chart) others) formed in
    let two = and_parts (is_valid each.chart) (list_all (λ each. is_valid each.chart) others) valid in
    rw (one.0, two.0, all_orderly others one.1 two.1) refl

-- ---- a site

-- what is known of a site's lists once they were read
record AreRead (site : PlainSite) : Type 0 where
  modules : IsListOf (is_between 1 MOST_MODULES) (λ unit. is_plan_ranged unit.plan) site.modules
  recipes : IsListOf (is_between 0 MOST_RECIPES) (λ each. is_chart_form each.chart) site.recipes
  batches : IsListOf (is_between 0 MOST_BATCHES) (λ batch. is_orderly (start 0 batch.batch batch.recipe batch.binds))
      site.batches
  exchanges : IsListOf (is_between 0 MOST_EXCHANGES)
      (λ exchange. is_between 0 LONGEST_HISTORY exchange.after && is_plan_ranged
      exchange.plan) site.exchanges
  desk : IsListOf (is_between 0 MOST_ORDERS) (λ order. is_between 0 LONGEST_HISTORY order.after) site.desk

-- once its own rules were asked as well, it is a site
told_ruled : (site : PlainSite) → AreRead site → IfOk (ruled_site site) IsSite
unfolding ruled_site
told_ruled site read =
    told_before (λ _. repeats_by same_tag site.modules ≡ false) IsSite
    (under (codes "modules") (refused_if (repeats_by same_tag site.modules) Repeated)) _
    (asked_at _ (codes "modules") (refused_if (repeats_by same_tag site.modules) Repeated)
    (kept (repeats_by same_tag site.modules) Repeated)) (λ _ unlike_modules.
    told_before (λ _. repeats_by same_batch site.batches ≡ false) IsSite
    (under (codes "batches") (refused_if (repeats_by same_batch site.batches) Repeated)) _
    (asked_at _ (codes "batches") (refused_if (repeats_by same_batch site.batches) Repeated)
    (kept (repeats_by same_batch site.batches) Repeated)) (λ _ unlike_batches.
    told_before (λ _. list_all (λ unit. is_plan_unlike unit.plan) site.modules ≡ true) IsSite _ _
    (asked_each (codes "modules") (λ unit. is_plan_unlike unit.plan) (λ unit. unlike_drifts unit.plan) site.modules
    (λ unit. told_unlike unit.plan)) (λ _ unlike.
    told_before (λ _. list_all (λ exchange. is_plan_unlike exchange.plan) site.exchanges ≡ true) IsSite _ _
    (asked_each (codes "exchanges") (λ exchange. is_plan_unlike exchange.plan) (λ exchange. unlike_drifts exchange.plan)
    site.exchanges (λ exchange. told_unlike exchange.plan)) (λ _ unlike_exchanged.
    told_before (λ _. list_all (λ unit. is_plan_sound unit.description unit.plan) site.modules ≡ true) IsSite _ _
    (asked_each (codes "modules") (λ unit. is_plan_sound unit.description unit.plan)
    (λ unit. sound_drifts unit.description unit.plan) site.modules (λ unit. told_sound unit.description unit.plan))
    (λ _ sound_modules.
    told_before (λ _. list_all (λ exchange. is_plan_sound exchange.description exchange.plan) site.exchanges ≡ true)
    IsSite _ _
    (asked_each (codes "exchanges") (λ exchange. is_plan_sound exchange.description exchange.plan)
    (λ exchange. sound_drifts exchange.description exchange.plan) site.exchanges
    (λ exchange. told_sound exchange.description exchange.plan)) (λ _ sound_exchanged.
    told_before (λ _. list_all (λ exchange. has_module site.modules exchange.tag) site.exchanges ≡ true) IsSite _ _
    (asked_each (codes "exchanges") (λ exchange. has_module site.modules exchange.tag) (known_tag site.modules)
    site.exchanges (λ exchange. holds (has_module site.modules exchange.tag) Unsound)) (λ _ known.
    told_before (λ _. list_all (λ each. is_valid each.chart) site.recipes ≡ true) IsSite _ _
    (asked_each (codes "recipes") (λ each. is_valid each.chart) valid_chart site.recipes told_valid) (λ _ valid.
    record {
      some_modules = read.modules.0;
      few_recipes = read.recipes.0;
      few_batches = read.batches.0;
      few_exchanges = read.exchanges.0;
      few_orders = read.desk.0;
      unlike_modules = unlike_modules;
      unlike_batches = unlike_batches;
      known_tags = known;
      orderly_recipes = all_orderly site.recipes read.recipes.1 valid;
      orderly_starts = read.batches.1;
      ranged_modules = read.modules.1;
      unlike_drifts = unlike;
      sound_drifts = sound_modules;
      ranged_exchanges = read.exchanges.1;
      unlike_exchanged = unlike_exchanged;
      sound_exchanged = sound_exchanged;
      ranged_orders = read.desk.1;
    }))))))))

-- what is read as a site is one
told_site : (value : Data) → IfOk (site_in value) IsSite
unfolding site_in
told_site value =
    any_before IsSite (object_here value) _ (λ _.
    told_before (IsListOf (is_between 1 MOST_MODULES) (λ unit. is_plan_ranged unit.plan)) IsSite
    (list (codes "modules") 1 MOST_MODULES module_of value) _
    (told_list (is_between 1 MOST_MODULES) (λ unit. is_plan_ranged unit.plan) (codes "modules")
    (items_in 1 MOST_MODULES) module_of
    (told_items 1 MOST_MODULES) told_module value) (λ modules modules_read.
    told_before (IsListOf (is_between 0 MOST_RECIPES) (λ each. is_chart_form each.chart)) IsSite
    (list (codes "recipes") 0 MOST_RECIPES recipe_of value) _
    (told_list (is_between 0 MOST_RECIPES) (λ each. is_chart_form each.chart) (codes "recipes")
    (items_in 0 MOST_RECIPES) recipe_of
    (told_items 0 MOST_RECIPES) told_recipe value) (λ recipes recipes_read.
    told_before (IsListOf (is_between 0 MOST_BATCHES)
    (λ batch. is_orderly (start 0 batch.batch batch.recipe batch.binds)))
    IsSite (list (codes "batches") 0 MOST_BATCHES batch_of value) _
    (told_list (is_between 0 MOST_BATCHES) (λ batch. is_orderly (start 0 batch.batch batch.recipe batch.binds))
    (codes "batches")
    (items_in 0 MOST_BATCHES) batch_of (told_items 0 MOST_BATCHES) told_batch value) (λ batches batches_read.
    told_before (IsListOf (is_between 0 MOST_EXCHANGES)
    (λ exchange. is_between 0 LONGEST_HISTORY exchange.after && is_plan_ranged exchange.plan)) IsSite
    (list (codes "exchanges") 0 MOST_EXCHANGES exchange_of value) _
    (told_list (is_between 0 MOST_EXCHANGES)
    (λ exchange. is_between 0 LONGEST_HISTORY exchange.after && is_plan_ranged exchange.plan)
    (codes "exchanges") (items_in 0 MOST_EXCHANGES) exchange_of (told_items 0 MOST_EXCHANGES) told_exchange value)
    (λ exchanges exchanges_read.
    told_before (IsListOf (is_between 0 MOST_ORDERS) (λ order. is_between 0 LONGEST_HISTORY order.after)) IsSite
    (list (codes "desk") 0 MOST_ORDERS desk_of value) _
    (told_list (is_between 0 MOST_ORDERS) (λ order. is_between 0 LONGEST_HISTORY order.after) (codes "desk")
    (items_in 0 MOST_ORDERS) desk_of
    (told_items 0 MOST_ORDERS) told_desk value) (λ desk desk_read.
    any_before IsSite (nothing_but (codes "modules recipes batches exchanges desk") value) _ (λ _.
    told_ruled (record { modules = modules; recipes = recipes; batches = batches; exchanges = exchanges; desk = desk })
    (record {
      modules = modules_read;
      recipes = recipes_read;
      batches = batches_read;
      exchanges = exchanges_read;
      desk =
          desk_read;
    }))))))))

-- a site that is read keeps what every site keeps
pub site_kept : (value : Data) (site : PlainSite) → site_in value ≡ Ok site → IsSite site
site_kept value site is = let told = told_site value in rw is at told

-- members that were read one list after the other, of which the own rules were asked, make a site
pub read_kept : (value : Data) (site : PlainSite) → object_here value ≡ Ok tt
    → list (codes "modules") 1 MOST_MODULES module_of value ≡ Ok site.modules
    → list (codes "recipes") 0 MOST_RECIPES recipe_of value ≡ Ok site.recipes
    → list (codes "batches") 0 MOST_BATCHES batch_of value ≡ Ok site.batches
    → list (codes "exchanges") 0 MOST_EXCHANGES exchange_of value ≡ Ok site.exchanges
    → list (codes "desk") 0 MOST_ORDERS desk_of value ≡ Ok site.desk
    → nothing_but (codes "modules recipes batches exchanges desk") value ≡ Ok tt → ruled_site site ≡ Ok site
    → IsSite site
unfolding site_in
read_kept value site object modules recipes batches exchanges desk others ruled =
    site_kept value site (rw (object, modules, recipes, batches, exchanges, desk, others) ruled)
