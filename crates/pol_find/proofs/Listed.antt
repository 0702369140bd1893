-- The recipes of a history are found by their names, and their charts are formed.
use Rattle.std.proofs.Common.{◌≡◌, ℕ, Bool, true, false, cond, Some, None, List, [], ◌∷◌, refl, sym, ◌∙◌, ap, inl, inr}
use Rattle.std.specs.Prelude.{is_some, reverse}
use Rattle.std.specs.List.{Contains}
use Rattle.std.specs.Option.{option_or}
use Rattle.std.specs.Str.{bytes_eq}
use Rattle.std.proofs.lemmas.Bool.{and_parts}
use Rattle.mtp_codes.proofs.Names.{same_true, same_refl}
use Rattle.chart_core.specs.Roles.{PlainChart, is_chart_form}
use Rattle.chart_core.proofs.Lawful.{member_cases}
use Rattle.pol_events.specs.Events.{PlainEntry, PlainEvent, abandon, advance, desk, exchange_begin, exchange_cancel}
use Rattle.pol_events.specs.Events.{exchange_end, freeze, plug, recipe, report, start, stop_batch, thaw, unplug}
use Rattle.pol_events.specs.Events.{variable}
use Rattle.pol_events.specs.Orderly.{is_orderly, is_valid}
use Rattle.pol_events.proofs.Lists.{no_member}
use Rattle.pol_history.specs.Answers.{answer_of}
use Rattle.pol_history.specs.Batches.{chart_named, charted}
use Rattle.pol_history.specs.Looking.{History, is_accepted, is_accepted_recipe, is_recipe, recipes, subject}
use Rattle.pol_history.specs.Runs.{IsLegal, IsOrderly}
use Rattle.pol_history.proofs.Accepted.{accepted_none}
use Rattle.pol_history.proofs.Binds.{when_none}
use Rattle.pol_history.proofs.Watchers.{member_reversed}
use Rattle.pol_find.specs.Recipes.{PlainRecipe, made_known, recipe_in, recipes_of}
use Rattle.pol_find.proofs.Lists.{made_of}

-- an entry that makes a recipe known is an accepted recipe of its name and its chart
record IsMaking (recipe : PlainRecipe) (entry : PlainEntry) : Type 0 where
  accepted : is_accepted entry.answer ≡ true
  listed : is_accepted_recipe entry ≡ true
  charted_is : charted recipe.name entry.event ≡ Some recipe.chart
  formed : is_orderly entry.event ≡ true → is_chart_form recipe.chart ≡ true

-- an event about a recipe is one of its name and its chart
is_making : (told : PlainRecipe) (entry : PlainEntry) → made_known entry ≡ Some told → IsMaking told entry
is_making told entry made = go (is_accepted entry.answer) refl entry.event refl made
  where
    go : (kept : Bool) → is_accepted entry.answer ≡ kept → (event : PlainEvent) → entry.event ≡ event →
        cond kept (recipe_in event) None ≡ Some told → IsMaking told entry
    go false is event event_is made = absurd cc
    go true is (recipe at name chart) event_is made =
        let name_is : name ≡ told.name = cc in
        let chart_is : chart ≡ told.chart = cc in
        record {
          accepted = is;
          listed = rw (event_is, is) refl;
          charted_is = ap (charted told.name) event_is
              ∙ ap (λ same. cond same (Some chart) None) (ap (λ other. bytes_eq other told.name) name_is
              ∙ same_refl told.name)
              ∙ ap Some chart_is;
          formed = λ orderly.
              let parts = and_parts (is_chart_form chart) (is_valid chart) (ap is_orderly (sym event_is) ∙ orderly) in
              ap is_chart_form (sym chart_is) ∙ parts.0;
        }
    go true is (plug at tag description) event_is made = absurd cc
    go true is (unplug at tag) event_is made = absurd cc
    go true is (report at tag service control) event_is made = absurd cc
    go true is (variable at tag name value) event_is made = absurd cc
    go true is (start at batch name binds) event_is made = absurd cc
    go true is (advance at batch) event_is made = absurd cc
    go true is (freeze at batch hold) event_is made = absurd cc
    go true is (thaw at batch) event_is made = absurd cc
    go true is (stop_batch at batch) event_is made = absurd cc
    go true is (abandon at batch) event_is made = absurd cc
    go true is (desk at tag service command) event_is made = absurd cc
    go true is (exchange_begin at tag) event_is made = absurd cc
    go true is (exchange_end at tag ticket description) event_is made = absurd cc
    go true is (exchange_cancel at tag ticket) event_is made = absurd cc

-- a recipe that was known keeps its chart with one more entry
stays_named : (history : History) (entry : PlainEntry) (name : List ℕ) (chart : PlainChart) →
    entry.answer ≡ answer_of history entry.event → chart_named name (recipes history) ≡ Some chart →
    chart_named name (recipes (entry ∷ history)) ≡ Some chart
stays_named history entry name chart legal known = go (is_accepted_recipe entry) refl
  where
    -- a recipe of a known name isn't accepted, so what is listed is of another name
    other : (event : PlainEvent) → entry.event ≡ event → is_accepted_recipe entry ≡ true → charted name event ≡ None
    other (recipe at called brought) event_is listed = by_name (bytes_eq called name) refl
      where
        by_name : (same : Bool) → bytes_eq called name ≡ same → cond same (Some brought) None ≡ None
        by_name false differs = refl
        by_name true same =
            let accepted : is_accepted (answer_of history (recipe at called brought)) ≡ true =
            ap (λ event. is_accepted (answer_of history event)) (sym event_is) ∙ ap is_accepted (sym legal)
            ∙ (and_parts (is_recipe (subject entry.event)) (is_accepted entry.answer) listed).1 in
            let fresh = when_none (is_some (chart_named called (recipes history))) _
            (accepted_none history (recipe at called brought) accepted).0 in
            let there : is_some (chart_named called (recipes history)) ≡ true =
            ap (λ called. is_some (chart_named called (recipes history))) (same_true called name same)
            ∙ ap is_some known in
            absurd cc
    other (plug at tag description) event_is listed = refl
    other (unplug at tag) event_is listed = refl
    other (report at tag service control) event_is listed = refl
    other (variable at tag called value) event_is listed = refl
    other (start at batch called binds) event_is listed = refl
    other (advance at batch) event_is listed = refl
    other (freeze at batch hold) event_is listed = refl
    other (thaw at batch) event_is listed = refl
    other (stop_batch at batch) event_is listed = refl
    other (abandon at batch) event_is listed = refl
    other (desk at tag service command) event_is listed = refl
    other (exchange_begin at tag) event_is listed = refl
    other (exchange_end at tag ticket description) event_is listed = refl
    other (exchange_cancel at tag ticket) event_is listed = refl

    go : (listed : Bool) → is_accepted_recipe entry ≡ listed →
        chart_named name (cond listed (entry ∷ recipes history) (recipes history)) ≡ Some chart
    go false is = known
    go true is = ap (λ first. option_or first (chart_named name (recipes history))) (other entry.event refl is) ∙ known

-- what is known of a recipe that an entry of the history makes known
pub record IsListed (history : History) (recipe : PlainRecipe) : Type 0 where
  pub named : chart_named recipe.name (recipes history) ≡ Some recipe.chart
  pub formed : is_chart_form recipe.chart ≡ true

-- it is found by its name
made_listed : (history : History) (told : PlainRecipe) (entry : PlainEntry) → IsLegal history → IsOrderly history →
    Contains history entry → made_known entry ≡ Some told → IsListed history told
made_listed [] told entry legal orderly inside made = no_member entry inside
made_listed (newest ∷ history) told entry legal orderly inside made =
    elim (member_cases newest entry history inside) [
      | inl same ↦
          let making = is_making told newest (ap made_known same ∙ made) in
          record {
            named = ap (λ listed. chart_named told.name (cond listed (newest ∷ recipes history) (recipes history)))
                making.listed
                ∙ ap (λ first. option_or first (chart_named told.name (recipes history))) making.charted_is;
            formed = making.formed orderly.0;
          }
      | inr later ↦
          let before = made_listed history told entry legal.2 orderly.1 later made in
          record {
            named = stays_named history newest told.name told.chart legal.0 before.named;
            formed = before.formed;
          }
    ]

-- so is each of the history's recipes
pub is_listed : (history : History) (told : PlainRecipe) → IsLegal history → IsOrderly history →
    Contains (recipes_of history) told → IsListed history told
is_listed history told legal orderly inside =
    let (entry, turned, made) = made_of made_known (reverse history) told inside in
    made_listed history told entry legal orderly (member_reversed history entry turned) made
