-- A recipe that is made known.
use Rattle.std.proofs.Common.{◌≡◌, ℕ, ◌+◌, suc, Bool, true, false, cond, List, [], ◌∷◌, ◌++◌, length, Option, Some, None}
use Rattle.std.proofs.Common.{is_some, refl, ap, sym, ◌∙◌, subst, arith}
use Rattle.std.specs.Prelude.{nat_le, is_none, filter_map}
use Rattle.std.proofs.lemmas.List.{reverse-append}
use Rattle.std.specs.Map.{keys_of, lookup}
use Rattle.std.specs.Option.{option_map, option_or}
use Rattle.std.specs.Str.{bytes_eq}
use Rattle.std.specs.declared.sync.Arc.{Arc}
use Rattle.mtp_codes.specs.Faults.{when}
use Rattle.mtp_codes.specs.declared.limits.TheConstants.{MOST_RECIPES}
use Rattle.mtp_codes.proofs.Names.{same_true}
use Rattle.chart_core.specs.Charts.{plain_chart}
use Rattle.chart_core.specs.Roles.{PlainChart}
use Rattle.chart_core.specs.Valid.{IsValid, chart_fault}
use Rattle.chart_core.specs.declared.chart.Chart.{Chart}
use Rattle.pol_events.specs.Events.{PlainEntry, recipe}
use Rattle.pol_events.specs.Orderly.{is_valid}
use Rattle.pol_events.specs.declared.answer.Answer.{Answer}
use Rattle.pol_events.specs.declared.answer.Answer.TheVariants.{Done, Refused}
use Rattle.pol_events.specs.declared.answer.Rule.TheVariants.{RecipeKnown, RecipesFull}
use Rattle.pol_history.specs.Answers.{first_rule, answer_of, is_full}
use Rattle.pol_history.specs.Batches.{chart_named}
use Rattle.pol_history.specs.Looking.{History, is_accepted, past, past_of_batch, recipes}
use Rattle.pol_history.specs.Rules.{recipes_full}
use Rattle.pol_history.specs.Runs.{entry_of}
use Rattle.pol_history.proofs.Accepted.{paired, with_room}
use Rattle.pol_history.proofs.Refused.{refused_nothing}
use Rattle.pol_slots.specs.declared.slot.Slot.{Slot}
use Rattle.pol_table.specs.Rows.{Rows, look}
use Rattle.pol_runs.specs.Runs.{PlainRun}
use Rattle.pol_core.specs.Batches.{IsRun}
use Rattle.pol_core.specs.Mirrors.{Mirrors, Answers}
use Rattle.pol_core.specs.Recipes.{AreValid, RecipesMirror, AnswersRecipe, recipe_brought}
use Rattle.pol_core.specs.Seats.{IsSeated}
use Rattle.pol_core.proofs.Counting.{counted_same}
use Rattle.pol_core.proofs.Used.{recipe_users_same}
use Rattle.pol_core.proofs.Together.{batches_same, known_same}

-- a chart without a fault is valid
valid_is : (chart : PlainChart) → is_valid chart ≡ true → IsValid chart
valid_is chart is = none (chart_fault chart) is
  where
    none : {F : Type 0} (fault : Option F) → is_none fault ≡ true → fault ≡ None
    none None is = refl
    none (Some fault) is = cc

module _ {Z : Type 0} where
  -- a chart that is seen plainly is there where it was
  mapped_is : (found : Option (Arc Chart Z)) →
      is_some (option_map (λ (chart : Arc Chart Z). plain_chart chart.value) found) ≡ is_some found
  mapped_is None = refl
  mapped_is (Some chart) = refl

  -- a recipe is known to the history where it is to the table
  named_is : (history : History) (known : List (List ℕ × Arc Chart Z)) (name : List ℕ) → RecipesMirror known history →
      is_some (chart_named name (recipes history)) ≡ is_some (lookup (bytes_eq name) known)
  named_is history known name mirror = ap is_some (sym (mirror.named name)) ∙ mapped_is (lookup (bytes_eq name) known)

  -- so a recipe is answered by what the table knows
  recipe_answer : (history : History) (at : ℕ) (name : List ℕ) (chart : PlainChart)
      (known : List (List ℕ × Arc Chart Z)) → RecipesMirror known history →
      is_full history ≡ false → answer_of history (recipe at name chart)
      ≡ first_rule (when (is_some (lookup (bytes_eq name) known)) RecipeKnown ∷ when
      (nat_le MOST_RECIPES (length known)) RecipesFull ∷ []) Done
  recipe_answer history at name chart known mirror room =
      with_room history (recipe at name chart) room
      ∙ ap (λ there. first_rule (when there RecipeKnown ∷ recipes_full (recipes history) ∷ []) Done)
      (named_is history known name mirror)
      ∙ ap (λ n. first_rule (when (is_some (lookup (bytes_eq name) known)) RecipeKnown ∷ when
      (nat_le MOST_RECIPES n) RecipesFull ∷ []) Done) (sym mirror.count)

  -- a refused recipe
  refused_recipe : (history : History) (at : ℕ) (name : List ℕ) (chart : PlainChart)
      (known : List (List ℕ × Arc Chart Z)) (answer : Answer) →
      answer ≡ answer_of history (recipe at name chart) → is_accepted answer ≡ false → RecipesMirror known history →
      AnswersRecipe history (recipe at name chart) answer known
  refused_recipe history at name chart known answer is refused mirror =
      let nothing = refused_nothing (entry_of history (recipe at name chart)) history (ap is_accepted (sym is)
      ∙ refused) in
      record {
        answer_is = is;
        known_is = known_same history (entry_of history (recipe at name chart)) known nothing.recipes mirror;
        names = λ other chart is. ap (chart_named other) nothing.recipes ∙ is;
      }

  -- one that is known is refused
  pub known_recipe : (history : History) (at : ℕ) (name : List ℕ) (chart : PlainChart)
      (known : List (List ℕ × Arc Chart Z)) → RecipesMirror known history →
      is_full history ≡ false → is_some (lookup (bytes_eq name) known) ≡ true →
      AnswersRecipe history (recipe at name chart) (Refused RecipeKnown) known
  known_recipe history at name chart known mirror room there =
      refused_recipe history at name chart known (Refused RecipeKnown)
      (sym (recipe_answer history at name chart known mirror room
      ∙ ap (λ there. first_rule (when there RecipeKnown ∷ when
      (nat_le MOST_RECIPES (length known)) RecipesFull ∷ []) Done)
      there)) refl mirror

  -- one that isn't is answered by the table's room
  full_recipe : (history : History) (at : ℕ) (name : List ℕ) (chart : PlainChart)
      (known : List (List ℕ × Arc Chart Z)) → RecipesMirror known history →
      is_full history ≡ false → is_some (lookup (bytes_eq name) known) ≡ false → (full : Bool) →
      nat_le MOST_RECIPES (length known) ≡ full →
      answer_of history (recipe at name chart) ≡ first_rule (when full RecipesFull ∷ []) Done
  full_recipe history at name chart known mirror room new full is =
      recipe_answer history at name chart known mirror room
      ∙ ap (λ there. first_rule (when there RecipeKnown ∷ when
      (nat_le MOST_RECIPES (length known)) RecipesFull ∷ []) Done) new
      ∙ ap (λ full. first_rule (when full RecipesFull ∷ []) Done) is

  -- where that has none it is refused
  pub no_room_recipe : (history : History) (at : ℕ) (name : List ℕ) (chart : PlainChart)
      (known : List (List ℕ × Arc Chart Z)) → RecipesMirror known history →
      is_full history ≡ false → is_some (lookup (bytes_eq name) known) ≡ false
      → nat_le MOST_RECIPES (length known) ≡ true →
      AnswersRecipe history (recipe at name chart) (Refused RecipesFull) known
  no_room_recipe history at name chart known mirror room new full =
      refused_recipe history at name chart known (Refused RecipesFull)
      (sym (full_recipe history at name chart known mirror room new true full)) refl mirror

  -- and else it is made known
  pub new_recipe : (history : History) (at : ℕ) (name : List ℕ) (kept : Arc Chart Z)
      (old new : List (List ℕ × Arc Chart Z)) → RecipesMirror old history →
      is_full history ≡ false → is_some (lookup (bytes_eq name) old) ≡ false
      → nat_le MOST_RECIPES (length old) ≡ false →
      is_valid (plain_chart kept.value) ≡ true →
      ((other : List ℕ) → lookup (bytes_eq other) new ≡ cond (bytes_eq name other) (Some kept)
      (lookup (bytes_eq other) old)) → length new ≡ length old + 1 → keys_of new ≡ keys_of old ++ name ∷ [] →
      AnswersRecipe history (recipe at name (plain_chart kept.value)) Done new
  new_recipe history at name kept old new mirror room fresh few valid looks count order =
      record {
        answer_is = sym answer;
        known_is = subst (λ answer. RecipesMirror new
            (paired (recipe at name (plain_chart kept.value)) answer ∷ history))
            (sym answer)
            (record {
              named = named;
              valid = all_valid;
              count = count
                  ∙ more (length old) (length (recipes history)) mirror.count;
              order = order ∙ ap (λ names. names ++ name ∷ []) mirror.order
                  ∙ sym (reverse-append (name ∷ []) (filter_map (λ entry. recipe_brought entry.event)
                  (recipes history)));
            });
        names = λ other chart is. subst (λ answer. chart_named other
            (recipes (paired (recipe at name (plain_chart kept.value)) answer ∷ history)) ≡ Some chart)
            (sym answer) (keeps other chart is);
      }
    where
      answer : answer_of history (recipe at name (plain_chart kept.value)) ≡ Done
      answer = full_recipe history at name (plain_chart kept.value) old mirror room fresh false few

      more : (m n : ℕ) → m ≡ n → m + 1 ≡ suc n
      more m n is = omega (arith, is)

      named : (other : List ℕ)
          → option_map (λ (chart : Arc Chart Z). plain_chart chart.value) (lookup (bytes_eq other) new)
          ≡ option_or (cond (bytes_eq name other) (Some (plain_chart kept.value)) None)
          (chart_named other (recipes history))
      named other = ap (option_map (λ (chart : Arc Chart Z). plain_chart chart.value)) (looks other)
          ∙ go (bytes_eq name other)
        where
          go : (same : Bool) → option_map (λ (chart : Arc Chart Z). plain_chart chart.value)
              (cond same (Some kept) (lookup (bytes_eq other) old))
              ≡ option_or (cond same (Some (plain_chart kept.value)) None) (chart_named other (recipes history))
          go true = refl
          go false = mirror.named other

      all_valid : AreValid new
      all_valid other chart is = go (bytes_eq name other) (sym (looks other) ∙ is)
        where
          go : (same : Bool) → cond same (Some kept) (lookup (bytes_eq other) old) ≡ Some chart →
              IsValid (plain_chart chart.value)
          go true is = let one : kept ≡ chart = cc in
              subst (λ (chart : Arc Chart Z). IsValid (plain_chart chart.value)) one
              (valid_is (plain_chart kept.value) valid)
          go false is = mirror.valid other chart is

      keeps : (other : List ℕ) (chart : PlainChart) → chart_named other (recipes history) ≡ Some chart →
          option_or (cond (bytes_eq name other) (Some (plain_chart kept.value)) None)
          (chart_named other (recipes history))
          ≡ Some chart
      keeps other chart is = go (bytes_eq name other) refl
        where
          go : (same : Bool) → bytes_eq name other ≡ same → option_or (cond same (Some (plain_chart kept.value)) None)
              (chart_named other (recipes history)) ≡ Some chart
          go false same = is
          go true same =
              let clash : true ≡ false = sym (ap is_some is)
              ∙ ap (λ name. is_some (chart_named name (recipes history))) (sym (same_true name other same))
              ∙ named_is history old name mirror ∙ fresh in cc

  -- all tables after a recipe
  pub recipe_answered : (history : History) (at : ℕ) (name : List ℕ) (chart : PlainChart) (answer : Answer)
      (rows : Rows Slot) (runs : List (List ℕ × PlainRun))
      (old new : List (List ℕ × Arc Chart Z)) → Mirrors rows runs old history →
      AnswersRecipe history (recipe at name chart) answer new →
      Answers history (recipe at name chart) answer rows runs new
  recipe_answered history at name chart answer rows runs old new mirrors takes' =
      record {
        answer_is = takes'.answer_is;
        mirrors = record {
          seats = λ tag. subst (IsSeated tag (look tag rows) (past tag history))
              (sym (recipe_users_same history entry name refl tag)) (mirrors.seats tag);
          batches = λ batch. run batch (lookup (bytes_eq batch) runs) (mirrors.batches batch);
          counted = counted_same history entry rows refl mirrors.counted;
          recipes = takes'.known_is;
          starts = mirrors.starts;
          order = mirrors.order ∙ sym (batches_same history entry refl);
        };
      }
    where
      entry : PlainEntry
      entry = entry_of history (recipe at name chart)

      run : (batch : List ℕ) (found : Option PlainRun) → IsRun batch found (past_of_batch batch history)
          (recipes history) →
          IsRun batch found (past_of_batch batch history) (recipes (entry ∷ history))
      run batch None is = is
      run batch (Some kept) keeps =
          record {
            batch_is = keeps.batch_is;
            recipe = keeps.recipe;
            binds = keeps.binds;
            recipe_is = keeps.recipe_is;
            binds_are = keeps.binds_are;
            held_are = keeps.held_are;
            started = keeps.started;
            charted = takes'.names keeps.recipe (plain_chart kept.chart) keeps.charted;
            follows = keeps.follows;
            asks = keeps.asks;
            frozen_is = keeps.frozen_is;
            holding_is = keeps.holding_is;
            outcome_is = keeps.outcome_is;
          }
