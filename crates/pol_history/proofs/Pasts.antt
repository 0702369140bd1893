-- What one more entry does to the past of each module and of each batch, and to a batch's log.
use Rattle.std.proofs.Common.{◌≡◌, ℕ, true, false, cond, List, [], ◌∷◌, ◌++◌, ap, ◌∙◌}
use Rattle.std.specs.Prelude.{◌&&◌, filter_map}
use Rattle.std.specs.Str.{bytes_eq}
use Rattle.std.proofs.lemmas.List.{reverse-append}
use Rattle.mtp_codes.proofs.Names.{same_refl}
use Rattle.chart_core.specs.declared.entry.LogEntry.{LogEntry}
use Rattle.pol_events.specs.Events.{PlainEvent, PlainEntry}
use Rattle.pol_events.specs.declared.answer.Answer.TheVariants.{Did}
use Rattle.pol_history.specs.Looking.{History, of_module, of_batch, of_recipe, subject, is_module, is_batch, is_recipe}
use Rattle.pol_history.specs.Looking.{is_accepted, past, past_of_batch, recipes}
use Rattle.pol_history.specs.Batches.{taken, log_by}
use Rattle.pol_history.proofs.Accepted.{paired}

-- ---- an event of a module

-- an accepted event is in the past of its module
pub past_own : (history : History) (entry : PlainEntry) (tag : List ℕ) → subject entry.event ≡ of_module tag →
    is_accepted entry.answer ≡ true → past tag (entry ∷ history) ≡ entry ∷ past tag history
past_own history entry tag is accepted =
    ap (λ of. cond (is_module tag of && is_accepted entry.answer) (entry ∷ past tag history) (past tag history)) is
    ∙ ap (λ same. cond (same && is_accepted entry.answer) (entry ∷ past tag history) (past tag history)) (same_refl tag)
    ∙ ap (λ kept. cond kept (entry ∷ past tag history) (past tag history)) accepted

-- and in that of no other
pub past_apart : (history : History) (entry : PlainEntry) (tag other : List ℕ) → subject entry.event ≡ of_module tag →
    bytes_eq tag other ≡ false → past other (entry ∷ history) ≡ past other history
past_apart history entry tag other is apart =
    ap (λ of. cond (is_module other of && is_accepted entry.answer) (entry ∷ past other history)
    (past other history)) is
    ∙ ap (λ same. cond (same && is_accepted entry.answer) (entry ∷ past other history) (past other history)) apart

-- it changes the past of no batch
pub batch_past_same : (history : History) (entry : PlainEntry) (tag batch : List ℕ) →
    subject entry.event ≡ of_module tag →
    past_of_batch batch (entry ∷ history) ≡ past_of_batch batch history
batch_past_same history entry tag batch is =
    ap (λ of. cond (is_batch batch of && is_accepted entry.answer)
    (entry ∷ past_of_batch batch history) (past_of_batch batch history)) is

-- nor the recipes
pub module_recipes_same : (history : History) (entry : PlainEntry) (tag : List ℕ)
    → subject entry.event ≡ of_module tag →
    recipes (entry ∷ history) ≡ recipes history
module_recipes_same history entry tag is =
    ap (λ of. cond (is_recipe of && is_accepted entry.answer) (entry ∷ recipes history) (recipes history)) is

-- ---- an event of a batch

-- an accepted event is in the past of its batch
pub batch_past_own : (history : History) (entry : PlainEntry) (batch : List ℕ) → subject entry.event ≡ of_batch batch →
    is_accepted entry.answer ≡ true → past_of_batch batch (entry ∷ history) ≡ entry ∷ past_of_batch batch history
batch_past_own history entry batch is accepted =
    ap (λ of. cond (is_batch batch of && is_accepted entry.answer)
    (entry ∷ past_of_batch batch history) (past_of_batch batch history)) is
    ∙ ap (λ same. cond (same && is_accepted entry.answer)
    (entry ∷ past_of_batch batch history) (past_of_batch batch history)) (same_refl batch)
    ∙ ap (λ kept. cond kept (entry ∷ past_of_batch batch history) (past_of_batch batch history)) accepted

-- and in that of no other
pub batch_past_apart : (history : History) (entry : PlainEntry) (batch other : List ℕ) →
    subject entry.event ≡ of_batch batch →
    bytes_eq batch other ≡ false → past_of_batch other (entry ∷ history) ≡ past_of_batch other history
batch_past_apart history entry batch other is apart =
    ap (λ of. cond (is_batch other of && is_accepted entry.answer)
    (entry ∷ past_of_batch other history) (past_of_batch other history)) is
    ∙ ap (λ same. cond (same && is_accepted entry.answer)
    (entry ∷ past_of_batch other history) (past_of_batch other history)) apart

-- it changes the past of no module
pub module_past_same : (history : History) (entry : PlainEntry) (batch tag : List ℕ) →
    subject entry.event ≡ of_batch batch →
    past tag (entry ∷ history) ≡ past tag history
module_past_same history entry batch tag is =
    ap (λ of. cond (is_module tag of && is_accepted entry.answer) (entry ∷ past tag history) (past tag history)) is

-- nor the recipes
pub batch_recipes_same : (history : History) (entry : PlainEntry) (batch : List ℕ) →
    subject entry.event ≡ of_batch batch →
    recipes (entry ∷ history) ≡ recipes history
batch_recipes_same history entry batch is =
    ap (λ of. cond (is_recipe of && is_accepted entry.answer) (entry ∷ recipes history) (recipes history)) is

-- ---- a recipe

-- nor that of a batch
pub recipe_batch_past_same : (history : History) (entry : PlainEntry) (name batch : List ℕ) →
    subject entry.event ≡ of_recipe name →
    past_of_batch batch (entry ∷ history) ≡ past_of_batch batch history
recipe_batch_past_same history entry name batch is =
    ap (λ of. cond (is_batch batch of && is_accepted entry.answer)
    (entry ∷ past_of_batch batch history) (past_of_batch batch history)) is

-- ---- a log

-- an entry that was done is at the log's end
pub log_grows : (past : History) (event : PlainEvent) (entry : LogEntry) →
    log_by (paired event (Did entry) ∷ past) ≡ log_by past ++ entry ∷ []
log_grows past event entry = reverse-append (entry ∷ []) (filter_map (λ entry. taken entry.answer) past)
