-- All tables after an event.
use Rattle.std.proofs.Common.{◌≡◌, ℕ, Bool, true, false, cond, List, [], ◌∷◌, ◌++◌, None, is_some, refl, ap, sym, ◌∙◌, subst}
use Rattle.std.proofs.Common.{length, ◌<◌, ◌≤◌, arith}
use Rattle.std.specs.Prelude.{◌&&◌, filter}
use Rattle.std.proofs.lemmas.Bool.{lt-leb}
use Rattle.std.specs.List.{cons_option}
use Rattle.std.specs.Map.{keys_of, lookup}
use Rattle.std.specs.Prelude.{filter_map, reverse}
use Rattle.std.proofs.lemmas.Map.Entries.{length-keys_of}
use Rattle.std.specs.Str.{bytes_eq}
use Rattle.std.specs.declared.sync.Arc.{Arc}
use Rattle.mtp_codes.specs.declared.limits.TheConstants.{LONGEST_HISTORY}
use Rattle.chart_core.specs.declared.chart.Chart.{Chart}
use Rattle.pol_events.specs.Events.{plain_event, PlainEvent, PlainEntry, plain_history, start}
use Rattle.pol_events.specs.Orderly.{is_orderly}
use Rattle.pol_events.specs.declared.answer.Answer.{Answer}
use Rattle.pol_events.specs.declared.event.Entry.{Entry}
use Rattle.pol_events.specs.declared.event.Event.{Event}
use Rattle.pol_events.proofs.Histories.{history_pushed, length_history}
use Rattle.pol_history.specs.Answers.{is_full, answer_of}
use Rattle.pol_history.specs.Batches.{batches, chart_named, is_start, started_batch, starting}
use Rattle.pol_history.specs.Looking.{History, of_module, of_batch, subject, is_batch, is_recipe, is_accepted}
use Rattle.pol_history.specs.Looking.{past_of_batch, recipes}
use Rattle.pol_history.specs.Runs.{recorded, entry_of}
use Rattle.pol_history.proofs.Accepted.{paired}
use Rattle.pol_history.proofs.Pasts.{module_recipes_same}
use Rattle.pol_history.proofs.Recording.{recorded_with_room}
use Rattle.pol_history.proofs.Refused.{refused_nothing, starts_refused}
use Rattle.pol_slots.specs.declared.slot.Slot.{Slot}
use Rattle.pol_table.specs.Rows.{Rows}
use Rattle.pol_runs.specs.Runs.{PlainRun}
use Rattle.pol_core.specs.Batches.{IsRun, RunsMirror, AnswersBatch}
use Rattle.pol_core.specs.Histories.{IsPlantHistory}
use Rattle.pol_core.specs.Mirrors.{Mirrors, Answers}
use Rattle.pol_core.specs.Recipes.{RecipesMirror, names_in}
use Rattle.pol_core.specs.Seats.{SeatsMirror, IsCounted, AnswersModule}
use Rattle.pol_core.proofs.Counting.{counted_same}
use Rattle.pol_core.proofs.Lasting.{runs_refused}
use Rattle.pol_core.proofs.Seating.{seats_refused}

-- an event of a module changes no run
pub runs_apart : (history : History) (entry : PlainEntry) (tag : List ℕ) (runs : List (List ℕ × PlainRun)) →
    subject entry.event ≡ of_module tag → RunsMirror runs history →
    RunsMirror runs (entry ∷ history)
runs_apart history entry tag runs is mirror batch =
    let past : past_of_batch batch (entry ∷ history) ≡ past_of_batch batch history
    = ap (λ of. cond (is_batch batch of && is_accepted entry.answer) (entry ∷ past_of_batch batch history)
    (past_of_batch batch history)) is in
    let known : recipes (entry ∷ history) ≡ recipes history
    = ap (λ of. cond (is_recipe of && is_accepted entry.answer) (entry ∷ recipes history) (recipes history)) is in
    subst (IsRun batch (lookup (bytes_eq batch) runs) (past_of_batch batch (entry ∷ history))) (sym known)
    (subst (λ past. IsRun batch (lookup (bytes_eq batch) runs) past (recipes history)) (sym past) (mirror batch))

-- the recipes, where none is made known
pub known_same : {Z : Type 0} (history : History) (entry : PlainEntry) (known : List (List ℕ × Arc Chart Z)) →
    recipes (entry ∷ history) ≡ recipes history →
    RecipesMirror known history → RecipesMirror known (entry ∷ history)
known_same history entry known same mirror =
    record {
      named = λ name. mirror.named name ∙ ap (chart_named name) (sym same);
      valid = mirror.valid;
      count = mirror.count ∙ ap length (sym same);
      order = mirror.order ∙ ap names_in (sym same);
    }

-- the count of the starts, where nothing is started
pub starts_same : (history : History) (entry : PlainEntry) → starting entry.event ≡ None →
    length (filter is_start (entry ∷ history)) ≡ length (filter is_start history)
starts_same history entry unstarted =
    ap (λ found. length (cond (is_some found && is_accepted entry.answer) (entry ∷ filter is_start history)
    (filter is_start history))) unstarted

-- the batches that were started, where nothing is started
pub batches_same : (history : History) (entry : PlainEntry) → starting entry.event ≡ None →
    batches (entry ∷ history) ≡ batches history
batches_same history entry unstarted =
    ap (λ found. reverse (cons_option found (filter_map (λ entry. cond (is_accepted entry.answer)
    (started_batch entry.event) None) history)))
    (go (is_accepted entry.answer) (none entry.event unstarted))
  where
    none : (event : PlainEvent) → starting event ≡ None → started_batch event ≡ None
    none (start at batch name binds) is = cc
    none _ is = refl

    go : (accepted : Bool) → started_batch entry.event ≡ None → cond accepted (started_batch entry.event) None ≡ None
    go true is = is
    go false is = refl

-- all tables after an event of a module
pub module_answered : {Z : Type 0} (history : History) (event : PlainEvent) (tag : List ℕ) (answer : Answer)
    (old new : Rows Slot) (runs : List (List ℕ × PlainRun))
    (known : List (List ℕ × Arc Chart Z)) → subject event ≡ of_module tag → starting event ≡ None →
    Mirrors old runs known history →
    AnswersModule history event answer new → Answers history event answer new runs known
module_answered history event tag answer old new runs known is unstarted mirrors answers =
    record {
      answer_is = answers.answer_is;
      mirrors = record {
        seats = answers.seats;
        batches = runs_apart history (entry_of history event) tag runs is mirrors.batches;
        counted = answers.counted;
        recipes = known_same history (entry_of history event) known
            (module_recipes_same history (entry_of history event) tag is) mirrors.recipes;
        starts = mirrors.starts ∙ sym (starts_same history (entry_of history event) unstarted);
        order = mirrors.order ∙ sym (batches_same history (entry_of history event) unstarted);
      };
    }

-- so it is where the event is what was told
pub module_told : {Z : Type 0} {history : History} {told : PlainEvent} {answer : Answer} {old new : Rows Slot}
    {runs : List (List ℕ × PlainRun)} {known : List (List ℕ × Arc Chart Z)} (event : PlainEvent) (tag : List ℕ) →
    event ≡ told → subject event ≡ of_module tag → starting event ≡ None → Mirrors old runs known history →
    AnswersModule history event answer new → Answers history told answer new runs known
module_told {Z} {history} {told} {answer} {old} {new} {runs} {known} event tag same is unstarted mirrors answers =
    subst (λ told. Answers history told answer new runs known) same
    (module_answered history event tag answer old new runs known is unstarted mirrors answers)

-- other modules that keep the same history
pub module_kept : {Z : Type 0} (history : History) (old new : Rows Slot) (runs : List (List ℕ × PlainRun))
    (known : List (List ℕ × Arc Chart Z)) →
    Mirrors old runs known history → SeatsMirror new history → IsCounted new history → Mirrors new runs known history
module_kept history old new runs known mirrors seats counted =
    record {
      seats = seats;
      batches = mirrors.batches;
      counted = counted;
      recipes = mirrors.recipes;
      starts = mirrors.starts;
      order = mirrors.order;
    }

-- all tables after an event of a batch that is no start
pub batch_answered : {Z : Type 0} (history : History) (event : PlainEvent) (batch : List ℕ)
    (answer : Answer) (old new : Rows Slot) (runs after : List (List ℕ × PlainRun))
    (known : List (List ℕ × Arc Chart Z)) → subject event ≡ of_batch batch → starting event ≡ None →
    Mirrors old runs known history → AnswersBatch history event answer new after → keys_of after ≡ keys_of runs →
    Answers history event answer new after known
batch_answered history event batch answer old new runs after known is unstarted mirrors answers names =
    record {
      answer_is = answers.answer_is;
      mirrors = record {
        seats = answers.seats;
        batches = answers.batches;
        counted = answers.counted;
        recipes = known_same history (entry_of history event) known
            (ap (λ of. cond (is_recipe of && is_accepted (answer_of history event))
            (entry_of history event ∷ recipes history) (recipes history)) is) mirrors.recipes;
        starts = sym (length-keys_of after) ∙ ap length names ∙ length-keys_of runs ∙ mirrors.starts
            ∙ sym (starts_same history (entry_of history event) unstarted);
        order = names ∙ mirrors.order ∙ sym (batches_same history (entry_of history event) unstarted);
      };
    }

-- so it is where the event is what was told
pub batch_told : {Z : Type 0} {history : History} {told : PlainEvent} {answer : Answer} {old new : Rows Slot}
    {runs after : List (List ℕ × PlainRun)} {known : List (List ℕ × Arc Chart Z)} (event : PlainEvent) (batch : List ℕ)
    →
    event ≡ told → subject event ≡ of_batch batch → starting event ≡ None → Mirrors old runs known history →
    AnswersBatch history event answer new after → keys_of after ≡ keys_of runs →
    Answers history told answer new after known
batch_told {Z} {history} {told} {answer} {old} {new} {runs} {after} {known} event batch same is unstarted mirrors
    answers names =
    subst (λ told. Answers history told answer new after known) same
    (batch_answered history event batch answer old new runs after known is unstarted mirrors answers names)

-- a refused event
pub refused_all : {Z : Type 0} (history : History) (event : PlainEvent) (answer : Answer) (rows : Rows Slot)
    (runs : List (List ℕ × PlainRun))
    (known : List (List ℕ × Arc Chart Z)) → answer ≡ answer_of history event → is_accepted answer ≡ false →
    Mirrors rows runs known history →
    Answers history event answer rows runs known
refused_all history event answer rows runs known is refused mirrors =
    let entry : PlainEntry = entry_of history event in
    let turned = ap is_accepted (sym is) ∙ refused in
    let nothing = refused_nothing entry history turned in
    record {
      answer_is = is;
      mirrors = record {
        seats = seats_refused history entry rows nothing mirrors.seats;
        batches = runs_refused history entry runs nothing mirrors.batches;
        counted = counted_same history entry rows nothing.present mirrors.counted;
        recipes = known_same history entry known nothing.recipes mirrors.recipes;
        starts = mirrors.starts ∙ ap length (sym (starts_refused entry history turned));
        order = mirrors.order ∙ sym nothing.batches;
      };
    }

-- a history with fewer entries than it may have has room
pub short_has_room : (entries : List Entry) → length entries < LONGEST_HISTORY → is_full (plain_history entries) ≡ false
short_has_room entries short =
    let same : length (plain_history entries) ≡ length entries = length_history entries in
    let below : length (plain_history entries) < LONGEST_HISTORY = omega arith in
    lt-leb LONGEST_HISTORY (length (plain_history entries)) below

-- the history with the answered event at its end
pub appended : (old new : List Entry) (event : Event) (answer : Answer) →
    new ≡ old ++ record { event = event; answer = answer } ∷ [] →
    answer ≡ answer_of (plain_history old) (plain_event event) →
    plain_history new ≡ entry_of (plain_history old) (plain_event event) ∷ plain_history old
appended old new event answer is same =
    ap plain_history is ∙ history_pushed old (record { event = event; answer = answer })
    ∙ ap (λ answer. paired (plain_event event) answer ∷ plain_history old) same

-- what the plant keeps, it keeps with the answered event
pub grown : {Z : Type 0} (old new : List Entry) (event : Event) (answer : Answer) (rows : Rows Slot)
    (runs : List (List ℕ × PlainRun)) (known : List (List ℕ × Arc Chart Z)) →
    new ≡ old ++ record { event = event; answer = answer } ∷ [] → length old < LONGEST_HISTORY →
    is_orderly (plain_event event) ≡ true →
    IsPlantHistory (plain_history old) → Answers (plain_history old) (plain_event event) answer rows runs known →
    IsPlantHistory (plain_history new) × Mirrors rows runs known (plain_history new)
grown old new event answer rows runs known is short orderly kept takes =
    let room = short_has_room old short in
    let same = appended old new event answer is takes.answer_is in
    let length_is : length (plain_history old) ≡ length old = length_history old in
    let few : length (entry_of (plain_history old) (plain_event event) ∷ plain_history old) ≤
    LONGEST_HISTORY = omega arith in
    subst (λ history. IsPlantHistory history × Mirrors rows runs known history) (sym same) (
      record {
        legal = (refl, recorded_with_room (plain_history old) (plain_event event) room, kept.legal);
        orderly = (orderly, kept.orderly);
        few = few;
      },
      takes.mirrors,
    )

-- and this is the recorded history
pub recorded_is : (old new : List Entry) (event : Event) (answer : Answer) →
    new ≡ old ++ record { event = event; answer = answer } ∷ [] → length old < LONGEST_HISTORY →
    answer ≡ answer_of (plain_history old) (plain_event event) →
    plain_history new ≡ recorded (entry_of (plain_history old) (plain_event event)) (plain_history old)
recorded_is old new event answer is short same =
    appended old new event answer is same
    ∙ ap (λ kept. cond kept (entry_of (plain_history old) (plain_event event) ∷ plain_history old) (plain_history old))
    (sym (recorded_with_room (plain_history old) (plain_event event) (short_has_room old short)))
