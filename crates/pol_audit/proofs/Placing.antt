-- The index of a history, with one entry more.
use Rattle.std.proofs.Common.{◌≡◌, ℕ, Bool, true, false, cond, List, [], ◌∷◌, ◌++◌, append-nil, map, reverse, Option}
use Rattle.std.proofs.Common.{Some, None, refl, ap, sym, subst, ◌∙◌, if◌then◌else◌}
use Rattle.std.specs.Prelude.{◌&&◌, filter, is_some}
use Rattle.std.proofs.lemmas.List.Elements.{filter-append}
use Rattle.mtp_codes.specs.Names.{is_among}
use Rattle.chart_core.specs.Entries.{chart_entry}
use Rattle.chart_cursor.specs.Logs.{chart_entries}
use Rattle.pol_audit.specs.Halts.{is_halt}
use Rattle.std.specs.Borrow.{Bor}
use Rattle.std.specs.List.{cons_option}
use Rattle.std.specs.Map.{lookup}
use Rattle.std.specs.Str.{bytes_eq}
use Rattle.std.specs.declared.vec.Vec.{Vec}
use Rattle.std.proofs.lemmas.List.{map-append, reverse-append}
use Rattle.chart_core.specs.declared.entry.LogEntry.{LogEntry}
use Rattle.pol_events.specs.Events.{PlainEntry, plain_entry, plain_event, plain_history}
use Rattle.pol_events.specs.Subjects.{accepted_batch, accepted_tag}
use Rattle.pol_events.specs.declared.event.Entry.{Entry}
use Rattle.pol_history.specs.Looking.{History, is_accepted, is_accepted_of, is_accepted_of_batch, is_accepted_recipe}
use Rattle.pol_history.specs.Looking.{past, past_of_batch, recipes}
use Rattle.pol_history.specs.Batches.{is_start, log_by, taken}
use Rattle.pol_history.specs.Modules.{present_after}
use Rattle.pol_events.specs.Orderly.{is_orderly}
use Rattle.pol_audit.specs.Followed.{AreFollowed}
use Rattle.pol_audit.specs.Listed.{Grows, all_orderly, is_this, items_under, listed}
use Rattle.pol_audit.specs.Standing.{after_entry, held_more, running_more}
use Rattle.pol_audit.specs.Placed.{IsPlaced, asks, closes, freezes, moves, starts}
use Rattle.pol_audit.specs.Told.{Tells, told_control, told_under, told_value}
use Rattle.pol_audit.specs.declared.cursors.Followed.{Followed}
use Rattle.pol_audit.specs.declared.places.Places.{Places}
use Rattle.pol_audit.proofs.Followed.{none_followed, same_runs}
use Rattle.pol_audit.proofs.Listing.{its_batch, its_tag}
use Rattle.pol_audit.proofs.Standing.{held_follows, running_follows}
use Rattle.pol_audit.proofs.Logged.{log_grows, log_stays}
use Rattle.pol_audit.proofs.Telling.{controls_more, values_more}

-- lists without items are those of an empty history
pub nothing_placed : (places : Places) →
    ((tag : List ℕ) → items_under places.modules.moves.named.entries tag ≡ []) →
    ((tag service : List ℕ) → told_under places.modules.controls.tagged.entries tag service ≡ None) →
    ((tag name : List ℕ) → told_under places.modules.values.tagged.entries tag name ≡ None) →
    ((batch : List ℕ) → items_under places.batches.starts.named.entries batch ≡ []) →
    ((batch : List ℕ) → items_under places.batches.closings.named.entries batch ≡ []) →
    ((batch : List ℕ) → items_under places.batches.freezings.named.entries batch ≡ []) →
    ((batch : List ℕ) → items_under places.batches.askings.named.entries batch ≡ []) →
    ((batch : List ℕ) → items_under places.logs.logs.named.entries batch ≡ []) →
    ((batch : List ℕ) → items_under places.logs.runs.named.entries batch ≡ []) →
    ((batch : List ℕ) → items_under places.logs.halts.named.entries batch ≡ []) →
    ((batch : List ℕ) → items_under places.standings.running.named.entries batch ≡ []) →
    ((batch : List ℕ) → items_under places.standings.held.named.entries batch ≡ []) →
    ((batch : List ℕ) → lookup (bytes_eq batch) places.cursors.followed.entries ≡ None) →
    places.known.recipes.entries.items ≡ [] → places.known.starts.items ≡ [] → places.known.present.items ≡ [] →
    IsPlaced places []
nothing_placed places moving controls values starting closing freezing asking logs runs halts running held followed
    recipes started present = record {
      moves = λ tag. ap listed (moving tag);
      controls = controls;
      values = values;
      starts = λ batch. ap listed (starting batch);
      closings = λ batch. ap listed (closing batch);
      freezings = λ batch. ap listed (freezing batch);
      askings = λ batch. ap listed (asking batch);
      logs = logs;
      runs = runs;
      halts = halts;
      running = λ batch name. ap (λ names. is_among names name) (running batch);
      held = λ batch name. ap (λ names. is_among names name) (held batch);
      cursors = none_followed places.cursors.followed.entries [] (λ batch. []) followed;
      recipes = ap listed recipes;
      started = ap listed started;
      present = present;
    }

-- one more listed entry is the newest
listed_more : (old : List (Bor Entry)) (item : Bor Entry)
    → listed (old ++ item ∷ []) ≡ plain_entry item.now ∷ listed old
listed_more old item =
    ap reverse (map-append (λ entry. plain_entry entry.now) old (item ∷ []))
    ∙ reverse-append (map (λ entry. plain_entry entry.now) old) (plain_entry item.now ∷ [])

-- entries whose events are as a line says them, and maybe one more
pub orderly_added : (old new : List (Bor Entry)) (item : Bor Entry) (taken : Bool) →
    new ≡ (if taken then old ++ item ∷ [] else old) → is_orderly (plain_event item.now.event) ≡ true →
    all_orderly (listed old) ≡ true → all_orderly (listed new) ≡ true
orderly_added old new item true is one all = rw (is, listed_more old item, one) all
orderly_added old new item false is one all = rw is all

-- a list of those that are of one name and of one kind
grown : (its kind : PlainEntry → Bool) (history : History) (item : Bor Entry) (old new : List (Bor Entry)) →
    new ≡ old ++ cond (its (plain_entry item.now) && kind (plain_entry item.now)) (item ∷ []) [] →
    listed old ≡ filter kind (filter its history) →
    listed new ≡ filter kind (filter its (plain_entry item.now ∷ history))
grown its kind history item old new is before =
    ap listed is ∙ go (its (plain_entry item.now)) (kind (plain_entry item.now)) refl
  where
    go : (own kept : Bool) → kind (plain_entry item.now) ≡ kept →
        listed (old ++ cond (own && kept) (item ∷ []) [])
        ≡ filter kind (cond own (plain_entry item.now ∷ filter its history) (filter its history))
    go true true same =
        rw same (listed_more old item ∙ ap (λ found. plain_entry item.now ∷ found) before)
    go true false same = rw same (ap listed (append-nil old) ∙ before)
    go false kept same = ap listed (append-nil old) ∙ before

-- a list of those of one kind
all_grown : (kind : PlainEntry → Bool) (history : History) (item : Bor Entry) (old new : List (Bor Entry)) →
    new ≡ old ++ cond (kind (plain_entry item.now)) (item ∷ []) [] →
    listed old ≡ filter kind history → listed new ≡ filter kind (plain_entry item.now ∷ history)
all_grown kind history item old new is before = ap listed is ∙ go (kind (plain_entry item.now))
  where
    go : (kept : Bool) → listed (old ++ cond kept (item ∷ []) [])
        ≡ cond kept (plain_entry item.now ∷ filter kind history) (filter kind history)
    go true = listed_more old item ∙ ap (λ found. plain_entry item.now ∷ found) before
    go false = ap listed (append-nil old) ∙ before

-- of each module
tag_grown : {Z : Type 0} (kind : PlainEntry → Bool) (history : History) (item : Bor Entry)
    (old new : List (List ℕ × Vec (Bor Entry) Z)) →
    Grows old new (accepted_tag (plain_entry item.now)) (kind (plain_entry item.now)) item →
    ((tag : List ℕ) → listed (items_under old tag) ≡ filter kind (past tag history)) →
    (tag : List ℕ) → listed (items_under new tag) ≡ filter kind (past tag (plain_entry item.now ∷ history))
tag_grown kind history item old new grows before tag =
    grown (is_accepted_of tag) kind history item (items_under old tag) (items_under new tag)
    (grows tag ∙ ap (λ its. items_under old tag ++ cond (its && kind (plain_entry item.now)) (item ∷ []) [])
    (its_tag tag (plain_entry item.now)))
    (before tag)

-- of each batch
batch_grown : {Z : Type 0} (kind : PlainEntry → Bool) (history : History) (item : Bor Entry)
    (old new : List (List ℕ × Vec (Bor Entry) Z)) →
    Grows old new (accepted_batch (plain_entry item.now)) (kind (plain_entry item.now)) item →
    ((batch : List ℕ) → listed (items_under old batch) ≡ filter kind (past_of_batch batch history)) →
    (batch : List ℕ) → listed (items_under new batch)
    ≡ filter kind (past_of_batch batch (plain_entry item.now ∷ history))
batch_grown kind history item old new grows before batch =
    grown (is_accepted_of_batch batch) kind history item (items_under old batch) (items_under new batch)
    (grows batch ∙ ap (λ its. items_under old batch ++ cond (its && kind (plain_entry item.now)) (item ∷ []) [])
    (its_batch batch (plain_entry item.now)))
    (before batch)

-- those entries of the log of a batch that pass a test
kind_logged : (kind : LogEntry → Bool) (batch : List ℕ) (history : History) (entry : PlainEntry)
    (old new : List LogEntry) →
    new ≡ old ++ cond (is_this batch (accepted_batch entry)) (filter kind (cons_option (taken entry.answer) [])) [] →
    old ≡ filter kind (log_by (past_of_batch batch history)) →
    new ≡ filter kind (log_by (past_of_batch batch (entry ∷ history)))
kind_logged kind batch history entry old new is before =
    is ∙ ap (λ its. old ++ cond its (filter kind (cons_option (taken entry.answer) [])) []) (its_batch batch entry)
    ∙ go (is_accepted_of_batch batch entry) (taken entry.answer) refl
  where
    go : (its : Bool) (took : Option LogEntry) → taken entry.answer ≡ took →
        old ++ cond its (filter kind (cons_option took [])) []
        ≡ filter kind (log_by (cond its (entry ∷ past_of_batch batch history) (past_of_batch batch history)))
    go true (Some did) same =
        ap (λ log. log ++ filter kind (did ∷ [])) before
        ∙ sym (filter-append kind (log_by (past_of_batch batch history)) (did ∷ []))
        ∙ ap (filter kind) (sym (log_grows entry (past_of_batch batch history) did same))
    go true None same =
        append-nil old ∙ before ∙ ap (filter kind) (sym (log_stays entry (past_of_batch batch history) same))
    go false took same = append-nil old ∙ before

-- all of it
logged : (batch : List ℕ) (history : History) (entry : PlainEntry) (old new : List LogEntry) →
    new ≡ old ++ cond (is_this batch (accepted_batch entry)) (cons_option (taken entry.answer) []) [] →
    old ≡ log_by (past_of_batch batch history) → new ≡ log_by (past_of_batch batch (entry ∷ history))
logged batch history entry old new is before =
    is ∙ ap (λ its. old ++ cond its (cons_option (taken entry.answer) []) []) (its_batch batch entry)
    ∙ go (is_accepted_of_batch batch entry) (taken entry.answer) refl
  where
    go : (its : Bool) (took : Option LogEntry) → taken entry.answer ≡ took →
        old ++ cond its (cons_option took []) []
        ≡ log_by (cond its (entry ∷ past_of_batch batch history) (past_of_batch batch history))
    go true (Some did) same =
        ap (λ log. log ++ did ∷ []) before ∙ sym (log_grows entry (past_of_batch batch history) did same)
    go true None same = append-nil old ∙ before ∙ sym (log_stays entry (past_of_batch batch history) same)
    go false took same = append-nil old ∙ before

-- the batches that are followed, as the entry comes: it may be a recipe, go on the run of its batch, close a batch and
-- start one
pub followed_more : (history : History) (item : Bor Entry) (old : Places)
    (learned gone ended begun : List (List ℕ × Followed)) (kept : List (Bor Entry)) (after : List ℕ → List LogEntry) →
    ((runs : List ℕ → List LogEntry) →
    AreFollowed old.cursors.followed.entries (listed old.known.recipes.entries.items) runs →
    AreFollowed learned
    (cond (is_accepted_recipe (plain_entry item.now))
    (plain_entry item.now ∷ listed old.known.recipes.entries.items) (listed old.known.recipes.entries.items)) runs) →
    ((recipes : History) (before after : List ℕ → List LogEntry) → AreFollowed learned recipes before →
    ((batch : List ℕ) → after batch ≡ before batch
    ++ cond (is_this batch (accepted_batch (plain_entry item.now)))
    (chart_entries (cons_option (taken item.now.answer) [])) []) →
    AreFollowed gone recipes after) →
    ((recipes : History) (runs : List ℕ → List LogEntry) → AreFollowed gone recipes runs →
    AreFollowed ended recipes runs) →
    (AreFollowed ended (listed kept) after → AreFollowed begun (listed kept) after) →
    ((batch : List ℕ) → after batch ≡ items_under old.logs.runs.named.entries batch
    ++ cond (is_this batch (accepted_batch (plain_entry item.now)))
    (chart_entries (cons_option (taken item.now.answer) [])) []) →
    kept ≡ old.known.recipes.entries.items ++ cond (is_accepted_recipe (plain_entry item.now)) (item ∷ []) [] →
    IsPlaced old history → AreFollowed begun (recipes (plain_entry item.now ∷ history)) after
followed_more history item old learned gone ended begun kept after learns goes ends begins runs recipe placed =
    subst (λ recipes. AreFollowed begun recipes after) known
    (begins (subst (λ recipes. AreFollowed ended recipes after) (sym known)
    (ends (recipes (entry ∷ history)) after (goes (recipes (entry ∷ history)) before after first grows))))
  where
    entry : PlainEntry
    entry = plain_entry item.now

    before : List ℕ → List LogEntry
    before batch = chart_entries (log_by (past_of_batch batch history))

    known : listed kept ≡ recipes (entry ∷ history)
    known = all_grown is_accepted_recipe history item old.known.recipes.entries.items kept recipe placed.recipes

    first : AreFollowed learned (recipes (entry ∷ history)) before
    first =
        subst (λ recipes. AreFollowed learned (cond (is_accepted_recipe entry) (entry ∷ recipes) recipes) before)
        placed.recipes
        (learns before (subst (λ recipes. AreFollowed old.cursors.followed.entries recipes before)
        (sym placed.recipes) placed.cursors))

    grows : (batch : List ℕ) → after batch ≡ before batch
        ++ cond (is_this batch (accepted_batch entry)) (chart_entries (cons_option (taken item.now.answer) [])) []
    grows batch =
        runs batch
        ∙ ap (λ run. run ++ cond (is_this batch (accepted_batch entry))
        (chart_entries (cons_option (taken item.now.answer) [])) []) (placed.runs batch)

-- the index with one entry more is that of the history with it
pub placed_more : (history : History) (item : Bor Entry) (old new : Places) →
    Grows old.modules.moves.named.entries new.modules.moves.named.entries
    (accepted_tag (plain_entry item.now)) (moves (plain_entry item.now)) item →
    Tells old.modules.controls.tagged.entries new.modules.controls.tagged.entries (accepted_tag (plain_entry item.now))
    (moves (plain_entry item.now)) (told_control (plain_event item.now.event)) →
    Tells old.modules.values.tagged.entries new.modules.values.tagged.entries (accepted_tag (plain_entry item.now))
    (moves (plain_entry item.now)) (told_value (plain_event item.now.event)) →
    Grows old.batches.starts.named.entries new.batches.starts.named.entries
    (accepted_batch (plain_entry item.now)) (starts (plain_entry item.now)) item →
    Grows old.batches.closings.named.entries new.batches.closings.named.entries
    (accepted_batch (plain_entry item.now)) (closes (plain_entry item.now)) item →
    Grows old.batches.freezings.named.entries new.batches.freezings.named.entries
    (accepted_batch (plain_entry item.now)) (freezes (plain_entry item.now)) item →
    Grows old.batches.askings.named.entries new.batches.askings.named.entries
    (accepted_batch (plain_entry item.now)) (asks (plain_entry item.now)) item →
    ((batch : List ℕ) → items_under new.logs.logs.named.entries batch
    ≡ items_under old.logs.logs.named.entries batch
    ++ cond (is_this batch (accepted_batch (plain_entry item.now))) (cons_option (taken item.now.answer) []) []) →
    ((batch : List ℕ) → items_under new.logs.runs.named.entries batch
    ≡ items_under old.logs.runs.named.entries batch
    ++ cond (is_this batch (accepted_batch (plain_entry item.now)))
    (chart_entries (cons_option (taken item.now.answer) [])) []) →
    ((batch : List ℕ) → items_under new.logs.halts.named.entries batch
    ≡ items_under old.logs.halts.named.entries batch
    ++ cond (is_this batch (accepted_batch (plain_entry item.now)))
    (filter is_halt (cons_option (taken item.now.answer) [])) []) →
    ((batch : List ℕ) → items_under new.standings.running.named.entries batch
    ≡ after_entry running_more
    (cond (is_this batch (accepted_batch (plain_entry item.now))) (taken item.now.answer) None)
    (items_under old.standings.running.named.entries batch)) →
    ((batch : List ℕ) → items_under new.standings.held.named.entries batch
    ≡ after_entry held_more (cond (is_this batch (accepted_batch (plain_entry item.now))) (taken item.now.answer) None)
    (items_under old.standings.held.named.entries batch)) →
    AreFollowed new.cursors.followed.entries (recipes (plain_entry item.now ∷ history))
    (items_under new.logs.runs.named.entries) →
    new.known.recipes.entries.items
    ≡ old.known.recipes.entries.items ++ cond (is_accepted_recipe (plain_entry item.now)) (item ∷ []) [] →
    new.known.starts.items ≡ old.known.starts.items ++ cond (is_start (plain_entry item.now)) (item ∷ []) [] →
    new.known.present.items
    ≡ present_after (plain_event item.now.event) (is_accepted item.now.answer) old.known.present.items →
    IsPlaced old history → IsPlaced new (plain_entry item.now ∷ history)
placed_more history item old new moving controls values starting closing freezing asking logs runs halts running held
    followed recipe started tags placed = record {
      moves = tag_grown moves history item _ _ moving placed.moves;
      controls = controls_more history (plain_entry item.now) _ _ controls placed.controls;
      values = values_more history (plain_entry item.now) _ _ values placed.values;
      starts = batch_grown starts history item _ _ starting placed.starts;
      closings = batch_grown closes history item _ _ closing placed.closings;
      freezings = batch_grown freezes history item _ _ freezing placed.freezings;
      askings = batch_grown asks history item _ _ asking placed.askings;
      logs = λ batch. logged batch history (plain_entry item.now) _ _ (logs batch) (placed.logs batch);
      runs = λ batch. kind_logged (λ entry. is_some (chart_entry entry)) batch history (plain_entry item.now) _ _
          (runs batch) (placed.runs batch);
      halts = λ batch. kind_logged is_halt batch history (plain_entry item.now) _ _ (halts batch) (placed.halts batch);
      running = λ batch. running_follows batch history (plain_entry item.now) _ _ (running batch)
          (placed.running batch);
      held = λ batch. held_follows batch history (plain_entry item.now) _ _ (held batch) (placed.held batch);
      cursors = same_runs new.cursors.followed.entries (recipes (plain_entry item.now ∷ history))
          (items_under new.logs.runs.named.entries)
          (λ batch. chart_entries (log_by (past_of_batch batch (plain_entry item.now ∷ history))))
          (λ batch. sym (kind_logged (λ entry. is_some (chart_entry entry)) batch history (plain_entry item.now) _ _
          (runs batch) (placed.runs batch))) followed;
      recipes = all_grown is_accepted_recipe history item _ _ recipe placed.recipes;
      started = all_grown is_start history item _ _ started placed.started;
      present = tags ∙ ap (present_after (plain_event item.now.event) (is_accepted item.now.answer)) placed.present;
    }

-- lists that are those of entries are those of the same entries under another name
pub placed_now : {entries now : List Entry} (places : Places) → entries ≡ now → IsPlaced places (plain_history entries)
    → IsPlaced places (plain_history now)
placed_now places same placed = subst (λ entries. IsPlaced places (plain_history entries)) same placed
