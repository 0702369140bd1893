-- The tables after an accepted start.
use Rattle.std.proofs.Common.{◌≡◌, ℕ, Bool, true, false, cond, List, [], ◌∷◌, ◌++◌, Option, Some, None, is_some, refl}
use Rattle.std.proofs.Common.{ap, sym, ◌∙◌, subst, inl, inr}
use Rattle.std.specs.Prelude.{◌||◌, filter, map, Result, Ok, Err, ⊤, OnOk, OnErr}
use Rattle.std.proofs.lemmas.Bool.{or_cases}
use Rattle.std.proofs.lemmas.List.{append-nil}
use Rattle.std.specs.List.{AllByRecursion, IsDistinct}
use Rattle.std.specs.Option.{option_or, option_map, option_and_then}
use Rattle.std.proofs.Math.Path.{fun_ext}
use Rattle.std.specs.Str.{bytes_eq}
use Rattle.mtp_codes.specs.Faults.{done_unless, first_of}
use Rattle.mtp_codes.specs.Names.{is_among}
use Rattle.mtp_codes.proofs.Names.{same_true, apart_back}
use Rattle.chart_core.specs.Roles.{PlainChart}
use Rattle.pol_events.specs.Bound.{PlainAllocation, tags_of}
use Rattle.pol_history.specs.Batches.{chart_named, holder_of, watchers_of}
use Rattle.pol_history.specs.Looking.{History, past, past_of_batch, recipes}
use Rattle.pol_history.proofs.Holders.{started}
use Rattle.pol_history.proofs.Pasts.{module_past_same}
use Rattle.pol_slots.specs.declared.slot.Slot.{Slot}
use Rattle.pol_table.specs.Answers.{missing_at, busy_at, hold_fault, hold_answer}
use Rattle.pol_table.specs.Reasons.{missing_reason, busy_reason}
use Rattle.pol_table.specs.Rows as tables
use Rattle.pol_table.specs.Rows.{Row, Rows, look, held_by, watched_among}
use Rattle.pol_table.specs.declared.faults.HoldFault.{HoldFault}
use Rattle.pol_runs.specs.Freezes.{is_frozen, is_holding}
use Rattle.pol_runs.specs.Runs.{PlainRun}
use Rattle.pol_core.specs.Batches.{RunKeeps, RunsMirror}
use Rattle.pol_core.specs.Seats.{users_of, IsSeated, SeatsMirror}
use Rattle.pol_core.proofs.Used.{users_with, users_started}
use Rattle.pol_core.specs.Starting.{Begins, Watches, watched_by}
use Rattle.pol_core.proofs.Stepping.{runs_changed}

-- ---- all tags that were held together are there

-- where all could be held, there was no fault
none_held : (fault : Option HoldFault) → ◌≡◌ {A = Result ⊤ HoldFault} (done_unless fault) (Ok tt) → fault ≡ None
none_held None is = refl
none_held (Some fault) is = cc

-- where neither fault is there, the first isn't
or_none : {A : Type 0} (one other : Option A) → option_or one other ≡ None → one ≡ None
or_none None other is = refl
or_none (Some x) other is = cc

-- where none of a list says anything, neither do the first and the rest
first_none : {A B : Type 0} (f : A → Option B) (x : A) (xs : List A) → option_or (f x) (first_of (map f xs))
    ≡ None → (f x ≡ None) × (first_of (map f xs) ≡ None)
first_none {A} {B} f x xs is = go (f x) refl is
  where
    go : (found : Option B) → f x ≡ found → option_or found (first_of (map f xs)) ≡ None →
        (f x ≡ None) × (first_of (map f xs) ≡ None)
    go None found is = (found, is)
    go (Some y) found is = cc

-- a tag that isn't missing is there
missing_none : (there : Bool) (fault : HoldFault) → cond there None (Some fault) ≡ None → there ≡ true
missing_none true fault is = refl
missing_none false fault is = cc

-- none of these tags is missing
all_there : (tags : List (List ℕ)) (rows : Rows Slot) (tag : List ℕ) →
    first_of (map (missing_at rows) tags) ≡ None → is_among tags tag ≡ true →
    is_some (look tag rows) ≡ true
all_there [] rows tag none among = cc
all_there (first ∷ tags) rows tag none among =
    let parts = first_none (missing_at rows) first tags none in
    elim (or_cases (bytes_eq first tag) (is_among tags tag) among) [
      | inl same ↦ subst (λ tag. is_some (look tag rows) ≡ true) (same_true first tag same)
          (missing_none (is_some (look first rows)) _ parts.0)
      | inr later ↦ all_there tags rows tag parts.1 later
    ]

-- a tag that was held with others is there
pub held_there : (tags : List (List ℕ)) (rows : Rows Slot) (tag : List ℕ) → hold_answer tags rows ≡ Ok tt →
    is_among tags tag ≡ true →
    is_some (look tag rows) ≡ true
held_there tags rows tag ok among =
    all_there tags rows tag (or_none (first_of (map (missing_at rows) tags))
    (first_of (map (busy_at rows) tags)) (none_held (hold_fault tags rows) ok)) among

-- ---- the tables

-- the modules of the batch are watched and held, and all else stays
pub seats_started : (history : History) (at : ℕ) (batch name : List ℕ) (chart : PlainChart)
    (binds : PlainAllocation) (old new : Rows Slot) (runs after : List (List ℕ × PlainRun)) →
    past_of_batch batch history ≡ [] → Begins batch name chart binds old new runs after → SeatsMirror old history →
    SeatsMirror new (started at batch name binds ∷ history)
seats_started history at batch name chart binds old new runs after fresh begins mirror tag =
    subst (IsSeated tag (look tag new) (past tag (started at batch name binds ∷ history)))
    (sym (users_started history at batch name binds fresh tag))
    (subst (λ past. IsSeated tag (look tag new) past (users_with binds batch tag (users_of history tag)))
    (sym (module_past_same history (started at batch name binds) batch tag refl))
    (subst (λ found. IsSeated tag found (past tag history) (users_with binds batch tag (users_of history tag)))
    (sym (begins.holds.held tag ∙ ap (option_map holding_row) (begins.watches tag)))
    (go (is_among (tags_of binds.held) tag) (is_among (tags_of binds.watched) tag) refl refl (look tag old) refl
    (mirror tag))))
  where
    holding_row : Row Slot → Row Slot
    holding_row row = cond (is_among (tags_of binds.held) tag) (held_by batch row) row

    go : (held seen : Bool) → is_among (tags_of binds.held) tag ≡ held → is_among (tags_of binds.watched) tag ≡ seen →
        (found : Option (Row Slot)) →
        look tag old ≡ found → IsSeated tag found (past tag history) (users_of history tag) →
        IsSeated tag (option_map (λ row. cond held (held_by batch row) row)
        (option_map (λ row. cond seen (watched_by batch row) row) found)) (past tag history)
        (record {
          holder = cond held (Some batch) (holder_of history tag);
          watchers = cond seen (watchers_of history tag ++ batch ∷ []) (watchers_of history tag);
        })
    go false false holds sees None is seated =
        record { is_absent = seated.is_absent; free = seated.free; unwatched = seated.unwatched }
    go false false holds sees (Some row) is seated =
        record { slot_keeps = seated.slot_keeps; held_by = seated.held_by; watched_by = seated.watched_by }
    go true false holds sees (Some row) is seated =
        record { slot_keeps = seated.slot_keeps; held_by = refl; watched_by = seated.watched_by }
    go false true holds sees (Some row) is seated =
        record {
          slot_keeps = seated.slot_keeps;
          held_by = seated.held_by;
          watched_by = ap (λ watchers. watchers ++ batch ∷ []) seated.watched_by;
        }
    go true true holds sees (Some row) is seated =
        record {
          slot_keeps = seated.slot_keeps;
          held_by = refl;
          watched_by = ap (λ watchers. watchers ++ batch ∷ []) seated.watched_by;
        }
    go false true holds sees None is seated =
        let clash : false ≡ true = sym (ap is_some is) ∙ begins.there tag sees in cc
    go true true holds sees None is seated =
        let clash : false ≡ true = sym (ap is_some is) ∙ begins.there tag sees in cc
    go true false holds sees None is seated =
        let clash : false ≡ true
        = sym (ap is_some (begins.watches tag ∙ ap (option_map seeing_row) is))
        ∙ held_there (tags_of binds.held) begins.watched tag begins.holds.free holds in cc
      where
        seeing_row : Row Slot → Row Slot
        seeing_row row = cond (is_among (tags_of binds.watched) tag) (watched_by batch row) row

-- the batch has a run that has just begun
pub runs_started : (history : History) (at : ℕ) (batch name : List ℕ) (chart : PlainChart) (binds : PlainAllocation)
    (old new : Rows Slot) (runs after : List (List ℕ × PlainRun)) →
    past_of_batch batch history ≡ [] → chart_named name (recipes history) ≡ Some chart →
    Begins batch name chart binds old new runs after →
    RunsMirror runs history → RunsMirror after (started at batch name binds ∷ history)
runs_started history at batch name chart binds old new runs after fresh charted begins mirror =
    runs_changed history (started at batch name binds) batch begins.run runs after refl refl begins.runs_are
    (subst (λ past. RunKeeps batch begins.run (started at batch name binds ∷ past) (recipes history)) (sym fresh)
    (record {
      batch_is = begins.is_new.batch_is;
      recipe = name;
      binds = binds;
      recipe_is = begins.is_new.recipe_is;
      binds_are = begins.is_new.binds_are;
      held_are = begins.is_new.held_are;
      started = refl;
      charted = charted ∙ ap Some (sym begins.is_new.chart_is);
      follows = begins.is_new.follows;
      asks = begins.is_new.asks;
      frozen_is = ap is_frozen begins.is_new.freeze_is;
      holding_is = ap is_holding begins.is_new.freeze_is;
      outcome_is = begins.is_new.outcome_is;
    })) mirror

-- ---- tags that are watched together

-- none of these tags is this one
none_of : (tag : List ℕ) (tags : List (List ℕ)) → AllByRecursion (λ other. bytes_eq tag other ≡ false) tags →
    is_among tags tag ≡ false
none_of tag [] apart = refl
none_of tag (other ∷ tags) apart = rw (apart_back tag other apart.0, none_of tag tags apart.1) refl

-- a tag stands among distinct ones once, or not at all
once_among : (batch : List ℕ) (tags : List (List ℕ)) (tag : List ℕ) → IsDistinct bytes_eq tags →
    map (λ other. batch) (filter (λ other. bytes_eq other tag) tags) ≡ cond (is_among tags tag) (batch ∷ []) []
unfolding IsDistinct
once_among batch [] tag distinct = refl
once_among batch (first ∷ tags) tag distinct = go (bytes_eq first tag) refl (once_among batch tags tag distinct.1)
  where
    named : List (List ℕ)
    named = filter (λ other. bytes_eq other tag) tags

    go : (same : Bool) → bytes_eq first tag ≡ same →
        map (λ other. batch) named ≡ cond (is_among tags tag) (batch ∷ []) [] →
        map (λ other. batch) (cond same (first ∷ named) named) ≡ cond (same || is_among tags tag) (batch ∷ []) []
    go true same rest =
        ap (λ more. batch ∷ more)
        (rest ∙ ap (λ among. cond among (batch ∷ []) [])
        (ap (is_among tags) (sym (same_true first tag same)) ∙ none_of first tags distinct.0))
    go false same rest = rest

-- so distinct tags are each watched once more
pub watches_now : (tags : List (List ℕ)) (batch : List ℕ) (old new : Rows Slot) → IsDistinct bytes_eq tags →
    ((tag : List ℕ) → look tag new ≡ option_map (watched_among tags batch tag) (look tag old)) →
    Watches tags batch old new
watches_now tags batch old new distinct watched tag =
    watched tag ∙ go (is_among tags tag) (once_among batch tags tag distinct) (look tag old)
  where
    go : (among : Bool) →
        map (λ other. batch) (filter (λ other. bytes_eq other tag) tags) ≡ cond among (batch ∷ []) [] →
        (found : Option (Row Slot)) →
        option_map (watched_among tags batch tag) found
        ≡ option_map (λ row. cond among (watched_by batch row) row) found
    go among is None = refl
    go true is (Some row) = ap (λ more. Some (record row { watchers = row.watchers ++ more })) is
    go false is (Some row) =
        ap (λ more. Some (record row { watchers = row.watchers ++ more })) is
        ∙ ap (λ watchers. Some (record row { watchers = watchers })) (append-nil row.watchers)

-- that some of them are watched doesn't change what can be held
pub holding_watched : (tags : List (List ℕ)) (batch : List ℕ) (old new : Rows Slot) → Watches tags batch old new →
    (held : List (List ℕ)) → hold_answer held new ≡ hold_answer held old
holding_watched tags batch old new watches held =
    ap (λ fault. done_unless (option_or fault (first_of (map (busy_at new) held))))
    (first_same (missing_at new) (missing_at old) (λ tag. ap (missing_reason tag) (there tag)) held)
    ∙ ap (λ fault. done_unless (option_or (first_of (map (missing_at old) held)) fault))
    (first_same (busy_at new) (busy_at old) (λ tag. ap (busy_reason tag) (holder tag)) held)
  where
    first_same : (one other : List ℕ → Option HoldFault) → ((tag : List ℕ) → one tag ≡ other tag) →
        (tags : List (List ℕ)) → first_of (map one tags) ≡ first_of (map other tags)
    first_same one other same tags = ap (λ says. first_of (map says tags)) (fun_ext same)

    there : (tag : List ℕ) → is_some (look tag new) ≡ is_some (look tag old)
    there tag = ap is_some (watches tag) ∙ go (look tag old)
      where
        go : (found : Option (Row Slot)) →
            is_some (option_map (λ row. cond (is_among tags tag) (watched_by batch row) row) found) ≡ is_some found
        go None = refl
        go (Some row) = refl

    holder : (tag : List ℕ) → tables.holder_of tag new ≡ tables.holder_of tag old
    holder tag = ap (option_and_then (λ (row : Row Slot). row.holder)) (watches tag)
        ∙ go (is_among tags tag) (look tag old)
      where
        go : (among : Bool) (found : Option (Row Slot)) →
            option_and_then (λ row. row.holder) (option_map (λ row. cond among (watched_by batch row) row) found)
            ≡ option_and_then (λ row. row.holder) found
        go among None = refl
        go true (Some row) = refl
        go false (Some row) = refl

-- so it is whether they could be watched or not
pub watching_holds : {X E : Type 0} (result : Result X E) (tags : List (List ℕ)) (batch : List ℕ)
    (old new : Rows Slot) → OnOk result (Watches tags batch old new) → OnErr result (new ≡ old) →
    (held : List (List ℕ)) → hold_answer held new ≡ hold_answer held old
watching_holds (Ok done) tags batch old new watches same held = holding_watched tags batch old new watches held
watching_holds (Err error) tags batch old new watches same held = ap (hold_answer held) same
