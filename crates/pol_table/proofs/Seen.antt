-- The rows of a table, by its holdings and by who watches what.
use Rattle.std.proofs.Common.{◌≡◌, ℕ, suc, ◌+◌, ◌<◌, arith, get_or, drop, Bool, true, false, not, cond, List, [], ◌∷◌, ◌++◌, length, map, Option, Some, None, refl, sym, ap, ◌∙◌, true≢false, is_some, option_map}
use Rattle.std.specs.Prelude.{IsSome, Result, Ok, Err, OnOk, OnErr, filter, slice_get, unwrap_or, if◌then◌else◌}
use Rattle.std.proofs.lemmas.Bool.{or_left, or_right}
use Rattle.std.specs.List.{cons_option}
use Rattle.std.specs.Map.{keys_of}
use Rattle.std.specs.Option.{option_and_then}
use Rattle.std.specs.Str.{bytes_eq}
use Rattle.std.proofs.lemmas.List.{length-map}
use Rattle.std.proofs.Math.Seq.{drop-cons}
use Rattle.mtp_codes.specs.Names.{is_among}
use Rattle.mtp_codes.proofs.Names.{same_refl, same_true, apart_back}
use Rattle.pol_table.specs.HeldRows as held
use Rattle.pol_table.specs.HeldRows.{HeldRow, HeldRows}
use Rattle.pol_table.specs.HeldAnswers as held_answers
use Rattle.pol_table.specs.Rows.{Row, look, part_of, holder_of, watchers_of, with_part, held_by, watched_among, freed_from, batches_without}
use Rattle.pol_table.specs.Answers.{dock_fault, leaving, parting_from, parting_unless, missing_at, busy_at, hold_answer}
use Rattle.pol_table.specs.declared.faults.LeaveFault.TheVariants.{Held, Watched}
use Rattle.pol_table.specs.Reasons.{dock_reason, missing_reason, busy_reason}
use Rattle.pol_table.specs.Watches.{watchers_in, watches_of, seen_row, seen_rows, AreThere}
use Rattle.pol_table.specs.declared.watch.Watch.{Watch}
use Rattle.pol_table.proofs.HeldSeats.{first_alike}
use Rattle.pol_table.proofs.Changed.{look_changed}

-- what isn't there is not there
clash : {A : Type 0} {B : Type 0} (found : Option A) → found ≡ None → IsSome found → B
clash None none some = absurd (true≢false (sym some))
clash (Some value) none some = absurd cc

-- where nobody watches the tag, the first watch isn't of it, nor are the others
first_none : (watch : Watch) (watches : List Watch) (tag : List ℕ) → watchers_in tag (watch ∷ watches) ≡ [] →
    (bytes_eq watch.tag tag ≡ false) × (watchers_in tag watches ≡ [])
first_none watch watches tag none = go (bytes_eq watch.tag tag) refl none
  where
    go : (same : Bool) → bytes_eq watch.tag tag ≡ same →
        cons_option (cond same (Some watch.batch) None) (watchers_in tag watches) ≡ [] →
        (bytes_eq watch.tag tag ≡ false) × (watchers_in tag watches ≡ [])
    go true same none = absurd cc
    go false same none = (same, none)

-- where there is no first name there is none
pub first_none_empty : (watchers : List (List ℕ)) → slice_get watchers 0 ≡ None → watchers ≡ []
first_none_empty [] is = refl
first_none_empty (first ∷ watchers) is = absurd cc

module _ {T : Type 0} where
  module _ (watches : List Watch) where
    -- a tag has the row of the holdings, with those who watch it
    pub look_seen : (rows : HeldRows T) (tag : List ℕ)
        → look tag (seen_rows watches rows) ≡ option_map (seen_row watches tag) (held.look tag rows)
    look_seen [] tag = refl
    look_seen (row ∷ rows) tag = go (bytes_eq tag row.0) refl (look_seen rows tag)
      where
        go : (same : Bool) → bytes_eq tag row.0 ≡ same →
            look tag (seen_rows watches rows) ≡ option_map (seen_row watches tag) (held.look tag rows) →
            cond same (Some (seen_row watches row.0 row.1)) (look tag (seen_rows watches rows))
            ≡ option_map (seen_row watches tag) (cond same (Some row.1) (held.look tag rows))
        go true same rest = ap (λ name. Some (seen_row watches name row.1)) (sym (same_true tag row.0 same))
        go false same rest = rest

    -- there are as many rows as in the holdings
    pub length_seen : (rows : HeldRows T) → length (seen_rows watches rows) ≡ length rows
    length_seen rows = length-map rows (λ row. (row.0, seen_row watches row.0 row.1))

    -- and they have the same tags
    pub keys_seen : (rows : HeldRows T) → keys_of (seen_rows watches rows) ≡ keys_of rows
    keys_seen [] = refl
    keys_seen (row ∷ rows) = ap (λ tags. row.0 ∷ tags) (keys_seen rows)

    -- a tag has the part that it has there
    pub part_seen : (rows : HeldRows T) (tag : List ℕ) → part_of tag (seen_rows watches rows) ≡ held.part_of tag rows
    part_seen rows tag = rw (look_seen rows tag) (go (held.look tag rows))
      where
        go : (found : Option (HeldRow T)) → option_map (λ row. row.part) (option_map (seen_row watches tag) found)
            ≡ option_map (λ row. row.part) found
        go None = refl
        go (Some row) = refl

    -- and the holder
    pub holder_seen : (rows : HeldRows T) (tag : List ℕ)
        → holder_of tag (seen_rows watches rows) ≡ held.holder_of tag rows
    holder_seen rows tag = rw (look_seen rows tag) (go (held.look tag rows))
      where
        go : (found : Option (HeldRow T)) →
            option_and_then (λ row. row.holder) (option_map (seen_row watches tag) found)
            ≡ option_and_then (λ row. row.holder) found
        go None = refl
        go (Some row) = refl

    -- and it is docked where it is there
    pub there_seen : (rows : HeldRows T) (tag : List ℕ)
        → is_some (look tag (seen_rows watches rows)) ≡ is_some (held.look tag rows)
    there_seen rows tag = rw (look_seen rows tag) (go (held.look tag rows))
      where
        go : (found : Option (HeldRow T)) → is_some (option_map (seen_row watches tag) found) ≡ is_some found
        go None = refl
        go (Some row) = refl

    -- what may dock is the same
    pub dock_seen : (rows : HeldRows T) (tag : List ℕ)
        → dock_fault tag (seen_rows watches rows) ≡ held_answers.dock_fault tag rows
    dock_seen rows tag = rw (there_seen rows tag, length_seen rows) refl

    -- what may be held is the same
    pub holding_seen : (rows : HeldRows T) (tags : List (List ℕ))
        → hold_answer tags (seen_rows watches rows) ≡ held_answers.hold_answer tags rows
    holding_seen rows tags = rw (
      first_alike (missing_at (seen_rows watches rows)) (held_answers.missing_at rows)
          (λ tag. ap (missing_reason tag) (there_seen rows tag)) tags,
      first_alike (busy_at (seen_rows watches rows)) (held_answers.busy_at rows)
          (λ tag. ap (busy_reason tag) (holder_seen rows tag)) tags,
    ) refl

    -- a part that is set in a row of the holdings is set in the row
    pub part_set : (tag : List ℕ) (rows : HeldRows T) (part : T)
        → seen_rows watches (held.with_part tag rows part) ≡ with_part tag (seen_rows watches rows) part
    part_set tag [] part = refl
    part_set tag (row ∷ rows) part = go (bytes_eq tag row.0) refl (part_set tag rows part)
      where
        go : (same : Bool) → bytes_eq tag row.0 ≡ same →
            seen_rows watches (held.with_part tag rows part) ≡ with_part tag (seen_rows watches rows) part →
            seen_rows watches (held.with_part tag (row ∷ rows) part)
            ≡ with_part tag (seen_rows watches (row ∷ rows)) part
        go true same rest =
            rw same (ap (λ more. (row.0, record (seen_row watches row.0 row.1) { part = part }) ∷ more) rest)
        go false same rest = rw same (ap (λ more. (row.0, seen_row watches row.0 row.1) ∷ more) rest)

  -- ---- tags that are watched

  -- a tag that isn't docked is not watched
  pub unwatched : (watches : List Watch) (rows : HeldRows T) (tag : List ℕ) → AreThere watches rows →
      held.look tag rows ≡ None → watchers_in tag watches ≡ []
  unwatched [] rows tag there none = refl
  unwatched (watch ∷ watches) rows tag there none =
      go (bytes_eq watch.tag tag) refl (unwatched watches rows tag there.1 none)
    where
      go : (same : Bool) → bytes_eq watch.tag tag ≡ same → watchers_in tag watches ≡ [] →
          cons_option (cond same (Some watch.batch) None) (watchers_in tag watches) ≡ []
      go true same rest =
          clash (held.look watch.tag rows) (ap (λ name. held.look name rows) (same_true watch.tag tag same) ∙ none)
          there.0
      go false same rest = rest

  -- the watchers of a row are those of the list
  pub watchers_seen : (watches : List Watch) (rows : HeldRows T) (tag : List ℕ) → AreThere watches rows →
      watchers_of tag (seen_rows watches rows) ≡ watchers_in tag watches
  watchers_seen watches rows tag there = rw (look_seen watches rows tag) (go (held.look tag rows) refl)
    where
      go : (found : Option (HeldRow T)) → held.look tag rows ≡ found →
          unwrap_or (option_map (λ row. row.watchers) (option_map (seen_row watches tag) found)) []
          ≡ watchers_in tag watches
      go None none = sym (unwatched watches rows tag there none)
      go (Some row) some = refl

  -- each tag that is watched is still docked, where none has left
  pub still_there : (watches : List Watch) (old new : HeldRows T) → AreThere watches old →
      ((tag : List ℕ) → IsSome (held.look tag old) → IsSome (held.look tag new)) → AreThere watches new
  still_there [] old new there stay = tt
  still_there (watch ∷ watches) old new there stay =
      (stay watch.tag there.0, still_there watches old new there.1 stay)

  -- ---- a part docks

  -- its row has no watchers
  pub docked_seen : (watches : List Watch) (tag : List ℕ) (part : T) (old new : HeldRows T) → AreThere watches old →
      held.look tag old ≡ None →
      ((other : List ℕ) → held.look other new
      ≡ cond (bytes_eq tag other) (Some (record { part = part; holder = None })) (held.look other old)) →
      (other : List ℕ) → look other (seen_rows watches new)
      ≡ (if bytes_eq tag other then Some (record { part = part; holder = None; watchers = [] })
      else look other (seen_rows watches old))
  docked_seen watches tag part old new there none docked other =
      rw (look_seen watches new other, look_seen watches old other, docked other) (go (bytes_eq tag other) refl)
    where
      go : (same : Bool) → bytes_eq tag other ≡ same →
          option_map (seen_row watches other) (cond same (Some (record { part = part; holder = None }))
          (held.look other old))
          ≡ cond same (Some (record { part = part; holder = None; watchers = [] }))
          (option_map (seen_row watches other) (held.look other old))
      go true same =
          ap (λ watchers. Some (record { part = part; holder = None; watchers = watchers }))
          (unwatched watches old other there (ap (λ name. held.look name old) (sym (same_true tag other same)) ∙ none))
      go false same = refl

  -- each tag that is watched is still docked
  pub there_docked : (watches : List Watch) (tag : List ℕ) (row : HeldRow T) (old new : HeldRows T) →
      AreThere watches old →
      ((other : List ℕ) → held.look other new ≡ cond (bytes_eq tag other) (Some row) (held.look other old)) →
      AreThere watches new
  there_docked watches tag row old new there docked =
      still_there watches old new there (λ other is. rw (docked other) (go other (bytes_eq tag other) is))
    where
      go : (other : List ℕ) (same : Bool) → IsSome (held.look other old) →
          IsSome (cond same (Some row) (held.look other old))
      go other true is = refl
      go other false is = is

  -- ---- a part leaves

  -- its row is gone, the others stay
  pub left_seen : (watches : List Watch) (tag : List ℕ) (old new : HeldRows T) →
      ((other : List ℕ) → held.look other new ≡ cond (bytes_eq tag other) None (held.look other old)) →
      (other : List ℕ) → look other (seen_rows watches new)
      ≡ (if bytes_eq tag other then None else look other (seen_rows watches old))
  left_seen watches tag old new left other =
      rw (look_seen watches new other, look_seen watches old other, left other) (go (bytes_eq tag other))
    where
      go : (same : Bool) → option_map (seen_row watches other) (cond same None (held.look other old))
          ≡ cond same None (option_map (seen_row watches other) (held.look other old))
      go true = refl
      go false = refl

  -- each tag that is watched is still docked, where it wasn't one of them
  pub there_left : (watches : List Watch) (tag : List ℕ) (old new : HeldRows T) → AreThere watches old →
      watchers_in tag watches ≡ [] →
      ((other : List ℕ) → held.look other new ≡ cond (bytes_eq tag other) None (held.look other old)) →
      AreThere watches new
  there_left [] tag old new there none left = tt
  there_left (watch ∷ watches) tag old new there none left =
      let parts = first_none watch watches tag none in (
        rw (left watch.tag, apart_back watch.tag tag parts.0) there.0,
        there_left watches tag old new there.1 parts.1 left,
      )

  -- ---- tags that are held, and a batch that lets go

  -- a change of the holdings that leaves the watchers is a change of the rows
  pub mapped_seen : (watches : List Watch) (old new : HeldRows T) (test : List ℕ → Bool)
      (change : HeldRow T → HeldRow T) (seen : Row T → Row T) →
      ((tag : List ℕ) (row : HeldRow T) → seen_row watches tag (change row) ≡ seen (seen_row watches tag row)) →
      ((tag : List ℕ) → held.look tag new
      ≡ option_map (λ row. cond (test tag) (change row) row) (held.look tag old)) →
      (tag : List ℕ) → look tag (seen_rows watches new)
      ≡ option_map (λ row. cond (test tag) (seen row) row) (look tag (seen_rows watches old))
  mapped_seen watches old new test change seen same changed tag =
      rw (look_seen watches new tag, look_seen watches old tag, changed tag) (go (test tag) (held.look tag old))
    where
      go : (passes : Bool) (found : Option (HeldRow T)) →
          option_map (seen_row watches tag) (option_map (λ row. cond passes (change row) row) found)
          ≡ option_map (λ row. cond passes (seen row) row) (option_map (seen_row watches tag) found)
      go passes None = refl
      go true (Some row) = ap Some (same tag row)
      go false (Some row) = refl

  -- each tag that is watched is still docked
  pub there_mapped : (watches : List Watch) (old new : HeldRows T) (change : List ℕ → HeldRow T → HeldRow T) →
      AreThere watches old →
      ((tag : List ℕ) → held.look tag new ≡ option_map (change tag) (held.look tag old)) → AreThere watches new
  there_mapped watches old new change there changed =
      still_there watches old new there (λ tag is. rw (changed tag) (go (change tag) (held.look tag old) is))
    where
      go : (change : HeldRow T → HeldRow T) (found : Option (HeldRow T)) → IsSome found →
          IsSome (option_map change found)
      go change None is = is
      go change (Some row) is = refl

-- ---- one batch watches no more

-- a tag's watchers are the others
pub watchers_ended : (batch : List ℕ) (watches : List Watch) (tag : List ℕ) →
    watchers_in tag (filter (λ watch. not (bytes_eq watch.batch batch)) watches)
    ≡ batches_without batch (watchers_in tag watches)
watchers_ended batch [] tag = refl
watchers_ended batch (watch ∷ watches) tag =
    go (bytes_eq watch.batch batch) (bytes_eq watch.tag tag) refl refl (watchers_ended batch watches tag)
  where
    go : (ends same : Bool) → bytes_eq watch.batch batch ≡ ends → bytes_eq watch.tag tag ≡ same →
        watchers_in tag (filter (λ watch. not (bytes_eq watch.batch batch)) watches)
        ≡ batches_without batch (watchers_in tag watches) →
        watchers_in tag (filter (λ watch. not (bytes_eq watch.batch batch)) (watch ∷ watches))
        ≡ batches_without batch (watchers_in tag (watch ∷ watches))
    go true true ends same rest =
        rw (ends, same) (rest ∙ ap (λ kept. cond (not kept)
        (watch.batch ∷ batches_without batch (watchers_in tag watches))
        (batches_without batch (watchers_in tag watches))) (sym ends))
    go true false ends same rest = rw (ends, same) rest
    go false true ends same rest =
        rw (ends, same) (ap (λ more. watch.batch ∷ more) rest
        ∙ ap (λ kept. cond (not kept) (watch.batch ∷ batches_without batch (watchers_in tag watches))
        (batches_without batch (watchers_in tag watches))) (sym ends))
    go false false ends same rest = rw (ends, same) rest

-- ---- a batch watches some tags more

-- the watchers by two lists are those by the one and then those by the other
pub watchers_append : (watches more : List Watch) (tag : List ℕ) →
    watchers_in tag (watches ++ more) ≡ watchers_in tag watches ++ watchers_in tag more
watchers_append [] more tag = refl
watchers_append (watch ∷ watches) more tag = go (bytes_eq watch.tag tag) (watchers_append watches more tag)
  where
    go : (same : Bool) → watchers_in tag (watches ++ more) ≡ watchers_in tag watches ++ watchers_in tag more →
        cons_option (cond same (Some watch.batch) None) (watchers_in tag (watches ++ more))
        ≡ cons_option (cond same (Some watch.batch) None) (watchers_in tag watches) ++ watchers_in tag more
    go true rest = ap (λ others. watch.batch ∷ others) rest
    go false rest = rest

-- of the watches of one batch, a tag has a watcher for each time that it stands among the tags
watchers_new : (batch : List ℕ) (tags : List (List ℕ)) (tag : List ℕ) →
    watchers_in tag (watches_of batch tags) ≡ map (λ other. batch) (filter (λ other. bytes_eq other tag) tags)
watchers_new batch [] tag = refl
watchers_new batch (first ∷ tags) tag = go (bytes_eq first tag) (watchers_new batch tags tag)
  where
    named : List (List ℕ)
    named = filter (λ other. bytes_eq other tag) tags

    go : (same : Bool) → watchers_in tag (watches_of batch tags) ≡ map (λ other. batch) named →
        cons_option (cond same (Some batch) None) (watchers_in tag (watches_of batch tags))
        ≡ map (λ other. batch) (cond same (first ∷ named) named)
    go true rest = ap (λ more. batch ∷ more) rest
    go false rest = rest

-- ---- what the calls leave

module _ {T : Type 0} where
  -- fewer watches are of tags that are docked
  pub there_filtered : (test : Watch → Bool) (watches : List Watch) (rows : HeldRows T) → AreThere watches rows →
      AreThere (filter test watches) rows
  there_filtered test [] rows there = tt
  there_filtered test (watch ∷ watches) rows there = go (test watch) (there_filtered test watches rows there.1)
    where
      go : (kept : Bool) → AreThere (filter test watches) rows →
          AreThere (cond kept (watch ∷ filter test watches) (filter test watches)) rows
      go true rest = (there.0, rest)
      go false rest = rest

  -- a batch lets go, and watches no more
  pub freed_seen : (batch : List ℕ) (watches : List Watch) (old new : HeldRows T) →
      ((tag : List ℕ) → held.look tag new ≡ option_map (held.freed_from batch) (held.look tag old)) →
      (tag : List ℕ) → look tag (seen_rows (filter (λ watch. not (bytes_eq watch.batch batch)) watches) new)
      ≡ option_map (freed_from batch) (look tag (seen_rows watches old))
  freed_seen batch watches old new freed tag =
      rw (
        look_seen (filter (λ watch. not (bytes_eq watch.batch batch)) watches) new tag,
        look_seen watches old tag,
        freed tag,
      ) (go (held.look tag old))
    where
      go : (found : Option (HeldRow T)) →
          option_map (seen_row (filter (λ watch. not (bytes_eq watch.batch batch)) watches) tag)
          (option_map (held.freed_from batch) found)
          ≡ option_map (freed_from batch) (option_map (seen_row watches tag) found)
      go None = refl
      go (Some row) =
          ap (λ watchers. Some (record {
            part = row.part;
            holder = (held.freed_from batch row).holder;
            watchers = watchers;
          })) (watchers_ended batch watches tag)

  -- the tags that others watch are still docked
  pub there_freed : (batch : List ℕ) (watches : List Watch) (old new : HeldRows T) → AreThere watches old →
      ((tag : List ℕ) → held.look tag new ≡ option_map (held.freed_from batch) (held.look tag old)) →
      AreThere (filter (λ watch. not (bytes_eq watch.batch batch)) watches) new
  there_freed batch watches old new there freed =
      there_filtered (λ watch. not (bytes_eq watch.batch batch)) watches new
      (there_mapped watches old new (λ tag. held.freed_from batch) there freed)

  -- a batch watches some tags more
  added_there : (batch : List ℕ) (tags : List (List ℕ)) (watches : List Watch) (rows : HeldRows T) →
      AreThere watches rows → ((tag : List ℕ) → is_among tags tag ≡ true → IsSome (held.look tag rows)) →
      AreThere (watches ++ watches_of batch tags) rows
  added_there batch [] [] rows there docked = tt
  added_there batch (tag ∷ tags) [] rows there docked = (
    docked tag (or_left (bytes_eq tag tag) (is_among tags tag) (same_refl tag)),
    added_there batch tags [] rows there (λ other among. docked other (or_right (bytes_eq tag other)
        (is_among tags other) among)),
  )
  added_there batch tags (watch ∷ watches) rows there docked =
      (there.0, added_there batch tags watches rows there.1 docked)

  -- the tags that are watched then are docked, whether there was memory or not
  pub there_added : {X E : Type 0} (result : Result X E) (batch : List ℕ) (tags : List (List ℕ))
      (old new : List Watch) (rows : HeldRows T) →
      OnOk result (new ≡ old ++ watches_of batch tags) → OnErr result (new ≡ old) → AreThere old rows →
      ((tag : List ℕ) → is_among tags tag ≡ true → IsSome (look tag (seen_rows old rows))) → AreThere new rows
  there_added (Ok done) batch tags old new rows added same there docked =
      rw added (added_there batch tags old rows there
      (λ tag among. sym (there_seen old rows tag) ∙ docked tag among))
  there_added (Err fault) batch tags old new rows added same there docked = rw same there

  -- the rows of these tags are watched by the batch too, behind all others
  pub watched_seen : (batch : List ℕ) (tags : List (List ℕ)) (watches : List Watch) (rows : HeldRows T) (tag : List ℕ) →
      look tag (seen_rows (watches ++ watches_of batch tags) rows)
      ≡ option_map (watched_among tags batch tag) (look tag (seen_rows watches rows))
  watched_seen batch tags watches rows tag =
      rw (look_seen (watches ++ watches_of batch tags) rows tag, look_seen watches rows tag)
      (go (held.look tag rows)
      (watchers_append watches (watches_of batch tags) tag
      ∙ ap (λ more. watchers_in tag watches ++ more) (watchers_new batch tags tag)))
    where
      go : (found : Option (HeldRow T)) →
          watchers_in tag (watches ++ watches_of batch tags)
          ≡ watchers_in tag watches ++ map (λ other. batch) (filter (λ other. bytes_eq other tag) tags) →
          option_map (seen_row (watches ++ watches_of batch tags) tag) found
          ≡ option_map (watched_among tags batch tag) (option_map (seen_row watches tag) found)
      go None is = refl
      go (Some row) is =
          ap (λ watchers. Some (record { part = row.part; holder = row.holder; watchers = watchers })) is

  -- after a dock, done or refused, each tag that is watched is docked
  pub there_after_dock : {X E : Type 0} (result : Result X E) (watches : List Watch) (tag : List ℕ) (part : T)
      (old new : HeldRows T) → AreThere watches old →
      OnOk result ((other : List ℕ) → held.look other new
      ≡ cond (bytes_eq tag other) (Some (record { part = part; holder = None })) (held.look other old)) →
      OnErr result (new ≡ old) → AreThere watches new
  there_after_dock (Ok done) watches tag part old new there docked same =
      there_docked watches tag (record { part = part; holder = None }) old new there docked
  there_after_dock (Err fault) watches tag part old new there docked same = rw same there

  -- what may dock is of a tag that isn't docked
  new_tag : (taken : Option (HeldRow T)) (count : ℕ) → dock_reason (is_some taken) count ≡ None → taken ≡ None
  new_tag None count none = refl
  new_tag (Some row) count none = cc

  -- a part that has docked has the new row
  pub docked_after : {X E : Type 0} (result : Result X E) (watches : List Watch) (tag : List ℕ) (part : T)
      (old new : HeldRows T) → AreThere watches old →
      OnOk result (held_answers.dock_fault tag old ≡ None) →
      OnOk result ((other : List ℕ) → held.look other new
      ≡ cond (bytes_eq tag other) (Some (record { part = part; holder = None })) (held.look other old)) →
      OnOk result ((other : List ℕ) → look other (seen_rows watches new)
      ≡ (if bytes_eq tag other then Some (record { part = part; holder = None; watchers = [] })
      else look other (seen_rows watches old)))
  docked_after (Ok done) watches tag part old new there free docked =
      docked_seen watches tag part old new there (new_tag (held.look tag old) (length old) free) docked
  docked_after (Err fault) watches tag part old new there free docked = tt

  -- nobody holds or watches the tag: the holdings decide
  pub leaving_free : (watches : List Watch) (rows : HeldRows T) (tag : List ℕ) → held.holder_of tag rows ≡ None →
      watchers_in tag watches ≡ [] → leaving tag (seen_rows watches rows) ≡ held_answers.leaving tag rows
  leaving_free watches rows tag free none = rw (look_seen watches rows tag) (go (held.look tag rows) free)
    where
      go : (found : Option (HeldRow T)) → option_and_then (λ row. row.holder) found ≡ None →
          parting_from (option_map (seen_row watches tag) found) ≡ held_answers.parting_from found
      go None free = refl
      go (Some row) free = rw (free, none) refl

  -- a batch holds it
  pub leaving_held : (watches : List Watch) (rows : HeldRows T) (tag batch : List ℕ) →
      held.holder_of tag rows ≡ Some batch → leaving tag (seen_rows watches rows) ≡ Err (Held batch)
  leaving_held watches rows tag batch is = rw (look_seen watches rows tag) (go (held.look tag rows) is)
    where
      go : (found : Option (HeldRow T)) → option_and_then (λ row. row.holder) found ≡ Some batch →
          parting_from (option_map (seen_row watches tag) found) ≡ Err (Held batch)
      go None is = absurd cc
      go (Some row) is = rw is refl

  -- none holds it, and one watches it
  pub leaving_watched : (watches : List Watch) (rows : HeldRows T) (tag batch : List ℕ) → AreThere watches rows →
      held.holder_of tag rows ≡ None → slice_get (watchers_in tag watches) 0 ≡ Some batch →
      leaving tag (seen_rows watches rows) ≡ Err (Watched batch)
  leaving_watched watches rows tag batch there free is =
      rw (look_seen watches rows tag) (go (held.look tag rows) refl free)
    where
      first : (part : T) (watchers : List (List ℕ)) → slice_get watchers 0 ≡ Some batch →
          parting_unless part None watchers ≡ Err (Watched batch)
      first part [] is = absurd cc
      first part (other ∷ watchers) is = let same : other ≡ batch = cc in ap (λ name. Err (Watched name)) same

      go : (found : Option (HeldRow T)) → held.look tag rows ≡ found →
          option_and_then (λ row. row.holder) found ≡ None →
          parting_from (option_map (seen_row watches tag) found) ≡ Err (Watched batch)
      go None gone free =
          let none : slice_get (watchers_in tag watches) 0 ≡ None =
          ap (λ watchers. slice_get watchers 0) (unwatched watches rows tag there gone) in absurd cc
      go (Some row) gone free = rw free (first row.part (watchers_in tag watches) is)

  -- after a part has left or not, each tag that is watched is docked
  pub there_after_leave : {E : Type 0} (result : Result T E) (watches : List Watch) (tag : List ℕ)
      (old new : HeldRows T) → AreThere watches old → watchers_in tag watches ≡ [] →
      OnOk result ((other : List ℕ) → held.look other new
      ≡ cond (bytes_eq tag other) None (held.look other old)) →
      OnErr result (new ≡ old) → AreThere watches new
  there_after_leave (Ok part) watches tag old new there none left same = there_left watches tag old new there none left
  there_after_leave (Err fault) watches tag old new there none left same = rw same there

  -- after tags are held or not, each tag that is watched is docked
  pub there_after_hold : {X E : Type 0} (result : Result X E) (watches : List Watch)
      (tags : List (List ℕ)) (batch : List ℕ) (old new : HeldRows T) → AreThere watches old →
      OnOk result ((tag : List ℕ) → held.look tag new
      ≡ option_map (λ row. cond (is_among tags tag) (held.held_by batch row) row) (held.look tag old)) →
      OnErr result (new ≡ old) → AreThere watches new
  there_after_hold (Ok done) watches tags batch old new there holds same =
      there_mapped watches old new (λ tag row. cond (is_among tags tag) (held.held_by batch row) row) there holds
  there_after_hold (Err fault) watches tags batch old new there holds same = rw same there

  -- tags that are held are held in the rows
  pub held_after : {X E : Type 0} (result : Result X E) (watches : List Watch)
      (tags : List (List ℕ)) (batch : List ℕ) (old new : HeldRows T) →
      OnOk result ((tag : List ℕ) → held.look tag new
      ≡ option_map (λ row. cond (is_among tags tag) (held.held_by batch row) row) (held.look tag old)) →
      OnOk result ((tag : List ℕ) → look tag (seen_rows watches new)
      ≡ option_map (λ row. if is_among tags tag then held_by batch row else row) (look tag (seen_rows watches old)))
  held_after (Ok done) watches tags batch old new holds =
      mapped_seen watches old new (is_among tags) (held.held_by batch) (held_by batch) (λ tag row. refl) holds
  held_after (Err fault) watches tags batch old new holds = tt

  -- after a part is set in its place, each tag that is watched is docked
  pub there_set : (watches : List Watch) (rows : HeldRows T) (tag : List ℕ) (part : T) → AreThere watches rows →
      AreThere watches (held.with_part tag rows part)
  there_set watches rows tag part there =
      there_mapped watches rows (held.with_part tag rows part)
      (λ other row. cond (bytes_eq tag other) (record row { part = part }) row) there
      (look_changed tag (λ row. record row { part = part }) rows)

-- ---- the watcher at a place

-- the watch at an index, before those behind it
at_index : (watches : List Watch) (index : ℕ) (watch : Watch) → index < length watches →
    watch ≡ get_or watches index watch → drop index watches ≡ watch ∷ drop (index + 1) watches
at_index watches index watch inside is =
    let next : suc index ≡ index + 1 = omega arith in
    drop-cons watches index watch inside ∙ ap (λ (first : Watch). first ∷ drop (suc index) watches) (sym is)
    ∙ ap (λ next. watch ∷ drop next watches) next

-- one of this tag is counted
pub counts_one : (tag : List ℕ) (watches : List Watch) (index : ℕ) (watch : Watch) → index < length watches →
    watch ≡ get_or watches index watch → bytes_eq watch.tag tag ≡ true → (left less : ℕ) (said : Option (List ℕ)) →
    less + 1 ≡ left → slice_get (watchers_in tag (drop index watches)) left ≡ said →
    slice_get (watchers_in tag (drop (index + 1) watches)) less ≡ said
counts_one tag watches index watch inside is same left less said one before =
    let next : suc less ≡ left = omega (arith, one) in
    ap (λ same. slice_get (cons_option (cond same (Some watch.batch) None)
    (watchers_in tag (drop (index + 1) watches))) (suc less)) (sym same)
    ∙ ap (λ watches. slice_get (watchers_in tag watches) (suc less)) (sym (at_index watches index watch inside is))
    ∙ ap (slice_get (watchers_in tag (drop index watches))) next ∙ before
