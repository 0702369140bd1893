-- Batches that are followed, as look-ups, runs and recipes change.
use Rattle.std.proofs.Common.{◌≡◌, ℕ, Bool, true, false, cond, List, [], ◌∷◌, ◌++◌, append-nil, Option, Some, None}
use Rattle.std.proofs.Common.{refl, ap, sym, subst, ◌∙◌}
use Rattle.std.specs.List.{cons_option}
use Rattle.std.specs.Map.{lookup}
use Rattle.std.specs.Option.{IfSome}
use Rattle.std.specs.Str.{bytes_eq}
use Rattle.mtp_codes.proofs.Names.{same_refl, same_true}
use Rattle.chart_core.specs.Charts.{plain_chart}
use Rattle.chart_core.specs.Standing.{AreAfter}
use Rattle.chart_core.specs.declared.entry.LogEntry.{LogEntry}
use Rattle.pol_history.specs.Batches.{chart_named}
use Rattle.pol_history.specs.Looking.{History}
use Rattle.pol_audit.specs.Followed.{AreFollowed, GoesAlong}
use Rattle.pol_audit.specs.Listed.{is_this}
use Rattle.pol_audit.specs.declared.cursors.Followed.{Followed}

-- ---- look-ups

-- where no batch is looked up, none is followed wrongly
pub none_followed : (named : List (List ℕ × Followed)) (recipes : History) (runs : List ℕ → List LogEntry) →
    ((batch : List ℕ) → lookup (bytes_eq batch) named ≡ None) → AreFollowed named recipes runs
none_followed named recipes runs none batch = rw (none batch) tt

-- the runs may be others where they are equal
pub same_runs : (named : List (List ℕ × Followed)) (recipes : History) (before after : List ℕ → List LogEntry) →
    ((batch : List ℕ) → after batch ≡ before batch) → AreFollowed named recipes before → AreFollowed named recipes after
same_runs named recipes before after same followed batch =
    subst (λ run. IfSome (lookup (bytes_eq batch) named)
    (λ followed. GoesAlong recipes followed.recipe run followed.cursor)) (sym (same batch)) (followed batch)

-- one batch is looked up as another one than before, and only its run may have changed
pub one_changed : (old new : List (List ℕ × Followed)) (batch : List ℕ) (own : Option Followed) (recipes : History)
    (before after : List ℕ → List LogEntry) →
    ((other : List ℕ) → lookup (bytes_eq other) new ≡ cond (bytes_eq batch other) own (lookup (bytes_eq other) old)) →
    ((other : List ℕ) → bytes_eq batch other ≡ false → after other ≡ before other) →
    IfSome own (λ followed. GoesAlong recipes followed.recipe (after batch) followed.cursor) →
    AreFollowed old recipes before → AreFollowed new recipes after
one_changed old new batch own recipes before after looks stays along followed other =
    subst (λ found. IfSome found (λ followed. GoesAlong recipes followed.recipe (after other) followed.cursor))
    (sym (looks other)) (go (bytes_eq batch other) refl)
  where
    go : (same : Bool) → bytes_eq batch other ≡ same →
        IfSome (cond same own (lookup (bytes_eq other) old))
        (λ followed. GoesAlong recipes followed.recipe (after other) followed.cursor)
    go true same =
        subst (λ name. IfSome own (λ followed. GoesAlong recipes followed.recipe (after name) followed.cursor))
        (same_true batch other same) along
    go false same =
        subst (λ run. IfSome (lookup (bytes_eq other) old)
        (λ followed. GoesAlong recipes followed.recipe run followed.cursor)) (sym (stays other same)) (followed other)

-- a batch that isn't looked up may as well be taken out
absent : (named : List (List ℕ × Followed)) (batch other : List ℕ) → lookup (bytes_eq batch) named ≡ None →
    lookup (bytes_eq other) named ≡ cond (bytes_eq batch other) None (lookup (bytes_eq other) named)
absent named batch other none = go (bytes_eq batch other) refl
  where
    go : (same : Bool) → bytes_eq batch other ≡ same →
        lookup (bytes_eq other) named ≡ cond same None (lookup (bytes_eq other) named)
    go true same = subst (λ name. lookup (bytes_eq name) named ≡ None) (same_true batch other same) none
    go false same = refl

-- ---- runs

-- the other runs stay where one grows
others_stay : (batch : List ℕ) (before after : List ℕ → List LogEntry) (did : LogEntry) →
    ((other : List ℕ) → after other ≡ before other ++ cond (bytes_eq batch other) (did ∷ []) []) →
    (other : List ℕ) → bytes_eq batch other ≡ false → after other ≡ before other
others_stay batch before after did grows other apart =
    grows other ∙ ap (λ same. before other ++ cond same (did ∷ []) []) apart ∙ append-nil (before other)

-- its own grows
its_grows : (batch : List ℕ) (before after : List ℕ → List LogEntry) (did : LogEntry) →
    ((other : List ℕ) → after other ≡ before other ++ cond (bytes_eq batch other) (did ∷ []) []) →
    after batch ≡ before batch ++ did ∷ []
its_grows batch before after did grows =
    grows batch ∙ ap (λ same. before batch ++ cond same (did ∷ []) []) (same_refl batch)

-- the run of a batch that isn't followed grows
pub unfollowed_grows : (named : List (List ℕ × Followed)) (batch : List ℕ) (did : LogEntry) (recipes : History)
    (before after : List ℕ → List LogEntry) → lookup (bytes_eq batch) named ≡ None →
    AreFollowed named recipes before →
    ((other : List ℕ) → after other ≡ before other ++ cond (bytes_eq batch other) (did ∷ []) []) →
    AreFollowed named recipes after
unfollowed_grows named batch did recipes before after none followed grows =
    one_changed named named batch None recipes before after (λ other. absent named batch other none)
    (others_stay batch before after did grows) tt followed

-- the run of a batch that is followed grows, and its cursor goes along
pub followed_grows : (old new : List (List ℕ × Followed)) (batch : List ℕ) (did : LogEntry) (was own : Followed)
    (recipes : History) (before after : List ℕ → List LogEntry) →
    lookup (bytes_eq batch) old ≡ Some was → own.recipe ≡ was.recipe → own.cursor.chart ≡ was.cursor.chart →
    ((log : List LogEntry) → AreAfter (plain_chart was.cursor.chart) was.cursor.marks log
    → AreAfter (plain_chart own.cursor.chart) own.cursor.marks (log ++ did ∷ [])) →
    ((other : List ℕ) → lookup (bytes_eq other) new
    ≡ cond (bytes_eq batch other) (Some own) (lookup (bytes_eq other) old)) →
    AreFollowed old recipes before →
    ((other : List ℕ) → after other ≡ before other ++ cond (bytes_eq batch other) (did ∷ []) []) →
    AreFollowed new recipes after
followed_grows old new batch did was own recipes before after found recipe chart moves looks followed grows =
    one_changed old new batch (Some own) recipes before after looks (others_stay batch before after did grows)
    (subst (λ run. GoesAlong recipes own.recipe run own.cursor) (sym (its_grows batch before after did grows)) along)
    followed
  where
    earlier : GoesAlong recipes was.recipe (before batch) was.cursor
    earlier = subst (λ found. IfSome found
        (λ followed. GoesAlong recipes followed.recipe (before batch) followed.cursor)) found (followed batch)

    along : GoesAlong recipes own.recipe (before batch ++ did ∷ []) own.cursor
    along = (
      ap (λ name. chart_named name recipes) recipe ∙ earlier.0 ∙ ap (λ chart. Some (plain_chart chart)) (sym chart),
      moves (before batch) earlier.1,
    )

-- ---- one more entry

-- the entry that an answer says was taken, among the entries of the run
pub grows_by : (whom : Option (List ℕ)) (batch other : List ℕ) (told : Option LogEntry)
    (did : LogEntry) (kept after before : List LogEntry) → whom ≡ Some batch → told ≡ Some did →
    cons_option told [] ≡ kept → after ≡ before ++ cond (is_this other whom) kept [] →
    after ≡ before ++ cond (bytes_eq batch other) (did ∷ []) []
grows_by whom batch other told did kept after before its is same grows =
    grows ∙ ap (λ kept. before ++ cond (is_this other whom) kept []) (sym same ∙ ap (λ told. cons_option told []) is)
    ∙ ap (λ whom. before ++ cond (is_this other whom) (did ∷ []) []) its

-- ---- recipes
