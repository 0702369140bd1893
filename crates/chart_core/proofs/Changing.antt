-- The tests and the changes against the relations.
use Rattle.std.specs.Prelude.{ℕ, ◌≡◌, ◌≢◌, Bool, true, false, ◌&&◌, nat_lt, Option, Some, None, refl}
use Rattle.std.proofs.Common.{◌∙◌, ap, subst, inl, inr}
use Rattle.std.specs.Prelude.{cond, eqb}
use Rattle.std.proofs.Common.{eq-eqb}
use Rattle.std.proofs.lemmas.Bool.{eqb-true, and_from, and_parts, false_from_ne_true, lt-ltb, ltb-true}
use Rattle.chart_core.specs.Entries.{Stage, begin, finish, reset, end}
use Rattle.chart_core.specs.Courses.{Course, nothing, step, chain, beside, select, repeat}
use Rattle.chart_core.specs.declared.progress.Progress.{Progress}
use Rattle.chart_core.specs.declared.progress.Progress.TheVariants.{Untouched, Begun, Finished, WasReset, Ended, Chosen, Left}
use Rattle.chart_core.specs.Progress.{Marks, Done}
use Rattle.chart_core.proofs.Relations.{Puts, Clears, Next, to_begun, to_finished, reset_begun, reset_finished, to_ended, Moves, Awaits, Sound}
use Rattle.chart_core.specs.Changes.{is_ended, is_left, has_chosen, is_done, next_progress, put_at, choose_at, either_change, change_in_arm, while_untouched, change_by, changed}
use Rattle.chart_core.specs.declared.progress.Change.{Change}
use Rattle.chart_core.specs.declared.progress.Change.TheVariants.{Put, Clear}
use Rattle.chart_core.proofs.Link.{move_await, await_of, done_no_await}

-- what the test for ended says
pub ended_of : (progress : Progress) → is_ended progress ≡ true → progress ≡ Ended
ended_of Ended is = refl
ended_of progress is = cc

-- what the test for left says
pub left_of : (progress : Progress) → is_left progress ≡ true → progress ≡ Left
left_of Left is = refl
left_of progress is = cc

-- what the test for a chosen arm says
pub chosen_of : (test : ℕ → Bool) (progress : Progress) → has_chosen test progress ≡ true → (arm : ℕ)
    × (progress ≡ Chosen arm) × (test arm ≡ true)
chosen_of test (Chosen arm) is = (arm, refl, is)
chosen_of test progress is = cc

-- what the test for done says
pub done_of : {E : Type 0} (course : Course E) (marks : Marks) → is_done course marks ≡ true → Done course marks
done_of nothing marks done = tt
done_of (step number finishes stage) marks done = ended_of (marks number) done
done_of (chain one other) marks done = (
  done_of one marks (and_parts (is_done one marks) (is_done other marks) done).0,
  done_of other marks
      (and_parts (is_done one marks) (is_done other marks) done).1,
)
done_of (beside one other) marks done = (
  done_of one marks (and_parts (is_done one marks) (is_done other marks) done).0,
  done_of other marks
      (and_parts (is_done one marks) (is_done other marks) done).1,
)
done_of (select number count own chooses bodies) marks done =
    let chosen = chosen_of (λ arm. is_done (bodies arm) marks) (marks number) done in
    (chosen.0, chosen.1, done_of (bodies chosen.0) marks chosen.2)
done_of (repeat number after body own turns leaves) marks done = left_of (marks number) done

-- what is done passes the test
pub of_done : {E : Type 0} (course : Course E) (marks : Marks) → Done course marks → is_done course marks ≡ true
of_done nothing marks done = refl
of_done (step number finishes stage) marks done = ap is_ended done
of_done (chain one other) marks (here, there) = and_from (is_done one marks) (is_done other marks)
    (of_done one marks here) (of_done other marks there)
of_done (beside one other) marks (here, there) = and_from (is_done one marks) (is_done other marks)
    (of_done one marks here) (of_done other marks there)
of_done (select number count own chooses bodies) marks (arm, chosen, inside) =
    ap (has_chosen (λ arm. is_done (bodies arm) marks)) chosen ∙ of_done (bodies arm) marks inside
of_done (repeat number after body own turns leaves) marks done = ap is_left done

-- a step with a finish goes on to it
next_finish : (finishes : Bool) (after : Progress) → cond finishes (Some Finished) None ≡ Some after
    → Next finishes Begun (Some finish) after
next_finish true after is = let same : Finished ≡ after = cc in
    subst (λ found. Next true Begun (Some finish) found) same (to_finished refl)
next_finish false after is = cc

-- the next point that is worked out is one
pub next_of : (finishes : Bool) (progress : Progress) (stage : Option Stage) (after : Progress)
    → next_progress finishes progress stage ≡ Some after
    → Next finishes progress stage after
next_of finishes Untouched (Some begin) after is = let same : Begun ≡ after = cc in
    subst (λ found. Next finishes Untouched (Some begin) found) same to_begun
next_of finishes Begun (Some finish) after is = next_finish finishes after is
next_of finishes Begun (Some reset) after is = let same : WasReset ≡ after = cc in
    subst (λ found. Next finishes Begun (Some reset) found) same reset_begun
next_of finishes Finished (Some reset) after is = let same : WasReset ≡ after = cc in
    subst (λ found. Next finishes Finished (Some reset) found) same reset_finished
next_of finishes WasReset (Some end) after is = let same : Ended ≡ after = cc in
    subst (λ found. Next finishes WasReset (Some end) found) same to_ended
next_of finishes progress None after is = cc
next_of finishes progress (Some begin) after is = cc
next_of finishes progress (Some finish) after is = cc
next_of finishes progress (Some reset) after is = cc
next_of finishes progress (Some end) after is = cc

-- and the next point is worked out
pub of_next : (finishes : Bool) (progress : Progress) (stage : Option Stage) (after : Progress)
    → Next finishes progress stage after
    → next_progress finishes progress stage ≡ Some after
of_next finishes progress stage after to_begun = refl
of_next finishes progress stage after (to_finished can) = ap (λ test. cond test (Some Finished) None) can
of_next finishes progress stage after reset_begun = refl
of_next finishes progress stage after reset_finished = refl
of_next finishes progress stage after to_ended = refl

-- a step that has ended stays so
pub ended_stays : (finishes : Bool) (stage : Option Stage) → next_progress finishes Ended stage ≡ None
ended_stays finishes None = refl
ended_stays finishes (Some begin) = refl
ended_stays finishes (Some finish) = refl
ended_stays finishes (Some reset) = refl
ended_stays finishes (Some end) = refl

-- a number is equal to itself
pub eqb_same : (number : ℕ) → eqb number number ≡ true
eqb_same number = eq-eqb number number refl

-- and to no other
pub eqb_other : (one other : ℕ) → one ≢ other → eqb one other ≡ false
eqb_other one other apart = false_from_ne_true (eqb one other) (λ same. apart (eqb-true one other same))

-- a mark that is put
pub put_puts : (number : ℕ) (progress : Progress) (marks : Marks)
    → Puts number progress marks (changed (Put number progress) marks)
put_puts number progress marks = (rw eqb_same refl, λ place apart. rw (eqb_other place number apart) refl)

-- marks that are cleared
pub clear_clears : (number below : ℕ) (marks : Marks) → Clears number below marks (changed (Clear number below) marks)
clear_clears number below marks = (
  λ place bound limit. rw
      (and_from (nat_lt number place) (nat_lt place below) (lt-ltb number place bound) (lt-ltb place below limit))
      refl,
  λ place bound.
      let no : nat_lt number place && nat_lt place below ≡ false
      = false_from_ne_true (nat_lt number place && nat_lt place below)
      (λ inside. bound (ltb-true number place (and_parts (nat_lt number place) (nat_lt place below) inside).0)
      (ltb-true place below (and_parts (nat_lt number place) (nat_lt place below) inside).1)) in
      rw no refl,
)

-- the change of a loop, by whether its body is done and the entry turns or leaves it
abbrev loop_change : {E : Type 0} → Course E → Marks → E → ℕ → ℕ → Bool → Bool → Bool → Option Change
loop_change body marks entry number after turned left done =
    cond done (cond turned (Some (Clear number after)) (cond left (Some (Put number Left)) None))
    (change_by body marks entry)

-- a change that is worked out leads on
pub change_moves :
    {E : Type 0} (course : Course E) (marks : Marks) (entry : E) (change : Change) → Sound course
    → change_by course marks entry ≡ Some change
    → Moves course marks entry (changed change marks)
change_moves nothing marks entry change sound is = cc
change_moves (step number finishes stage) marks entry change sound is =
    (elim (next_progress finishes (marks number) (stage entry)) as
    (λ next. next_progress finishes (marks number) (stage entry) ≡ next → put_at number next ≡ Some change
    → Moves (step number finishes stage) marks entry (changed change marks)) [
      | None ↦ λ found is. cc
      | Some progress ↦ λ found is.
          let same : Put number progress ≡ change = cc in (
            progress,
            next_of finishes (marks number) (stage entry) progress found,
            subst
                (λ change. Puts number progress marks (changed change marks)) same (put_puts number progress marks),
          )
    ]) refl is
change_moves (chain one other) marks entry change sound is =
    (elim (is_done one marks) as (λ done. is_done one marks ≡ done
    → cond done (change_by other marks entry) (change_by one marks entry) ≡ Some change
    → Moves (chain one other) marks entry (changed change marks)) [
      | true ↦ λ done is. inr (done_of one marks done, change_moves other marks entry change sound.1 is)
      | false ↦ λ done is. inl (change_moves one marks entry change sound.0 is)
    ]) refl is
change_moves (beside one other) marks entry change sound is =
    (elim (change_by one marks entry) as (λ found. change_by one marks entry ≡ found
    → either_change found (change_by other marks entry) ≡ Some change
    → Moves (beside one other) marks entry (changed change marks)) [
      | None ↦ λ same is. inr (change_moves other marks entry change sound.1 is)
      | Some change1 ↦ λ same is. inl (change_moves one marks entry change sound.0 (same ∙ is))
    ]) refl is
change_moves (select number count own chooses bodies) marks entry change sound is =
    (elim (marks number) as (λ progress. marks number ≡ progress
    → change_in_arm (choose_at number (chooses entry)) (λ arm. change_by (bodies arm) marks entry) progress
    ≡ Some change
    → Moves (select number count own chooses bodies) marks entry (changed change marks)) [
      | Untouched ↦ λ mark is.
          (elim (chooses entry) as (λ picked. chooses entry ≡ picked → choose_at number picked ≡ Some change
          → Moves (select number count own chooses bodies) marks entry (changed change marks)) [
            | None ↦ λ right is. cc
            | Some arm ↦ λ right is.
                let same : Put number (Chosen arm) ≡ change = cc in
                inl (
                  mark,
                  (
                    arm,
                    sound.2 arm entry right,
                    right,
                    subst (λ change. Puts number (Chosen arm) marks (changed change marks)) same
                        (put_puts number (Chosen arm) marks),
                  ),
                )
          ]) refl is
      | Chosen arm ↦ λ mark is.
          let move : Moves (bodies arm) marks entry (changed change marks) =
          change_moves (bodies arm) marks entry change (sound.0 arm) is in
          inr (
            arm,
            mark,
            sound.3 arm entry
                (await_of (bodies arm) marks entry (sound.0 arm)
                (move_await (bodies arm) marks entry (changed change marks) move)),
            move,
          )
      | _ ↦ λ mark is. cc
    ]) refl is
change_moves (repeat number after body own turns leaves) marks entry change sound is =
    (elim (marks number) as (λ progress. marks number ≡ progress
    → while_untouched (loop_change body marks entry number after (turns entry) (leaves entry) (is_done body marks))
    progress ≡ Some change
    → Moves (repeat number after body own turns leaves) marks entry (changed change marks)) [
      | Untouched ↦ λ mark is.
          (elim (is_done body marks) as (λ done. is_done body marks ≡ done
          → loop_change body marks entry number after (turns entry) (leaves entry) done ≡ Some change
          → Moves (repeat number after body own turns leaves) marks entry (changed change marks)) [
            | false ↦ λ done is. (mark, inl (change_moves body marks entry change sound.0 is))
            | true ↦ λ done is.
                (elim (turns entry) as (λ turned. turns entry ≡ turned
                → loop_change body marks entry number after turned (leaves entry) true ≡ Some change
                → Moves (repeat number after body own turns leaves) marks entry (changed change marks)) [
                  | true ↦ λ turned is.
                      let same : Clear number after ≡ change = cc in (
                        mark,
                        inr (inl (
                          done_of body marks done,
                          turned,
                          subst (λ change. Clears number after marks (changed change marks)) same
                              (clear_clears number after marks),
                        )),
                      )
                  | false ↦ λ turned is.
                      (elim (leaves entry) as (λ left. leaves entry ≡ left
                      → loop_change body marks entry number after false left true ≡ Some change
                      → Moves (repeat number after body own turns leaves) marks entry (changed change marks)) [
                        | true ↦ λ left is.
                            let same : Put number Left ≡ change = cc in (
                              mark,
                              inr (inr (
                                done_of body marks done,
                                left,
                                subst (λ change. Puts number Left marks (changed change marks)) same
                                    (put_puts number Left marks),
                              )),
                            )
                        | false ↦ λ left is. cc
                      ]) refl is
                ]) refl is
          ]) refl is
      | _ ↦ λ mark is. cc
    ]) refl is

-- an awaited entry has a target
pub await_change : {E : Type 0} (course : Course E) (marks : Marks) (entry : E) → Sound course
    → Awaits course marks entry
    → (change : Change) × (change_by course marks entry ≡ Some change)
await_change nothing marks entry sound awaits = absurd awaits
await_change (step number finishes stage) marks entry sound (progress, next) =
    (Put number progress, ap (put_at number) (of_next finishes (marks number) (stage entry) progress next))
await_change (chain one other) marks entry sound (inl awaits) =
    let found = await_change one marks entry sound.0 awaits in
    let no : is_done one marks ≡ false = false_from_ne_true (is_done one marks)
    (λ ended. done_no_await one marks entry (done_of one marks ended) awaits) in
    (found.0, rw no found.1)
await_change (chain one other) marks entry sound (inr (done, awaits)) =
    let found = await_change other marks entry sound.1 awaits in (found.0, rw (of_done one marks done) found.1)
await_change (beside one other) marks entry sound (inl awaits) =
    let found = await_change one marks entry sound.0 awaits in (found.0, rw found.1 refl)
await_change (beside one other) marks entry sound (inr awaits) =
    let found = await_change other marks entry sound.1 awaits in
    elim (change_by one marks entry) as (λ found1. (change : Change)
    × (either_change found1 (change_by other marks entry) ≡ Some change)) [
      | None ↦ (found.0, found.1)
      | Some change ↦ (change, refl)
    ]
await_change (select number count own chooses bodies) marks entry sound (inl (mark, (arm, below, right))) =
    (Put number (Chosen arm), rw (mark, right) refl)
await_change (select number count own chooses bodies) marks entry sound (inr (arm, mark, below, awaits)) =
    let found = await_change (bodies arm) marks entry (sound.0 arm) awaits in (found.0, rw mark found.1)
await_change (repeat number after body own turns leaves) marks entry sound (mark, inl awaits) =
    let found = await_change body marks entry sound.0 awaits in
    let no : is_done body marks ≡ false = false_from_ne_true (is_done body marks)
    (λ ended. done_no_await body marks entry (done_of body marks ended) awaits) in
    (found.0, rw (mark, no) found.1)
await_change (repeat number after body own turns leaves) marks entry sound (mark, inr (inl (done, right))) =
    (Clear number after, rw (mark, of_done body marks done, right) refl)
await_change (repeat number after body own turns leaves) marks entry sound (mark, inr (inr (done, right))) =
    let no : turns entry ≡ false = false_from_ne_true (turns entry) (λ turned. sound.5 entry turned right) in
    (Put number Left, rw (mark, of_done body marks done, no, right) refl)
