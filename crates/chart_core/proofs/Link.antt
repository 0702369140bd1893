-- What is kept against the words that it stands for.
use Rattle.std.specs.Prelude.{ℕ, ◌≡◌, ◌<◌, Bool, true, false, List, [], ◌∷◌, ◌++◌, map, Option, Some, is_some, ◌⊎◌, zero, suc, refl}
use Rattle.std.proofs.Common.{sym, ◌∙◌, ap, subst, inl, inr, arith, append_assoc}
use Rattle.std.specs.List.{filter}
use Rattle.std.proofs.lemmas.List.{append-nil}
use Rattle.std.proofs.lemmas.List.Elements.{filter-append}
use Rattle.std.proofs.lemmas.Bool.{or_left, or_right}
use Rattle.chart_core.specs.Entries.{Stage, begin, finish, reset, end}
use Rattle.chart_core.specs.Courses.{Course, nothing, step, chain, beside, select, repeat, is_of, any_below, All, StepRun, Rounds, last, round, Closing, Complete, Partial}
use Rattle.chart_core.specs.declared.progress.Progress.{Progress}
use Rattle.chart_core.specs.declared.progress.Progress.TheVariants.{Untouched, Begun, Finished, WasReset, Ended}
use Rattle.chart_core.specs.Progress.{Marks, Has, Fresh, Done, Had, had_nothing, had_begin, had_finish, had_reset, had_both, had_end, had_all, Stands}
use Rattle.chart_core.proofs.Relations.{Next, to_begun, to_finished, reset_begun, reset_finished, to_ended, Moves, Awaits, Sound}
use Rattle.chart_core.proofs.Cuts.{All_append, All_mono}

-- Laps

-- what follows for each lap and for the ending, follows for the rounds
pub rounds_map :
    {E : Type 0} (Body NewBody : List E → Type 0) (turns : E → Bool) (Before After : List E → Type 0)
    → ((word : List E) → Body word → NewBody word) → ((word : List E) → Before word → After word)
    → (word : List E) → Rounds Body turns Before word → Rounds NewBody turns After word
rounds_map Body NewBody turns Before After bodies ends word (last ending) = last (ends word ending)
rounds_map Body NewBody turns Before After bodies ends word (round front entry back cut body turned others) =
    round front entry back cut (bodies front body) turned
    (rounds_map Body NewBody turns Before After bodies ends back others)

-- Steps

-- what a step has had, goes on to a run of it
pub had_run : (finishes : Bool) (progress : Progress) (stages : List (Option Stage)) → Had finishes progress stages
    → (others : List (Option Stage)) × StepRun finishes (stages ++ others)
had_run finishes progress stages had_nothing = (Some begin ∷ Some reset ∷ Some end ∷ [], inl refl)
had_run finishes progress stages had_begin = (Some reset ∷ Some end ∷ [], inl refl)
had_run finishes progress stages (had_finish has) = (Some reset ∷ Some end ∷ [], inr (has, refl))
had_run finishes progress stages had_reset = (Some end ∷ [], inl refl)
had_run finishes progress stages (had_both has) = (Some end ∷ [], inr (has, refl))
had_run finishes progress stages had_end = ([], inl refl)
had_run finishes progress stages (had_all has) = ([], inr (has, refl))

-- what an ended step has had is a run of it
pub had_whole : (finishes : Bool) (progress : Progress) (stages : List (Option Stage)) → Had finishes progress stages
    → progress ≡ Ended → StepRun finishes stages
had_whole finishes progress stages had_nothing has = cc
had_whole finishes progress stages had_begin has = cc
had_whole finishes progress stages (had_finish can) has = cc
had_whole finishes progress stages had_reset has = cc
had_whole finishes progress stages (had_both can) has = cc
had_whole finishes progress stages had_end has = inl refl
had_whole finishes progress stages (had_all can) has = inr (can, refl)

-- a step that has had a whole run is ended
pub had_ended : (finishes : Bool) (progress : Progress) (stages : List (Option Stage)) → Had finishes progress stages
    → StepRun finishes stages → progress ≡ Ended
had_ended finishes progress stages had_nothing (inl has) = cc
had_ended finishes progress stages had_nothing (inr (can, has)) = cc
had_ended finishes progress stages had_begin (inl has) = cc
had_ended finishes progress stages had_begin (inr (can, has)) = cc
had_ended finishes progress stages (had_finish could) (inl has) = cc
had_ended finishes progress stages (had_finish could) (inr (can, has)) = cc
had_ended finishes progress stages had_reset (inl has) = cc
had_ended finishes progress stages had_reset (inr (can, has)) = cc
had_ended finishes progress stages (had_both could) (inl has) = cc
had_ended finishes progress stages (had_both could) (inr (can, has)) = cc
had_ended finishes progress stages had_end has = refl
had_ended finishes progress stages (had_all could) has = refl

-- a step that goes on has had one stage more
pub had_next : (finishes : Bool) (progress : Progress) (stages : List (Option Stage)) (stage : Option Stage)
    (after : Progress) → Had finishes progress stages
    → Next finishes progress stage after → Had finishes after (stages ++ (stage ∷ []))
had_next finishes progress stages stage after had_nothing to_begun = had_begin
had_next finishes progress stages stage after had_begin (to_finished has) = had_finish has
had_next finishes progress stages stage after had_begin reset_begun = had_reset
had_next finishes progress stages stage after (had_finish has) reset_finished = had_both has
had_next finishes progress stages stage after had_reset to_ended = had_end
had_next finishes progress stages stage after (had_both has) to_ended = had_all has
had_next finishes progress stages stage after had_end next = elim next [ ]
had_next finishes progress stages stage after (had_all has) next = elim next [ ]

-- a stage that goes on with a run of the step has a next point
pub had_awaits :
    (finishes : Bool) (progress : Progress) (stages : List (Option Stage)) (stage : Option Stage)
    (others : List (Option Stage)) → Had finishes progress stages
    → StepRun finishes ((stages ++ (stage ∷ [])) ++ others) → (after : Progress) × Next finishes progress stage after
had_awaits finishes progress stages stage others had_nothing (inl has) = let same : Some begin ≡ stage = cc in
    (Begun, subst (λ asked. Next finishes Untouched asked Begun) same to_begun)
had_awaits finishes progress stages stage others had_nothing (inr (can, has)) = let same : Some begin ≡ stage = cc in
    (Begun, subst (λ asked. Next finishes Untouched asked Begun) same to_begun)
had_awaits finishes progress stages stage others had_begin (inl has) = let same : Some reset ≡ stage = cc in
    (WasReset, subst (λ asked. Next finishes Begun asked WasReset) same reset_begun)
had_awaits finishes progress stages stage others had_begin (inr (can, has)) = let same : Some finish ≡ stage = cc in
    (Finished, subst (λ asked. Next finishes Begun asked Finished) same (to_finished can))
had_awaits finishes progress stages stage others (had_finish could) (inl has) = cc
had_awaits finishes progress stages stage others (had_finish could) (inr (can, has)) = let same : Some reset ≡ stage =
    cc in
    (WasReset, subst (λ asked. Next finishes Finished asked WasReset) same reset_finished)
had_awaits finishes progress stages stage others had_reset (inl has) = let same : Some end ≡ stage = cc in
    (Ended, subst (λ asked. Next finishes WasReset asked Ended) same to_ended)
had_awaits finishes progress stages stage others had_reset (inr (can, has)) = cc
had_awaits finishes progress stages stage others (had_both could) (inl has) = cc
had_awaits finishes progress stages stage others (had_both could) (inr (can, has)) = let same : Some end ≡ stage = cc in
    (Ended, subst (λ asked. Next finishes WasReset asked Ended) same to_ended)
had_awaits finishes progress stages stage others had_end (inl has) = cc
had_awaits finishes progress stages stage others had_end (inr (can, has)) = cc
had_awaits finishes progress stages stage others (had_all could) (inl has) = cc
had_awaits finishes progress stages stage others (had_all could) (inr (can, has)) = cc

-- Frames

-- marks that agree on a course have it done alike
pub agree_done :
    {E : Type 0} (course : Course E) (marks later : Marks)
    → ((place : ℕ) → Has course place → later place ≡ marks place) → Sound course → Done course marks
    → Done course later
agree_done nothing marks later agree sound done = tt
agree_done (step number finishes stage) marks later agree sound done = agree number refl ∙ done
agree_done (chain one other) marks later agree sound done = (
  agree_done one marks later (λ place has. agree place (inl has)) sound.0 done.0,
  agree_done other marks later
      (λ place has. agree place (inr has)) sound.1 done.1,
)
agree_done (beside one other) marks later agree sound done = (
  agree_done one marks later (λ place has. agree place (inl has)) sound.0 done.0,
  agree_done other marks later
      (λ place has. agree place (inr has)) sound.1 done.1,
)
agree_done (select number count own chooses bodies) marks later agree sound (arm, chosen, done) = (
  arm,
  agree number (inl refl) ∙ chosen,
  agree_done (bodies arm) marks later
      (λ place has. agree place (inr (arm, has))) (sound.0 arm) done,
)
agree_done (repeat number after body own turns leaves) marks later agree sound done =
    agree number (omega arith, sound.1) ∙ done

-- and fresh alike
pub agree_fresh :
    {E : Type 0} (course : Course E) (marks later : Marks)
    → ((place : ℕ) → Has course place → later place ≡ marks place) → Fresh course marks → Fresh course later
agree_fresh course marks later agree fresh place has = agree place has ∙ fresh place has

-- and stand for the same words
pub agree_stands :
    {E : Type 0} (course : Course E) (marks later : Marks) (word : List E)
    → ((place : ℕ) → Has course place → later place ≡ marks place) → Sound course
    → Stands course marks word → Stands course later word
agree_stands nothing marks later word agree sound stands = stands
agree_stands (step number finishes stage) marks later word agree sound stands =
    subst (λ mark. Had finishes mark (map stage word)) (sym (agree number refl)) stands
agree_stands (chain one other) marks later word agree sound (inl (stands, fresh)) =
    inl (
      agree_stands one marks later word (λ place has. agree place (inl has)) sound.0 stands,
      agree_fresh other marks
          later (λ place has. agree place (inr has)) fresh,
    )
agree_stands (chain one other) marks later word agree sound (inr (front, back, cut, done, here, there)) =
    inr (
      front,
      back,
      cut,
      agree_done one marks later (λ place has. agree place (inl has)) sound.0 done,
      agree_stands one marks later front (λ place has. agree place (inl has)) sound.0 here,
      agree_stands other marks later back (λ place has. agree place (inr has)) sound.1 there,
    )
agree_stands (beside one other) marks later word agree sound (all, here, there) = (
  all,
  agree_stands one marks later (filter (is_of one) word) (λ place has. agree place (inl has)) sound.0 here,
  agree_stands other marks later (filter (is_of other) word) (λ place has. agree place (inr has)) sound.1 there,
)
agree_stands (select n count o c k) f g w h s (inl (e, d, r)) =
    inl (h n (inl refl) ∙ e, d, λ a. agree_fresh (k a) f g (λ i l. h i (inr (a, l))) (r a))
agree_stands (select n count o c k) f g w h s (inr (a, e, v, q, l, m, at, d)) =
    inr (a, e, v, q, l, m, h n (inl refl) ∙ at, agree_stands (k a) f g v (λ i z. h i (inr (a, z))) (s.0 a) d)
agree_stands (repeat n after k o tu le) f g w h s (inl (e, d)) =
    inl (
      h n (omega arith, s.1) ∙ e,
      rounds_map (Complete k) (Complete k) tu (Stands k f) (Stands k g) (λ u x. x)
          (λ u x. agree_stands k f g u (λ i l. h i (let r = s.2 i l in omega arith, (s.2 i l).1)) s.0 x) w d,
    )
agree_stands (repeat n after k o tu le) f g w h s (inr (e, d)) = inr (h n (omega arith, s.1) ∙ e, d)

-- a move touches the plan's own places alone
pub move_frame :
    {E : Type 0} (course : Course E) (marks : Marks) (entry : E) (later : Marks) → Sound course
    → Moves course marks entry later → (place : ℕ)
    → (Has course place → ⊥) → later place ≡ marks place
move_frame nothing marks entry later sound move place outside = absurd move
move_frame (step number finishes stage) marks entry later sound (progress, next, puts) place outside =
    puts.1 place outside
move_frame (chain one other) marks entry later sound (inl move) place outside =
    move_frame one marks entry later sound.0 move place (λ has. outside (inl has))
move_frame (chain one other) marks entry later sound (inr move) place outside =
    move_frame other marks entry later sound.1 move.1 place (λ has. outside (inr has))
move_frame (beside one other) marks entry later sound (inl move) place outside =
    move_frame one marks entry later sound.0 move place (λ has. outside (inl has))
move_frame (beside one other) marks entry later sound (inr move) place outside =
    move_frame other marks entry later sound.1 move place (λ has. outside (inr has))
move_frame (select number count own chooses bodies) marks entry later sound
    (inl (mark, (arm, below, right, puts))) place outside = puts.1 place (λ has. outside (inl has))
move_frame (select number count own chooses bodies) marks entry later sound
    (inr (arm, mark, below, move)) place outside =
    move_frame (bodies arm) marks entry later (sound.0 arm) move place (λ has. outside (inr (arm, has)))
move_frame (repeat number after body own turns leaves) marks entry later sound (mark, inl move) place outside =
    move_frame body marks entry later sound.0 move place
    (λ has. outside (let range = sound.2 place has in omega arith, (sound.2 place has).1))
move_frame (repeat number after body own turns leaves) marks entry later sound
    (mark, inr (inl (done, right, clears))) place outside = clears.1 place (λ above under. outside (omega arith, under))
move_frame (repeat number after body own turns leaves) marks entry later sound
    (mark, inr (inr (done, right, clears))) place outside =
    clears.1 place (λ has. outside (omega arith, let order : number < after = sound.1 in omega arith))

-- Wholes, parts and what is kept

-- fresh marks stand for the empty word
pub fresh_stands : {E : Type 0} (course : Course E) (marks : Marks) → Sound course → Fresh course marks
    → Stands course marks []
fresh_stands nothing marks sound fresh = refl
fresh_stands (step number finishes stage) marks sound fresh =
    subst (λ mark. Had finishes mark []) (sym (fresh number refl)) had_nothing
fresh_stands (chain one other) marks sound fresh =
    inl (fresh_stands one marks sound.0 (λ place has. fresh place (inl has)), λ place has. fresh place (inr has))
fresh_stands (beside one other) marks sound fresh = (
  tt,
  fresh_stands one marks sound.0 (λ place has. fresh place (inl has)),
  fresh_stands other marks sound.1
      (λ place has. fresh place (inr has)),
)
fresh_stands (select number count own chooses bodies) marks sound fresh =
    inl (fresh number (inl refl), refl, λ arm place has. fresh place (inr (arm, has)))
fresh_stands (repeat number after body own turns leaves) marks sound fresh =
    inl (
      fresh number (omega arith, sound.1),
      last
          (fresh_stands body marks sound.0
          (λ place has. fresh place (let range = sound.2 place has in omega arith, (sound.2 place has).1))),
    )

-- a complete run is a partial one
pub complete_partial : {E : Type 0} (course : Course E) (word : List E) → Complete course word → Partial course word
complete_partial nothing word whole = whole
complete_partial (step number finishes stage) word whole = ([], rw append-nil whole)
complete_partial (chain one other) word (front, back, cut, here, there) =
    inr (front, back, cut, here, complete_partial other back there)
complete_partial (beside one other) word (all, here, there) = (
  all,
  complete_partial one (filter (is_of one) word) here,
  complete_partial other
      (filter (is_of other) word) there,
)
complete_partial (select n count o c k) w (a, e, v, q, l, m, x) = inr (a, e, v, q, l, m, complete_partial (k a) v x)
complete_partial (repeat n after k o tu le) w h =
    rounds_map (Complete k) (Complete k) tu (Closing (Complete k) le) (λ v. Partial k v ⊎ Closing (Complete k) le v)
    (λ u x. x) (λ u x. inr x) w h

-- what is done has had a complete run
pub done_complete : {E : Type 0} (course : Course E) (marks : Marks) (word : List E) → Sound course
    → Stands course marks word
    → Done course marks → Complete course word
done_complete nothing marks word sound stands done = stands
done_complete (step number finishes stage) marks word sound stands done =
    had_whole finishes (marks number) (map stage word) stands done
done_complete (chain one other) marks word sound (inl (stands, fresh)) (done, ended) = (
  word,
  [],
  sym (append-nil word),
  done_complete one marks word sound.0 stands done,
  done_complete other marks []
      sound.1 (fresh_stands other marks sound.1 fresh) ended,
)
done_complete (chain one other) marks word sound (inr (front, back, cut, done, here, there)) (again, ended) = (
  front,
  back,
  cut,
  done_complete one marks front sound.0 here done,
  done_complete other marks back sound.1 there
      ended,
)
done_complete (beside one other) marks word sound (all, here, there) (done, ended) = (
  all,
  done_complete one marks (filter (is_of one) word) sound.0 here done,
  done_complete other marks
      (filter (is_of other) word) sound.1 there ended,
)
done_complete (select number count own chooses bodies) marks word sound (inl (mark, none, fresh)) (arm, chosen, done) =
    cc
done_complete (select number count own chooses bodies) marks word sound
    (inr (arm, entry, back, cut, below, right, mark, stands)) (other, chosen, done) =
    let same : other ≡ arm = cc in (
      arm,
      entry,
      back,
      cut,
      below,
      right,
      done_complete (bodies arm) marks back (sound.0 arm) stands
          (subst (λ each. Done (bodies each) marks) same done),
    )
done_complete (repeat number after body own turns leaves) marks word sound (inl (mark, rounds)) done = cc
done_complete (repeat number after body own turns leaves) marks word sound (inr (mark, rounds)) done = rounds

-- what marks stand for is a partial run
pub stands_partial : {E : Type 0} (course : Course E) (marks : Marks) (word : List E) → Sound course
    → Stands course marks word → Partial course word
stands_partial nothing marks word sound stands = stands
stands_partial (step number finishes stage) marks word sound stands =
    had_run finishes (marks number) (map stage word) stands
stands_partial (chain one other) marks word sound (inl (stands, fresh)) =
    inl (stands_partial one marks word sound.0 stands)
stands_partial (chain one other) marks word sound (inr (front, back, cut, done, here, there)) = inr
    (front, back, cut, done_complete one marks front sound.0 here done, stands_partial other marks back sound.1 there)
stands_partial (beside one other) marks word sound (all, here, there) = (
  all,
  stands_partial one marks (filter (is_of one) word) sound.0 here,
  stands_partial other marks
      (filter (is_of other) word) sound.1 there,
)
stands_partial (select n count o c k) f w s (inl (x, e, r)) = inl e
stands_partial (select n count o c k) f w s (inr (a, e, v, q, l, m, x, y)) =
    inr (a, e, v, q, l, m, stands_partial (k a) f v (s.0 a) y)
stands_partial (repeat n after k o tu le) f w s (inl (x, y)) =
    rounds_map (Complete k) (Complete k) tu (Stands k f) (λ v. Partial k v ⊎ Closing (Complete k) le v) (λ u z. z)
    (λ u z. inl (stands_partial k f u s.0 z)) w y
stands_partial (repeat n after k o tu le) f w s (inr (x, y)) =
    rounds_map (Complete k) (Complete k) tu (Closing (Complete k) le) (λ v. Partial k v ⊎ Closing (Complete k) le v)
    (λ u z. z) (λ u z. inr z) w y

-- Every entry of a part is of the plan.

-- where all stages are there, each entry is of the step
pub all_staged :
    {E : Type 0} (stage : E → Option Stage) (word : List E) (others stages : List (Option Stage))
    → All is_some stages → map stage word ++ others ≡ stages → All (λ entry. is_some (stage entry)) word
all_staged stage [] others stages all cut = tt
all_staged stage (entry ∷ word) others [] all cut = cc
all_staged stage (entry ∷ word) others (first ∷ stages) (staged, all) cut =
    let heads : stage entry ≡ first = cc in
    let tails : map stage word ++ others ≡ stages = cc in
    (ap is_some heads ∙ staged, all_staged stage word others stages all tails)

-- what is below the next number is below this one or is this one
pub below_or_at : (one other : ℕ) → one < suc other → (one < other) ⊎ (one ≡ other)
below_or_at one other below = grind arith

-- where one number below passes, some number does
pub any_at : (count : ℕ) (test : ℕ → Bool) (number : ℕ) → number < count → test number ≡ true
    → any_below count test ≡ true
any_at zero test number below holds = absurd (omega arith)
any_at (suc count) test number below holds =
    elim (below_or_at number count below) [
      | inl lower ↦ or_right (test count) (any_below count test) (any_at count test number lower holds)
      | inr same ↦ or_left (test count) (any_below count test) (ap test (sym same) ∙ holds)
    ]

-- where each lap and the ending pass, all rounds pass
pub rounds_of :
    {E : Type 0} (one test : E → Bool) (Body : List E → Type 0) (turns : E → Bool) (Last : List E → Type 0)
    → ((word : List E) → Body word → All test word) → ((entry : E) → turns entry ≡ true → test entry ≡ true)
    → ((word : List E) → Last word → All test word)
    → (word : List E) → Rounds Body turns Last word → All test word
rounds_of one test Body turns Last body turned closed word (last ending) = closed word ending
rounds_of one test Body turns Last body turned closed word (round front entry back cut run rightly others) =
    subst (All test) (sym cut)
    (All_append test front (entry ∷ back) (body front run)
    (turned entry rightly, rounds_of one test Body turns Last body turned closed back others))

-- every entry of a partial run is of the course, whether it decides rightly or not
pub partial_of : {E : Type 0} (course : Course E) (word : List E) → Sound course → Partial course word
    → All (is_of course) word
partial_of nothing word sound part = subst (All (is_of nothing)) (sym part) tt
partial_of (step number finishes stage) word sound (others, inl cut) =
    all_staged stage word others _ (refl, (refl, (refl, tt))) cut
partial_of (step number finishes stage) word sound (others, inr (can, cut)) =
    all_staged stage word others _ (refl, (refl, (refl, (refl, tt)))) cut
partial_of (chain one other) word sound (inl part) = All_mono (is_of one) (is_of (chain one other)) word
    (λ entry. or_left (is_of one entry) (is_of other entry))
    (partial_of one word sound.0 part)
partial_of (chain one other) word sound (inr (front, back, cut, here, there)) =
    subst (All (is_of (chain one other))) (sym cut)
    (All_append (is_of (chain one other)) front back
    (All_mono (is_of one) (is_of (chain one other)) front (λ entry. or_left (is_of one entry) (is_of other entry))
    (partial_of one front sound.0 (complete_partial one front here)))
    (All_mono (is_of other) (is_of (chain one other)) back (λ entry. or_right (is_of one entry) (is_of other entry))
    (partial_of other back sound.1 there)))
partial_of (beside one other) word sound (all, here, there) = all
partial_of (select number count own chooses bodies) word sound (inl none) =
    subst (All (is_of (select number count own chooses bodies))) (sym none) tt
partial_of (select number count own chooses bodies) word sound (inr (arm, first, back, cut, below, right, run)) =
    subst (All (is_of (select number count own chooses bodies))) (sym cut) (
      or_left (own first) (any_below count (λ each. is_of (bodies each) first)) (sound.4 arm first right),
      All_mono (is_of (bodies arm)) (is_of (select number count own chooses bodies)) back
          (λ entry own_entry. or_right (own entry) (any_below count (λ each. is_of (bodies each) entry))
          (any_at count (λ each. is_of (bodies each) entry) arm below own_entry))
          (partial_of (bodies arm) back (sound.0 arm) run),
    )
partial_of (repeat number after body own turns leaves) word sound part =
    let inside : (entry : _) → is_of body entry ≡ true → is_of (repeat number after body own turns leaves) entry
    ≡ true =
    λ entry is. or_right (own entry) (is_of body entry) is in
    let whole : (front : List _) → Complete body front → All (is_of (repeat number after body own turns leaves)) front
    = λ front run. All_mono (is_of body) (is_of (repeat number after body own turns leaves)) front inside
    (partial_of body front sound.0 (complete_partial body front run)) in
    rounds_of (is_of body) (is_of (repeat number after body own turns leaves)) (Complete body) turns
    (λ rest. Partial body rest ⊎ Closing (Complete body) leaves rest) whole
    (λ entry is. or_left (own entry) (is_of body entry) (sound.6 entry is))
    (λ rest is. elim is [
      | inl run ↦ All_mono (is_of body) (is_of (repeat number after body own turns leaves)) rest inside
          (partial_of body rest sound.0 run)
      | inr (front, final, cut, run, rightly) ↦
          subst (All (is_of (repeat number after body own turns leaves))) (sym cut)
          (All_append (is_of (repeat number after body own turns leaves)) front (final ∷ []) (whole front run)
          (or_left (own final) (is_of body final) (sound.7 final rightly), tt))
    ]) word part

-- every entry of a word that marks stand for is of the course
pub stands_of : {E : Type 0} (course : Course E) (marks : Marks) (word : List E) → Sound course
    → Stands course marks word → All (is_of course) word
stands_of course marks word sound stands = partial_of course word sound (stands_partial course marks word sound stands)

-- One more entry

-- an entry that leads on is awaited
pub move_await : {E : Type 0} (course : Course E) (marks : Marks) (entry : E) (later : Marks)
    → Moves course marks entry later → Awaits course marks entry
move_await nothing marks entry later move = move
move_await (step number finishes stage) marks entry later (progress, next, puts) = (progress, next)
move_await (chain one other) marks entry later (inl move) = inl (move_await one marks entry later move)
move_await (chain one other) marks entry later (inr move) = inr (move.0, move_await other marks entry later move.1)
move_await (beside one other) marks entry later (inl move) = inl (move_await one marks entry later move)
move_await (beside one other) marks entry later (inr move) = inr (move_await other marks entry later move)
move_await (select number count own chooses bodies) marks entry later (inl (mark, (arm, below, right, changed))) =
    inl (mark, (arm, below, right))
move_await (select number count own chooses bodies) marks entry later (inr (arm, mark, below, move)) =
    inr (arm, mark, below, move_await (bodies arm) marks entry later move)
move_await (repeat number after body own turns leaves) marks entry later (mark, inl move) =
    (mark, inl (move_await body marks entry later move))
move_await (repeat number after body own turns leaves) marks entry later (mark, inr (inl (done, right, changed))) =
    (mark, inr (inl (done, right)))
move_await (repeat number after body own turns leaves) marks entry later (mark, inr (inr (done, right, changed))) =
    (mark, inr (inr (done, right)))

-- only a stage leads a step on
pub next_staged : (finishes : Bool) (progress : Progress) (stage : Option Stage) (after : Progress)
    → Next finishes progress stage after → is_some stage ≡ true
next_staged finishes progress stage after to_begun = refl
next_staged finishes progress stage after (to_finished has) = refl
next_staged finishes progress stage after reset_begun = refl
next_staged finishes progress stage after reset_finished = refl
next_staged finishes progress stage after to_ended = refl

-- and never an ended one
pub next_not_ended : (finishes : Bool) (progress : Progress) (stage : Option Stage) (after : Progress)
    → Next finishes progress stage after → progress ≡ Ended → ⊥
next_not_ended finishes progress stage after to_begun ended = cc
next_not_ended finishes progress stage after (to_finished can) ended = cc
next_not_ended finishes progress stage after reset_begun ended = cc
next_not_ended finishes progress stage after reset_finished ended = cc
next_not_ended finishes progress stage after to_ended ended = cc

-- an awaited entry is of the course
pub await_of : {E : Type 0} (course : Course E) (marks : Marks) (entry : E) → Sound course → Awaits course marks entry
    → is_of course entry ≡ true
await_of nothing marks entry sound awaits = absurd awaits
await_of (step number finishes stage) marks entry sound (progress, next) =
    next_staged finishes (marks number) (stage entry) progress next
await_of (chain one other) marks entry sound (inl awaits) =
    or_left (is_of one entry) (is_of other entry) (await_of one marks entry sound.0 awaits)
await_of (chain one other) marks entry sound (inr awaits) =
    or_right (is_of one entry) (is_of other entry) (await_of other marks entry sound.1 awaits.1)
await_of (beside one other) marks entry sound (inl awaits) =
    or_left (is_of one entry) (is_of other entry) (await_of one marks entry sound.0 awaits)
await_of (beside one other) marks entry sound (inr awaits) =
    or_right (is_of one entry) (is_of other entry) (await_of other marks entry sound.1 awaits)
await_of (select number count own chooses bodies) marks entry sound (inl (mark, (arm, below, right))) =
    or_left (own entry) (any_below count (λ each. is_of (bodies each) entry)) (sound.4 arm entry right)
await_of (select number count own chooses bodies) marks entry sound (inr (arm, mark, below, awaits)) =
    or_right (own entry) (any_below count (λ each. is_of (bodies each) entry))
    (any_at count (λ each. is_of (bodies each) entry) arm below
    (await_of (bodies arm) marks entry (sound.0 arm) awaits))
await_of (repeat number after body own turns leaves) marks entry sound (mark, inl awaits) =
    or_right (own entry) (is_of body entry) (await_of body marks entry sound.0 awaits)
await_of (repeat number after body own turns leaves) marks entry sound (mark, inr (inl (done, right))) =
    or_left (own entry) (is_of body entry) (sound.6 entry right)
await_of (repeat number after body own turns leaves) marks entry sound (mark, inr (inr (done, right))) =
    or_left (own entry) (is_of body entry) (sound.7 entry right)

-- what is done awaits nothing
pub done_no_await : {E : Type 0} (course : Course E) (marks : Marks) (entry : E) → Done course marks
    → Awaits course marks entry → ⊥
done_no_await nothing marks entry done awaits = awaits
done_no_await (step number finishes stage) marks entry done (progress, next) =
    next_not_ended finishes (marks number) (stage entry) progress next done
done_no_await (chain one other) marks entry done (inl awaits) = done_no_await one marks entry done.0 awaits
done_no_await (chain one other) marks entry done (inr awaits) = done_no_await other marks entry done.1 awaits.1
done_no_await (beside one other) marks entry done (inl awaits) = done_no_await one marks entry done.0 awaits
done_no_await (beside one other) marks entry done (inr awaits) = done_no_await other marks entry done.1 awaits
done_no_await (select number count own chooses bodies) marks entry (arm, mark, done) (inl (untouched, awaits)) = cc
done_no_await (select number count own chooses bodies) marks entry (arm, mark, done)
    (inr (other, chosen, below, awaits)) =
    let same : arm ≡ other = cc in done_no_await (bodies other) marks entry
    (subst (λ each. Done (bodies each) marks) same done) awaits
done_no_await (repeat number after body own turns leaves) marks entry done (mark, awaits) = cc

-- a last entry that passes stays
pub filter_in :
    {E : Type 0} (test : E → Bool) (word : List E) (entry : E) → test entry ≡ true
    → filter test (word ++ (entry ∷ [])) ≡ filter test word ++ (entry ∷ [])
filter_in test word entry tested = rw (filter-append, tested) refl

-- one that does not pass goes
pub filter_out :
    {E : Type 0} (test : E → Bool) (word : List E) (entry : E) → test entry ≡ false
    → filter test (word ++ (entry ∷ [])) ≡ filter test word
filter_out test word entry tested = rw (filter-append, tested) (append-nil (filter test word))

-- an entry behind the ending lengthens it
pub rounds_snoc :
    {E : Type 0} (Body : List E → Type 0) (turns : E → Bool) (Before After : List E → Type 0) (added : List E)
    → ((back : List E) → Before back → After (back ++ added)) → (word : List E) → Rounds Body turns Before word
    → Rounds Body turns After (word ++ added)
rounds_snoc Body turns Before After added close word (last ending) = last (close word ending)
rounds_snoc Body turns Before After added close word (round front entry back cut body turned others) =
    round front entry (back ++ added) (ap (λ text. text ++ added) cut ∙ append_assoc front (entry ∷ back) added) body
    turned (rounds_snoc Body turns Before After added close back others)

-- behind a whole lap an entry turns the loop
pub rounds_turn :
    {E : Type 0} (Body : List E → Type 0) (turns : E → Bool) (Before After : List E → Type 0) (entry : E)
    → ((back : List E) → Before back → Body back) → turns entry ≡ true → After [] → (word : List E)
    → Rounds Body turns Before word
    → Rounds Body turns After (word ++ (entry ∷ []))
rounds_turn Body turns Before After entry whole right none word (last ending) =
    round word entry [] refl (whole word ending) right (last none)
rounds_turn Body turns Before After entry whole right none word (round front other back cut body turned others) =
    round front other (back ++ (entry ∷ [])) (ap (λ text. text ++ (entry ∷ [])) cut
    ∙ append_assoc front (other ∷ back) (entry ∷ [])) body turned
    (rounds_turn Body turns Before After entry whole right none back others)
