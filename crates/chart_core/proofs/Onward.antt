-- The link: what is kept after one more entry, and which entries may come.
use Rattle.std.specs.Prelude.{ℕ, ◌≡◌, Bool, true, false, List, [], ◌∷◌, ◌++◌, map, ◌⊎◌, refl}
use Rattle.std.proofs.Common.{sym, ◌∙◌, ap, subst, inl, inr, arith, append_assoc}
use Rattle.std.specs.List.{filter}
use Rattle.std.proofs.lemmas.List.{append-nil, map-append}
use Rattle.std.proofs.lemmas.Bool.{false_from_ne_true, or_cases, or_left, or_right}
use Rattle.chart_core.specs.Courses.{Course, nothing, step, chain, beside, select, repeat, is_of, All, StepRun, Rounds, last, round, Closing, Complete, Partial}
use Rattle.chart_core.specs.Progress.{Marks, Has, Done, Had, Stands}
use Rattle.chart_core.proofs.Relations.{Moves, Awaits, Sound}
use Rattle.chart_core.proofs.Cuts.{All_append, All_front, All_back, snoc_not_nil, snoc_same, none_both, cut_unique, turn_unique, snoc_cut}
use Rattle.chart_core.proofs.Link.{had_ended, had_next, had_awaits, agree_done, agree_fresh, agree_stands, move_frame, fresh_stands, complete_partial, done_complete, stands_partial, partial_of, stands_of, move_await, await_of, done_no_await, filter_in, filter_out, rounds_snoc, rounds_turn}

-- An awaited entry: what is kept then stands for the longer word.
pub take_stands :
    {E : Type 0} (course : Course E) (marks : Marks) (word : List E) (entry : E) (later : Marks)
    → Sound course → Stands course marks word → Moves course marks entry later
    → Stands course later (word ++ (entry ∷ []))
take_stands nothing marks word entry later sound stands move = absurd move
take_stands (step number finishes stage) marks word entry later sound stands (progress, next, puts) =
    let had : Had finishes progress (map stage word ++ (stage entry ∷ [])) =
    had_next finishes (marks number) (map stage word) (stage entry) progress stands next in
    let at : Had finishes (later number) (map stage word ++ (stage entry ∷ [])) =
    subst (λ mark. Had finishes mark (map stage word ++ (stage entry ∷ []))) (sym puts.0) had in
    rw map-append at
take_stands (chain one other) marks word entry later sound (inl (stands, fresh)) (inl move) =
    inl (
      take_stands one marks word entry later sound.0 stands move,
      agree_fresh other marks later
          (λ place has. move_frame one marks entry later sound.0 move place (λ also. sound.2.1 place also has)) fresh,
    )
take_stands (chain one other) marks word entry later sound (inl (stands, fresh)) (inr (done, move)) =
    let same : (place : ℕ) → Has one place → later place ≡ marks place =
    λ place has. move_frame other marks entry later sound.1 move place (λ also. sound.2.1 place has also) in
    inr (
      word,
      entry ∷ [],
      refl,
      agree_done one marks later same sound.0 done,
      agree_stands one marks later word same sound.0 stands,
      take_stands other marks [] entry later sound.1 (fresh_stands other marks sound.1 fresh) move,
    )
take_stands (chain one other) marks word entry later sound (inr (front, back, cut, done, here, there)) (inl move) =
    absurd (done_no_await one marks entry done (move_await one marks entry later move))
take_stands (chain one other) marks word entry later sound (inr (front, back, cut, done, here, there))
    (inr (again, move)) =
    let same : (place : ℕ) → Has one place → later place ≡ marks place =
    λ place has. move_frame other marks entry later sound.1 move place (λ also. sound.2.1 place has also) in
    inr (
      front,
      back ++ (entry ∷ []),
      ap (λ text. text ++ (entry ∷ [])) cut ∙ append_assoc front back (entry ∷ []),
      agree_done one marks later same sound.0 done,
      agree_stands one marks later front same sound.0 here,
      take_stands other marks back entry later sound.1 there move,
    )
take_stands (beside one other) marks word entry later sound (all, here, there) (inl move) =
    let of_it : is_of one entry ≡ true = await_of one marks entry sound.0 (move_await one marks entry later move) in
    let isnt : is_of other entry ≡ false =
    false_from_ne_true (is_of other entry) (λ also. sound.2.0 entry of_it also) in
    let same : (place : ℕ) → Has other place → later place ≡ marks place =
    λ place has. move_frame one marks entry later sound.0 move place (λ also. sound.2.1 place also has) in (
      All_append (is_of (beside one other)) word (entry ∷ []) all
          (or_left (is_of one entry) (is_of other entry) of_it, tt),
      subst (Stands one later) (sym (filter_in (is_of one) word entry of_it))
          (take_stands one marks (filter (is_of one) word) entry later sound.0 here move),
      subst (Stands other later) (sym (filter_out (is_of other) word entry isnt))
          (agree_stands other marks later (filter (is_of other) word) same sound.1 there),
    )
take_stands (beside one other) marks word entry later sound (all, here, there) (inr move) =
    let of_it : is_of other entry ≡ true = await_of other marks entry sound.1
    (move_await other marks entry later move) in
    let isnt : is_of one entry ≡ false = false_from_ne_true (is_of one entry) (λ also. sound.2.0 entry also of_it) in
    let same : (place : ℕ) → Has one place → later place ≡ marks place =
    λ place has. move_frame other marks entry later sound.1 move place (λ also. sound.2.1 place has also) in (
      All_append (is_of (beside one other)) word (entry ∷ []) all
          (or_right (is_of one entry) (is_of other entry) of_it, tt),
      subst (Stands one later) (sym (filter_out (is_of one) word entry isnt))
          (agree_stands one marks later (filter (is_of one) word) same sound.0 here),
      subst (Stands other later) (sym (filter_in (is_of other) word entry of_it))
          (take_stands other marks (filter (is_of other) word) entry later sound.1 there move),
    )
take_stands (select number count own chooses bodies) marks word entry later sound (inl (mark, none, fresh))
    (inl (untouched, (arm, below, right, puts))) =
    inr (
      arm,
      entry,
      [],
      ap (λ text. text ++ (entry ∷ [])) none,
      below,
      right,
      puts.0,
      fresh_stands (bodies arm) later (sound.0 arm)
          (agree_fresh (bodies arm) marks later
          (λ place has. puts.1 place (λ same. sound.1 arm (subst (Has (bodies arm)) same has))) (fresh arm)),
    )
take_stands (select number count own chooses bodies) marks word entry later sound (inl (mark, none, fresh))
    (inr (arm, untouched, below, move)) = cc
take_stands (select number count own chooses bodies) marks word entry later sound
    (inr (arm, first, back, cut, below, right, mark, stands)) (inl (chosen, move)) = cc
take_stands (select number count own chooses bodies) marks word entry later sound
    (inr (arm, first, back, cut, below, right, mark, stands)) (inr (other, chosen, lower, move)) =
    let same : other ≡ arm = cc in
    let moved : Moves (bodies arm) marks entry later = subst
    (λ each. Moves (bodies each) marks entry later) same move in
    inr (
      arm,
      first,
      back ++ (entry ∷ []),
      ap (λ text. text ++ (entry ∷ [])) cut,
      below,
      right,
      move_frame (bodies arm) marks entry later (sound.0 arm) moved number (sound.1 arm) ∙ mark,
      take_stands (bodies arm) marks back entry later (sound.0 arm) stands moved,
    )
take_stands (repeat number after body own turns leaves) marks word entry later sound (inl (mark, rounds))
    (untouched, inl move) =
    inl (
      move_frame body marks entry later sound.0 move number
          (λ has. let range = sound.2 number has in absurd (omega arith)) ∙ mark,
      rounds_snoc (Complete body) turns (Stands body marks) (Stands body later) (entry ∷ [])
          (λ rest has. take_stands body marks rest entry later sound.0 has move) word rounds,
    )
take_stands (repeat number after body own turns leaves) marks word entry later sound (inl (mark, rounds))
    (untouched, inr (inl (done, right, clears))) =
    inl (
      clears.1 number (λ has place. omega arith) ∙ mark,
      rounds_turn (Complete body) turns (Stands body marks) (Stands body later) entry
          (λ rest has. done_complete body marks rest sound.0 has done) right
          (fresh_stands body later sound.0 (λ place has. clears.0 place (sound.2 place has).0 (sound.2 place has).1))
          word rounds,
    )
take_stands (repeat number after body own turns leaves) marks word entry later sound (inl (mark, rounds))
    (untouched, inr (inr (done, right, clears))) =
    inr (
      clears.0,
      rounds_snoc (Complete body) turns (Stands body marks) (Closing (Complete body) leaves) (entry ∷ [])
          (λ rest has. (rest, entry, refl, done_complete body marks rest sound.0 has done, right)) word rounds,
    )
take_stands (repeat number after body own turns leaves) marks word entry later sound (inr (mark, rounds))
    (untouched, move) = cc

-- Two ways to cut a loop's word: the laps that both have are the same.
pub rounds_align :
    {E : Type 0} (test : E → Bool) (Body : List E → Type 0) (turns : E → Bool) (Before After : List E → Type 0)
    (Goal : Type 0) (added : List E)
    → ((word : List E) → Body word → All test word)
    → ((entry : E) → test entry ≡ true → turns entry ≡ true → ⊥)
    → ((back : List E) → Before back → After (back ++ added) → Goal)
    → ((back front : List E) (other : E) (behind : List E) → Before back → back ++ added ≡ front ++ (other ∷ behind)
    → Body front → turns other ≡ true → Goal)
    → ((front : List E) (other : E) (back : List E) → After (front ++ (other ∷ back)) → turns other ≡ true → Goal)
    → (word : List E) → Rounds Body turns Before word → Rounds Body turns After (word ++ added) → Goal
rounds_align test Body turns Before After Goal added of_body apart both early late word (last one) (last other) =
    both word one other
rounds_align test Body turns Before After Goal added of_body apart both early late word (last one)
    (round front entry back cut body turned others) = early word front entry back one cut body turned
rounds_align test Body turns Before After Goal added of_body apart both early late word
    (round front entry back cut body turned others) (last ending) =
    late front entry (back ++ added)
    (subst After (ap (λ text. text ++ added) cut ∙ append_assoc front (entry ∷ back) added) ending) turned
rounds_align test Body turns Before After Goal added of_body apart both early late word
    (round front entry back cut body turned others) (round start next tail cut1 body1 turned1 others1) =
    let whole : front ++ (entry ∷ (back ++ added)) ≡ start ++ (next ∷ tail) =
    sym (append_assoc front (entry ∷ back) added) ∙ sym (ap (λ text. text ++ added) cut) ∙ cut1 in
    let same : (front ≡ start) × (entry ≡ next) × (back ++ added ≡ tail)
    = turn_unique test front entry (back ++ added) start next tail (of_body front body) (of_body start body1)
    (λ holds. apart entry holds turned) (λ holds. apart next holds turned1) whole in
    rounds_align test Body turns Before After Goal added of_body apart both early late back others
    (subst (Rounds Body turns After) (sym same.2) others1)

-- in a word that is all of p, nothing else is there
pub inside : {E : Type 0} (test : E → Bool) (front : List E) (entry : E) (back : List E)
    → All test (front ++ (entry ∷ back)) → test entry ≡ true
inside test front entry back all = (All_back test front (entry ∷ back) all).0

-- a closing does not go on past its leave
pub closing_late :
    {E : Type 0} (test : E → Bool) (Body : List E → Type 0) (turns leaves : E → Bool) (front : List E) (entry : E)
    (back : List E)
    → ((word : List E) → Body word → All test word) → ((each : E) → test each ≡ true → turns each ≡ true → ⊥)
    → ((each : E) → turns each ≡ true → leaves each ≡ true → ⊥)
    → Closing Body leaves (front ++ (entry ∷ back)) → turns entry ≡ true → ⊥
closing_late test Body turns leaves front entry back of_body apart unlike (run, final, cut, body, rightly) turned =
    elim (snoc_cut run final front (entry ∷ back) (sym cut)) [
      | inl ends ↦ (let none : entry ∷ back ≡ [] = ends.0 in cc)
      | inr (middle, ends, behind) ↦
          (elim middle as (λ middle. entry ∷ back ≡ middle ++ (final ∷ []) → run ≡ front ++ middle → ⊥) [
            | [] ↦ λ ends behind. let same : entry ≡ final = cc in unlike entry turned (ap leaves same ∙ rightly)
            | (head ∷ tail) ↦ λ ends behind.
                let same : entry ≡ head = cc in
                let all : All test (front ++ (head ∷ tail)) = subst (All test) behind (of_body run body) in
                apart entry (ap test same ∙ inside test front head tail all) turned
          ]) ends behind
    ]

-- What stands for a whole word is done.
pub complete_done : {E : Type 0} (course : Course E) (marks : Marks) (word : List E) → Sound course
    → Stands course marks word
    → Complete course word → Done course marks
complete_done nothing marks word sound stands whole = tt
complete_done (step number finishes stage) marks word sound stands whole =
    had_ended finishes (marks number) (map stage word) stands whole
complete_done (chain one other) marks word sound (inl (stands, fresh)) (front, back, cut, here, there) =
    let in_one : All (is_of one) back = All_back (is_of one) front back
    (subst (All (is_of one)) cut (stands_of one marks word sound.0 stands)) in
    let in_other : All (is_of other) back = partial_of other back sound.1 (complete_partial other back there) in
    let none : back ≡ [] = none_both (is_of one) (is_of other) back sound.2.0 in_one in_other in
    let same : word ≡ front = cut ∙ ap (λ text. front ++ text) none ∙ append-nil front in (
      complete_done one marks word sound.0 stands (subst (Complete one) (sym same) here),
      complete_done other marks [] sound.1 (fresh_stands other marks sound.1 fresh) (subst (Complete other) none there),
    )
complete_done (chain one other) marks word sound (inr (front, back, cut, done, here, there))
    (start, rest, cut1, here1, there1) =
    let same : (front ≡ start) × (back ≡ rest)
    = cut_unique (is_of one) (is_of other) front back start rest sound.2.0 (stands_of one marks front sound.0 here)
    (stands_of other marks back sound.1 there)
    (partial_of one start sound.0 (complete_partial one start here1))
    (partial_of other rest sound.1 (complete_partial other rest there1)) (sym cut ∙ cut1) in
    (done, complete_done other marks back sound.1 there (subst (Complete other) (sym same.1) there1))
complete_done (beside one other) marks word sound (all, here, there) (all1, here1, there1) = (
  complete_done one marks (filter (is_of one) word) sound.0 here here1,
  complete_done other marks
      (filter (is_of other) word) sound.1 there there1,
)
complete_done (select number count own chooses bodies) marks word sound (inl (mark, none, fresh))
    (arm, entry, back, cut, below, right, run) = cc
complete_done (select number count own chooses bodies) marks word sound
    (inr (arm, entry, back, cut, below, right, mark, stands)) (arm1, entry1, back1, cut1, below1, right1, run) =
    let entries : entry1 ≡ entry = cc in
    let backs : back1 ≡ back = cc in
    let arms : arm1 ≡ arm = cc (ap chooses entries) in (
      arm,
      mark,
      complete_done (bodies arm) marks back (sound.0 arm) stands
          (subst (Complete (bodies arm)) backs (subst (λ each. Complete (bodies each) back1) arms run)),
    )
complete_done (repeat number after body own turns leaves) marks word sound (inl (mark, rounds)) whole =
    absurd
    (rounds_align (is_of body) (Complete body) turns (Stands body marks) (Closing (Complete body) leaves) ⊥ []
    (λ front run. partial_of body front sound.0 (complete_partial body front run)) sound.3
    (λ back stands (front, final, cut, run, rightly).
    sound.4 final
    (inside (is_of body) front final []
    (subst (All (is_of body)) (sym (append-nil back) ∙ cut) (stands_of body marks back sound.0 stands))) rightly)
    (λ back front entry behind stands cut run rightly. sound.3 entry
    (inside (is_of body) front entry behind
    (subst (All (is_of body)) (sym (append-nil back) ∙ cut) (stands_of body marks back sound.0 stands))) rightly)
    (λ front entry back run rightly.
    closing_late (is_of body) (Complete body) turns leaves front entry back
    (λ front run. partial_of body front sound.0 (complete_partial body front run)) sound.3 sound.5 run rightly)
    word rounds (subst (Rounds (Complete body) turns (Closing (Complete body) leaves)) (sym (append-nil word)) whole))
complete_done (repeat number after body own turns leaves) marks word sound (inr (mark, rounds)) whole = mark

-- Where the first of two courses may still go on, the second has had nothing.
front_alone :
    {E : Type 0} (one other : Course E) (marks : Marks) (word front back : List E) (entry : E) → Sound (chain one other)
    → word ≡ front ++ back → Stands other marks back → Partial one (word ++ (entry ∷ [])) → word ≡ front
front_alone one other marks word front back entry sound cut there part =
    let in_other : All (is_of other) back = stands_of other marks back sound.1 there in
    let in_one : All (is_of one) (front ++ back) = subst (All (is_of one)) cut
    (All_front (is_of one) word (entry ∷ []) (partial_of one (word ++ (entry ∷ [])) sound.0 part)) in
    let none : back ≡ [] = none_both (is_of one) (is_of other) back sound.2.0
    (All_back (is_of one) front back in_one) in_other in
    cut ∙ ap (λ text. front ++ text) none ∙ append-nil front

-- An entry after which the word is still a part is awaited.
pub partial_awaits :
    {E : Type 0} (course : Course E) (marks : Marks) (word : List E) (entry : E) → Sound course
    → Stands course marks word
    → Partial course (word ++ (entry ∷ [])) → Awaits course marks entry
partial_awaits nothing marks word entry sound stands part = absurd (snoc_not_nil word entry [] (sym part))
partial_awaits (step number finishes stage) marks word entry sound has (others, run) =
    had_awaits finishes (marks number) (map stage word) (stage entry) others has
    (subst (λ stages. StepRun finishes (stages ++ others)) (map-append stage word (entry ∷ [])) run)
partial_awaits (chain one other) marks word entry sound (inl (stands, fresh)) (inl part) =
    inl (partial_awaits one marks word entry sound.0 stands part)
partial_awaits (chain one other) marks word entry sound (inl (stands, fresh)) (inr (front, back, cut, here, there)) =
    elim (snoc_cut word entry front back cut) [
      | inl ends ↦
          inl (partial_awaits one marks word entry sound.0 stands
          (subst (Partial one) (sym ends.1) (complete_partial one front here)))
      | inr (middle, ends, starts) ↦
          let in_one : All (is_of one) middle = All_back (is_of one) front middle
          (subst (All (is_of one)) starts (stands_of one marks word sound.0 stands)) in
          let in_other : All (is_of other) middle = All_front (is_of other) middle (entry ∷ [])
          (subst (All (is_of other)) ends (partial_of other back sound.1 there)) in
          let none : middle ≡ [] = none_both (is_of one) (is_of other) middle sound.2.0 in_one in_other in
          let same : word ≡ front = starts ∙ ap (λ text. front ++ text) none ∙ append-nil front in
          let ending : back ≡ entry ∷ [] = ends ∙ ap (λ text. text ++ (entry ∷ [])) none in
          inr (
            complete_done one marks word sound.0 stands (subst (Complete one) (sym same) here),
            partial_awaits other marks [] entry sound.1 (fresh_stands other marks sound.1 fresh)
                (subst (Partial other) ending there),
          )
    ]
partial_awaits (chain one other) marks word entry sound (inr (front, back, cut, done, here, there)) (inl part) =
    let same = front_alone one other marks word front back entry sound cut there part in
    inl (partial_awaits one marks front entry sound.0 here
    (subst (λ middle. Partial one (middle ++ (entry ∷ []))) same part))
partial_awaits (chain one other) marks word entry sound (inr (front, back, cut, done, here, there))
    (inr (start, rest, cut1, here1, there1)) =
    elim (snoc_cut word entry start rest cut1) [
      | inl ends ↦
          let part : Partial one (word ++ (entry ∷ [])) =
          subst (Partial one) (sym ends.1) (complete_partial one start here1) in
          let same = front_alone one other marks word front back entry sound cut there part in
          inl (partial_awaits one marks front entry sound.0 here
          (subst (λ middle. Partial one (middle ++ (entry ∷ []))) same part))
      | inr (middle, ends, starts) ↦
          let of_other : All (is_of other) middle = All_front (is_of other) middle (entry ∷ [])
          (subst (All (is_of other)) ends (partial_of other rest sound.1 there1)) in
          let same : (front ≡ start) × (back ≡ middle)
          = cut_unique (is_of one) (is_of other) front back start middle sound.2.0
          (stands_of one marks front sound.0 here) (stands_of other marks back sound.1 there)
          (partial_of one start sound.0 (complete_partial one start here1)) of_other (sym cut ∙ starts) in
          inr (
            done,
            partial_awaits other marks back entry sound.1 there
                (subst (Partial other) (ends ∙ ap (λ text. text ++ (entry ∷ [])) (sym same.1)) there1),
          )
    ]
partial_awaits (beside one other) marks word entry sound (all, here, there) (all1, here1, there1) =
    elim
    (or_cases (is_of one entry) (is_of other entry) (All_back (is_of (beside one other)) word (entry ∷ []) all1).0) [
      | inl of_it ↦ inl (partial_awaits one marks (filter (is_of one) word) entry sound.0 here
          (subst (Partial one) (filter_in (is_of one) word entry of_it) here1))
      | inr of_it ↦ inr (partial_awaits other marks (filter (is_of other) word) entry sound.1 there
          (subst (Partial other) (filter_in (is_of other) word entry of_it) there1))
    ]
partial_awaits (select number count own chooses bodies) marks word entry sound (inl (mark, none, fresh)) (inl none1) =
    absurd (snoc_not_nil word entry [] (sym none1))
partial_awaits (select number count own chooses bodies) marks word entry sound (inl (mark, cut, fresh))
    (inr (arm, first, back, cut1, below, right, run)) =
    let one : entry ∷ [] ≡ first ∷ back = ap (λ text. text ++ (entry ∷ [])) (sym cut) ∙ cut1 in
    let same : first ≡ entry = cc in
    inl (mark, (arm, below, ap chooses (sym same) ∙ right))
partial_awaits (select number count own chooses bodies) marks word entry sound
    (inr (arm, first, back, cut, below, right, mark, stands)) (inl none) =
    absurd (snoc_not_nil word entry [] (sym none))
partial_awaits (select number count own chooses bodies) marks word entry sound
    (inr (arm, first, back, cut, below, right, mark, stands)) (inr (arm1, first1, back1, cut1, below1, right1, run)) =
    let one : first ∷ (back ++ (entry ∷ [])) ≡ first1 ∷ back1 = ap (λ text. text ++ (entry ∷ [])) (sym cut) ∙ cut1 in
    let firsts : first1 ≡ first = cc in
    let backs : back1 ≡ back ++ (entry ∷ []) = cc in
    let arms : arm1 ≡ arm = cc (ap chooses firsts) in
    inr (
      arm,
      mark,
      below,
      partial_awaits (bodies arm) marks back entry (sound.0 arm) stands
          (subst (Partial (bodies arm)) backs (subst (λ each. Partial (bodies each) back1) arms run)),
    )
partial_awaits (repeat none after body own turns leaves) marks word entry sound (inl (mark, rounds)) part =
    rounds_align (is_of body) (Complete body) turns (Stands body marks)
    (λ back. Partial body back ⊎ Closing (Complete body) leaves back)
    (Awaits (repeat none after body own turns leaves) marks entry) (entry ∷ [])
    (λ front run. partial_of body front sound.0 (complete_partial body front run)) sound.3
    (λ back stands part1. elim part1 [
      | inl run ↦ (mark, inl (partial_awaits body marks back entry sound.0 stands run))
      | inr (front, final, cut, run, rightly) ↦
          let both : (back ≡ front) × (entry ≡ final) = snoc_same back front entry final cut in (
            mark,
            inr
                (inr (
                  complete_done body marks back sound.0 stands (subst (Complete body) (sym both.0) run),
                  ap leaves both.1
                      ∙ rightly,
                )),
          )
    ])
    (λ back front other run stands cut part1 rightly. elim (snoc_cut back entry front (other ∷ run) cut) [
      | inl ends ↦ (let none : other ∷ run ≡ [] = ends.0 in cc)
      | inr (middle, ends, behind) ↦
          (elim middle as (λ middle. other ∷ run ≡ middle ++ (entry ∷ []) → back ≡ front ++ middle
          → Awaits (repeat none after body own turns leaves) marks entry) [
            | [] ↦ λ ends behind.
                let alike : other ≡ entry = cc in
                let backs : back ≡ front = behind ∙ append-nil front in (
                  mark,
                  inr
                      (inl (
                        complete_done body marks back sound.0 stands (subst (Complete body) (sym backs) part1),
                        ap turns
                            (sym alike) ∙ rightly,
                      )),
                )
            | (head ∷ tail) ↦ λ ends behind.
                let alike : other ≡ head = cc in
                absurd (sound.3 other (ap (is_of body) alike ∙ inside (is_of body) front head tail
                (subst (All (is_of body)) behind (stands_of body marks back sound.0 stands))) rightly)
          ]) ends behind
    ])
    (λ front other back part1 rightly. elim part1 [
      | inl run ↦
          absurd (sound.3 other
          (inside (is_of body) front other back (partial_of body (front ++ (other ∷ back)) sound.0 run)) rightly)
      | inr run ↦ absurd (closing_late (is_of body) (Complete body) turns leaves front other back
          (λ front run. partial_of body front sound.0 (complete_partial body front run)) sound.3 sound.5 run rightly)
    ])
    word rounds part
partial_awaits (repeat none after body own turns leaves) marks word entry sound (inr (mark, rounds)) part =
    absurd
    (rounds_align (is_of body) (Complete body) turns (Closing (Complete body) leaves)
    (λ back. Partial body back ⊎ Closing (Complete body) leaves back) ⊥ (entry ∷ [])
    (λ front run. partial_of body front sound.0 (complete_partial body front run)) sound.3
    (λ back (front, final, cut, part1, rightly) ending. elim ending [
      | inl run ↦
          sound.4 final (inside (is_of body) front final [] (subst (All (is_of body)) cut
          (All_front (is_of body) back (entry ∷ []) (partial_of body (back ++ (entry ∷ [])) sound.0 run)))) rightly
      | inr (start, final1, cut1, body1, rightly1) ↦
          let alike : (back ≡ start) × (entry ≡ final1) = snoc_same back start entry final1 cut1 in
          let in_body : All (is_of body) back = subst (All (is_of body)) (sym alike.0)
          (partial_of body start sound.0 (complete_partial body start body1)) in
          sound.4 final (inside (is_of body) front final [] (subst (All (is_of body)) cut in_body)) rightly
    ])
    (λ back front other run (start0, final, cut, body0, rightly) cut1 part1 turned.
    let both : start0 ++ (final ∷ (entry ∷ [])) ≡ front ++ (other ∷ run)
    = sym (append_assoc start0 (final ∷ []) (entry ∷ [])) ∙ sym (ap (λ text. text ++ (entry ∷ [])) cut) ∙ cut1 in
    let alike : (start0 ≡ front) × (final ≡ other) × (entry ∷ [] ≡ run)
    = turn_unique (is_of body) start0 final (entry ∷ []) front other run
    (partial_of body start0 sound.0 (complete_partial body start0 body0))
    (partial_of body front sound.0 (complete_partial body front part1))
    (λ middle. sound.4 final middle rightly) (λ middle. sound.3 other middle turned) both in
    sound.5 other turned (ap leaves (sym alike.1) ∙ rightly))
    (λ front other back part1 rightly. elim part1 [
      | inl run ↦
          sound.3 other (inside (is_of body) front other back (partial_of body (front ++ (other ∷ back)) sound.0 run))
          rightly
      | inr run ↦ closing_late (is_of body) (Complete body) turns leaves front other back
          (λ front run. partial_of body front sound.0 (complete_partial body front run)) sound.3 sound.5 run rightly
    ])
    word rounds part)

-- Of a word that the state stands for: an entry may follow exactly where it is awaited (this half needs a next state).
pub awaits_partial :
    {E : Type 0} (course : Course E) (marks : Marks) (word : List E) (entry : E) (later : Marks)
    → Sound course → Stands course marks word → Moves course marks entry later → Partial course (word ++ (entry ∷ []))
awaits_partial course marks word entry later sound stands move =
    stands_partial course later (word ++ (entry ∷ [])) sound
    (take_stands course marks word entry later sound stands move)
