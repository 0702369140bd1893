-- The calls of a job on kept items, one at a time: from the clauses of `Kept` to those of `LineJob`.
use Rattle.std.proofs.Common.{ℕ, ◌≡◌, ◌≤◌, ◌⊎◌, inl, inr, Bool, true, false, List, [], ◌∷◌, ◌++◌, Option, Some, None}
use Rattle.std.proofs.Common.{refl, sym, ◌∙◌, ap, subst, arith, append_assoc, append-nil, length-append}
use Rattle.std.proofs.lemmas.List.{same_from_push}
use Rattle.std.specs.Prelude.{IsTrue}
use Rattle.pol_disk.specs.Disks.{LeavesOnly, ToldOn}
use Rattle.pol_disk.proofs.Moments.{then as and_then, wider}
use Rattle.pol_disk.proofs.Telling.{on_then}
use Rattle.pol_io.specs.Causes.{Rose}
use Rattle.pol_jobs.specs.LineWork.{Line, LineWork, after_each}
use Rattle.pol_kept.specs.Keeping.{AreParts, KeptState}
use Rattle.pol_kept.specs.Refusals.{Fails}
use Rattle.pol_kept.specs.Stands.{StandsFor, StandsWithAllOrNone}
use Rattle.pol_kept.specs.Work.{ChronicleWork}
use Rattle.pol_kept.specs.declared.kept.CommitFault.{CommitFault}
use Rattle.pol_kept.specs.declared.kept.CommitFault.TheVariants as of_group
use Rattle.pol_kept.proofs.Opened.{left_images}
use Rattle.pol_texts.specs.Settled.{AreAlike}
use Rattle.kept_jobs.specs.Telling.{Telling}
use Rattle.kept_jobs.specs.Keeping.{Adds, AreSome, GoesOn, HasMet, IsKept, JobState, KnowsMet, StandsForSome}
use Rattle.kept_jobs.proofs.Admitting.{no_both}

-- a disk that told its bytes tells them still
pub alike_told : (seen seen' : Option (List ℕ)) (bytes : List ℕ) → seen ≡ Some bytes → AreAlike seen seen' →
    (bytes' : List ℕ) × (seen' ≡ Some bytes')
alike_told None None bytes told alike = cc
alike_told None (Some new) bytes told alike = cc
alike_told (Some old) None bytes told alike = absurd alike
alike_told (Some old) (Some new) bytes told alike = (new, refl)

-- ---- how a commit failed

-- the disk failed in this call, or the store was closed before and the disk wasn't called
abbrev pub FailedOrWas : {D : Type 0} → (D → ℕ) → D → D → Bool → Type 0
FailedOrWas faults before now was =
    ((was ≡ false) × Rose (faults before) (faults now)) ⊎ ((was ≡ true) × (now ≡ before))

-- the store is closed
pub record Closes {D : Type 0} (faults : D → ℕ) (before now : D) (was is : Bool) : Type 0 where
  pub closed : is ≡ true
  pub how : FailedOrWas faults before now was

-- so says the clause of `Kept::commit`
pub closes : {C D : Type 0} (faults : D → ℕ) (before now : KeptState C D) (fault : CommitFault) →
    Fails faults before now fault → Closes faults before.disk now.disk before.closed now.closed
closes faults before now of_group.Disk fails = record { closed = fails.1; how = inl (fails.0, fails.2) }
closes {C} {D} faults before now of_group.Closed fails = record {
  closed = ap (λ (store : KeptState C D). store.closed) fails.1 ∙ fails.0;
  how = inr (fails.0, ap (λ (store : KeptState C D). store.disk) fails.1);
}

-- ---- lines

module _ {Known Reason : Type 0} (lines : LineWork Known Reason) where
  -- some lines and then more of them
  pub after_each-append : (known : Known) (some more : List Line) →
      after_each lines known (some ++ more) ≡ after_each lines (after_each lines known some) more
  after_each-append known [] more = refl
  after_each-append known (line ∷ some) more = after_each-append (lines.after known line) some more

  -- what is known behind one line more
  pub after_each-push : (known now : Known) (settled waiting : List Line) (line : Line) →
      now ≡ after_each lines known (settled ++ waiting) →
      lines.after now line ≡ after_each lines known (settled ++ (waiting ++ line ∷ []))
  after_each-push known now settled waiting line is =
      ap (λ (before : Known). lines.after before line) is
      ∙ sym (after_each-append known (settled ++ waiting) (line ∷ []))
      ∙ ap (after_each lines known) (append_assoc settled waiting (line ∷ []))

  module _ {Item : Type 0} (items : Known → List Item) (known : Known) where
    -- the first of some lines are the first with more behind them
    some_more : (settled waiting more : List Line) (some : List Item) →
        AreSome lines items known settled waiting some → AreSome lines items known settled (waiting ++ more) some
    some_more settled waiting more some are = record {
      first = are.first;
      behind = are.behind ++ more;
      are = ap (λ (met : List Line). met ++ more) are.are ∙ append_assoc are.first are.behind more;
      is = are.is;
    }

    -- settled lines, some lines behind them and the first of the rest are settled lines and the first of the others
    some_behind : (settled between waiting : List Line) (some : List Item) →
        AreSome lines items known (settled ++ between) waiting some →
        AreSome lines items known settled (between ++ waiting) some
    some_behind settled between waiting some are = record {
      first = between ++ are.first;
      behind = are.behind;
      are =
          ap (λ (met : List Line). between ++ met) are.are ∙ sym (append_assoc between are.first are.behind);
      is = are.is ∙ ap (λ (met : List Line). items (after_each lines known met))
          (append_assoc settled between are.first);
    }

    -- what a job knows that met some lines tells its items
    pub some_met : (whole : Bool) (settled waiting : List Line) (now : Known) →
        KnowsMet lines items whole known settled waiting now →
        AreSome lines items known settled waiting (items now)
    some_met true settled waiting now knows =
        record { first = waiting; behind = []; are = sym (append-nil waiting); is = ap items knows }
    some_met false settled waiting now stops =
        subst (λ (met : List Line). AreSome lines items known settled met (items now)) (sym stops.are)
        (some_behind settled stops.before (stops.last ∷ []) (items now) stops.some)

    -- one line more was met, and replied to or not
    knows_more : (settled waiting : List Line) (line : Line) (waits waits' : ℕ) (now new : Known) →
        now ≡ after_each lines known (settled ++ waiting) → (whole : Bool) →
        (IsTrue whole → new ≡ lines.after now line) →
        Adds (items now) waits (items new) waits' (items (lines.after now line)) →
        KnowsMet lines items whole known settled (waiting ++ line ∷ []) new
    knows_more settled waiting line waits waits' now new is true after adds =
        after refl ∙ after_each-push known now settled waiting line is
    knows_more settled waiting line waits waits' now new is false after adds = record {
      before = waiting;
      last = line;
      are = refl;
      some = by_added adds.all;
    }
      where
        by_added : (adds.more ≡ []) ⊎ (items new ≡ items (lines.after now line)) →
            AreSome lines items known (settled ++ waiting) (line ∷ []) (items new)
        by_added (inl none) = record {
          first = [];
          behind = line ∷ [];
          are = refl;
          is =
              adds.are ∙ ap (λ (more : List Item). items now ++ more) none ∙ append-nil (items now) ∙ ap items is
              ∙ ap (λ (met : List Line). items (after_each lines known met)) (sym (append-nil (settled ++ waiting)));
        }
        by_added (inr due) = record {
          first = line ∷ [];
          behind = [];
          are = refl;
          is =
              due
              ∙ ap items (after_each-push known now settled waiting line is
              ∙ ap (after_each lines known) (sym (append_assoc settled waiting (line ∷ []))));
        }

    -- once they are settled, none waits
    knows_settled : (settled waiting : List Line) (now new : Known) → new ≡ now →
        KnowsMet lines items true known settled waiting now →
        KnowsMet lines items true known (settled ++ waiting) [] new
    knows_settled settled waiting now new same knows =
        same ∙ knows ∙ ap (after_each lines known) (sym (append-nil (settled ++ waiting)))

    -- or only the last one, at which the job stopped
    knows_stopped : (settled waiting : List Line) (last : Line) (now new : Known) → new ≡ now →
        KnowsMet lines items false known settled (waiting ++ last ∷ []) now →
        KnowsMet lines items false known (settled ++ waiting) (last ∷ []) new
    knows_stopped settled waiting last now new same stops =
        let one = same_from_push waiting stops.before last stops.last stops.are in
        record {
          before = [];
          last = last;
          are = refl;
          some = record {
            first = stops.some.first;
            behind = stops.some.behind;
            are = ap (λ (line : Line). line ∷ []) one.1 ∙ stops.some.are;
            is =
                ap items same ∙ stops.some.is
                ∙ ap (λ (met : List Line). items (after_each lines known (met ++ stops.some.first)))
                (ap (λ (before : List Line). settled ++ before) (sym one.0) ∙ sym (append-nil (settled ++ waiting)));
          };
        }

-- ---- what a call leaves, by the lines that were met

module _ {State Item Answer : Type 0} (work : ChronicleWork State Item Answer) {Known Reason : Type 0}
    (lines : LineWork Known Reason) (items : Known → List Item) {D : Type 0} (disk : Telling D) where
  -- the first of some lines are the first with more behind them
  stands_more : (known : Known) (settled waiting more : List Line) (image : List ℕ) →
      StandsForSome work lines items known settled waiting image →
      StandsForSome work lines items known settled (waiting ++ more) image
  stands_more known settled waiting more image one = record {
    kept = one.kept;
    some = some_more lines items known settled waiting more one.kept one.some;
    stands = one.stands;
  }

  -- settled lines and the first that wait are the first of all
  stands_first : (known : Known) (settled waiting : List Line) (image : List ℕ) →
      StandsForSome work lines items known settled waiting image →
      StandsForSome work lines items known [] (settled ++ waiting) image
  stands_first known settled waiting image one = record {
    kept = one.kept;
    some = some_behind lines items known [] settled waiting one.kept one.some;
    stands = one.stands;
  }

  module _ (first now new : JobState Known D) (settled waiting : List Line) where
    -- A line was met: goal `did` of `reply`, with what is due of the store behind it (`Admits`), and what is known
    -- where it was replied to.
    pub takes : GoesOn work lines items disk first now settled waiting true → (line : Line) (whole : Bool) →
        new.disk ≡ now.disk → new.closed ≡ now.closed →
        Adds (items now.known) now.waiting (items new.known) new.waiting (items (lines.after now.known line)) →
        (IsTrue whole → new.known ≡ lines.after now.known line) →
        GoesOn work lines items disk first new settled (waiting ++ line ∷ []) whole
    takes so_far line whole uncalled closed adds after = record {
      opened = λ is_whole was_open. closed ∙ so_far.opened refl was_open;
      quiet = λ opened. ap disk.faults uncalled ∙ so_far.quiet (sym closed ∙ opened);
      cause = λ was_open is_closed. subst (λ (d : D). Rose (disk.faults first.disk) (disk.faults d)) (sym uncalled)
          (so_far.cause was_open (sym closed ∙ is_closed));
      on = subst (λ (d : D). ToldOn (disk.bytes first.disk) (disk.bytes d)) (sym uncalled) so_far.on;
      leaves = λ kept.
          subst (λ (d : D). LeavesOnly disk.moment disk.left_since first.disk d
          (StandsForSome work lines items first.known [] (settled ++ (waiting ++ line ∷ [])))) (sym uncalled)
          (wider disk.moment disk.left_since first.disk now.disk
          (StandsForSome work lines items first.known [] (settled ++ waiting))
          (StandsForSome work lines items first.known [] (settled ++ (waiting ++ line ∷ []))) (so_far.leaves kept)
          (λ image one. subst (λ (met : List Line). StandsForSome work lines items first.known [] met image)
          (append_assoc settled waiting (line ∷ []))
          (stands_more first.known [] (settled ++ waiting) (line ∷ []) image one)));
      left = λ kept image left.
          stands_more first.known settled waiting (line ∷ []) image
          (so_far.left kept image (subst (λ (d : D). disk.images d image) uncalled left));
      met = λ opened kept.
          let was = so_far.met (sym closed ∙ opened) kept in
          record {
            bytes = was.bytes;
            told = ap disk.bytes uncalled ∙ was.told;
            kept = was.kept;
            group = was.group ++ adds.more;
            parts = record {
              are =
                  adds.are ∙ ap (λ (some : List Item). some ++ adds.more) was.parts.are
                  ∙ append_assoc was.kept was.group adds.more;
              many = omega (arith, length-append was.group adds.more, was.parts.many, adds.many);
            };
            some = some_more lines items first.known settled waiting (line ∷ []) was.kept was.some;
            knows =
                knows_more lines items first.known settled waiting line now.waiting new.waiting now.known new.known
                was.knows whole after adds;
          };
    }

  -- what `Kept::commit` says of a crash meanwhile
  abbrev pub LeavesGroup : JobState Known D → JobState Known D → Type 0
  LeavesGroup now new =
      now.closed ≡ false → (all : List ℕ) → disk.bytes now.disk ≡ Some all → (kept group : List Item) →
      AreParts (items now.known) now.waiting kept group →
      LeavesOnly disk.moment disk.left_since now.disk new.disk (StandsWithAllOrNone work kept group)

  -- a job settled its lines: a field for each clause of `Kept::commit` where it is done
  pub record Commits (now new : JobState Known D) : Type 0 where
    pub known : new.known ≡ now.known
    pub waits : new.waiting ≡ 0
    pub opened : (now.closed ≡ false) × (new.closed ≡ false)
    pub told : AreAlike (disk.bytes now.disk) (disk.bytes new.disk)
    pub on : ToldOn (disk.bytes now.disk) (disk.bytes new.disk)
    pub quiet : disk.faults new.disk ≡ disk.faults now.disk
    pub moments : LeavesGroup now new
    pub kept : (all : List ℕ) → disk.bytes now.disk ≡ Some all → (image : List ℕ) → disk.images new.disk image
        → StandsFor work (items now.known) image

  -- it couldn't: the clauses of one that failed
  pub record CommitFails (now new : JobState Known D) : Type 0 where
    pub fails : Closes disk.faults now.disk new.disk now.closed new.closed
    pub on : ToldOn (disk.bytes now.disk) (disk.bytes new.disk)
    pub moments : LeavesGroup now new

  module _ (first now : JobState Known D) (settled waiting : List Line) (whole : Bool) where
    -- all or none of those that wait
    all_or_none : (met : HasMet work lines items disk first now settled waiting whole) (image : List ℕ) →
        StandsWithAllOrNone work met.kept met.group image →
        StandsForSome work lines items first.known settled waiting image
    all_or_none met image (inl none) = record { kept = met.kept; some = met.some; stands = none }
    all_or_none met image (inr all) = record {
      kept = items now.known;
      some = some_met lines items first.known whole settled waiting now.known met.knows;
      stands = subst (λ (some : List Item). StandsFor work some image) (sym met.parts.are) all;
    }

    module _ (new : JobState Known D) (so_far : GoesOn work lines items disk first now settled waiting whole)
        (moments : LeavesGroup now new) (on : ToldOn (disk.bytes now.disk) (disk.bytes new.disk)) where
      -- the bytes are told as long as before
      on_still : ToldOn (disk.bytes first.disk) (disk.bytes new.disk)
      on_still = on_then (disk.bytes first.disk) (disk.bytes now.disk) (disk.bytes new.disk) so_far.on on

      -- a crash while they are committed leaves all or none of those that wait
      group_left : now.closed ≡ false → (met : HasMet work lines items disk first now settled waiting whole) →
          LeavesOnly disk.moment disk.left_since now.disk new.disk (StandsWithAllOrNone work met.kept met.group)
      group_left opened met = moments opened met.bytes met.told met.kept met.group met.parts

      -- so, since the first state, the items behind the first of all
      all_left : now.closed ≡ false → IsKept work items disk first → LeavesOnly disk.moment disk.left_since first.disk
          new.disk (StandsForSome work lines items first.known [] (settled ++ waiting))
      all_left opened kept =
          let was = so_far.met opened kept in
          and_then disk.moment disk.left_since first.disk now.disk new.disk
          (StandsForSome work lines items first.known [] (settled ++ waiting))
          (StandsWithAllOrNone work was.kept was.group) (so_far.leaves kept) (group_left opened was)
          (λ image one. stands_first first.known settled waiting image (all_or_none was image one))

  -- The commit failed: goals `failed` and `failed_before` of `settle`.
  pub unsettled : (first now new : JobState Known D) (settled waiting : List Line) (whole : Bool) →
      ((now : D) (t : ℕ) (image : List ℕ) → t ≤ disk.moment now → disk.images now image →
      disk.left_since now t image) → CommitFails now new →
      GoesOn work lines items disk first now settled waiting whole →
      GoesOn work lines items disk first new settled waiting false
  unsettled first now new settled waiting whole counts_now failed so_far = record {
    opened = λ whole. cc;
    quiet = λ opened. absurd (no_both new.closed opened failed.fails.closed);
    cause = λ was_open is_closed. by_cause was_open failed.fails.how;
    on = on_still first now settled waiting whole new so_far failed.moments failed.on;
    leaves = λ kept. by_leaving kept failed.fails.how;
    left = λ kept image left. by_left kept image left failed.fails.how;
    met = λ opened. absurd (no_both new.closed opened failed.fails.closed);
  }
    where
      by_cause : first.closed ≡ false → FailedOrWas disk.faults now.disk new.disk now.closed →
          Rose (disk.faults first.disk) (disk.faults new.disk)
      by_cause was_open (inl rose) = subst (λ (n : ℕ). Rose n (disk.faults new.disk)) (so_far.quiet rose.0) rose.1
      by_cause was_open (inr same) =
          subst (λ (d : D). Rose (disk.faults first.disk) (disk.faults d)) (sym same.1)
          (so_far.cause was_open same.0)

      by_leaving : IsKept work items disk first → FailedOrWas disk.faults now.disk new.disk now.closed →
          LeavesOnly disk.moment disk.left_since first.disk new.disk
          (StandsForSome work lines items first.known [] (settled ++ waiting))
      by_leaving kept (inl rose) =
          all_left first now settled waiting whole new so_far failed.moments failed.on rose.0 kept
      by_leaving kept (inr same) =
          subst (λ (d : D). LeavesOnly disk.moment disk.left_since first.disk d
          (StandsForSome work lines items first.known [] (settled ++ waiting))) (sym same.1) (so_far.leaves kept)

      by_left : IsKept work items disk first → (image : List ℕ) → disk.images new.disk image →
          FailedOrWas disk.faults now.disk new.disk now.closed →
          StandsForSome work lines items first.known settled waiting image
      by_left kept image left (inl rose) =
          let was = so_far.met rose.0 kept in
          all_or_none first now settled waiting whole was image
          (left_images disk.images disk.moment disk.left_since counts_now now.disk new.disk
          (StandsWithAllOrNone work was.kept was.group)
          (group_left first now settled waiting whole new so_far failed.moments failed.on rose.0 was) image left)
      by_left kept image left (inr same) =
          so_far.left kept image (subst (λ (d : D). disk.images d image) same.1 left)

  -- it was done, and these lines are settled now
  settles_these : (first now new : JobState Known D) (settled waiting done missed : List Line) (whole : Bool) →
      settled ++ waiting ≡ done ++ missed → Commits now new →
      GoesOn work lines items disk first now settled waiting whole →
      (KnowsMet lines items whole first.known settled waiting now.known →
      KnowsMet lines items whole first.known done missed new.known) →
      GoesOn work lines items disk first new done missed whole
  settles_these first now new settled waiting done missed whole these did so_far knows = record {
    opened = λ is_whole first_open. did.opened.1;
    quiet = λ opened. did.quiet ∙ so_far.quiet did.opened.0;
    cause = λ first_open closed. absurd (no_both new.closed did.opened.1 closed);
    on = on_still first now settled waiting whole new so_far did.moments did.on;
    leaves = λ kept.
        subst (λ (met : List Line). LeavesOnly disk.moment disk.left_since first.disk new.disk
        (StandsForSome work lines items first.known [] met)) these
        (all_left first now settled waiting whole new so_far did.moments did.on did.opened.0 kept);
    left = λ kept image left.
        let was = so_far.met did.opened.0 kept in
        record {
          kept = items new.known;
          some = some_met lines items first.known whole done missed new.known (knows was.knows);
          stands = subst (λ (some : List Item). StandsFor work some image) (ap items (sym did.known))
              (did.kept was.bytes was.told image left);
        };
    met = λ opened kept.
        let was = so_far.met did.opened.0 kept in
        let told = alike_told (disk.bytes now.disk) (disk.bytes new.disk) was.bytes was.told did.told in
        record {
          bytes = told.0;
          told = told.1;
          kept = items new.known;
          group = [];
          parts = record { are = sym (append-nil (items new.known)); many = sym did.waits };
          some = some_met lines items first.known whole done missed new.known (knows was.knows);
          knows = knows was.knows;
        };
  }

  -- The commit was done, where all lines were replied to: goal `settled` of `settle`.
  pub settles : (first now new : JobState Known D) (settled waiting : List Line) → Commits now new →
      GoesOn work lines items disk first now settled waiting true →
      GoesOn work lines items disk first new (settled ++ waiting) [] true
  settles first now new settled waiting did so_far =
      settles_these first now new settled waiting (settled ++ waiting) [] true (sym (append-nil (settled ++ waiting)))
      did so_far (knows_settled lines items first.known settled waiting now.known new.known did.known)

  -- The same, where the job had stopped at the last of them: goal `settled_before` of `settle`.
  pub settles_before : (first now new : JobState Known D) (settled waiting : List Line) (last : Line) →
      Commits now new → GoesOn work lines items disk first now settled (waiting ++ last ∷ []) false →
      GoesOn work lines items disk first new (settled ++ waiting) (last ∷ []) false
  settles_before first now new settled waiting last did so_far =
      settles_these first now new settled (waiting ++ last ∷ []) (settled ++ waiting) (last ∷ []) false
      (sym (append_assoc settled waiting (last ∷ []))) did so_far
      (knows_stopped lines items first.known settled waiting last now.known new.known did.known)
