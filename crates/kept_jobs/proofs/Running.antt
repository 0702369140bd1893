-- What a run of a job on kept items leaves, by the lines that it met: from the clauses of `pol_jobs::work`.
use Rattle.std.proofs.Common.{ℕ, ◌≡◌, ◌⊎◌, inl, inr, ⊎_elim, List, [], ◌∷◌, ◌++◌, map, Bool, Option, Some, None}
use Rattle.std.proofs.Common.{refl, sym, ◌∙◌, ap, ap₂, subst, append_assoc, append-nil}
use Rattle.std.proofs.lemmas.List.{map-append}
use Rattle.std.specs.Prelude.{IfErr, IfSome, OnErr, OnOk, Result, Ok, Err}
use Rattle.pol_disk.specs.Disks.{LeavesOnly}
use Rattle.pol_disk.proofs.Moments.{wider}
use Rattle.pol_io.specs.Pieces.{pieces}
use Rattle.pol_jobs.specs.Deeds.{DidAll, DidSome, MetFirst}
use Rattle.pol_jobs.specs.Faults.{JobFailedSo}
use Rattle.pol_jobs.specs.LineWork.{Line, LineWork, after_all, after_each, line_met, replies}
use Rattle.pol_jobs.specs.Written.{WritesSome}
use Rattle.pol_jobs.specs.declared.fault.JobFault.{JobFault}
use Rattle.pol_jobs.specs.declared.fault.JobFault.TheVariants.{Read, Write, Memory, TooMuch, Failed, Refused}
use Rattle.pol_jobs.proofs.Deeds.{all_some}
use Rattle.pol_jobs.proofs.Serving.{replies_append}
use Rattle.pol_jobs.proofs.Written.{some_of_more}
use Rattle.pol_kept.specs.Stands.{StandsFor}
use Rattle.pol_kept.specs.Work.{ChronicleWork}
use Rattle.kept_jobs.specs.Telling.{Telling}
use Rattle.kept_jobs.specs.Keeping.{GoesOn, IsKept, JobState, StandsForSome}
use Rattle.kept_jobs.specs.Leaving.{StandsForAnswered, StandsForMore}

-- ---- the results

-- what else a job did, whatever its result
pub did_either : {State Reason E : Type 0} (work : LineWork State Reason) (start : State)
    (Did : List Line → List Line → Bool → Type 0) (held held' input : Option (List ℕ)) (result : Result (Unit {0}) E) →
    OnOk result (DidAll Did input) → OnErr result (DidSome work start Did held held' input) →
    DidSome work start Did held held' input
did_either work start Did held held' input (Ok done) all some = all_some work start Did held held' input all
did_either work start Did held held' input (Err fault) all some = some

-- what follows of what is so of a job that failed
pub failed_so : {Reason Failure P Q : Type 0} (result : Result (Unit {0}) (JobFault Reason Failure)) → (P → Q) →
    IfErr result (JobFailedSo P) → IfErr result (JobFailedSo Q)
failed_so (Ok done) follows is = tt
failed_so (Err (Failed failure)) follows is = follows is
failed_so (Err Read) follows is = tt
failed_so (Err Write) follows is = tt
failed_so (Err Memory) follows is = tt
failed_so (Err TooMuch) follows is = tt
failed_so (Err (Refused reason)) follows is = tt

-- what is known of an input follows from what else is
pub of_some : {P Q : List ℕ → Type 0} (input : Option (List ℕ)) → IfSome input P →
    ((bytes : List ℕ) → P bytes → Q bytes) → IfSome input Q
of_some None p follows = tt
of_some (Some bytes) p follows = follows bytes p

-- what holds of each input holds of the one that a source told
pub of_input : (input : Option (List ℕ)) (P : List ℕ → Type 0) → ((bytes : List ℕ) → P bytes) → IfSome input P
of_input None P each = tt
of_input (Some bytes) P each = each bytes

-- ---- first lines

-- the first of mapped lines are those of the first ones
cut_first : (first behind : List Line) (parts : List (List ℕ)) → map line_met parts ≡ first ++ behind →
    (front : List (List ℕ)) × (rest : List (List ℕ)) × (parts ≡ front ++ rest) × (map line_met front ≡ first)
    × (map line_met rest ≡ behind)
cut_first [] behind parts is = ([], parts, refl, refl, is)
cut_first (line ∷ first) behind [] is = cc
cut_first (line ∷ first) behind (part ∷ parts) is =
    let rest = cut_first first behind parts cc in
    let head : line_met part ≡ line = cc in (
      part ∷ rest.0,
      rest.1,
      ap (λ parts. part ∷ parts) rest.2,
      ap (λ lines. line_met part ∷ lines) rest.3 ∙ ap (λ line. line ∷ first) head,
      rest.4,
    )

-- no lines in all are none of the later ones
none_later : (front rest : List (List ℕ)) → front ++ rest ≡ [] → rest ≡ []
none_later [] rest none = none
none_later (part ∷ front) rest none = cc

-- nor any of the first ones
none_first : (first behind : List Line) → first ++ behind ≡ [] → first ≡ []
none_first [] behind none = refl
none_first (line ∷ first) behind none = cc

-- parts that are the first ones, later ones and others, cut behind some that the first and the later ones begin with
are_cut : (parts first later others front rest : List (List ℕ)) → parts ≡ first ++ (later ++ others) →
    first ++ later ≡ front ++ rest → parts ≡ front ++ (rest ++ others)
are_cut parts first later others front rest are cut =
    are ∙ sym (append_assoc first later others) ∙ ap (λ (some : List (List ℕ)). some ++ others) cut
    ∙ append_assoc front rest others

-- what is known behind the lines of some pieces
after_pieces : {Known Reason : Type 0} (lines : LineWork Known Reason) (known : Known) (parts : List (List ℕ)) →
    after_each lines known (map line_met parts) ≡ after_all lines known parts
after_pieces lines known [] = refl
after_pieces lines known (part ∷ parts) = after_pieces lines (lines.after known (line_met part)) parts

-- where the items of each line are more, so are those of some lines
pub items_more : {Known Reason Item : Type 0} (lines : LineWork Known Reason) (items : Known → List Item) →
    ((known : Known) (line : Line) → (more : List Item) × (items (lines.after known line) ≡ items known ++ more)) →
    (known : Known) (parts : List (List ℕ)) →
    (more : List Item) × (items (after_all lines known parts) ≡ items known ++ more)
items_more lines items each known [] = ([], sym (append-nil (items known)))
items_more lines items each known (part ∷ parts) =
    let one = each known (line_met part) in
    let rest = items_more lines items each (lines.after known (line_met part)) parts in (
      one.0 ++ rest.0,
      rest.1 ∙ ap (λ some. some ++ rest.0) one.1 ∙ append_assoc (items known) one.0 rest.0,
    )

module _ {State Item Answer : Type 0} (work : ChronicleWork State Item Answer) {Known Reason : Type 0}
    (lines : LineWork Known Reason) (items : Known → List Item) (known : Known)
    (items_with : List (List ℕ) → List Item)
    (items_are : (parts : List (List ℕ)) → items (after_all lines known parts) ≡ items_with parts) where
  -- the items behind the lines of some pieces
  items_met : (met : List Line) (parts : List (List ℕ)) → met ≡ map line_met parts →
      items (after_each lines known met) ≡ items_with parts
  items_met met parts are =
      ap (λ met. items (after_each lines known met)) are ∙ ap items (after_pieces lines known parts) ∙ items_are parts

  module _ (answers_with : List (List ℕ) → List ℕ)
      (answers_are : (parts : List (List ℕ)) → replies lines known parts ≡ answers_with parts)
      (settled waiting : List Line) (held held' : Option (List ℕ)) (input : List ℕ)
      (met : MetFirst lines known settled waiting held held' input) where
    -- the first of all lines leave no more than the items with those of the first pieces
    more_of : (image : List ℕ) → StandsForSome work lines items known [] (settled ++ waiting) image →
        StandsForMore work items_with input image
    more_of image one =
        let all : map line_met (met.first ++ met.later) ≡ settled ++ waiting =
        map-append line_met met.first met.later
        ∙ ap₂ (λ (first later : List Line). first ++ later) (sym met.settled_are) (sym met.waiting_are) in
        let cut = cut_first one.some.first one.some.behind (met.first ++ met.later) (all ∙ one.some.are) in
        record {
          first = cut.0;
          others = cut.1 ++ met.others;
          are = are_cut (pieces input) met.first met.later met.others cut.0 cut.1 met.are cut.2;
          stands = subst (λ (some : List Item). StandsFor work some image)
              (one.some.is ∙ items_met one.some.first cut.0 (sym cut.3)) one.stands;
        }

    -- what was written is of the answers to the settled lines, so it is of those to more
    taken_of : (front rest : List (List ℕ)) → met.later ≡ front ++ rest →
        (rest ++ met.others ≡ []) ⊎ WritesSome held held' (answers_with (met.first ++ front))
    taken_of front rest cut =
        ⊎_elim
        (λ none. inl (ap₂ (λ (xs ys : List (List ℕ)). xs ++ ys) (none_later front rest (sym cut ∙ none.0)) none.1))
        (λ some. inr (subst (WritesSome held held')
        (sym (replies_append lines known met.first front) ∙ answers_are (met.first ++ front))
        (some_of_more held held' (replies lines known met.first)
        (replies lines (after_all lines known met.first) front) some)))
        met.written

    -- all settled lines and the first of those that wait: each whose answer was taken is among them
    answered_of : (image : List ℕ) → StandsForSome work lines items known settled waiting image →
        StandsForAnswered work items_with answers_with input held held' image
    answered_of image one =
        let cut = cut_first one.some.first one.some.behind met.later (sym met.waiting_are ∙ one.some.are) in
        let all : settled ++ one.some.first ≡ map line_met (met.first ++ cut.0) =
        ap₂ (λ (first later : List Line). first ++ later) met.settled_are (sym cut.3)
        ∙ sym (map-append line_met met.first cut.0) in
        record {
          first = met.first ++ cut.0;
          others = cut.1 ++ met.others;
          are = are_cut (pieces input) met.first met.later met.others (met.first ++ cut.0) cut.1 met.are
              (ap (λ (later : List (List ℕ)). met.first ++ later) cut.2 ∙ sym (append_assoc met.first cut.0 cut.1));
          stands = subst (λ (some : List Item). StandsFor work some image)
              (one.some.is ∙ items_met (settled ++ one.some.first) (met.first ++ cut.0) all) one.stands;
          taken = taken_of cut.0 cut.1 cut.2;
        }

-- ---- the lines of a call

module _ {State Item Answer : Type 0} (work : ChronicleWork State Item Answer) {Known Reason : Type 0}
    (lines : LineWork Known Reason) (items : Known → List Item) {D : Type 0} (disk : Telling D)
    (before now : JobState Known D) (items_with : List (List ℕ) → List Item)
    (items_are : (parts : List (List ℕ)) → items (after_all lines before.known parts) ≡ items_with parts)
    (input : Option (List ℕ)) (kept : IsKept work items disk before) where
  module _ (answers_with : List (List ℕ) → List ℕ)
      (answers_are : (parts : List (List ℕ)) → replies lines before.known parts ≡ answers_with parts)
      (held held' : Option (List ℕ))
      (did : DidSome lines before.known (GoesOn work lines items disk before now) held held' input) where
    -- what a crash at any moment leaves, also of a run that was refused
    pub leaves_more : IfSome input (λ input. LeavesOnly disk.moment disk.left_since before.disk now.disk
        (StandsForMore work items_with input))
    leaves_more = of_some input did.first (λ input met.
        wider disk.moment disk.left_since before.disk now.disk
        (StandsForSome work lines items before.known [] (did.settled ++ did.waiting))
        (StandsForMore work items_with input) (did.did.leaves kept)
        (more_of work lines items before.known items_with items_are answers_with answers_are did.settled did.waiting
        held held' input met))

    -- what each image at the end stands for
    pub keeps_answered : IfSome input (λ input. (image : List ℕ) → disk.images now.disk image →
        StandsForAnswered work items_with answers_with input held held' image)
    keeps_answered = of_some input did.first (λ input met image left.
        answered_of work lines items before.known items_with items_are answers_with answers_are did.settled did.waiting
        held held' input met image (did.did.left kept image left))

  -- where all lines were replied to, each image at the end stands for the items with those of all
  pub keeps_all : DidAll (GoesOn work lines items disk before now) input →
      IfSome input (λ input. (image : List ℕ) → disk.images now.disk image →
      StandsFor work (items_with (pieces input)) image)
  keeps_all did = of_some input did.all (λ input all image left.
      let one = did.did.left kept image left in
      let none : one.some.first ≡ [] = none_first one.some.first one.some.behind (sym one.some.are) in
      let met : did.settled ++ one.some.first ≡ map line_met (pieces input) =
      ap (λ (more : List Line). did.settled ++ more) none ∙ append-nil did.settled ∙ all in
      subst (λ (some : List Item). StandsFor work some image)
      (one.some.is ∙ items_met work lines items before.known items_with items_are
      (did.settled ++ one.some.first) (pieces input) met) one.stands)
