-- Row by row the places become the least.
use Rattle.std.proofs.Common.{◌≡◌, ℕ, ◌+◌, ◌<◌, ◌≤◌, true, false, Option, Some, List, [], ◌∷◌, ◌++◌, length, arith, sym}
use Rattle.std.proofs.Common.{◌∙◌, ap, subst, ⊎_elim, length-append}
use Rattle.std.specs.Prelude.{slice_index}
use Rattle.std.proofs.lemmas.Bool.{cases_Bool, cases_eq}
use Rattle.std.proofs.Math.Seq.{get_or-append_seam}
use Rattle.std.proofs.lemmas.List.{get_or_append_left}
use Rattle.pol_match.specs.Places.{is_in}
use Rattle.pol_match.specs.Seats.{holder_at}
use Rattle.pol_match.specs.Assignments.{IsAssignment, IsLeastAssignment, AgreeBelow, AreSeated, IsSettled, IsReseated}
use Rattle.pol_match.proofs.PlaceSets.{nothing_in}
use Rattle.pol_match.proofs.Chains.{HasMore, more_here, more_within, more_only}

-- the rows so far hold the places that are listed, the least ones
pub record AreLowered (rows : List ℕ) (holders : List (Option ℕ)) (settled row : ℕ) (places : List ℕ) : Type 0 where
  pub seated : AreSeated rows holders (length rows)
  pub is_settled : IsSettled holders settled row
  pub count : length places ≡ row
  pub hold : (each : ℕ) → each < row → holder_at holders (slice_index places each) ≡ Some each
  pub least : (others : List ℕ) (each : ℕ) → IsAssignment rows others → each < row → AgreeBelow others places each
      → slice_index places each ≤ slice_index others each

-- at first no place is listed
pub none_lowered : (rows : List ℕ) (holders : List (Option ℕ)) (places : List ℕ) → AreSeated rows holders (length rows)
    → length places ≡ 0 → AreLowered rows holders 0 0 places
none_lowered rows holders places all none =
    record {
      seated = all;
      is_settled = record {
        early = λ place each held low. absurd (omega arith);
        only = λ place holds. let fails = nothing_in place in absurd cc;
      };
      count = none;
      hold = λ each low. absurd (omega arith);
      least = λ others each assignment low agree. absurd (omega arith);
    }

-- the listed places stay when one more is listed
told_before : (places : List ℕ) (place each : ℕ) → each < length places
    → slice_index (places ++ place ∷ []) each ≡ slice_index places each
told_before places place each low = get_or_append_left places (place ∷ []) 0 each low

-- the place that is listed last is the last one
told_last : (places : List ℕ) (place : ℕ) → slice_index (places ++ place ∷ []) (length places) ≡ place
told_last places place = get_or-append_seam places place [] 0

-- one more row has its lowest place
pub one_more_lowered : (rows : List ℕ) (before after : List (Option ℕ)) (settled more row place : ℕ) (places : List ℕ)
    → row < length rows → AreLowered rows before settled row places → IsReseated rows before after settled row place
    → HasMore settled more place → AreLowered rows after more (row + 1) (places ++ place ∷ [])
one_more_lowered rows before after settled more row place places inside are step has =
    record {
      seated = step.seated;
      is_settled = record {
        early = λ there each held low. ⊎_elim
            (λ equal. let same : holder_at after place ≡ Some each = step.here ∙ ap Some (sym equal) in
            let same_place : there ≡ place = step.seated.seating.once there place each (nothing_in there)
            (nothing_in place) held same in
            subst (λ (spot : ℕ). is_in more spot ≡ true) (sym same_place) (more_here settled more place has))
            (λ apart. let old : each < row = omega arith in
            let kept = kept_at each old in
            let same_place : there ≡ slice_index places each =
            step.seated.seating.once there (slice_index places each) each (nothing_in there)
            (nothing_in (slice_index places each)) held kept.1 in
            subst (λ (spot : ℕ). is_in more spot ≡ true) (sym same_place)
            (more_within settled more place has (slice_index places each) kept.0))
            (cases_eq each row);
        only = λ there holds. ⊎_elim
            (λ equal. (row, omega arith, subst (λ (spot : ℕ). holder_at after spot ≡ Some row) (sym equal) step.here))
            (λ holds_too. let by = are.is_settled.only there holds_too in
            (by.0, omega (arith, by.1), step.kept there holds_too ∙ by.2))
            (more_only settled more place there has holds);
      };
      count = omega (arith, length-append places (place ∷ []), are.count);
      hold = λ each low. ⊎_elim
          (λ equal. let read : slice_index (places ++ place ∷ []) each ≡ place =
          ap (λ index. slice_index (places ++ place ∷ []) index) (equal ∙ sym are.count) ∙ told_last places place in
          ap (λ spot. holder_at after spot) read ∙ (step.here ∙ ap Some (sym equal)))
          (λ apart. let old : each < row = omega arith in
          ap (λ spot. holder_at after spot) (told_before places place each (omega (arith, are.count)))
          ∙ (kept_at each old).1)
          (cases_eq each row);
      least = λ others each assignment low agree. ⊎_elim
          (λ equal. let read : slice_index (places ++ place ∷ []) each ≡ place =
          ap (λ index. slice_index (places ++ place ∷ []) index) (equal ∙ sym are.count) ∙ told_last places place in
          let lowest = step.lowest others assignment (leaves others assignment
          (subst (λ (end : ℕ). AgreeBelow others (places ++ place ∷ []) end) equal agree)) in
          let there : slice_index others each ≡ slice_index others row = ap (λ index. slice_index others index) equal in
          omega (arith, read, lowest, there))
          (λ apart. let old : each < row = omega arith in
          let read = told_before places place each (omega (arith, are.count)) in
          let lower = are.least others each assignment old (λ index less. agree index less
          ∙ told_before places place index (omega (arith, are.count))) in
          omega (arith, read, lower))
          (cases_eq each row);
    }
  where
    kept_at : (each : ℕ) → each < row → (is_in settled (slice_index places each)
        ≡ true) × (holder_at after (slice_index places each) ≡ Some each)
    kept_at each low =
        let held = are.hold each low in
        let holds = are.is_settled.early (slice_index places each) each held low in
        (holds, step.kept (slice_index places each) holds ∙ held)

    -- an assignment that begins with these places gives no later row one of them
    leaves : (others : List ℕ) → IsAssignment rows others → AgreeBelow others (places ++ place ∷ []) row → (each : ℕ)
        → row ≤ each → each < length rows → is_in settled (slice_index others each) ≡ false
    leaves others assignment agree each late low =
        ⊎_elim
        (λ holds. let by = are.is_settled.only (slice_index others each) holds in
        let same_place : slice_index others each ≡ slice_index places by.0 =
        are.seated.seating.once (slice_index others each) (slice_index places by.0) by.0
        (nothing_in (slice_index others each)) (nothing_in (slice_index places by.0)) by.2 (are.hold by.0 by.1) in
        let agreed : slice_index others by.0 ≡ slice_index places by.0 = agree by.0 by.1
        ∙ told_before places place by.0 (omega (arith, are.count, by.1)) in
        let equal : each ≡ by.0 = assignment.once each by.0 low (omega (arith, by.1)) (same_place ∙ sym agreed) in
        absurd (omega (arith, by.1)))
        (λ fails. fails)
        (cases_Bool (is_in settled (slice_index others each)))

-- where the places of all rows are listed, they are the least assignment
pub all_lowered : (rows : List ℕ) (holders : List (Option ℕ)) (settled : ℕ) (places : List ℕ)
    → AreLowered rows holders settled (length rows) places → IsLeastAssignment rows places
all_lowered rows holders settled places are =
    record {
      assignment = record {
        all = are.count;
        fit = λ row low. are.seated.seating.fit (slice_index places row) row (are.hold row low);
        once = λ one other low also equal.
            let held : holder_at holders (slice_index places one) ≡ Some other =
            ap (λ spot. holder_at holders spot) equal ∙ are.hold other also in
            let same = are.hold one low in
            cc;
      };
      least = λ others row assignment low agree. are.least others row assignment low agree;
    }
