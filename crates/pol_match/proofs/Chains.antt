-- One more row is seated where the holder of its place has moved.
use Rattle.std.proofs.Common.{◌≡◌, ◌≢◌, ◌⊎◌, ℕ, ◌<◌, ◌==◌, true, false, ◌||◌, Option, Some, None, List, length, arith}
use Rattle.std.proofs.Common.{sym, ◌∙◌, ap, subst, ⊎_elim, inl, inr}
use Rattle.std.specs.Prelude.{slice_index, slice_set}
use Rattle.std.proofs.lemmas.Bool.Decides.{nat_tests}
use Rattle.std.proofs.lemmas.Bool.{cases_Bool, cases_eq, cases_lt}
use Rattle.std.proofs.Math.ListN.{get_or-eq_default}
use Rattle.std.proofs.lemmas.List.{get_or-set_same, get_or-set_other}
use Rattle.pol_match.specs.Places.{is_in, IsWithin, IsFirstBeyond}
use Rattle.pol_match.proofs.PlaceSets.{nothing_in}
use Rattle.pol_match.specs.Seats.{fits, holder_at, AreForced, IsClosed, IsHeldWithin, IsSeated, IsSeating, IsVacated}
use Rattle.pol_match.specs.Seats.{Sits}

-- the second set has one more place
abbrev pub HasMore : ℕ → ℕ → ℕ → Type 0
HasMore set more place = (each : ℕ) → is_in more each ≡ (each == place || is_in set each)

-- the place that was added is there
pub more_here : (set more place : ℕ) → HasMore set more place → is_in more place ≡ true
more_here set more place has =
    let same : (place == place) ≡ true = grind (arith, nat_tests) in
    has place ∙ ap (λ answer. answer || is_in set place) same

-- what was there stays
pub more_within : (set more place : ℕ) → HasMore set more place → IsWithin set more
more_within set more place has each there =
    ⊎_elim
    (λ holds. has each ∙ ap (λ answer. answer || is_in set each) holds)
    (λ fails. has each ∙ (ap (λ answer. answer || is_in set each) fails ∙ there))
    (cases_Bool (each == place))

-- what is there was added or was there
pub more_only : (set more place each : ℕ) → HasMore set more place → is_in more each ≡ true
    → (each ≡ place) ⊎ (is_in set each ≡ true)
more_only set more place each has there =
    ⊎_elim
    (λ holds. inl (grind (arith, nat_tests)))
    (λ fails. inr (sym (ap (λ answer. answer || is_in set each) fails) ∙ (sym (has each) ∙ there)))
    (cases_Bool (each == place))

-- what is out of the wider set is out of the other
pub out_of : (set other place : ℕ) → IsWithin set other → is_in other place ≡ false → is_in set place ≡ false
out_of set other place within out =
    ⊎_elim (λ holds. let holds_too = within place holds in cc) (λ fails. fails) (cases_Bool (is_in set place))

-- two places of which one is in the set differ
pub differ : (set one other : ℕ) → is_in set one ≡ true → is_in set other ≡ false → one ≢ other
differ set one other there out equal = let holds : is_in set other ≡ true =
    subst (λ (at : ℕ). is_in set at ≡ true) equal there in cc

-- fewer places have to be apart outside a wider set
pub seating_wider : (rows : List ℕ) (holders : List (Option ℕ)) (set wider : ℕ) → IsWithin set wider
    → IsSeating rows holders set → IsSeating rows holders wider
seating_wider rows holders set wider within seating =
    record {
      fit = seating.fit;
      once = λ one other row out beyond held also. seating.once one other row (out_of set wider one within out)
          (out_of set wider other within beyond) held also;
    }

-- who holds a place outside the set sits nowhere else outside it
pub holder_alone : (rows : List ℕ) (before : List (Option ℕ)) (seen more place row : ℕ) → IsSeating rows before seen
    → IsWithin seen more → is_in seen place ≡ false → is_in more place ≡ true → holder_at before place ≡ Some row
    → Sits before more row → ⊥
holder_alone rows before seen more place row seating within out here held sits =
    differ more place sits.place here sits.outside (seating.once place sits.place row out
    (out_of seen more sits.place within sits.outside) held sits.held)

-- what one row's seating is proved from
pub record IsNext (rows : List ℕ) (before after : List (Option ℕ)) (seen set more row place : ℕ) : Type 0 where
  pub seating : IsSeating rows before seen
  pub alone : Sits before seen row → ⊥
  pub closed : IsClosed rows before seen set
  pub next : IsFirstBeyond (slice_index rows row) set place
  pub has_more : HasMore set more place
  pub low : place < length after
  pub vacated : IsVacated rows before after more place

-- the places seen before are seen after
seen_within : {rows : List ℕ} {before after : List (Option ℕ)} {seen set more row place : ℕ}
    → IsNext rows before after seen set more row place → IsWithin seen more
seen_within {set = set} {more = more} {place = place} is each there =
    more_within set more place is.has_more each (is.closed.grown each there)

-- the row's next place wasn't among the places seen before
unseen_place : {rows : List ℕ} {before after : List (Option ℕ)} {seen set more row place : ℕ}
    → IsNext rows before after seen set more row place → is_in seen place ≡ false
unseen_place {seen = seen} {set = set} {place = place} is = out_of seen set place is.closed.grown is.next.new

-- who holds another place after the move sat outside the places seen before it
sat_before : {rows : List ℕ} {before after : List (Option ℕ)} {seen set more row place : ℕ}
    → IsNext rows before after seen set more row place → (each who : ℕ) → is_in seen each ≡ false
    → holder_at after each ≡ Some who → Sits before seen who
sat_before {before = before} {seen = seen} {more = more} {place = place} is each who out held =
    ⊎_elim
    (λ holds. record { place = each; outside = out; held = sym (is.vacated.kept each holds) ∙ held })
    (λ fails. ⊎_elim
    (λ here. record { place = place; outside = unseen_place is; held = here })
    (λ sits. record {
      place = sits.place;
      outside = out_of seen more sits.place (seen_within is) sits.outside;
      held = sits.held;
    })
    (is.vacated.only who (record { place = each; outside = fails; held = held })))
    (cases_Bool (is_in more each))

-- no row holds a place that was kept and one outside
mixed : {rows : List ℕ} {before after : List (Option ℕ)} {seen set more row place : ℕ}
    → IsNext rows before after seen set more row place → (one other who : ℕ) → is_in seen one ≡ false → one ≢ place
    → is_in more one ≡ true → is_in more other ≡ false → holder_at after one ≡ Some who
    → holder_at after other ≡ Some who → ⊥
mixed {before = before} {seen = seen} {more = more} {place = place} is one other who out apart there beyond held also =
    let kept : holder_at before one ≡ Some who = sym (is.vacated.kept one there) ∙ held in
    ⊎_elim
    (λ here. apart (is.seating.once one place who out (unseen_place is) kept here))
    (λ sits. differ more one sits.place there sits.outside (is.seating.once one sits.place who out
    (out_of seen more sits.place (seen_within is) sits.outside) kept sits.held))
    (is.vacated.only who (record { place = other; outside = beyond; held = also }))

-- no row holds two places other than the new one
once_elsewhere : {rows : List ℕ} {before after : List (Option ℕ)} {seen set more row place : ℕ}
    → IsNext rows before after seen set more row place → (one other who : ℕ) → is_in seen one ≡ false
    → is_in seen other ≡ false → one ≢ place → other ≢ place → holder_at after one ≡ Some who
    → holder_at after other ≡ Some who → one ≡ other
once_elsewhere {before = before} {more = more} is one other who out beyond apart differs held also =
    ⊎_elim
    (λ holds. ⊎_elim
    (λ holds_too. is.seating.once one other who out beyond (sym (is.vacated.kept one holds) ∙ held)
    (sym (is.vacated.kept other holds_too) ∙ also))
    (λ fails_too. absurd (mixed is one other who out apart holds fails_too held also))
    (cases_Bool (is_in more other)))
    (λ fails. ⊎_elim
    (λ holds_too. absurd (mixed is other one who beyond differs holds_too fails also held))
    (λ fails_too. is.vacated.seating.once one other who fails fails_too held also)
    (cases_Bool (is_in more other)))
    (cases_Bool (is_in more one))

-- the row has its place
pub seated : (rows : List ℕ) (before after : List (Option ℕ)) (seen set more row place : ℕ)
    → IsNext rows before after seen set more row place
    → IsSeated rows before (slice_set after place (Some row)) seen row place
seated rows before after seen set more row place is =
    record {
      seating = record {
        fit = λ each who held. ⊎_elim
            (λ equal. let same : Some who ≡ Some row = sym held ∙ (ap (λ at. holder_at now at) equal ∙ here) in
            let is_row : who ≡ row = cc in
            subst (λ (at : ℕ). fits rows who at ≡ true) (sym equal)
            (subst (λ (owner : ℕ). fits rows owner place ≡ true) (sym is_row) is.next.here))
            (λ apart. is.vacated.seating.fit each who (sym (elsewhere each apart) ∙ held))
            (cases_eq each place);
        once = λ one other who out beyond held also. ⊎_elim
            (λ equal. ⊎_elim
            (λ equal_too. equal ∙ sym equal_too)
            (λ apart_too. let is_row = row_here one who equal held in
            absurd (is.alone (subst (λ (owner : ℕ). Sits before seen owner) is_row
            (sat_before is other who beyond (sym (elsewhere other apart_too) ∙ also)))))
            (cases_eq other place))
            (λ apart. ⊎_elim
            (λ equal_too. let is_row = row_here other who equal_too also in
            absurd (is.alone (subst (λ (owner : ℕ). Sits before seen owner) is_row
            (sat_before is one who out (sym (elsewhere one apart) ∙ held)))))
            (λ apart_too. once_elsewhere is one other who out beyond apart apart_too (sym (elsewhere one apart) ∙ held)
            (sym (elsewhere other apart_too) ∙ also))
            (cases_eq other place))
            (cases_eq one place);
      };
      kept = λ each there. elsewhere each (differ seen each place there (unseen_place is))
          ∙ is.vacated.kept each (seen_within is each there);
      here = here;
      outside = unseen_place is;
      still = λ each sits. ⊎_elim
          (λ equal. lift each (is.vacated.moved each (subst (λ (at : ℕ). holder_at before at ≡ Some each) equal
          sits.held)))
          (λ apart. ⊎_elim
          (λ holds. record {
            place = sits.place;
            outside = sits.outside;
            held = elsewhere sits.place apart
                ∙ (is.vacated.kept sits.place holds ∙ sits.held);
          })
          (λ fails. lift each (is.vacated.still each (record {
            place = sits.place;
            outside = fails;
            held = sits.held;
          })))
          (cases_Bool (is_in more sits.place)))
          (cases_eq sits.place place);
      only = λ each sits. ⊎_elim
          (λ equal. inl (row_here sits.place each equal sits.held))
          (λ apart. inr (sat_before is sits.place each sits.outside (sym (elsewhere sits.place apart) ∙ sits.held)))
          (cases_eq sits.place place);
      first = record { set = set; closed = is.closed; lower = is.next.first };
    }
  where
    now : List (Option ℕ)
    now = slice_set after place (Some row)

    here : holder_at (slice_set after place (Some row)) place ≡ Some row
    here = get_or-set_same after place (Some row) None is.low

    elsewhere : (each : ℕ) → each ≢ place → holder_at (slice_set after place (Some row)) each ≡ holder_at after each
    elsewhere each apart = get_or-set_other after place each (Some row) None apart

    row_here : (each who : ℕ) → each ≡ place → holder_at (slice_set after place (Some row)) each ≡ Some who → who ≡ row
    row_here each who equal held =
        let same : holder_at (slice_set after place (Some row)) place ≡ Some who =
        subst (λ (at : ℕ). holder_at (slice_set after place (Some row)) at ≡ Some who) equal held in
        let known = here in
        cc

    lift : (who : ℕ) → Sits after more who → Sits (slice_set after place (Some row)) seen who
    lift who sits =
        let apart : sits.place ≢ place = λ equal. differ more place sits.place (more_here set more place is.has_more)
        sits.outside (sym equal) in
        record {
          place = sits.place;
          outside = out_of seen more sits.place (seen_within is) sits.outside;
          held = elsewhere sits.place apart ∙ sits.held;
        }

-- what a place must meet before it is vacated
abbrev pub MayBeVacated : List ℕ → ℕ → ℕ → List (Option ℕ) → Type 0
MayBeVacated rows more place holders =
    IsSeating rows holders more × ((row : ℕ) → holder_at holders place ≡ Some row → Sits holders more row → ⊥)

-- the row's next place may be vacated
pub may_be_vacated : (rows : List ℕ) (before : List (Option ℕ)) (seen set more place : ℕ) → IsSeating rows before seen
    → IsClosed rows before seen set → is_in set place ≡ false → HasMore set more place
    → MayBeVacated rows more place before
may_be_vacated rows before seen set more place seating closed out has =
    let within : IsWithin seen more = λ each there. more_within set more place has each (closed.grown each there) in (
      seating_wider rows before seen more within seating,
      λ row held sits. holder_alone rows before seen more place row seating within
          (out_of seen set place closed.grown out) (more_here set more place has) held sits,
    )

-- what was seen stays closed when a place is looked at in vain
pub closed_more : (rows : List ℕ) (holders : List (Option ℕ)) (seen set more wider place : ℕ)
    → IsClosed rows holders seen set → HasMore set more place → IsClosed rows holders more wider
    → IsHeldWithin rows holders wider place → IsClosed rows holders seen wider
closed_more rows holders seen set more wider place closed has closed_too here =
    record {
      grown = λ each there. grown each (closed.grown each there);
      held = λ each there out. ⊎_elim
          (λ added. ⊎_elim
          (λ same. subst (λ (spot : ℕ). IsHeldWithin rows holders wider spot) (sym same) here)
          (λ before. let by = closed.held each before out in
          record { holder = by.holder; held = by.held; within = λ spot fit. grown spot (by.within spot fit) })
          (more_only set more place each has added))
          (λ later. closed_too.held each there later)
          (cases_Bool (is_in more each));
    }
  where
    grown : (each : ℕ) → is_in set each ≡ true → is_in wider each ≡ true
    grown each there = closed_too.grown each (more_within set more place has each there)

-- what a row has seen is forced at first
pub forced_itself : (rows : List ℕ) (holders : List (Option ℕ)) (seen row : ℕ) → AreForced rows holders seen row seen
forced_itself rows holders seen row other closed within = closed.grown

-- and stays so when one of its places is looked at in vain
pub forced_more : (rows : List ℕ) (holders : List (Option ℕ)) (seen set more wider row place : ℕ)
    → IsClosed rows holders seen set → IsFirstBeyond (slice_index rows row) set place → HasMore set more place
    → AreForced rows holders seen row set
    → ((other : ℕ) → IsClosed rows holders more other → IsHeldWithin rows holders other place → IsWithin wider other)
    → AreForced rows holders seen row wider
forced_more rows holders seen set more wider row place closed next has forced kept other closed_too within =
    let unseen = out_of seen set place closed.grown next.new in
    let here = within place next.here in
    kept other
    (record {
      grown = λ each there. ⊎_elim
          (λ equal. subst (λ (at : ℕ). is_in other at ≡ true) (sym equal) here)
          (λ old. forced other closed_too within each old)
          (more_only set more place each has there);
      held = λ each there out. closed_too.held each there (out_of seen more each
          (λ spot seen_it. more_within set more place has spot (closed.grown spot seen_it)) out);
    })
    (closed_too.held place here unseen)

-- a holder that is stuck leaves its place in the least closed set
pub kept_forced : (rows : List ℕ) (holders : List (Option ℕ)) (seen set holder place : ℕ)
    → holder_at holders place ≡ Some holder → AreForced rows holders seen holder set → (other : ℕ)
    → IsClosed rows holders seen other → IsHeldWithin rows holders other place → IsWithin set other
kept_forced rows holders seen set holder place held forced other closed by =
    let same : Some by.holder ≡ Some holder = sym by.held ∙ held in
    let equal : by.holder ≡ holder = cc in
    forced other closed (subst (λ (who : ℕ). IsWithin (slice_index rows who) other) equal by.within)

-- a row that fits a place is one of the rows
pub row_there : (rows : List ℕ) (row place : ℕ) → fits rows row place ≡ true → row < length rows
row_there rows row place fit =
    ⊎_elim
    (λ low. low)
    (λ high. let none : is_in (slice_index rows row) place ≡ false =
    ap (λ set. is_in set place) (get_or-eq_default rows 0 high) ∙ nothing_in place in cc)
    (cases_lt row (length rows))
