use Rattle.std.proofs.Common.{arith, true, ◌≡◌, ◌<◌, ◌≤◌, ◌∙◌, ℕ, length, List, Option, get_or, sym, subst}
use Rattle.std.specs.Prelude.{slice_index}
use Rattle.std.proofs.lemmas.List.{get_or_default}
use Rattle.pol_match.specs.Places.{IsFirstBeyond, IsWithin}
use Rattle.pol_match.specs.Seats.{fits, IsKept, IsVacated}
use Rattle.pol_match.proofs.Counting.{unseen, unseen_less}
use Rattle.pol_match.proofs.Chains.{MayBeVacated, closed_more, forced_more, may_be_vacated, more_within, more_here, out_of}
use Rattle.pol_match.proofs.Chains.{row_there, seated}
use Rattle.pol_match.proofs.seats.+seat.Goals as goal

-- the first place of what was read at a row is that of the row
first_of_row : (rows : List ℕ) (row read set place : ℕ) → row < length rows → read ≡ get_or rows row read
    → IsFirstBeyond read set place → IsFirstBeyond (slice_index rows row) set place
first_of_row rows row read set place inside is first =
    subst (λ (each : ℕ). IsFirstBeyond each set place) (is ∙ get_or_default rows row read 0 inside) first

pub seat-vacate-requires : goal.seat-vacate-requires
seat-vacate-requires t c =
    let next = first_of_row c.args.rows.now c.args.row c.index-rows-row.result c.loop-place.seen c.in-Some.place
    c.requires.row c.index-rows-row.is c.in-Some.ensures.some in
    let closed = c.loop-place.invariant.closed in
    let before = sym c.loop-place.invariant.same in
    let rows = c.args.rows.now in
    let set = c.loop-place.seen in
    let more = c.insert.new.self in
    let place = c.in-Some.place in
    let old = c.args.seen.now in
    let within : IsWithin old more = λ each there. more_within set more place c.insert.ensures each
    (closed.grown each there) in
    let less : unseen more < unseen old = unseen_less old more place within next.below
    (out_of old set place closed.grown next.new) (more_here set more place c.insert.ensures) in
    let may = subst (MayBeVacated rows more place) before (may_be_vacated rows c.args.holders.now old set more place
    c.requires.seating closed next.new c.insert.ensures) in (
      omega (arith, less, c.decreases),
      (
        subst (λ (holders : List (Option ℕ)). (row place : ℕ) → fits rows row place ≡ true → place < length holders)
            before c.requires.inside,
        (
          subst (λ (holders : List (Option ℕ)). length holders ≤ 64) before c.requires.few,
          (
            subst (λ (holders : List (Option ℕ)). place < length holders) before
                (c.requires.inside c.args.row place next.here),
            (may.0, may.1),
          ),
        ),
      ),
    )

pub seat-returns-then-vacate : goal.seat-returns-then-vacate
seat-returns-then-vacate t c =
    let next = first_of_row c.args.rows.now c.args.row c.index-rows-row.result c.loop-place.seen c.in-Some.place
    c.requires.row c.index-rows-row.is c.in-Some.ensures.some in
    seated c.args.rows.now c.args.holders.now c.vacate.new.holders c.args.seen.now c.loop-place.seen c.insert.new.self
    c.args.row c.in-Some.place
    (record {
      seating = c.requires.seating;
      alone = c.requires.alone;
      closed = c.loop-place.invariant.closed;
      next = next;
      has_more = c.insert.ensures;
      low = omega (
        arith,
        c.requires.inside c.args.row c.in-Some.place next.here,
        c.vacate.auto.holders,
        c.loop-place.auto.holders,
      );
      vacated = subst (λ (holders : List (Option ℕ)). IsVacated c.args.rows.now holders c.vacate.new.holders
          c.insert.new.self c.in-Some.place) c.loop-place.invariant.same c.if-vacate.ensures;
    })

pub seat-loop-place-smaller : goal.seat-loop-place-smaller
seat-loop-place-smaller t c =
    let next = c.in-Some.ensures.some in
    let kept = c.if-vacate.ensures in
    let set = c.loop-place.seen in
    let more = c.insert.new.self in
    let place = c.in-Some.place in
    unseen_less set c.vacate.new.seen place (λ each there. kept.closed.grown each
    (more_within set more place c.insert.ensures each there)) next.below next.new
    (kept.closed.grown place (more_here set more place c.insert.ensures))

pub seat-loop-place-preserved : goal.seat-loop-place-preserved
seat-loop-place-preserved t c =
    let next = first_of_row c.args.rows.now c.args.row c.index-rows-row.result c.loop-place.seen c.in-Some.place
    c.requires.row c.index-rows-row.is c.in-Some.ensures.some in
    let rows = c.args.rows.now in
    let holders = c.args.holders.now in
    let old = c.args.seen.now in
    let set = c.loop-place.seen in
    let more = c.insert.new.self in
    let wider = c.vacate.new.seen in
    let place = c.in-Some.place in
    let kept = subst (λ (before : List (Option ℕ)). IsKept rows before c.vacate.new.holders more wider place)
    c.loop-place.invariant.same c.if-vacate.ensures in
    record {
      same = kept.same;
      closed = closed_more rows holders old set more wider place c.loop-place.invariant.closed c.insert.ensures
          kept.closed kept.here;
      forced = forced_more rows holders old set more wider c.args.row place c.loop-place.invariant.closed next
          c.insert.ensures c.loop-place.invariant.forced kept.forced;
    }

pub vacate-seat-requires : goal.vacate-seat-requires
vacate-seat-requires t c = (
  omega (arith, c.decreases),
  (
    c.requires.inside,
    (
      c.requires.few,
      (
        row_there c.args.rows.now c.in-Some.holder c.args.place
            (c.requires.seating.fit c.args.place c.in-Some.holder c.in-Some.is),
        (
          c.requires.seating,
          c.requires.alone c.in-Some.holder c.in-Some.is,
        ),
      ),
    ),
  ),
)
