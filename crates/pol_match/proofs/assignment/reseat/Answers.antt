use Rattle.std.proofs.lemmas.Bool.{some_since}
use Rattle.std.proofs.lemmas.Option.{MatchOption-at_some}
use Rattle.pol_match.specs.Seats.{IsSeated, IsStuck}
use Rattle.pol_match.proofs.Reseating.{IsFreed, freed_seating, freed_alone, not_stuck, reseated}
use Rattle.pol_match.proofs.assignment.reseat.Goals as goal

pub seat-requires-clause-seating : goal.seat-requires-clause-seating
seat-requires-clause-seating c =
    let freed : IsFreed c.args.rows.now c.args.holders.now c.unseat.new.holders c.args.settled c.args.row =
    record {
      low = c.requires.row;
      seated = c.requires.seated;
      is_settled = c.requires.settled;
      unseated = c.unseat.ensures;
    } in
    freed_seating freed

pub seat-requires-clause-alone : goal.seat-requires-clause-alone
seat-requires-clause-alone c =
    let freed : IsFreed c.args.rows.now c.args.holders.now c.unseat.new.holders c.args.settled c.args.row =
    record {
      low = c.requires.row;
      seated = c.requires.seated;
      is_settled = c.requires.settled;
      unseated = c.unseat.ensures;
    } in
    freed_alone freed

pub unwrap-requires : goal.unwrap-requires
unwrap-requires c =
    let freed : IsFreed c.args.rows.now c.args.holders.now c.unseat.new.holders c.args.settled c.args.row =
    record {
      low = c.requires.row;
      seated = c.requires.seated;
      is_settled = c.requires.settled;
      unseated = c.unseat.ensures;
    } in
    some_since c.seat.result
    (IsStuck c.args.rows.now c.unseat.new.holders c.seat.new.holders c.args.settled c.seat.new.seen c.args.row)
    (λ place. IsSeated c.args.rows.now c.unseat.new.holders c.seat.new.holders c.args.settled c.args.row place)
    c.seat.ensures
    (not_stuck freed c.seat.new.holders c.seat.new.seen)

pub returns : goal.returns
returns c =
    let freed : IsFreed c.args.rows.now c.args.holders.now c.unseat.new.holders c.args.settled c.args.row =
    record {
      low = c.requires.row;
      seated = c.requires.seated;
      is_settled = c.requires.settled;
      unseated = c.unseat.ensures;
    } in
    reseated freed c.seat.new.holders c.unwrap.result
    (MatchOption-at_some
    (IsStuck c.args.rows.now c.unseat.new.holders c.seat.new.holders c.args.settled c.seat.new.seen c.args.row)
    (λ place. IsSeated c.args.rows.now c.unseat.new.holders c.seat.new.holders c.args.settled c.args.row place)
    c.unwrap.result c.unwrap.ensures c.seat.ensures)
