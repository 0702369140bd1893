-- The part of the tag's seat leaves, where the seat is free.
use Rattle.std.proofs.Common.{sym, ap, ◌∙◌, true≢false, is_some}
use Rattle.std.proofs.lemmas.Result.{err_from_is_err_and}
use Rattle.pol_table.proofs.Docking.{Leaves, look_left, length_left}
use Rattle.pol_table.proofs.Leaving.{leaving_refused, leaving_free, found_free, one_less}
use Rattle.pol_table.proofs.holdings.Holdings.leave.Goals as goal

pub returns-in_err-seat-clause-answer : goal.returns-in_err-seat-clause-answer
returns-in_err-seat-clause-answer g c =
    let fault = err_from_is_err_and c.from_residual.result c.from_residual.ensures.1 in
    rw (fault.1, fault.2, ← c.self.view_is) (sym (leaving_refused _ _ c.self.invariant _ _ (sym c.in_err-seat.ensures)))

pub unreachable-requires : goal.unreachable-requires
unreachable-requires g c =
    true≢false (sym (c.self.invariant.occupied _ _ (found_free _ _ (sym c.in_ok-seat.ensures)).0)
    ∙ ap is_some (sym c.try_remove.ensures.value ∙ c.in-None.is))

pub returns-clause-answer : goal.returns-clause-answer
returns-clause-answer g c =
    rw (← c.self.view_is)
    (sym (leaving_free _ _ c.self.invariant _ _ _ (sym c.in_ok-seat.ensures)
    (sym c.try_remove.ensures.value ∙ c.in-Some.is)))

leaves : (g : _) (c : goal.In-Some g)
    → Leaves c.args.tag c.in_ok-seat.seat c.self.inside.seats.entries c.swap_remove-seat.new.self.entries
    c.self.inside.parts.slots c.try_remove.new.self.slots
leaves g c =
    let found = found_free _ _ (sym c.in_ok-seat.ensures) in record {
      sound = c.self.invariant;
      seated = found.0;
      taken = c.swap_remove-seat.ensures.updates.0;
      others = c.try_remove.ensures.updates.others;
      unique = c.swap_remove-seat.ensures.unique;
      count = one_less _ _ _ _ (c.swap_remove-seat.ensures.value ∙ found.0) c.swap_remove-seat.ensures.len;
    }

pub returns-clause-left : goal.returns-clause-left
returns-clause-left g c other = rw (← c.self.view_is) (look_left _ _ _ _ _ _ (leaves g c) other)

pub returns-clause-count : goal.returns-clause-count
returns-clause-count g c = rw (← c.self.view_is) (length_left _ _ _ _ _ _ (leaves g c))
