-- The defined answer, in a history that is full or has room.
use Rattle.std.proofs.Common.{◌≡◌, ◌≤◌, ◌<◌, ◌∙◌, sym, ap, length, arith}
use Rattle.std.proofs.lemmas.Bool.{le-leb}
use Rattle.mtp_codes.specs.declared.limits.TheConstants.{LONGEST_HISTORY}
use Rattle.pol_events.specs.Events.{plain_history, exchange_begin}
use Rattle.pol_events.proofs.Histories.{length_history}
use Rattle.pol_history.specs.Answers.{answer_of}
use Rattle.pol_core.specs.Plants.{PlainPlant, plant_history}
use Rattle.pol_core.proofs.Away.{begun_few}
use Rattle.pol_core.proofs.Judging.{full_refuses}
use Rattle.pol_core.proofs.Together.{short_has_room}
use Rattle.pol_core.proofs.plant.Plant.would_get_ticket.Goals as goal

pub begin_ticket-requires : goal.begin_ticket-requires
begin_ticket-requires c = record {
  few = begun_few c.self.inside.modules (plain_history c.self.inside.history.items) c.self.invariant.1.seats
      c.self.invariant.0.few;
}

pub returns-then-len-ge-LONGEST_HISTORY : goal.returns-then-len-ge-LONGEST_HISTORY
returns-then-len-ge-LONGEST_HISTORY c =
    λ at.
    let history = plain_history c.self.inside.history.items in
    let same : length history ≡ length c.self.inside.history.items = length_history c.self.inside.history.items in
    let many = c.if-len-ge-LONGEST_HISTORY.true in
    let len = c.len.ensures in
    let above : LONGEST_HISTORY ≤ length history = omega arith in
    sym (full_refuses history (exchange_begin at c.args.tag) (le-leb LONGEST_HISTORY (length history) above))
    ∙ ap (λ (plant : PlainPlant). answer_of (plant_history plant) (exchange_begin at c.args.tag)) c.self.view_is

pub returns : goal.returns
returns c =
    λ at.
    let room = c.if-len-ge-LONGEST_HISTORY.false in
    let len = c.len.ensures in
    let short : length c.self.inside.history.items < LONGEST_HISTORY = omega arith in
    c.begin_ticket.ensures (plain_history c.self.inside.history.items) at c.self.invariant.1.seats
    c.self.invariant.1.batches (short_has_room c.self.inside.history.items short)
    ∙ ap (λ (plant : PlainPlant). answer_of (plant_history plant) (exchange_begin at c.args.tag)) c.self.view_is
