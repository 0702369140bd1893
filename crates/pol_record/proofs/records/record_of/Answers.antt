-- Each turn adds the entry where it is the batch's.
use Rattle.std.proofs.Common.{◌∙◌, ap, sym, take, Some}
use Rattle.std.specs.Option.{option_eq}
use Rattle.std.specs.Str.{bytes_eq}
use Rattle.pol_events.specs.Events.{plain_entry, plain_history}
use Rattle.pol_history.specs.Looking.{past_of_batch}
use Rattle.pol_record.specs.Gathered.{plain_record, record_by}
use Rattle.pol_record.proofs.Known.{one_more, known_more, known_same}
use Rattle.pol_record.proofs.records.record_of.Goals.{then-eq+in_ok-add, else-eq}
use Rattle.pol_record.proofs.records.record_of.Goals as goal

pub loop-entry-preserved : goal.loop-entry-preserved
loop-entry-preserved c =
    let before = plain_history (take c.loop-entry.entry-index c.args.history.now) in
    let entry = plain_entry c.entry-item.result in
    let known = plain_record c.loop-entry.known in
    let more = ap (λ history. record_by (past_of_batch c.args.batch history))
    (sym (one_more c.args.history.now c.loop-entry.entry-index c.entry-item.result c.loop-entry-test.true
    c.entry-item.is)) in
    let its = ap (λ found. option_eq bytes_eq found (Some c.args.batch)) (sym c.accepted_batch.ensures)
    ∙ sym c.eq.ensures in
    elim c.if-eq.branch [
      | then-eq+in_ok-add w ↦
          ap plain_record w.known-is
          ∙ w.in_ok-add.ensures
          ∙ known_more before entry c.args.batch known c.loop-entry.invariant (its ∙ w.if-eq.true)
          ∙ more
      | else-eq w ↦
          ap plain_record w.known-is
          ∙ known_same before entry c.args.batch known c.loop-entry.invariant (its ∙ w.if-eq.false)
          ∙ more
    ]
