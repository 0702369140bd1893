use Rattle.std.proofs.Common.{arith}
use Rattle.std.proofs.lemmas.Result.{IfOk-weaker}
use Rattle.serde_json.specs.View.{view}
use Rattle.pol_events.specs.Events.{plain_event}
use Rattle.event_json.proofs.Again.{event_again, line_again}
use Rattle.event_json.proofs.Depths.{event_depth, event_whole}
use Rattle.event_json.proofs.writing.event_value.Goals as goal

pub returns-clause-reads_back : goal.returns-clause-reads_back
returns-clause-reads_back c = IfOk-weaker c.write_event.result _ _
    (λ value is. rw is.0 (event_again c.args.event.now is.1 c.requires)) c.write_event.ensures

pub returns-clause-nests : goal.returns-clause-nests
returns-clause-nests c = IfOk-weaker c.write_event.result _ _
    (λ value is. let less = event_depth c.args.event.now c.requires in rw is.0 (omega (arith, less)))
    c.write_event.ensures

pub returns-clause-whole : goal.returns-clause-whole
returns-clause-whole c = IfOk-weaker c.write_event.result _ _
    (λ value is. rw is.0 (event_whole (plain_event c.args.event.now))) c.write_event.ensures

pub returns-clause-line : goal.returns-clause-line
returns-clause-line c =
    IfOk-weaker c.write_event.result _ _
    (λ value is text utf8 read.
    line_again text (view value) (plain_event c.args.event.now) utf8 read
    (rw is.0 (event_again c.args.event.now is.1 c.requires)) c.requires) c.write_event.ensures
