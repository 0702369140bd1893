use Rattle.serde_json.specs.View.{view}
use Rattle.pol_record.proofs.Exact.{text_is_written}
use Rattle.pol_record.proofs.entry_lines.event_text.Goals as goal

pub returns-clause-written : goal.returns-clause-written
returns-clause-written c =
    text_is_written c.to_vec.result c.args.event.now (view c.in_ok-value.value) c.requires c.in_ok-value.ensures.value
    c.in_ok-value.ensures.reads_back c.in_ok-value.ensures.whole c.in_ok-value.ensures.nests c.to_vec.ensures.text
    c.to_vec.ensures.utf8 c.to_vec.ensures.order c.to_vec.ensures.reads_back
