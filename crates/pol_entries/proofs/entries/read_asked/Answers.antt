use Rattle.std.proofs.Common.{codes, subst}
use Rattle.serde_json.specs.View.{view}
use Rattle.mtp_json.specs.Form.{nested}
use Rattle.pol_events.specs.Events.{plain_event}
use Rattle.event_json.specs.Forms.{event_in}
use Rattle.pol_entries.specs.Entries.{Sound}
use Rattle.pol_entries.proofs.Lines.{with_answer}
use Rattle.pol_entries.proofs.entries.read_asked.Goals as goal

pub returns-in-Err-clause-gives : goal.returns-in-Err-clause-gives
returns-in-Err-clause-gives c =
    let asked =
    subst (λ asked. Sound plain_event (λ event. event) asked (nested (codes "event") event_in (view c.args.value.now)))
    c.in-Err.is c.in_ok-asked.ensures.gives in (
      record { event = asked.0; answer = c.in_ok-answer.answer },
      with_answer (view c.args.value.now) c.in_ok-answer.answer asked.0 c.in_ok-object_here.ensures
          c.in_ok-answer.ensures asked.1 c.in_ok-nothing_but.ensures,
      asked.2,
    )
