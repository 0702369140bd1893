-- Short histories after which an actor of the small site has nothing to do, and others after which it has.
use Rattle.std.specs.Prelude.{◌≡◌, codes, true, false, [], ◌∷◌, slice_get}
use Rattle.std.proofs.Common.{refl}
use Rattle.mtp_codes.specs.declared.state.State.TheVariants as state
use Rattle.mtp_machine.specs.Machine.{command_target, own_target}
use Rattle.chart_core.specs.declared.next.Outcome.TheVariants as outcome
use Rattle.pol_events.specs.declared.answer.Answer.TheVariants as answer
use Rattle.pol_events.specs.declared.answer.Rule.TheVariants as rule
use Rattle.pol_history.specs.Looking.{History}
use Rattle.pol_site.specs.Following.{ordered as ordered_in}
use Rattle.pol_site.specs.Sites.{PlainSiteBatch}
use Rattle.pol_site.specs.Settled.{is_settled_batch, is_settled_exchanger, is_settled_module, waits_to_order}
use Rattle.pol_site.proofs.SampleSite.{site, tag, batch, charge, binds, known, plugged, idle, starting, told, valued}
use Rattle.pol_site.proofs.SampleSite.{started, sent, begun, ended, ordered, of}

-- ---- the exchanger

abbrev opened : History
opened = plugged ∷ known ∷ []

-- it waits for entries, or for its module; or all is done
waits_for_entries : is_settled_exchanger site opened ≡ true
waits_for_entries = refl

waits_for_its_module : is_settled_exchanger site (starting ∷ idle ∷ opened) ≡ true
waits_for_its_module = refl

has_exchanged : is_settled_exchanger site (ended ∷ begun ∷ idle ∷ opened) ≡ true
has_exchanged = refl

-- it doesn't wait while a module is to be plugged, an exchange may begin, or a module is away
is_to_plug : is_settled_exchanger site (known ∷ []) ≡ false
is_to_plug = refl

is_to_begin : is_settled_exchanger site (idle ∷ opened) ≡ false
is_to_begin = refl

is_to_end : is_settled_exchanger site (begun ∷ idle ∷ opened) ≡ false
is_to_end = refl

-- ---- the module

-- all is reported, nothing changes by itself, and every command was followed by a report; or it is away
is_calm : is_settled_module site (valued 0 ∷ idle ∷ opened) tag ≡ true
unfolding own_target
is_calm = refl

is_calm_at_the_greatest : is_settled_module site (valued 8 ∷ told state.Execute 1880 2 ∷ idle ∷ opened) tag ≡ true
unfolding own_target
is_calm_at_the_greatest = refl

is_away : is_settled_module site (begun ∷ idle ∷ opened) tag ≡ true
is_away = refl

-- not before its service is reported, nor before its level is; not while a state changes by itself, a value rises, or a
-- command has no report
is_to_report_its_service : is_settled_module site opened tag ≡ false
is_to_report_its_service = refl

is_to_report_its_level : is_settled_module site (idle ∷ opened) tag ≡ false
unfolding own_target
is_to_report_its_level = refl

is_to_change : is_settled_module site (valued 0 ∷ starting ∷ idle ∷ opened) tag ≡ false
unfolding own_target
is_to_change = refl

is_to_rise : is_settled_module site (valued 5 ∷ told state.Execute 1880 2 ∷ idle ∷ opened) tag ≡ false
unfolding own_target
is_to_rise = refl

is_to_answer : is_settled_module site (sent ∷ started ∷ valued 0 ∷ idle ∷ opened) tag ≡ false
unfolding own_target
is_to_answer = refl

-- ---- the batch

-- the batch as the site lists it
abbrev listed : PlainSiteBatch
listed = record { batch = batch; recipe = charge; binds = binds }

-- its module isn't ready for its start; its start was refused for good; it waits; or it is closed
waits_for_its_recipe : is_settled_batch [] listed ≡ true
waits_for_its_recipe = refl

waits_for_its_start : is_settled_batch (known ∷ []) listed ≡ true
waits_for_its_start = refl

was_refused : is_settled_batch (of started.event (answer.Refused (rule.WrongType (codes "A"))) ∷ idle ∷ opened) listed
    ≡ true
was_refused = refl

is_waiting : is_settled_batch (sent ∷ started ∷ idle ∷ opened) listed ≡ true
is_waiting = refl

is_closed : is_settled_batch (of sent.event (answer.Closed outcome.Completed) ∷ sent ∷ started ∷ idle ∷ opened) listed
    ≡ true
is_closed = refl

-- not where its start is answered otherwise, nor where it can do something
is_to_start : is_settled_batch (idle ∷ opened)
    (record { batch = batch; recipe = charge; binds = record { held = []; watched = [] } }) ≡ false
is_to_start = refl

is_to_advance : is_settled_batch (started ∷ idle ∷ opened) listed ≡ false
unfolding command_target
is_to_advance = refl

-- ---- the desk

-- it waits for entries, or is done; not where its next command may come
waits_to_command : waits_to_order (known ∷ []) (slice_get site.desk (ordered_in (known ∷ []))) ≡ true
waits_to_command = refl

has_commanded : waits_to_order (ordered ∷ opened) (slice_get site.desk (ordered_in (ordered ∷ opened))) ≡ true
has_commanded = refl

is_to_command : waits_to_order opened (slice_get site.desk (ordered_in opened)) ≡ false
is_to_command = refl
