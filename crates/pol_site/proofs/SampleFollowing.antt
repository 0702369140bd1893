-- Short histories that follow the small site, and for each fact one that doesn't.
use Rattle.std.specs.Prelude.{◌≡◌, pos, codes, true, false, [], ◌∷◌, length, Some, None}
use Rattle.std.proofs.Common.{◌⊎◌, inl, inr, refl, sym, ap, ◌∙◌, arith}
use Rattle.std.specs.List.{Contains}
use Rattle.std.proofs.lemmas.List.Elements.{Contains-get_or, Contains-push_cases}
use Rattle.std.proofs.lemmas.Option.{same_Some}
use Rattle.mtp_codes.specs.declared.command.Command.TheVariants as command
use Rattle.mtp_codes.specs.declared.mode.Mode.TheVariants as mode
use Rattle.mtp_codes.specs.declared.mode.Origin.TheVariants as origin
use Rattle.mtp_codes.specs.declared.state.State.TheVariants as state
use Rattle.mtp_codes.specs.declared.value.Value.TheVariants as value
use Rattle.chart_core.specs.declared.why.Why.TheVariants as why
use Rattle.pol_events.specs.Events.{PlainEntry, unplug, report, variable, recipe, start, freeze, thaw, stop_batch}
use Rattle.pol_events.specs.Events.{abandon, desk, exchange_begin, exchange_end, exchange_cancel}
use Rattle.pol_events.specs.declared.answer.Answer.TheVariants as answer
use Rattle.pol_events.specs.declared.answer.Rule.TheVariants as rule
use Rattle.pol_history.specs.Looking.{History, is_accepted}
use Rattle.mtp_codes.specs.Codes.{command_number}
use Rattle.mtp_sim.specs.Ticks.{enabled_of}
use Rattle.pol_site.specs.Following.{FollowsSite, IsAllowed}
use Rattle.pol_site.proofs.SampleSite.{site, tag, dose, batch, charge, doser, other_doser, drift, other_drift, chart}
use Rattle.pol_site.proofs.SampleSite.{of, known, plugged, idle, starting, executing, told, valued, started, sent}
use Rattle.pol_site.proofs.SampleSite.{begun, ended, ordered}

-- an entry is allowed after these
abbrev Follows : History → PlainEntry → Type 0
Follows older entry = IsAllowed site older entry.event entry.answer

-- ---- recipes and modules

-- the recipe comes first, and then the module
recipe_opens : Follows [] known
recipe_opens = record { listed = refl; unexchanged = refl }

module_opens : Follows (known ∷ []) plugged
module_opens = record { listed = refl; unexchanged = refl }

-- not the module before the recipe; not another recipe; none twice
not_out_of_order : Follows [] plugged → ⊥
not_out_of_order allowed = let is = allowed.listed in cc

not_unlisted : IsAllowed site [] (recipe 7 (codes "rr") chart) answer.Done → ⊥
not_unlisted allowed = let is = allowed.listed in cc

not_twice : Follows (plugged ∷ known ∷ []) plugged → ⊥
not_twice allowed = let is = allowed.listed in cc

-- not behind an exchange
not_behind_an_exchange : Follows (begun ∷ known ∷ []) plugged → ⊥
not_behind_an_exchange allowed = let is = allowed.unexchanged in cc

-- ---- exchanges

-- an exchange begins once there are three entries
begins : Follows (idle ∷ plugged ∷ known ∷ []) begun
begins = record { exchange = _; listed = refl; tag_is = refl; waited = omega arith; closed = refl; accepted = refl }

-- not before; not of another tag; not a second one; not while one is open; not where it is refused
not_too_early : Follows (plugged ∷ known ∷ []) begun → ⊥
not_too_early allowed =
    let is = ap (λ exchange. exchange.after) (same_Some _ _ allowed.listed) in
    let waited = allowed.waited in
    omega (arith, is, waited)

not_another_module : IsAllowed site (idle ∷ plugged ∷ known ∷ []) (exchange_begin 13 (codes "MM")) (answer.Ticket 1) → ⊥
not_another_module allowed =
    let is = allowed.tag_is ∙ sym (ap (λ exchange. exchange.tag) (same_Some _ _ allowed.listed)) in
    cc

not_a_second_exchange : Follows (ended ∷ begun ∷ idle ∷ plugged ∷ known ∷ []) begun → ⊥
not_a_second_exchange allowed = let is = allowed.listed in cc

not_while_one_is_open : Follows (begun ∷ idle ∷ plugged ∷ known ∷ []) begun → ⊥
not_while_one_is_open allowed = let is = allowed.closed in cc

not_a_refused_begin :
    IsAllowed site (idle ∷ plugged ∷ known ∷ []) begun.event (answer.Refused (rule.NoModule tag)) → ⊥
not_a_refused_begin allowed = let is = allowed.accepted in cc

-- it ends with its ticket and the listed description
ends : Follows (begun ∷ idle ∷ plugged ∷ known ∷ []) ended
ends = record { exchange = _; listed = refl; description_is = refl; begun = refl }

-- not with another ticket or description; not before it began; not twice
not_another_ticket : IsAllowed site (begun ∷ idle ∷ plugged ∷ known ∷ []) (exchange_end 14 tag 2 other_doser)
    answer.Done → ⊥
not_another_ticket allowed = let is = allowed.begun in cc

not_another_description : IsAllowed site (begun ∷ idle ∷ plugged ∷ known ∷ []) (exchange_end 14 tag 1 doser) answer.Done
    → ⊥
not_another_description allowed =
    let listed : allowed.exchange.description ≡ other_doser =
    sym (ap (λ exchange. exchange.description) (same_Some _ _ allowed.listed)) in
    let minor : 0 ≡ 1 = ap (λ description. description.version.1) (allowed.description_is ∙ listed) in
    omega (arith, minor)

not_before_it_began : Follows (idle ∷ plugged ∷ known ∷ []) ended → ⊥
not_before_it_began allowed = let is = allowed.begun in cc

not_ended_twice : Follows (ended ∷ begun ∷ idle ∷ plugged ∷ known ∷ []) ended → ⊥
not_ended_twice allowed = let is = allowed.begun in cc

-- an end that is held back
abbrev held : PlainEntry
held = of ended.event (answer.Refused (rule.HeldBack batch (codes "s")))

abbrev cancelled : PlainEntry
cancelled = of (exchange_cancel 16 tag 1) answer.Done

-- then it is cancelled with its ticket
cancels : Follows (held ∷ begun ∷ idle ∷ plugged ∷ known ∷ []) cancelled
cancels = record { held = refl; accepted = refl }

-- not where nothing was held back; not begun or ended instead; not where the cancel is refused
not_cancelled_unheld : Follows (ended ∷ begun ∷ idle ∷ plugged ∷ known ∷ []) cancelled → ⊥
not_cancelled_unheld allowed = let is = allowed.held in cc

not_ended_once_held : Follows (held ∷ begun ∷ idle ∷ plugged ∷ known ∷ []) ended → ⊥
not_ended_once_held allowed = let is = allowed.begun in cc

not_a_refused_cancel :
    IsAllowed site (held ∷ begun ∷ idle ∷ plugged ∷ known ∷ []) cancelled.event (answer.Refused rule.NotInExchange) → ⊥
not_a_refused_cancel allowed = let is = allowed.accepted in cc

-- ---- batches

-- a batch of the site is started as listed, and then advanced
starts : Follows (idle ∷ plugged ∷ known ∷ []) started
starts = record { listed = refl; first = refl; not_put_off = refl }

advances : Follows (started ∷ idle ∷ plugged ∷ known ∷ []) sent
advances = record { before = started; last = refl; accepted = refl; stepped = refl }

-- not with other binds; not twice; not while its module isn't ready
not_as_listed : IsAllowed site (idle ∷ plugged ∷ known ∷ [])
    (start 11 batch charge (record { held = []; watched = [] })) answer.Done → ⊥
not_as_listed allowed =
    let is : 1 ≡ 0 = ap (λ batch. length batch.binds.held) (same_Some _ _ allowed.listed) in
    omega (arith, is)

not_started_twice : Follows (started ∷ idle ∷ plugged ∷ known ∷ []) started → ⊥
not_started_twice allowed = let is = allowed.first in cc

put_off_is_refused :
    IsAllowed site (plugged ∷ known ∷ []) started.event (answer.Refused (rule.NotReported tag dose)) → ⊥
put_off_is_refused allowed = let is = allowed.not_put_off in cc

-- a start that is refused for another rule is the batch's last entry
abbrev refused : PlainEntry
refused = of started.event (answer.Refused (rule.WrongType (codes "A")))

refused_for_good : Follows (idle ∷ plugged ∷ known ∷ []) refused
refused_for_good = record { listed = refl; first = refl; not_put_off = refl }

not_behind_a_refused_start : Follows (refused ∷ idle ∷ plugged ∷ known ∷ []) sent → ⊥
not_behind_a_refused_start allowed =
    let is : false ≡ true = ap (λ entry. is_accepted entry.answer) (same_Some _ _ allowed.last) ∙ allowed.accepted in
    cc

-- not advanced before its start; not where it only waits
not_before_its_start : Follows (idle ∷ plugged ∷ known ∷ []) sent → ⊥
not_before_its_start allowed = let is = allowed.last in cc

not_waiting :
    IsAllowed site (started ∷ idle ∷ plugged ∷ known ∷ []) sent.event (answer.Waiting why.Frozen) → ⊥
not_waiting allowed = let is = allowed.stepped in cc

-- ---- the desk

-- the desk commands once there are two entries, whatever the answer
orders : IsAllowed site (plugged ∷ known ∷ []) ordered.event (answer.Refused (rule.NotReported tag dose))
orders = record { after = 2; listed = refl; waited = omega arith }

-- not before; not another command; not once its list is done
not_ordered_early : Follows (known ∷ []) ordered → ⊥
not_ordered_early allowed =
    let is = ap (λ order. order.after) (same_Some _ _ allowed.listed) in
    let waited = allowed.waited in
    omega (arith, is, waited)

not_another_command : IsAllowed site (plugged ∷ known ∷ []) (desk 15 tag dose command.Stop) answer.Done → ⊥
not_another_command allowed =
    let is : 4 ≡ 8 = ap (λ order. command_number order.command) (same_Some _ _ allowed.listed) in
    omega (arith, is)

not_more_orders : Follows (ordered ∷ plugged ∷ known ∷ []) ordered → ⊥
not_more_orders allowed = let is = allowed.listed in cc

-- ---- reports

-- a service reports Idle first, with procedure 0
reports_idle : Follows (plugged ∷ known ∷ []) idle
unfolding enabled_of
reports_idle = record { accepted = refl; new = refl; due = refl }

-- once it was started, the states that follow, with the procedure that was started
reports_starting : Follows (sent ∷ started ∷ idle ∷ plugged ∷ known ∷ []) starting
unfolding enabled_of
reports_starting = record { accepted = refl; new = λ same. cc; due = refl }

reports_executing : Follows (starting ∷ sent ∷ started ∷ idle ∷ plugged ∷ known ∷ []) executing
unfolding enabled_of
reports_executing = record { accepted = refl; new = λ same. cc; due = refl }

-- not another state first; not the same state twice; not where it is refused
not_starting_first : Follows (plugged ∷ known ∷ []) (told state.Starting 280 0) → ⊥
not_starting_first allowed = let is = allowed.new in cc

not_the_same_state : Follows (idle ∷ plugged ∷ known ∷ []) idle → ⊥
not_the_same_state allowed = allowed.new refl

not_a_refused_report :
    IsAllowed site (plugged ∷ known ∷ []) idle.event (answer.Refused (rule.NotAnEdge state.Idle state.Idle)) → ⊥
not_a_refused_report allowed = let is = allowed.accepted in cc

-- not with another mask, procedure, mode or source
not_another_mask : Follows (plugged ∷ known ∷ []) (told state.Idle 4 0) → ⊥
unfolding enabled_of
not_another_mask allowed = let is : 4 ≡ 268 = ap (λ control. control.mask) allowed.due in omega (arith, is)

not_another_procedure : Follows (sent ∷ started ∷ idle ∷ plugged ∷ known ∷ []) (told state.Starting 280 2) → ⊥
not_another_procedure allowed = let is : 2 ≡ 1 = ap (λ control. control.procedure) allowed.due in omega (arith, is)

not_by_the_operator :
    IsAllowed site (plugged ∷ known ∷ []) (report 9 tag dose
    (record { state = state.Idle; mask = 268; mode = mode.Operator; origin = origin.External; procedure = 0 }))
    answer.Done
    → ⊥
not_by_the_operator allowed = let is = ap (λ control. control.mode) allowed.due in cc

not_from_inside :
    IsAllowed site (plugged ∷ known ∷ []) (report 9 tag dose
    (record { state = state.Idle; mask = 268; mode = mode.Automatic; origin = origin.Internal; procedure = 0 }))
    answer.Done
    → ⊥
not_from_inside allowed = let is = ap (λ control. control.origin) allowed.due in cc

-- ---- values

-- the one item of a list is in it
only_one : {A : Type 0} (x : A) → Contains (x ∷ []) x
only_one x = Contains-get_or (x ∷ []) 0 x (omega arith)

-- a drift is at its first value, then rises, and stops at its greatest
reports_0 : Follows (idle ∷ plugged ∷ known ∷ []) (valued 0)
reports_0 = record { accepted = refl; drift = drift; listed = only_one drift; name_is = refl; next = refl }

reports_5 : Follows (valued 0 ∷ idle ∷ plugged ∷ known ∷ []) (valued 5)
reports_5 = record { accepted = refl; drift = drift; listed = only_one drift; name_is = refl; next = refl }

reports_8 : Follows (valued 5 ∷ valued 0 ∷ idle ∷ plugged ∷ known ∷ []) (valued 8)
reports_8 = record { accepted = refl; drift = drift; listed = only_one drift; name_is = refl; next = refl }

-- after an exchange it is the drift of the other module, from its first value on
reports_0_again : Follows (ended ∷ begun ∷ valued 5 ∷ valued 0 ∷ idle ∷ plugged ∷ known ∷ []) (valued 0)
reports_0_again =
    record { accepted = refl; drift = other_drift; listed = only_one other_drift; name_is = refl; next = refl }

-- an item of a list of one is that one
is_only : {A : Type 0} (x other : A) → Contains (x ∷ []) other → x ≡ other
is_only x other among = go (Contains-push_cases [] x other among)
  where
    go : Contains [] other ⊎ (x ≡ other) → x ≡ other
    go (inl none) = let less = none.1 in absurd (omega (arith, less))
    go (inr same) = same

-- not another value; none beyond the greatest; not of another variable; not where it is refused
not_another_value : Follows (valued 0 ∷ idle ∷ plugged ∷ known ∷ []) (valued 6) → ⊥
not_another_value allowed =
    let same = is_only drift allowed.drift allowed.listed in
    let next = allowed.next in
    let is : Some (value.Whole (pos 5)) ≡ Some (value.Whole (pos 6)) = rw (sym same) at next in
    cc

none_beyond_the_greatest : Follows (valued 8 ∷ valued 5 ∷ valued 0 ∷ idle ∷ plugged ∷ known ∷ []) (valued 9) → ⊥
none_beyond_the_greatest allowed =
    let same = is_only drift allowed.drift allowed.listed in
    let next = allowed.next in
    let is : None ≡ Some (value.Whole (pos 9)) = rw (sym same) at next in
    cc

not_another_variable :
    IsAllowed site (idle ∷ plugged ∷ known ∷ []) (variable 10 (codes "M") (codes "level2") (value.Whole (pos 0)))
    answer.Done → ⊥
not_another_variable allowed =
    let is = ap (λ drift. drift.name) (is_only drift allowed.drift allowed.listed) ∙ allowed.name_is in
    cc

not_a_refused_value :
    IsAllowed site (idle ∷ plugged ∷ known ∷ []) (valued 0).event (answer.Refused rule.OutOfRange) → ⊥
not_a_refused_value allowed = let is = allowed.accepted in cc

-- ---- nothing else

-- no module is unplugged; no batch is frozen, thawed, stopped or abandoned
not_unplugged : IsAllowed site (plugged ∷ known ∷ []) (unplug 20 tag) answer.Done → ⊥
not_unplugged allowed = allowed

-- no batch is frozen
not_frozen : IsAllowed site (started ∷ idle ∷ plugged ∷ known ∷ []) (freeze 20 batch false) answer.Done → ⊥
not_frozen allowed = allowed

not_thawed : IsAllowed site (started ∷ idle ∷ plugged ∷ known ∷ []) (thaw 20 batch) answer.Done → ⊥
not_thawed allowed = allowed

not_stopped : IsAllowed site (started ∷ idle ∷ plugged ∷ known ∷ []) (stop_batch 20 batch) answer.Done → ⊥
not_stopped allowed = allowed

not_abandoned : IsAllowed site (started ∷ idle ∷ plugged ∷ known ∷ []) (abandon 20 batch) answer.Done → ⊥
not_abandoned allowed = allowed

-- ---- a run from the start

-- recipe, module, first reports, start, command, and what comes of it
runs :
    FollowsSite site
    (valued 5 ∷ executing ∷ starting ∷ sent ∷ started ∷ valued 0 ∷ idle ∷ plugged ∷ known ∷ [])
unfolding enabled_of
runs = (
  run_5,
  (
    run_executing,
    (
      run_starting,
      (
        run_sent,
        (run_started, (reports_0, (reports_idle, (module_opens, (recipe_opens, tt))))),
      ),
    ),
  ),
)
  where
    run_started : Follows (valued 0 ∷ idle ∷ plugged ∷ known ∷ []) started
    run_started = record { listed = refl; first = refl; not_put_off = refl }

    run_sent : Follows (started ∷ valued 0 ∷ idle ∷ plugged ∷ known ∷ []) sent
    run_sent = record { before = started; last = refl; accepted = refl; stepped = refl }

    run_starting : Follows (sent ∷ started ∷ valued 0 ∷ idle ∷ plugged ∷ known ∷ []) starting
    run_starting = record { accepted = refl; new = λ same. cc; due = refl }

    run_executing : Follows (starting ∷ sent ∷ started ∷ valued 0 ∷ idle ∷ plugged ∷ known ∷ []) executing
    run_executing = record { accepted = refl; new = λ same. cc; due = refl }

    run_5 : Follows (executing ∷ starting ∷ sent ∷ started ∷ valued 0 ∷ idle ∷ plugged ∷ known ∷ []) (valued 5)
    run_5 = record { accepted = refl; drift = drift; listed = only_one drift; name_is = refl; next = refl }
