-- One more entry in two pasts that look the same, or run the same.
use Rattle.std.proofs.Common.{◌≡◌, ℕ, suc, Bool, true, false, cond, List, [], ◌∷◌, ◌++◌, length, reverse, refl, ap, sym}
use Rattle.std.proofs.Common.{◌∙◌, Option, Some, None, unwrap_or}
use Rattle.std.specs.Prelude.{filter, filter_map}
use Rattle.std.specs.List.{cons_option}
use Rattle.std.specs.Option.{option_or}
use Rattle.std.proofs.lemmas.List.{reverse-append}
use Rattle.std.proofs.Math.Path.{fun_ext}
use Rattle.chart_core.specs.declared.entry.LogEntry.{LogEntry}
use Rattle.pol_events.specs.Events.{PlainEvent, plug, unplug, exchange_begin, exchange_end, exchange_cancel, freeze}
use Rattle.pol_events.specs.Events.{thaw, stop_batch, PlainEntry}
use Rattle.pol_events.specs.declared.answer.Answer.{Answer}
use Rattle.pol_history.specs.Looking.{History, last_of, since, after_last}
use Rattle.pol_history.specs.Modules.{Docking, absent, docked, is_plug, is_begin, is_docking, is_moving, docking_by}
use Rattle.pol_history.specs.Modules.{dockings_by, docking_after, described, reported, reported_value}
use Rattle.pol_history.specs.Batches.{starting, closing, freezing, is_freeze, held_step, taken, is_holding_by}
use Rattle.pol_history.proofs.Accepted.{paired}
use Rattle.pol_compaction.specs.Alike.{StandsSame, LooksSame, RunsSame}

-- how many pass a test since the last plug, with one more entry
counted_after : (test : PlainEvent → Bool) (entry : PlainEntry) (whole less : History) →
    length (filter (λ each. test each.event) (since (λ each. is_plug each.event) less))
    ≡ length (filter (λ each. test each.event) (since (λ each. is_plug each.event) whole)) →
    length (filter (λ each. test each.event) (since (λ each. is_plug each.event) (entry ∷ less)))
    ≡ length (filter (λ each. test each.event) (since (λ each. is_plug each.event) (entry ∷ whole)))
counted_after test entry whole less same = go (is_plug entry.event) (test entry.event) refl
  where
    counted : History → ℕ
    counted past = length (filter (λ each. test each.event) past)

    go : (plugs passes : Bool) → test entry.event ≡ passes →
        length (filter (λ each. test each.event)
        (cond plugs (entry ∷ []) (entry ∷ since (λ each. is_plug each.event) less)))
        ≡ length (filter (λ each. test each.event)
        (cond plugs (entry ∷ []) (entry ∷ since (λ each. is_plug each.event) whole)))
    go true passes is = refl
    go false true is = rw is (ap suc same)
    go false false is = rw is same

-- the docking that an event leaves depends on how often the module was docked
docking_after_same : (whole less : History) → dockings_by less ≡ dockings_by whole → (event : PlainEvent)
    (answer : Answer) → docking_after less event answer ≡ docking_after whole event answer
docking_after_same whole less same (plug at tag description) answer = ap (λ count. Some (docked count)) same
docking_after_same whole less same (exchange_end at tag ticket description) answer =
    ap (λ count. Some (docked count)) same
docking_after_same whole less same (exchange_cancel at tag ticket) answer = ap (λ count. Some (docked count)) same
docking_after_same whole less same _ answer = refl

-- what the older entries leave, where the newest one docks nothing
pub unmoved : (past : History) (entry : PlainEntry) → dockings_by (entry ∷ past) ≡ dockings_by past →
    last_of (λ each. docking_after (entry ∷ past) each.event each.answer) past
    ≡ last_of (λ each. docking_after past each.event each.answer) past
unmoved past entry same =
    ap (λ (says : PlainEntry → Option Docking). last_of says past)
    (fun_ext (λ (each : PlainEntry). docking_after_same past (entry ∷ past) same each.event each.answer))

-- the docking after one more entry
docking_next : (event : PlainEvent) (answer : Answer) (whole less : History) → StandsSame whole less →
    docking_by (paired event answer ∷ less) ≡ docking_by (paired event answer ∷ whole)
docking_next (plug at tag description) answer whole less same =
    ap docked (counted_after is_docking (paired (plug at tag description) answer) whole less same.dockings)
docking_next (unplug at tag) answer whole less same = refl
docking_next (exchange_begin at tag) answer whole less same = refl
docking_next (exchange_end at tag ticket description) answer whole less same =
    ap docked
    (counted_after is_docking (paired (exchange_end at tag ticket description) answer) whole less same.dockings)
docking_next (exchange_cancel at tag ticket) answer whole less same =
    ap docked (counted_after is_docking (paired (exchange_cancel at tag ticket) answer) whole less same.dockings)
docking_next event answer whole less same =
    ap (λ found. unwrap_or found absent) (unmoved less (paired event answer) refl)
    ∙ same.docking
    ∙ ap (λ found. unwrap_or found absent) (sym (unmoved whole (paired event answer) refl))

-- where the same module is there by two pasts, it is there by both with one more entry
pub stands_after : (event : PlainEvent) (answer : Answer) (whole less : History) → StandsSame whole less →
    StandsSame (paired event answer ∷ whole) (paired event answer ∷ less)
stands_after event answer whole less same = record {
  docking = docking_next event answer whole less same;
  dockings = counted_after is_docking (paired event answer) whole less same.dockings;
  begins = counted_after is_begin (paired event answer) whole less same.begins;
  description = ap (option_or (described event)) same.description;
}

-- and with one that moves nothing, which is left out
pub stands_left : (event : PlainEvent) (answer : Answer) (whole less : History) → is_moving event ≡ false →
    StandsSame whole less → StandsSame (paired event answer ∷ whole) less
stands_left (plug at tag description) answer whole less still same = cc
stands_left (unplug at tag) answer whole less still same = cc
stands_left (exchange_begin at tag) answer whole less still same = cc
stands_left (exchange_end at tag ticket description) answer whole less still same = cc
stands_left (exchange_cancel at tag ticket) answer whole less still same = cc
stands_left event answer whole less still same = record {
  docking = same.docking ∙ ap (λ found. unwrap_or found absent) (sym (unmoved whole (paired event answer) refl));
  dockings = same.dockings;
  begins = same.begins;
  description = same.description;
}

-- after a plug the same module is there by any two pasts
pub stands_plugged : (event : PlainEvent) (answer : Answer) (whole less : History) → is_plug event ≡ true →
    StandsSame (paired event answer ∷ whole) (paired event answer ∷ less)
stands_plugged (plug at tag description) answer whole less is =
    record { docking = refl; dockings = refl; begins = refl; description = refl }
stands_plugged _ answer whole less is = cc

-- two pasts that look the same look the same with one more entry
pub looks_after : (event : PlainEvent) (answer : Answer) (whole less : History) → LooksSame whole less →
    LooksSame (paired event answer ∷ whole) (paired event answer ∷ less)
looks_after event answer whole less same = record {
  stands = stands_after event answer whole less same.stands;
  control = λ service. since_moved (λ each. reported service each.event) (is_moving event) (same.control service);
  value = λ name. since_moved (λ each. reported_value name each.event) (is_moving event) (same.value name);
}
  where
    since_moved : {A : Type 0} (says : PlainEntry → Option A) (moves : Bool) →
        last_of says (after_last (λ each. is_moving each.event) less)
        ≡ last_of says (after_last (λ each. is_moving each.event) whole) →
        last_of says (cond moves [] (paired event answer ∷ after_last (λ each. is_moving each.event) less))
        ≡ last_of says (cond moves [] (paired event answer ∷ after_last (λ each. is_moving each.event) whole))
    since_moved says true equal = refl
    since_moved says false equal = ap (option_or (says (paired event answer))) equal

-- after a plug any two pasts look the same
pub looks_plugged : (event : PlainEvent) (answer : Answer) (whole less : History) → is_plug event ≡ true →
    LooksSame (paired event answer ∷ whole) (paired event answer ∷ less)
looks_plugged (plug at tag description) answer whole less is = record {
  stands = stands_plugged (plug at tag description) answer whole less is;
  control = λ service. refl;
  value = λ name. refl;
}
looks_plugged _ answer whole less is = cc

-- ---- batches

-- a log after one more entry
log_next : (found : Option LogEntry) (whole less : List LogEntry) → reverse less ≡ reverse whole →
    reverse (cons_option found less) ≡ reverse (cons_option found whole)
log_next None whole less same = same
log_next (Some entry) whole less same =
    reverse-append (entry ∷ []) less ∙ ap (λ log. log ++ entry ∷ []) same ∙ sym (reverse-append (entry ∷ []) whole)

-- whether the services are held after one more entry
holding_next : (event : PlainEvent) (answer : Answer) (whole less : History) → RunsSame whole less →
    is_holding_by (paired event answer ∷ less) ≡ is_holding_by (paired event answer ∷ whole)
holding_next (freeze at batch hold) answer whole less same = refl
holding_next (thaw at batch) answer whole less same = refl
holding_next (stop_batch at batch) answer whole less same = refl
holding_next _ answer whole less same = same.holding

-- two pasts that run the same run the same with one more entry
pub runs_after : (event : PlainEvent) (answer : Answer) (whole less : History) → RunsSame whole less →
    RunsSame (paired event answer ∷ whole) (paired event answer ∷ less)
runs_after event answer whole less same = record {
  start = ap (option_or (starting event)) same.start;
  outcome = ap (option_or (closing answer)) same.outcome;
  log = log_next (taken answer) (filter_map (λ each. taken each.answer) whole)
      (filter_map (λ each. taken each.answer) less) same.log;
  frozen = frozen (freezing event);
  holding = holding_next event answer whole less same;
  asked = asked (is_freeze event);
}
  where
    frozen : (said : Option Bool) →
        unwrap_or (option_or said (last_of (λ each. freezing each.event) less)) false
        ≡ unwrap_or (option_or said (last_of (λ each. freezing each.event) whole)) false
    frozen None = same.frozen
    frozen (Some is) = refl

    asked : (freezes : Bool) →
        filter_map (λ each. held_step each.answer)
        (cond freezes [] (paired event answer ∷ after_last (λ each. is_freeze each.event) less))
        ≡ filter_map (λ each. held_step each.answer)
        (cond freezes [] (paired event answer ∷ after_last (λ each. is_freeze each.event) whole))
    asked true = refl
    asked false = ap (cons_option (held_step answer)) same.asked
