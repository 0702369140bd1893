-- What the exchanger does next, and its state afterwards.
use Rattle.std.specs.Prelude.{ℕ, suc, pred, ◌+◌, nat_lt, Bool, false, List, length, Option, Some, None, Result, Ok, Err}
use Rattle.std.specs.Prelude.{⊤, option_map, slice_get, if◌then◌else◌}
use Rattle.pol_events.specs.Events.{PlainEvent, recipe, plug, exchange_begin, exchange_end, exchange_cancel}
use Rattle.pol_events.specs.declared.answer.Answer.{Answer}
use Rattle.pol_events.specs.declared.answer.Answer.TheVariants.{Ticket, Refused}
use Rattle.pol_events.specs.declared.answer.Rule.{Rule}
use Rattle.pol_events.specs.declared.answer.Rule.TheVariants.{HeldBack}
use Rattle.pol_history.specs.Answers.{answer_of}
use Rattle.pol_history.specs.Looking.{History}
use Rattle.pol_core.specs.Calls.{refusal}
use Rattle.pol_site.specs.Following.{Exchanging, none_open, was_begun, was_held, openings}
use Rattle.pol_site.specs.Settled.{is_busy_rule}
use Rattle.pol_site.specs.Sites.{PlainSite, PlainSiteModule, PlainSiteRecipe, PlainSiteExchange}
use Rattle.pol_actors.specs.declared.exchanger.Errand.{Errand}
use Rattle.pol_actors.specs.declared.exchanger.Errand.TheVariants as errand
use Rattle.pol_actors.specs.declared.exchanger.Exchanger.{Exchanger}
use Rattle.pol_actors.specs.declared.exchanger.Standing.{Standing}
use Rattle.pol_actors.specs.declared.exchanger.Standing.TheVariants as standing

-- the exchanger at first: nothing was done
abbrev pub first_exchanger : Exchanger
first_exchanger = record { opened = 0; begun = 0; standing = standing.Closed }

-- ---- what the exchanger does next

-- the refusal is one for which an exchange waits
abbrev pub is_refusal_busy : Result ⊤ Rule → Bool
is_refusal_busy (Ok done) = false
is_refusal_busy (Err rule) = is_busy_rule rule

-- the begin of the next exchange, unless it waits
abbrev pub begin_errand : History → ℕ → Option PlainSiteExchange → Option Errand
begin_errand history count None = None
begin_errand history count (Some exchange) =
    if nat_lt count exchange.after then None
    else if is_refusal_busy (refusal (answer_of history (exchange_begin 0 exchange.tag))) then None
    else Some (errand.Begin exchange.tag)

-- the next errand of the exchanges: the begin of the next one, or the end or the cancelling of the one that is open
abbrev pub exchange_errand : PlainSite → History → ℕ → ℕ → Standing → Option Errand
exchange_errand site history count begun standing.Closed = begin_errand history count (slice_get site.exchanges begun)
exchange_errand site history count begun (standing.Begun tag ticket) = Some (errand.End tag ticket (pred begun))
exchange_errand site history count begun (standing.SentBack tag ticket) = Some (errand.Cancel tag ticket)

-- the next errand: the recipes and modules first, and then the exchanges
abbrev pub errand_of : PlainSite → History → ℕ → Exchanger → Option Errand
errand_of site history count exchanger =
    if nat_lt exchanger.opened (length site.recipes + length site.modules)
    then Some (errand.Open exchanger.opened)
    else exchange_errand site history count exchanger.begun exchanger.standing

-- ---- the event of an errand

-- the event that makes a recipe known
abbrev pub know_event : PlainSiteRecipe → PlainEvent
know_event each = recipe 0 each.recipe each.chart

-- the event that plugs a module
abbrev pub plug_event : PlainSiteModule → PlainEvent
plug_event unit = plug 0 unit.tag unit.description

-- the event that ends an exchange
abbrev pub end_event : List ℕ → ℕ → PlainSiteExchange → PlainEvent
end_event tag ticket exchange = exchange_end 0 tag ticket exchange.description

-- the event of an errand, where the site has something at its place
abbrev pub event_of : PlainSite → Errand → Option PlainEvent
event_of site (errand.Open place) = slice_get (openings site) place
event_of site (errand.Begin tag) = Some (exchange_begin 0 tag)
event_of site (errand.End tag ticket place) = option_map (end_event tag ticket) (slice_get site.exchanges place)
event_of site (errand.Cancel tag ticket) = Some (exchange_cancel 0 tag ticket)

-- ---- the exchanger's state

-- the exchanges as the exchanger sees them
abbrev pub exchanging_in : Standing → Exchanging
exchanging_in standing.Closed = none_open
exchanging_in (standing.Begun tag ticket) = was_begun tag ticket
exchanging_in (standing.SentBack tag ticket) = was_held tag ticket

-- the state of the exchanges after a begin that was answered so
abbrev pub begun_standing : List ℕ → Answer → Standing
begun_standing tag (Ticket ticket) = standing.Begun tag ticket
begun_standing tag _ = standing.Closed

-- the state of the exchanges after an end that was answered so
abbrev pub ended_standing : List ℕ → ℕ → Answer → Standing
ended_standing tag ticket (Refused (HeldBack batch missing)) = standing.SentBack tag ticket
ended_standing tag ticket _ = standing.Closed

-- the exchanger after the event of an errand was answered so
abbrev pub exchanger_after : Exchanger → Errand → Answer → Exchanger
exchanger_after exchanger (errand.Open place) answer =
    record { opened = suc exchanger.opened; begun = exchanger.begun; standing = exchanger.standing }
exchanger_after exchanger (errand.Begin tag) answer =
    record { opened = exchanger.opened; begun = suc exchanger.begun; standing = begun_standing tag answer }
exchanger_after exchanger (errand.End tag ticket place) answer =
    record { opened = exchanger.opened; begun = exchanger.begun; standing = ended_standing tag ticket answer }
exchanger_after exchanger (errand.Cancel tag ticket) answer =
    record { opened = exchanger.opened; begun = exchanger.begun; standing = standing.Closed }
