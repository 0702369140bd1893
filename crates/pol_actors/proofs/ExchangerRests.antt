-- Whether the exchanger has something to do: it rests exactly where it is settled.
use Rattle.std.proofs.Common.{◌≡◌, ◌<◌, ◌≤◌, ◌+◌, ℕ, Bool, true, false, not, List, [], ◌∷◌, length, Option, Some, None}
use Rattle.std.proofs.Common.{refl, ap, sym, ◌∙◌, arith}
use Rattle.std.specs.Prelude.{◌&&◌, ◌||◌, nat_lt, nat_le, slice_get, if◌then◌else◌}
use Rattle.std.specs.List.{list_any}
use Rattle.std.specs.Str.{bytes_eq}
use Rattle.std.proofs.lemmas.Bool.{and_right}
use Rattle.std.proofs.lemmas.Map.Keys.{any_passes_from_place}
use Rattle.std.proofs.lemmas.Option.{cond_some}
use Rattle.mtp_codes.proofs.Names.{same_true, same_refl}
use Rattle.mtp_codes.proofs.Lists.{none_any}
use Rattle.pol_events.specs.Events.{PlainEvent, exchange_begin, exchange_end, exchange_cancel}
use Rattle.pol_events.specs.declared.answer.Answer.{Answer}
use Rattle.pol_events.specs.declared.answer.Answer.TheVariants.{Ticket, Closed, Refused}
use Rattle.pol_events.specs.declared.answer.Rule.TheVariants.{HeldBack}
use Rattle.pol_history.specs.Answers.{answer_of}
use Rattle.pol_history.specs.Looking.{History, recipes}
use Rattle.pol_history.specs.Modules.{Docking, absent, docked, away, docking_of, ticket_of}
use Rattle.pol_history.specs.Runs.{IsLegal}
use Rattle.pol_core.specs.Calls.{refusal}
use Rattle.pol_site.specs.Following.{FollowsSite, IsAllowed, ended_with, exchanging, none_open, opened, openings}
use Rattle.pol_site.specs.Following.{was_begun}
use Rattle.pol_site.specs.Plans.{begun_in}
use Rattle.pol_site.specs.Rules.{has_module}
use Rattle.pol_site.specs.Settled.{is_away, is_busy, is_settled_exchanger, waits_to_begin}
use Rattle.pol_site.specs.Sites.{PlainSite, PlainSiteModule, PlainSiteExchange}
use Rattle.pol_site.specs.Sound.{IsSite}
use Rattle.pol_stillness.specs.Exchanges.{open_ticket}
use Rattle.pol_stillness.proofs.Exchanges.{open_away}
use Rattle.pol_simulated.proofs.Places.{le_true, lt_fails}
use Rattle.pol_actors.specs.Exchanges.{begin_errand, errand_of, exchange_errand, exchanging_in, is_refusal_busy}
use Rattle.pol_actors.specs.Kept.{IsExchanger}
use Rattle.pol_actors.specs.declared.exchanger.Errand.{Errand}
use Rattle.pol_actors.specs.declared.exchanger.Errand.TheVariants as task
use Rattle.pol_actors.specs.declared.exchanger.Exchanger.{Exchanger}
use Rattle.pol_actors.specs.declared.exchanger.Standing.{Standing}
use Rattle.pol_actors.specs.declared.exchanger.Standing.TheVariants as standing
use Rattle.pol_actors.proofs.Numbers.{all_at, lt_holds, lt_not}
use Rattle.pol_actors.proofs.Exchanging.{busy_by, has_at, openings_long}

-- a module without a ticket isn't away
not_away : (docking : Docking) → ticket_of docking ≡ None → is_away docking ≡ false
not_away absent is = refl
not_away (docked count) is = refl
not_away (away ticket) is = cc

-- where it does nothing it is settled
pub exchanger_rests : (site : PlainSite) (older : History) (count : ℕ) (exchanger : Exchanger) → IsLegal older →
    FollowsSite site older → count ≡ length older → IsExchanger site older exchanger →
    errand_of site older count exchanger ≡ None → is_settled_exchanger site older ≡ true
exchanger_rests site older count exchanger legal follows counted stands is =
    by (nat_lt exchanger.opened (length site.recipes + length site.modules)) refl is
  where
    settled : length site.recipes + length site.modules ≤ exchanger.opened → exchanger.standing ≡ standing.Closed →
        waits_to_begin older (slice_get site.exchanges (begun_in older)) ≡ true →
        is_settled_exchanger site older ≡ true
    settled all closed waits = rw (told, unaway, waits) refl
      where
        told : nat_le (length (openings site)) (opened older) ≡ true
        told = let is = stands.opened_is in
            let long = openings_long site in
            le_true (length (openings site)) (opened older) (omega (arith, long, is, all))

        none : exchanging older ≡ none_open
        none = sym stands.standing_is ∙ ap exchanging_in closed

        unaway : list_any (λ (unit : PlainSiteModule). is_away (docking_of older unit.tag)) site.modules ≡ false
        unaway = none_any (λ (unit : PlainSiteModule). is_away (docking_of older unit.tag)) site.modules
            (λ unit. not_away (docking_of older unit.tag)
            (open_away site older unit.tag legal follows ∙ ap (open_ticket unit.tag) none))

    begins : (found : Option PlainSiteExchange) → begin_errand older count found ≡ None →
        waits_to_begin older found ≡ true
    begins None e = refl
    begins (Some exchange) e =
        early (nat_lt count exchange.after) (is_refusal_busy
        (refusal (answer_of older (exchange_begin 0 exchange.tag))))
        (ap (λ n. nat_lt n exchange.after) (sym counted)) (busy_by (answer_of older (exchange_begin 0 exchange.tag))) e
      where
        early : (waits busy : Bool) → nat_lt (length older) exchange.after ≡ waits →
            is_busy (answer_of older (exchange_begin 0 exchange.tag)) ≡ busy →
            (if waits then None else if busy then None else Some (task.Begin exchange.tag)) ≡ None →
            (nat_lt (length older) exchange.after || is_busy (answer_of older (exchange_begin 0 exchange.tag))) ≡ true
        early true busy w b e = rw w refl
        early false true w b e = rw (w, b) refl
        early false false w b e = cc

    by_standing : length site.recipes + length site.modules ≤ exchanger.opened → (standing : Standing) →
        exchanger.standing ≡ standing → exchange_errand site older count exchanger.begun standing ≡ None →
        is_settled_exchanger site older ≡ true
    by_standing all standing.Closed closed e =
        settled all closed (begins (slice_get site.exchanges (begun_in older))
        (ap (λ n. begin_errand older count (slice_get site.exchanges n)) (sym stands.begun_is) ∙ e))
    by_standing all (standing.Begun tag ticket) begun e = cc
    by_standing all (standing.SentBack tag ticket) held e = cc

    by : (left : Bool) → nat_lt exchanger.opened (length site.recipes + length site.modules) ≡ left →
        (if left then Some (task.Open exchanger.opened)
        else exchange_errand site older count exchanger.begun exchanger.standing) ≡ None →
        is_settled_exchanger site older ≡ true
    by true l e = cc
    by false l e =
        by_standing (lt_not exchanger.opened (length site.recipes + length site.modules) l) exchanger.standing refl e

-- a module with a ticket is away
is_gone : (docking : Docking) (ticket : ℕ) → ticket_of docking ≡ Some ticket → is_away docking ≡ true
is_gone absent ticket is = cc
is_gone (docked count) ticket is = cc
is_gone (away other) ticket is = refl

-- the exchange that is open is of a module of the site
open_module : (site : PlainSite) (history : History) (tag : List ℕ) (ticket : ℕ) → IsSite site →
    FollowsSite site history → open_ticket tag (exchanging history) ≡ Some ticket → has_module site.modules tag ≡ true
open_module site [] tag ticket sound follows is = cc
open_module site (entry ∷ older) tag ticket sound follows is =
    go entry.event entry.answer follows.0 is (open_module site older tag ticket sound follows.1)
  where
    Goal : Type 0
    Goal = has_module site.modules tag ≡ true

    ended : (named : List ℕ) (given : ℕ) (answer : Answer) →
        open_ticket tag (ended_with named given answer) ≡ Some ticket →
        open_ticket tag (was_begun named given) ≡ Some ticket
    ended named given (Refused (HeldBack batch missing)) held = held
    ended named given _ held = cc

    go : (event : PlainEvent) (answer : Answer) → IsAllowed site older event answer →
        open_ticket tag (exchanging (record { event = event; answer = answer } ∷ older)) ≡ Some ticket →
        (open_ticket tag (exchanging older) ≡ Some ticket → Goal) → Goal
    go (exchange_begin at named) (Ticket given) allowed is again =
        let own = same_true named tag (cond_some (bytes_eq named tag) given ticket is).0 in
        ap (has_module site.modules) (sym own ∙ allowed.tag_is)
        ∙ all_at (λ (exchange : PlainSiteExchange). has_module site.modules exchange.tag) site.exchanges
        (begun_in older) allowed.exchange sound.known_tags allowed.listed
    go (exchange_begin at named) answer allowed is again = cc
    go (exchange_end at named given description) answer allowed is again =
        again (ap (open_ticket tag) allowed.begun ∙ ended named given answer is)
    go (exchange_cancel at named given) answer allowed is again = cc
    go event answer allowed is again = again is

-- where it has an errand it isn't settled
pub exchanger_acts : (site : PlainSite) (older : History) (count : ℕ) (exchanger : Exchanger) (errand : Errand) →
    IsSite site → IsLegal older → FollowsSite site older → count ≡ length older → IsExchanger site older exchanger →
    errand_of site older count exchanger ≡ Some errand → is_settled_exchanger site older ≡ false
exchanger_acts site older count exchanger errand sound legal follows counted stands is =
    by (nat_lt exchanger.opened (length site.recipes + length site.modules)) refl is
  where
    is_out : PlainSiteModule → Bool
    is_out unit = is_away (docking_of older unit.tag)

    told : Bool
    told = nat_le (length (openings site)) (opened older)

    none_out : Bool
    none_out = not (list_any is_out site.modules)

    waits : Bool
    waits = waits_to_begin older (slice_get site.exchanges (begun_in older))

    opens : exchanger.opened < length site.recipes + length site.modules → is_settled_exchanger site older ≡ false
    opens less =
        let opened_is = stands.opened_is in
        let long = openings_long site in
        rw (lt_fails (length (openings site)) (opened older) (omega (arith, long, opened_is, less))) refl

    begins : (found : Option PlainSiteExchange) → begin_errand older count found ≡ Some errand →
        waits_to_begin older found ≡ false
    begins None e = cc
    begins (Some exchange) e =
        early (nat_lt count exchange.after) (is_refusal_busy
        (refusal (answer_of older (exchange_begin 0 exchange.tag))))
        (ap (λ n. nat_lt n exchange.after) (sym counted)) (busy_by (answer_of older (exchange_begin 0 exchange.tag))) e
      where
        early : (waits busy : Bool) → nat_lt (length older) exchange.after ≡ waits →
            is_busy (answer_of older (exchange_begin 0 exchange.tag)) ≡ busy →
            (if waits then None else if busy then None else Some (task.Begin exchange.tag)) ≡ Some errand →
            (nat_lt (length older) exchange.after || is_busy (answer_of older (exchange_begin 0 exchange.tag))) ≡ false
        early true busy w b e = cc
        early false true w b e = cc
        early false false w b e = rw (w, b) refl

    -- the ticket of an exchange is its own
    own_ticket : (tag : List ℕ) (ticket : ℕ) → (if bytes_eq tag tag then Some ticket else None) ≡ Some ticket
    own_ticket tag ticket = ap (λ b. if b then Some ticket else None) (same_refl tag)

    -- while an exchange is open, its module is away
    is_open : (tag : List ℕ) (ticket : ℕ) → open_ticket tag (exchanging older) ≡ Some ticket →
        is_settled_exchanger site older ≡ false
    is_open tag ticket here =
        let found = has_at site.modules tag (open_module site older tag ticket sound follows here) in
        let gone = is_gone (docking_of older found.1.tag) ticket
        (open_away site older found.1.tag legal follows
        ∙ ap (λ name. open_ticket name (exchanging older)) found.3 ∙ here) in
        and_right told (none_out && waits)
        (ap (λ any. not any && waits)
        (any_passes_from_place is_out site.modules found.0 found.1 found.2 gone))

    by_standing : (standing : Standing) → exchanger.standing ≡ standing →
        exchange_errand site older count exchanger.begun standing ≡ Some errand →
        is_settled_exchanger site older ≡ false
    by_standing standing.Closed closed e =
        and_right told (none_out && waits)
        (and_right none_out waits
        (begins (slice_get site.exchanges (begun_in older))
        (ap (λ n. begin_errand older count (slice_get site.exchanges n)) (sym stands.begun_is) ∙ e)))
    by_standing (standing.Begun tag ticket) begun e =
        is_open tag ticket
        (ap (open_ticket tag) (sym stands.standing_is ∙ ap exchanging_in begun) ∙ own_ticket tag ticket)
    by_standing (standing.SentBack tag ticket) held e =
        is_open tag ticket
        (ap (open_ticket tag) (sym stands.standing_is ∙ ap exchanging_in held) ∙ own_ticket tag ticket)

    by : (left : Bool) → nat_lt exchanger.opened (length site.recipes + length site.modules) ≡ left →
        (if left then Some (task.Open exchanger.opened)
        else exchange_errand site older count exchanger.begun exchanger.standing) ≡ Some errand →
        is_settled_exchanger site older ≡ false
    by true l e = opens (lt_holds exchanger.opened (length site.recipes + length site.modules) l)
    by false l e = by_standing exchanger.standing refl e
