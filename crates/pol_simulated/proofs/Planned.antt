-- Which plan an event of a module brings, in a history that follows its site.
use Rattle.std.proofs.Common.{◌≡◌, ℕ, suc, zero, ◌+◌, Bool, true, false, cond, List, [], ◌∷◌, length, take, filter}
use Rattle.std.proofs.Common.{Some, refl, ap, sym, ◌∙◌, arith}
use Rattle.std.specs.Prelude.{◌&&◌, pred, slice_get, if◌then◌else◌}
use Rattle.std.specs.Str.{bytes_eq}
use Rattle.std.proofs.lemmas.Option.{same_Some}
use Rattle.mtp_codes.proofs.Names.{same_refl}
use Rattle.pol_events.specs.Events.{PlainEvent, PlainEntry, exchange_begin, exchange_end, exchange_cancel}
use Rattle.pol_events.specs.declared.answer.Answer.{Answer}
use Rattle.pol_events.specs.declared.answer.Answer.TheVariants.{Ticket, Refused}
use Rattle.pol_events.specs.declared.answer.Rule.TheVariants.{HeldBack}
use Rattle.pol_history.specs.Looking.{History, is_accepted_of, past}
use Rattle.pol_history.specs.Modules.{is_begin}
use Rattle.pol_site.specs.Following.{FollowsSite, IsAllowed, ended_with, exchanging, was_begun}
use Rattle.pol_site.specs.Plans.{begun_in, exchanges_of}
use Rattle.pol_site.specs.Sites.{PlainSite, PlainSiteModule, PlainSiteExchange}
use Rattle.pol_simulated.proofs.Called.{called_at}
use Rattle.pol_simulated.specs.Planned.{EndsBringPlans, PlugsBringPlans}

-- ---- lists

-- an item that passes a test stands, among those that pass, behind as many as pass before it
nth_passing : {A : Type 0} (test : A → Bool) (xs : List A) (n : ℕ) (x : A) → slice_get xs n ≡ Some x → test x ≡ true →
    slice_get (filter test xs) (length (filter test (take n xs))) ≡ Some x
nth_passing test [] n x at passes = cc
nth_passing test (first ∷ others) zero x at passes = rw (ap test (same_Some first x at) ∙ passes) at
nth_passing {A} test (first ∷ others) (suc n) x at passes = go (test first) (nth_passing test others n x at passes)
  where
    go : (own : Bool) → slice_get (filter test others) (length (filter test (take n others))) ≡ Some x →
        slice_get (cond own (first ∷ filter test others) (filter test others))
        (length (cond own (first ∷ filter test (take n others)) (filter test (take n others)))) ≡ Some x
    go true again = again
    go false again = again

-- one item more passes or not
passing_more : {A : Type 0} (test : A → Bool) (xs : List A) (n : ℕ) (x : A) → slice_get xs n ≡ Some x →
    length (filter test (take (suc n) xs)) ≡ (if test x then 1 else 0) + length (filter test (take n xs))
passing_more test [] n x at = cc
passing_more test (first ∷ others) zero x at = ap (λ b. length (cond b (first ∷ []) []))
    (ap test (same_Some first x at)) ∙ go (test x)
  where
    go : (own : Bool) → length (cond own (first ∷ []) []) ≡ (if own then 1 else 0) + 0
    go true = refl
    go false = refl
passing_more test (first ∷ others) (suc n) x at = go (test first) (if test x then 1 else 0)
    (passing_more test others n x at)
  where
    go : (own : Bool) (more : ℕ) → length (filter test (take (suc n) others))
        ≡ more + length (filter test (take n others)) →
        length (cond own (first ∷ filter test (take (suc n) others)) (filter test (take (suc n) others)))
        ≡ more + length (cond own (first ∷ filter test (take n others)) (filter test (take n others)))
    go true more again = ap suc again ∙ omega arith
    go false more again = again

-- one that passes counts
passed_one : (own : Bool) (n : ℕ) → own ≡ true → (if own then 1 else 0) + n ≡ suc n
passed_one true n passes = omega arith
passed_one false n passes = cc

-- ---- exchanges that were begun

-- the exchange is of this tag
abbrev of_tag : List ℕ → PlainSiteExchange → Bool
of_tag tag exchange = bytes_eq exchange.tag tag

-- an entry that begins no exchange leaves how many a module began
begins_none : (own : Bool) (entry : PlainEntry) (rest : History) → is_begin entry.event ≡ false →
    begun_in (cond own (entry ∷ rest) rest) ≡ begun_in rest
begins_none false entry rest none = refl
begins_none true entry rest none =
    ap (λ b. length (cond b (entry ∷ filter (λ entry. is_begin entry.event) rest)
    (filter (λ entry. is_begin entry.event) rest))) none

-- a module began as many exchanges as are of its tag among those of the site that were begun
begun_listed : (site : PlainSite) (tag : List ℕ) (history : History) → FollowsSite site history →
    begun_in (past tag history) ≡ length (filter (of_tag tag) (take (begun_in history) site.exchanges))
begun_listed site tag [] follows = refl
begun_listed site tag (entry ∷ older) follows = go entry.event entry.answer follows.0
    (begun_listed site tag older follows.1)
  where
    go : (event : PlainEvent) (answer : Answer) → IsAllowed site older event answer →
        begun_in (past tag older) ≡ length (filter (of_tag tag) (take (begun_in older) site.exchanges)) →
        begun_in (past tag (record { event = event; answer = answer } ∷ older))
        ≡ length (filter (of_tag tag) (take (begun_in (record { event = event; answer = answer } ∷ older))
        site.exchanges))
    go (exchange_begin at other) answer allowed again =
        rw (
          allowed.accepted,
          passing_more (of_tag tag) site.exchanges
              (begun_in older) allowed.exchange allowed.listed,
          ← allowed.tag_is,
        )
        (own (bytes_eq other tag))
      where
        own : (here : Bool) →
            begun_in (cond (here && true) (record { event = exchange_begin at other; answer = answer } ∷ past tag
            older) (past tag older))
            ≡ (if here then 1 else 0) + length (filter (of_tag tag) (take (begun_in older) site.exchanges))
        own true = ap suc again ∙ omega arith
        own false = again ∙ omega arith
    go event answer allowed again = begins_none (is_accepted_of tag (record { event = event; answer = answer }))
        (record { event = event; answer = answer }) (past tag older) refl ∙ again

-- the last of so many exchanges that were begun, which is of this tag
record IsBegunLast (site : PlainSite) (count : ℕ) (tag : List ℕ) : Type 0 where
  place : ℕ
  begun : count ≡ suc place
  exchange : PlainSiteExchange
  listed : slice_get site.exchanges place ≡ Some exchange
  tag_is : exchange.tag ≡ tag

-- no end leaves an exchange begun
ends_begun : (other : List ℕ) (given : ℕ) (answer : Answer) (tag : List ℕ) (ticket : ℕ)
    → ended_with other given answer ≡ was_begun tag ticket → ⊥
ends_begun other given (Refused (HeldBack batch missing)) tag ticket is = cc
ends_begun other given _ tag ticket is = cc

-- an exchange that stands begun was begun last
begun_last : (site : PlainSite) (history : History) (tag : List ℕ) (ticket : ℕ) → FollowsSite site history
    → exchanging history ≡ was_begun tag ticket →
    IsBegunLast site (begun_in history) tag
begun_last site [] tag ticket follows is = cc
begun_last site (entry ∷ older) tag ticket follows is = go entry.event entry.answer follows.0 is
    (begun_last site older tag ticket follows.1)
  where
    go : (event : PlainEvent) (answer : Answer) → IsAllowed site older event answer →
        exchanging (record { event = event; answer = answer } ∷ older) ≡ was_begun tag ticket →
        (exchanging older ≡ was_begun tag ticket → IsBegunLast site (begun_in older) tag) →
        IsBegunLast site (begun_in (record { event = event; answer = answer } ∷ older)) tag
    go (exchange_begin at other) (Ticket given) allowed is again =
        let same : other ≡ tag = cc in
        record {
          place = begun_in older;
          begun = refl;
          exchange = allowed.exchange;
          listed = allowed.listed;
          tag_is = sym allowed.tag_is ∙ same;
        }
    go (exchange_begin at other) answer allowed is again = cc
    go (exchange_end at other given description) answer allowed is again =
        absurd (ends_begun other given answer tag ticket is)
    go (exchange_cancel at other given) answer allowed is again = cc
    go event answer allowed is again = again is

-- ---- plans

-- a plug
pub plugs_bring : PlugsBringPlans
plugs_bring site older at tag description place unit unlike listed named =
    let found = called_at (λ (each : PlainSiteModule). each.tag) site.modules place unit tag unlike listed
    (ap (λ name. bytes_eq name tag) named ∙ same_refl tag) in
    rw (same_refl tag, found) refl

-- the end of an exchange
pub ends_bring : EndsBringPlans
ends_bring site older at tag ticket description exchange follows begun listed =
    let last = begun_last site older tag ticket follows begun in
    let its : last.exchange ≡ exchange = same_Some last.exchange exchange
    (sym last.listed ∙ ap (λ n. slice_get site.exchanges (pred n)) (sym last.begun) ∙ listed) in
    let passes : of_tag tag last.exchange ≡ true = ap (λ name. bytes_eq name tag) last.tag_is ∙ same_refl tag in
    let counted : begun_in (past tag older) ≡ suc (length (filter (of_tag tag) (take last.place site.exchanges))) =
    begun_listed site tag older follows ∙ ap (λ n. length (filter (of_tag tag) (take n site.exchanges))) last.begun
    ∙ passing_more (of_tag tag) site.exchanges last.place last.exchange last.listed
    ∙ passed_one (of_tag tag last.exchange) (length (filter (of_tag tag) (take last.place site.exchanges))) passes in
    let found : slice_get (exchanges_of site tag) (pred (begun_in (past tag older))) ≡ Some last.exchange =
    ap (λ n. slice_get (exchanges_of site tag) (pred n)) counted
    ∙ nth_passing (of_tag tag) site.exchanges last.place last.exchange last.listed passes in
    rw (same_refl tag, found) (ap (λ (each : PlainSiteExchange). Some each.plan) its)
