-- What stands before a place of a history, and the next command from it on.
use Rattle.std.proofs.Common.{◌≡◌, ◌≤◌, ◌<◌, ◌+◌, ℕ, suc, Bool, true, false, cond, List, [], ◌∷◌, length, Option, Some}
use Rattle.std.proofs.Common.{None, refl, ap, sym, ◌∙◌, arith}
use Rattle.std.specs.Prelude.{◌&&◌, ◌||◌, nat_lt, nat_le, is_some, filter, option_map, if◌then◌else◌}
use Rattle.std.specs.Option.{option_or}
use Rattle.std.proofs.lemmas.Option.{same_Some}
use Rattle.std.proofs.lemmas.Bool.Decides.{nat_tests}
use Rattle.mtp_codes.specs.declared.command.Command.{Command}
use Rattle.chart_core.specs.declared.entry.LogEntry.{LogEntry}
use Rattle.chart_cursor.specs.Commands.{Sent, sent_by}
use Rattle.pol_events.specs.declared.answer.Answer.{Answer}
use Rattle.pol_events.specs.declared.answer.Answer.TheVariants.{Did}
use Rattle.pol_history.specs.Batches.{taken}
use Rattle.pol_history.specs.Commands.{sent_command}
use Rattle.pol_events.specs.Events.{PlainEntry}
use Rattle.pol_history.specs.Looking.{History, is_accepted_of}
use Rattle.pol_history.specs.Modules.{is_moving, since_docking}
use Rattle.pol_site.specs.Stories.{if_to, is_given, sent_to, story, times_sent, touches}
use Rattle.pol_simulated.specs.Places.{before, Found, found_at, next_command, StaysFrom, NextCounts}

-- tests of numbers, both ways
pub lt_true : (n m : ℕ) → n < m → nat_lt n m ≡ true
lt_true n m less = grind (arith, nat_tests)

-- not less
pub lt_false : (n m : ℕ) → m ≤ n → nat_lt n m ≡ false
lt_false n m less = grind (arith, nat_tests)

-- at most
pub le_true : (n m : ℕ) → n ≤ m → nat_le n m ≡ true
le_true n m less = grind (arith, nat_tests)

-- what the test of at most says
pub le_holds : (n m : ℕ) → nat_le n m ≡ true → n ≤ m
le_holds n m is = grind (arith, nat_tests)

-- not at most
pub lt_fails : (n m : ℕ) → m < n → nat_le n m ≡ false
lt_fails n m before = grind (arith, nat_tests)

-- what its failing says
pub le_fails : (n m : ℕ) → nat_le n m ≡ false → m < n
le_fails n m is = grind (arith, nat_tests)

-- all entries stand before a place that isn't before the end
pub before_all : (place : ℕ) (history : History) → length history ≤ place → before place history ≡ history
before_all place [] long = refl
before_all place (entry ∷ older) long =
    let l : length older < place = omega (arith, long) in
    let m : length older ≤ place = omega (arith, long) in
    rw (lt_true (length older) place l, before_all place older m) refl

-- one more entry stands not before a place that was there
pub before_later : (place : ℕ) (entry : PlainEntry) (older : History) → place ≤ length older
    → before place (entry ∷ older) ≡ before place older
before_later place entry older within = rw (lt_false (length older) place within) refl

-- an entry that neither moves the module nor sends it a command counts nothing
count_more : (tag service : List ℕ) (command : Command) (entry : PlainEntry) (rest : History) → sent_to tag entry ≡ None
    → (touches tag entry ≡ true → is_moving entry.event ≡ false) →
    times_sent tag service command (cond (touches tag entry) (entry ∷ rest) rest) ≡ times_sent tag service command rest
count_more tag service command entry rest silent stays = go (touches tag entry) refl
  where
    go : (own : Bool) → touches tag entry ≡ own
        → times_sent tag service command (cond own (entry ∷ rest) rest) ≡ times_sent tag service command rest
    go false is = refl
    go true is = rw (stays is, ap (is_given service command) silent) refl

-- where no command stands from a place on, what was sent was sent before it
none_counted : (tag : List ℕ) (from : ℕ) (history : History) (service : List ℕ) (command : Command)
    → StaysFrom tag from history
    → next_command tag from history ≡ None →
    times_sent tag service command (story tag history) ≡ times_sent tag service command
    (story tag (before from history))
none_counted tag from [] service command stays none = refl
none_counted tag from (entry ∷ older) service command stays none =
    let parts = none_of (next_command tag from older) (found_at tag from (length older) entry) none in
    go (nat_le (suc (length older)) from) refl parts.1 (none_counted tag from older service command stays.1 parts.0)
  where
    none_of : {A : Type 0} (one other : Option A) → option_or one other ≡ None → (one ≡ None) × (other ≡ None)
    none_of None other e = (refl, e)
    none_of (Some x) other e = cc

    silent : from ≤ length older → found_at tag from (length older) entry ≡ None → sent_to tag entry ≡ None
    silent within e = quiet entry.answer (rw (le_true from (length older) within) at e)
      where
        nothing : (did : LogEntry) (sent : Option Sent) →
            (if is_some sent then option_map {U = Found} (λ did. record { did = did; place = length older })
            (Some did) else None)
            ≡ None → sent ≡ None
        nothing did None e = refl
        nothing did (Some sent) e = cc

        quiet : (answer : Answer) →
            (if is_some (if_to tag (sent_command answer))
            then option_map {U = Found} (λ did. record { did = did; place = length older })
            (taken answer) else None) ≡ None →
            if_to tag (sent_command answer) ≡ None
        quiet (Did did) e = nothing did (if_to tag (sent_by did)) e
        quiet _ e = refl

    go : (all : Bool) → nat_le (suc (length older)) from ≡ all → found_at tag from (length older) entry ≡ None →
        times_sent tag service command (story tag older) ≡ times_sent tag service command
        (story tag (before from older)) →
        times_sent tag service command (story tag (entry ∷ older)) ≡ times_sent tag service command
        (story tag (before from (entry ∷ older)))
    go true is e again =
        let l : length (entry ∷ older) ≤ from = le_holds (suc (length older)) from is in rw
        (before_all from (entry ∷ older) l) refl
    go false is e again =
        let f : from < suc (length older) = le_fails (suc (length older)) from is in
        let l : from ≤ length older = omega (arith, f) in
        rw (before_later from entry older l) (count_more tag service command entry (story tag older) (silent l e)
        (stays.0 l) ∙ again)

-- an entry that sends a command counts it
count_sent : (tag service : List ℕ) (command : Command) (entry : PlainEntry) (rest : History) (sent : Sent)
    → sent_to tag entry ≡ Some sent
    → (touches tag entry ≡ true → is_moving entry.event ≡ false) →
    times_sent tag service command (cond (touches tag entry) (entry ∷ rest) rest)
    ≡ (if is_given service command (Some sent) then 1 else 0) + times_sent tag service command rest
count_sent tag service command entry rest sent sends stays =
    rw touched (rw (stays touched, ap (is_given service command) sends)
    (lengths (is_given service command (Some sent)) now ∙ counted (is_given service command (Some sent))
    (length now)))
  where
    now : History
    now = filter (λ entry. is_given service command (sent_to tag entry)) (since_docking rest)

    touched : touches tag entry ≡ true
    touched = go (is_accepted_of tag entry) (sent_to tag entry) sends
      where
        go : (own : Bool) (found : Option Sent) → found ≡ Some sent → (own || is_some found) ≡ true
        go true found e = refl
        go false None e = cc
        go false (Some x) e = refl

    counted : (b : Bool) (n : ℕ) → (cond b (suc n) n) ≡ cond b 1 0 + n
    counted true n = omega arith
    counted false n = omega arith

    lengths : (b : Bool) (xs : History) → length (cond b (entry ∷ xs) xs) ≡ cond b (suc (length xs)) (length xs)
    lengths true xs = refl
    lengths false xs = refl

-- what an answer sends is what its entry of a log sends
pub taken_sends : (answer : Answer) (did : LogEntry) → taken answer ≡ Some did → sent_command answer ≡ sent_by did
taken_sends (Did other) did is = ap sent_by (same_Some other did is)
taken_sends _ did is = cc

-- the next command is what this entry did
pub record IsAt (tag : List ℕ) (from : ℕ) (older : History) (entry : PlainEntry) (found : Found) : Type 0 where
  pub late : nat_le from (length older) ≡ true
  pub sent : Sent
  pub sends : sent_to tag entry ≡ Some sent
  pub took : taken entry.answer ≡ Some found.did
  pub place : found.place ≡ length older

-- where it is found at an entry, it is there
pub is_at : (tag : List ℕ) (from : ℕ) (older : History) (entry : PlainEntry) (found : Found)
    → found_at tag from (length older) entry ≡ Some found → IsAt tag from older entry found
is_at tag from older entry found is = go (nat_le from (length older)) refl (sent_to tag entry) refl
    (taken entry.answer) refl is
  where
    go : (late : Bool) → nat_le from (length older) ≡ late → (sent : Option Sent) → sent_to tag entry ≡ sent
        → (did : Option LogEntry) → taken entry.answer ≡ did
        → (if late && is_some sent then option_map {U = Found}
        (λ did. record { did = did; place = length older }) did else None) ≡ Some found
        → IsAt tag from older entry found
    go false late sent sends did took e = cc
    go true late None sends did took e = cc
    go true late (Some sent) sends None took e = cc
    go true late (Some sent) sends (Some did) took e =
        let same = same_Some _ found e in
        record {
          late = late;
          sent = sent;
          sends = sends;
          took = took
              ∙ ap Some (ap (λ (f : Found). f.did) same);
          place = sym (ap (λ (f : Found). f.place) same);
        }

-- it stands in the history, and not before the place to look from
pub found_within : (tag : List ℕ) (from : ℕ) (history : History) (found : Found)
    → next_command tag from history ≡ Some found → (found.place < length history) × (from ≤ found.place)
found_within tag from [] found is = cc
found_within tag from (entry ∷ older) found is = go (next_command tag from older) refl is
    (found_within tag from older found)
  where
    go : (earlier : Option Found) → next_command tag from older ≡ earlier
        → option_or earlier (found_at tag from (length older) entry) ≡ Some found
        → (next_command tag from older ≡ Some found → (found.place < length older) × (from ≤ found.place))
        → (found.place < length (entry ∷ older)) × (from ≤ found.place)
    go (Some first) earlier e again =
        let inside = again (earlier ∙ ap Some (same_Some first found e)) in (omega (arith, inside.0), inside.1)
    go None earlier e again =
        let it = is_at tag from older entry found e in
        let within = le_holds from (length older) it.late in
        let place = it.place in (omega (arith, place), omega (arith, place, within))

-- looking at the next command
pub next_counted : NextCounts
next_counted tag from [] found service command stays is = cc
next_counted tag from (entry ∷ older) found service command stays is =
    go (next_command tag from older) refl is (next_counted tag from older found service command stays.1)
  where
    more : ℕ
    more = if is_given service command (if_to tag (sent_by found.did)) then 1 else 0

    here : IsAt tag from older entry found → next_command tag from older ≡ None →
        times_sent tag service command (story tag (before (suc found.place) (entry ∷ older)))
        ≡ more + times_sent tag service command (story tag (before from (entry ∷ older)))
    here it none =
        let place = it.place in
        let within : from ≤ length older = le_holds from (length older) it.late in
        let all : length (entry ∷ older) ≤ suc found.place = omega (arith, place) in
        let sends : if_to tag (sent_by found.did) ≡ Some it.sent =
        ap (if_to tag) (sym (taken_sends entry.answer found.did it.took)) ∙ it.sends in
        rw (before_all (suc found.place) (entry ∷ older) all, before_later from entry older within, sends)
        (count_sent tag service command entry (story tag older) it.sent it.sends (stays.0 within)
        ∙ ap (λ n. (if is_given service command (Some it.sent) then 1 else 0) + n)
        (none_counted tag from older service command stays.1 none))

    go : (earlier : Option Found) → next_command tag from older ≡ earlier
        → option_or earlier (found_at tag from (length older) entry) ≡ Some found →
        (next_command tag from older ≡ Some found
        → times_sent tag service command (story tag (before (suc found.place) older))
        ≡ more + times_sent tag service command (story tag (before from older))) →
        times_sent tag service command (story tag (before (suc found.place) (entry ∷ older)))
        ≡ more + times_sent tag service command (story tag (before from (entry ∷ older)))
    go (Some first) earlier e again =
        let same : first ≡ found = same_Some first found e in
        let inside = found_within tag from older found (earlier ∙ ap Some same) in
        let one : suc found.place ≤ length older = omega (arith, inside.0) in
        let other : from ≤ length older = omega (arith, inside.0, inside.1) in
        rw (before_later (suc found.place) entry older one, before_later from entry older other)
        (again (earlier ∙ ap Some same))
    go None earlier e again = here (is_at tag from older entry found e) earlier
