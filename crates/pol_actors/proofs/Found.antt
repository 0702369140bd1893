-- The next command that the plant finds is the one that looking back finds.
use Rattle.std.proofs.Common.{◌≡◌, ◌≤◌, ◌+◌, ℕ, suc, Bool, true, false, List, [], ◌∷◌, ◌++◌, length, map, reverse, take}
use Rattle.std.proofs.Common.{drop, append_assoc, append-nil, take-append-drop, length-append, length-drop, Option}
use Rattle.std.proofs.Common.{Some, None, refl, ap, sym, ◌∙◌, subst, arith}
use Rattle.std.specs.Prelude.{is_some, option_map, if◌then◌else◌}
use Rattle.std.specs.Option.{option_or}
use Rattle.std.specs.Str.{bytes_eq}
use Rattle.std.proofs.lemmas.List.{length-map, length-reverse, length-take-le, map-append, reverse-append}
use Rattle.mtp_codes.proofs.Names.{same_true}
use Rattle.chart_core.specs.declared.entry.LogEntry.{LogEntry}
use Rattle.chart_core.specs.declared.entry.LogEntry.TheVariants.{Start, Finish, Reset, End, Chose, Turn, Leave, Stop}
use Rattle.chart_core.specs.declared.entry.LogEntry.TheVariants.{Broke, Left, StopAsked, Hold, Unhold, Asked}
use Rattle.chart_cursor.specs.Commands.{Sent, sent_by}
use Rattle.pol_events.specs.Events.{PlainEntry, plain_entry, plain_history}
use Rattle.pol_events.specs.declared.answer.Answer.{Answer}
use Rattle.pol_events.specs.declared.answer.Answer.TheVariants.{Did}
use Rattle.pol_events.specs.declared.event.Entry.{Entry}
use Rattle.pol_history.specs.Looking.{History}
use Rattle.pol_history.specs.Batches.{taken}
use Rattle.pol_site.specs.Stories.{if_to, sent_to}
use Rattle.pol_core.specs.declared.commands.Sent.{Sent as Order}
use Rattle.pol_core.specs.Commands as plant
use Rattle.pol_simulated.specs.Places.{Found, found_at, next_command}
use Rattle.pol_simulated.proofs.Places.{le_true, lt_fails}
use Rattle.pol_stillness.specs.Phases.{asked_in}

-- the plant found this command of the history: it is for the module, and its procedure is the one that was asked for
pub record IsFoundOne (tag : List ℕ) (order : Order) (after : ℕ) (found : Found) : Type 0 where
  pub after_is : after ≡ suc found.place
  pub sent : Sent
  pub sends : sent_by found.did ≡ Some sent
  pub tag_is : sent.tag ≡ tag
  pub service_is : order.service ≡ sent.service
  pub command_is : order.command ≡ sent.command
  pub procedure_is : order.procedure ≡ asked_in found.did

-- what the plant found is what was found in the history; or neither found anything, as far as they looked
abbrev pub IsFoundAs : List ℕ → ℕ → Option Order → ℕ → Option Found → Type 0
IsFoundAs tag count None after None = after ≡ count
IsFoundAs tag count (Some order) after (Some found) = IsFoundOne tag order after found
IsFoundAs tag count None after (Some found) = ⊥
IsFoundAs tag count (Some order) after None = ⊥

-- ---- one entry

-- the entry at this place, where it commands the module
abbrev at_place : List ℕ → ℕ → PlainEntry → Option Found
at_place tag place entry =
    if is_some (sent_to tag entry)
    then option_map (λ did. record { did = did; place = place }) (taken entry.answer)
    else None

-- it is found from any place on that isn't behind it
found_late : (tag : List ℕ) (from place : ℕ) (entry : PlainEntry) → from ≤ place →
    found_at tag from place entry ≡ at_place tag place entry
found_late tag from place entry late = rw (le_true from place late) refl

-- what an entry of a log commands, as the plant tells it and as looking back does
abbrev IsOrder : LogEntry → Option (List ℕ × Order) → Option Sent → Type 0
IsOrder did None None = Unit {0}
IsOrder did (Some order) (Some sent) =
    (order.0 ≡ sent.tag) × (order.1.service ≡ sent.service) × (order.1.command ≡ sent.command)
    × (order.1.procedure ≡ asked_in did)
IsOrder did None (Some sent) = ⊥
IsOrder did (Some order) None = ⊥

-- what an entry of a log commands is the same for the plant and for looking back
order_of : (batch : Option (List ℕ)) (did : LogEntry) → IsOrder did (plant.entry_command batch did) (sent_by did)
order_of batch (Start step tag service procedure) = (refl, refl, refl, refl)
order_of batch (Finish step tag service) = (refl, refl, refl, refl)
order_of batch (Reset step tag service) = (refl, refl, refl, refl)
order_of batch (Stop step tag service) = (refl, refl, refl, refl)
order_of batch (Hold step tag service) = (refl, refl, refl, refl)
order_of batch (Unhold step tag service) = (refl, refl, refl, refl)
order_of batch (Asked tag service command) = (refl, refl, refl, refl)
order_of batch (End step) = tt
order_of batch (Chose node arm values) = tt
order_of batch (Turn node values) = tt
order_of batch (Leave node values) = tt
order_of batch (Broke step state) = tt
order_of batch (Left step state) = tt
order_of batch StopAsked = tt

-- what was found of an entry of a log at a place
abbrev found_of : LogEntry → ℕ → Found
found_of did place = record { did = did; place = place }

-- the plant finds it just so
same_did : (tag : List ℕ) (place : ℕ) (did : LogEntry) (order : Option (List ℕ × Order)) (sent : Option Sent) →
    IsOrder did order sent → sent_by did ≡ sent →
    IsFoundAs tag (place + 1) (plant.for_tag tag order) (place + 1)
    (if is_some (if_to tag sent) then Some (found_of did place) else None)
same_did tag place did None None is sends = refl
same_did tag place did None (Some sent) is sends = absurd is
same_did tag place did (Some order) None is sends = absurd is
same_did tag place did (Some order) (Some sent) is sends =
    by (bytes_eq order.0 tag) (bytes_eq sent.tag tag) (ap (λ name. bytes_eq name tag) is.0) refl
  where
    by : (one other : Bool) → one ≡ other → bytes_eq sent.tag tag ≡ other →
        IsFoundAs tag (place + 1) (if one then Some order.1 else None) (place + 1)
        (if is_some (if other then Some sent else None) then Some (found_of did place) else None)
    by true true e own = record {
      after_is = omega arith;
      sent = sent;
      sends = sends;
      tag_is = same_true sent.tag tag own;
      service_is = is.1;
      command_is = is.2;
      procedure_is = is.3;
    }
    by false false e own = refl
    by true false e own = cc
    by false true e own = cc

-- in one entry of a history the plant finds what looking back finds
same_one : (tag : List ℕ) (place : ℕ) (entry : PlainEntry) →
    IsFoundAs tag (place + 1) (plant.sent_to tag entry) (place + 1) (at_place tag place entry)
same_one tag place entry = go entry.answer
  where
    go : (answer : Answer) →
        IsFoundAs tag (place + 1) (plant.answer_command tag (plant.batch_in entry.event) answer) (place + 1)
        (at_place tag place (record { event = entry.event; answer = answer }))
    go (Did did) =
        same_did tag place did (plant.entry_command (plant.batch_in entry.event) did) (sent_by did)
        (order_of (plant.batch_in entry.event) did) refl
    go _ = refl

-- ---- all entries

-- the first of these entries that commands the module, where the first of them stands at this place
abbrev found_among : List ℕ → ℕ → List PlainEntry → Option Found
found_among tag place [] = None
found_among tag place (entry ∷ later) = option_or (at_place tag place entry) (found_among tag (suc place) later)

-- the plant finds it just so
same_among : (tag : List ℕ) (place : ℕ) (later : List PlainEntry) →
    IsFoundAs tag (place + length later) (plant.next_sent tag place later).0 (plant.next_sent tag place later).1
    (found_among tag place later)
same_among tag place [] = omega arith
same_among tag place (entry ∷ later) =
    go (plant.sent_to tag entry) (at_place tag place entry) (same_one tag place entry)
    (same_among tag (place + 1) later)
  where
    next : place + 1 ≡ suc place
    next = omega arith

    count : (place + 1) + length later ≡ place + length (entry ∷ later)
    count = omega arith

    go : (order : Option Order) (found : Option Found) → IsFoundAs tag (place + 1) order (place + 1) found →
        IsFoundAs tag ((place + 1) + length later) (plant.next_sent tag (place + 1) later).0
        (plant.next_sent tag (place + 1) later).1 (found_among tag (place + 1) later) →
        IsFoundAs tag (place + length (entry ∷ later))
        (plant.found_at place order (plant.next_sent tag (place + 1) later)).0
        (plant.found_at place order (plant.next_sent tag (place + 1) later)).1
        (option_or found (found_among tag (suc place) later))
    go None None one rest =
        subst (λ n. IsFoundAs tag n (plant.next_sent tag (place + 1) later).0
        (plant.next_sent tag (place + 1) later).1 (found_among tag (suc place) later)) count
        (subst (λ n. IsFoundAs tag ((place + 1) + length later) (plant.next_sent tag (place + 1) later).0
        (plant.next_sent tag (place + 1) later).1 (found_among tag n later)) next rest)
    go (Some order) (Some found) one rest = one
    go None (Some found) one rest = absurd one
    go (Some order) None one rest = absurd one

-- before the place to look from nothing is found
none_before : (tag : List ℕ) (from : ℕ) (history : History) → length history ≤ from →
    next_command tag from history ≡ None
none_before tag from [] long = refl
none_before tag from (entry ∷ older) long =
    rw (none_before tag from older (omega (arith, long)), lt_fails from (length older) (omega (arith, long))) refl

-- what is found behind some entries is found among those behind them, if nothing was found before
found_behind : (tag : List ℕ) (from : ℕ) (done later : List PlainEntry) → from ≤ length done →
    next_command tag from (reverse (done ++ later))
    ≡ option_or (next_command tag from (reverse done)) (found_among tag (length done) later)
found_behind tag from done [] late = ap (λ all. next_command tag from (reverse all)) (append-nil done) ∙ or_none _
  where
    or_none : (found : Option Found) → found ≡ option_or found None
    or_none None = refl
    or_none (Some found) = refl
found_behind tag from done (entry ∷ later) late =
    ap (λ all. next_command tag from (reverse all)) (sym (append_assoc done (entry ∷ []) later))
    ∙ found_behind tag from (done ++ entry ∷ []) later (omega (arith, late, longer))
    ∙ ap (λ history. option_or (next_command tag from history) (found_among tag (length (done ++ entry ∷ [])) later))
    (reverse-append done (entry ∷ []))
    ∙ ap (λ n. option_or (next_command tag from (entry ∷ reverse done)) (found_among tag n later)) longer
    ∙ ap (λ found. option_or (option_or (next_command tag from (reverse done)) found)
    (found_among tag (suc (length done)) later)) here
    ∙ or_or (next_command tag from (reverse done)) (at_place tag (length done) entry)
    (found_among tag (suc (length done)) later)
  where
    longer : length (done ++ entry ∷ []) ≡ suc (length done)
    longer = let long = length-append done (entry ∷ []) in omega (arith, long)

    here : found_at tag from (length (reverse done)) entry ≡ at_place tag (length done) entry
    here = ap (λ n. found_at tag from n entry) (length-reverse done) ∙ found_late tag from (length done) entry late

    or_or : (one other last : Option Found) →
        option_or (option_or one other) last ≡ option_or one (option_or other last)
    or_or None other last = refl
    or_or (Some one) other last = refl

-- the next command that the plant finds
pub found_next : (tag : List ℕ) (place : ℕ) (entries : List Entry) → place ≤ length entries →
    IsFoundAs tag (length entries) (plant.next_sent tag place (map plain_entry (drop place entries))).0
    (plant.next_sent tag place (map plain_entry (drop place entries))).1
    (next_command tag place (plain_history entries))
found_next tag place entries within =
    subst (λ found. IsFoundAs tag (length entries) (plant.next_sent tag place later).0
    (plant.next_sent tag place later).1 found)
    (sym split)
    (subst (λ n. IsFoundAs tag n (plant.next_sent tag place later).0 (plant.next_sent tag place later).1
    (found_among tag place later)) count (same_among tag place later))
  where
    later : List PlainEntry
    later = map plain_entry (drop place entries)

    done : List PlainEntry
    done = map plain_entry (take place entries)

    done_long : length done ≡ place
    done_long = length-map (take place entries) plain_entry ∙ length-take-le place entries within

    count : place + length later ≡ length entries
    count =
        let one = length-map (drop place entries) plain_entry in
        let other = length-drop place entries in omega (arith, one, other, within)

    whole : map plain_entry entries ≡ done ++ later
    whole = ap (map plain_entry) (sym (take-append-drop place entries))
        ∙ map-append plain_entry (take place entries) (drop place entries)

    before : next_command tag place (reverse done) ≡ None
    before = none_before tag place (reverse done) (let long = length-reverse done in omega (arith, long, done_long))

    split : next_command tag place (plain_history entries) ≡ found_among tag place later
    split =
        ap (λ all. next_command tag place (reverse all)) whole
        ∙ found_behind tag place done later (omega (arith, done_long))
        ∙ ap (λ found. option_or found (found_among tag (length done) later)) before
        ∙ ap (λ n. found_among tag n later) done_long
