-- A ledger with an item more is one again.
use Rattle.std.proofs.Common.{◌≡◌, ◌+◌, ◌≤◌, ℕ, true, List, [], ◌∷◌, ◌++◌, length, map, take, Option, Some, None, is_some, refl, sym, ap, ◌∙◌, arith, length-append}
use Rattle.std.proofs.lemmas.List.{map_push, take_at}
use Rattle.pol_core.specs.Plants.{PlainPlant, plant_history}
use Rattle.pol_events.specs.Events.{PlainEvent}
use Rattle.pol_history.specs.Answers.{answer_of}
use Rattle.pol_history.specs.Looking.{History}
use Rattle.pol_history.specs.Runs.{entry_of, events_of, history_after, is_recorded, recorded}
use Rattle.pol_kept.specs.Work.{IsTextIfKept}
use Rattle.pol_record.proofs.Appending.{history_after_append}
use Rattle.pol_store.proofs.Histories.{length-plant}
use Rattle.pol_store.specs.Lawful.{events-cons, recorded_is}
use Rattle.pol_ledger.specs.Bodies.{length-sum}
use Rattle.pol_ledger.specs.Items.{PlainAsked, PlainItem, asked, body_of, header, sum_from, sum_of, text_behind}
use Rattle.pol_ledger.specs.Ledgers.{IsLedger, PlainLedger, all_asked, begun_by, ledger_state}
use Rattle.pol_ledger.specs.Sums.{sum_after}
use Rattle.pol_ledger.specs.Work.{IsTextOf, asked_after, history_of, items_of, ledger_after, ledger_work}

-- ---- sums

-- the sum of one record more
sum_from_push : (before : List ℕ) (items : List PlainItem) (item : PlainItem) →
    sum_from before (items ++ item ∷ []) ≡ sum_after (sum_from before items) (body_of item)
sum_from_push before [] item = refl
sum_from_push before (first ∷ items) item = sum_from_push (sum_after before (body_of first)) items item

-- that of a ledger too
pub sum_push : (items : List PlainItem) (item : PlainItem) →
    sum_of (items ++ item ∷ []) ≡ sum_after (sum_of items) (body_of item)
sum_push items item = sum_from_push [] items item

-- a record's text begins with its sum
pub sum_of_text : (before : List PlainItem) (item : PlainItem) (text : List ℕ) → text ≡ text_behind before item →
    take 32 text ≡ sum_of (before ++ item ∷ [])
sum_of_text before item text is =
    ap (take 32) is
    ∙ take_at (sum_after (sum_of before) (body_of item)) (body_of item) 32 (length-sum (sum_of before) (body_of item))
    ∙ sym (sum_push before item)

-- so it has at least 32 bytes
pub text_long : (before : List PlainItem) (item : PlainItem) (text : List ℕ) → text ≡ text_behind before item →
    32 ≤ length text
text_long before item text is =
    let sum = length-sum (sum_of before) (body_of item) in
    let whole = length-append (sum_after (sum_of before) (body_of item)) (body_of item) in
    let same = ap length is in
    omega (arith, sum, whole, same)

-- ---- events with who asked

-- one more
all_asked_push : (names : List (Option (List ℕ))) (events : List PlainEvent) (one : PlainAsked) →
    length names ≡ length events →
    all_asked (names ++ one.by ∷ []) (events ++ one.event ∷ []) ≡ all_asked names events ++ one ∷ []
all_asked_push [] [] one long = refl
all_asked_push [] (event ∷ events) one long = absurd (omega (arith, long))
all_asked_push (name ∷ names) [] one long = absurd (omega (arith, long))
all_asked_push (name ∷ names) (event ∷ events) one long =
    ap (λ (all : List PlainAsked). record { event = event; by = name } ∷ all)
    (all_asked_push names events one (omega (arith, long)))

-- as many as names
pub length-asked : (names : List (Option (List ℕ))) (events : List PlainEvent) → length names ≡ length events →
    length (all_asked names events) ≡ length names
length-asked [] events long = refl
length-asked (name ∷ names) [] long = absurd (omega (arith, long))
length-asked (name ∷ names) (event ∷ events) long =
    let more = length-asked names events (omega (arith, long)) in omega (arith, more)

-- the history of one more
history_push : (so_far : List PlainAsked) (one : PlainAsked) →
    history_of (so_far ++ one ∷ []) ≡ recorded (entry_of (history_of so_far) one.event) (history_of so_far)
history_push so_far one =
    let event_in = λ (asked : PlainAsked). asked.event in
    ap (history_after []) (map_push event_in so_far one)
    ∙ history_after_append [] (map event_in so_far) (one.event ∷ [])

-- ---- ledgers

-- a ledger of these parts
abbrev ledger_of : PlainPlant → List (Option (List ℕ)) → Option (List ℕ) → PlainLedger
ledger_of plant names build = record { plant = plant; names = names; build = build }

-- a ledger has as many names as its history has events
pub many_events : (plant : PlainPlant) (names : List (Option (List ℕ))) → length names ≡ length plant.entries →
    length names ≡ length (events_of (plant_history plant))
many_events plant names many = many ∙ sym (length-plant plant)

-- one that begins
pub begins : (plant : PlainPlant) (names : List (Option (List ℕ))) (build text : List ℕ) (sum : Option (List ℕ)) →
    IsLedger (ledger_of plant names None) sum → IsTextOf [] (header build) text →
    IsLedger (ledger_of plant names (Some build)) (Some (take 32 text))
begins plant names build text sum is has =
    let none : all_asked names (events_of (plant_history plant)) ≡ [] =
    ap (λ (l : List (Option (List ℕ))). all_asked l (events_of (plant_history plant))) is.idle in
    record {
      many = is.many;
      runs = is.runs;
      sealed =
          sum_of_text [] (header build) text has.written
          ∙ ap (λ (so_far : List PlainAsked). sum_of (header build ∷ map asked so_far)) (sym none);
      idle = tt;
    }

-- one whose plant has the same history
pub same_history : (plant other : PlainPlant) (names : List (Option (List ℕ))) (build sum : Option (List ℕ)) →
    plant_history other ≡ plant_history plant → IsLedger (ledger_of plant names build) sum →
    IsLedger (ledger_of other names build) sum
same_history plant other names build sum same is = record {
  many = many_events plant names is.many ∙ ap (λ (h : History). length (events_of h)) (sym same) ∙ length-plant other;
  runs =
      same
      ∙ is.runs
      ∙ ap (λ (h : History). history_of (all_asked names (events_of h))) (sym same);
  sealed =
      is.sealed
      ∙ ap (λ (h : History). sum_of (items_of (begun_by build (all_asked names (events_of h))))) (sym same);
  idle = is.idle;
}

module _ (plant other : PlainPlant) (names : List (Option (List ℕ))) (sum : Option (List ℕ)) (one : PlainAsked) where
  -- the events so far, and those with one more
  abbrev before : List PlainAsked
  before = all_asked names (events_of (plant_history plant))

  -- in a ledger the event is answered as the history says
  answered : (build : Option (List ℕ)) → IsLedger (ledger_of plant names build) sum →
      is_recorded (answer_of (history_of before) one.event) ≡ is_recorded (answer_of (plant_history plant) one.event)
  answered build is = ap (λ (h : History). is_recorded (answer_of h one.event)) (sym is.runs)

  -- where it is recorded, it is the last one then
  asked_more : (build : Option (List ℕ)) → IsLedger (ledger_of plant names build) sum →
      is_recorded (answer_of (plant_history plant) one.event) ≡ true →
      plant_history other ≡ recorded (entry_of (plant_history plant) one.event) (plant_history plant) →
      all_asked (names ++ one.by ∷ []) (events_of (plant_history other)) ≡ before ++ one ∷ []
  asked_more build is kept after =
      ap (λ (h : History). all_asked (names ++ one.by ∷ []) (events_of h))
      (after ∙ recorded_is (plant_history plant) one.event kept)
      ∙ ap (all_asked (names ++ one.by ∷ []))
      (events-cons (entry_of (plant_history plant) one.event) (plant_history plant))
      ∙ all_asked_push names (events_of (plant_history plant)) one (many_events plant names is.many)

  -- what the ledger knows then
  pub takes : (build : Option (List ℕ)) → is_some build ≡ true → IsLedger (ledger_of plant names build) sum →
      is_recorded (answer_of (plant_history plant) one.event) ≡ true →
      plant_history other ≡ recorded (entry_of (plant_history plant) one.event) (plant_history plant) →
      ledger_state (ledger_of other (names ++ one.by ∷ []) build)
      ≡ ledger_after (ledger_state (ledger_of plant names build)) (asked one)
  takes None begun is kept after = absurd cc
  takes (Some build) begun is kept after =
      let recorded : is_recorded (answer_of (history_of before) one.event) ≡ true = answered (Some build) is ∙ kept in
      let more : asked_after before one ≡ before ++ one ∷ [] = rw recorded refl in
      ap (λ (so_far : List PlainAsked). begun_by (Some build) so_far)
      (asked_more (Some build) is kept after ∙ sym more)

  -- it is one again, with the sum that the text begins with
  pub takes_on : (build : Option (List ℕ)) (text : List ℕ) → is_some build ≡ true →
      IsLedger (ledger_of plant names build) sum →
      is_recorded (answer_of (plant_history plant) one.event) ≡ true →
      plant_history other ≡ recorded (entry_of (plant_history plant) one.event) (plant_history plant) →
      IsTextIfKept ledger_work (ledger_state (ledger_of plant names build)) (asked one) text →
      IsLedger (ledger_of other (names ++ one.by ∷ []) build) (Some (take 32 text))
  takes_on None text begun is kept after has = absurd cc
  takes_on (Some build) text begun is kept after has =
      let more = asked_more (Some build) is kept after in
      let written = (has (answered (Some build) is ∙ kept)).written in
      let entries : length (events_of (plant_history other)) ≡ length names + 1 =
      ap (λ (h : History). length (events_of h)) (after ∙ recorded_is (plant_history plant) one.event kept)
      ∙ ap length (events-cons (entry_of (plant_history plant) one.event) (plant_history plant))
      ∙ length-append (events_of (plant_history plant)) (one.event ∷ [])
      ∙ ap (λ (n : ℕ). n + 1) (sym (many_events plant names is.many)) in
      record {
        many = length-append names (one.by ∷ []) ∙ sym entries ∙ length-plant other;
        runs =
            after
            ∙ ap (λ (h : History). recorded (entry_of h one.event) h) is.runs
            ∙ sym (history_push before one)
            ∙ ap history_of (sym more);
        sealed =
            sum_of_text (items_of (begun_by (Some build) before)) (asked one) text written
            ∙ ap (λ (items : List PlainItem). sum_of (header build ∷ items)) (sym (map_push asked before one))
            ∙ ap (λ (so_far : List PlainAsked). sum_of (header build ∷ map asked so_far)) (sym more);
        idle = tt;
      }

  -- the text of one that is recorded begins with a sum
  pub text_taken : (build : Option (List ℕ)) (text : List ℕ) → is_some build ≡ true →
      IsLedger (ledger_of plant names build) sum →
      is_recorded (answer_of (plant_history plant) one.event) ≡ true →
      IsTextIfKept ledger_work (ledger_state (ledger_of plant names build)) (asked one) text → 32 ≤ length text
  text_taken None text begun is kept has = absurd cc
  text_taken (Some build) text begun is kept has =
      text_long (items_of (begun_by (Some build) before)) (asked one) text
      (has (answered (Some build) is ∙ kept)).written
