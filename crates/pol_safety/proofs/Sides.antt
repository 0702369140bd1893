-- What facts over a history are about, and what every event keeps.
use Rattle.std.proofs.Common.{◌≡◌, ℕ, true, false, cond, List, [], ◌∷◌, Option, None, refl, ap, sym, ◌∙◌, subst}
use Rattle.std.specs.Prelude.{Bool, ◌&&◌, filter_map, if◌then◌else◌}
use Rattle.std.specs.List.{cons_option}
use Rattle.std.specs.Option.{option_or}
use Rattle.std.specs.Str.{bytes_eq}
use Rattle.std.proofs.lemmas.Bool.{and_parts, cond_both}
use Rattle.mtp_codes.proofs.Names.{same_true}
use Rattle.pol_events.specs.Events.{PlainEvent, PlainEntry}
use Rattle.pol_events.specs.Orderly.{is_orderly}
use Rattle.pol_history.specs.Looking.{History, is_accepted, past, past_of_batch, last_of}
use Rattle.pol_history.specs.Looking as looking
use Rattle.pol_history.specs.Batches.{taking, takes, watching, watches}
use Rattle.pol_history.specs.Answers.{rules, otherwise, answer_of}
use Rattle.pol_history.specs.Runs.{entry_of, IsLegal, IsOrderly}
use Rattle.pol_history.proofs.Refused.{refused_nothing}
use Rattle.pol_history.proofs.Accepted.{NoneHolds, accepted_none, accepted_otherwise, paired}

-- the past of each module and of each batch, the recipes, which batch took a module last, and which ever watched it
pub record Sides : Type 0 where
  pub modules : List ℕ → History
  pub batches : List ℕ → History
  pub recipes : History
  pub taker : List ℕ → Option (List ℕ)
  pub onlookers : List ℕ → List (List ℕ)

-- the parts of a history that the laws look at
abbrev pub sides : History → Sides
sides history =
    record {
      modules = λ tag. past tag history;
      batches = λ batch. past_of_batch batch history;
      recipes = looking.recipes history;
      taker = λ tag. last_of (takes tag) history;
      onlookers = λ tag. filter_map (watches tag) history;
    }

-- a refused event changes none of them
refused_same : (entry : PlainEntry) (history : History) → is_accepted entry.answer ≡ false
    → sides (entry ∷ history) ≡ sides history
refused_same entry history refused =
    let same = refused_nothing entry history refused in
    let taker : (tag : List ℕ) → last_of (takes tag) (entry ∷ history) ≡ last_of (takes tag) history
    = λ tag. ap (λ kept. option_or (if kept then taking tag entry.event else None)
    (last_of (takes tag) history)) refused in
    let onlookers : (tag : List ℕ) → filter_map (watches tag) (entry ∷ history) ≡ filter_map (watches tag) history
    = λ tag. ap (λ kept. cons_option (if kept then watching tag entry.event else None)
    (filter_map (watches tag) history)) refused in
    λ i. record {
      modules = λ tag. same.modules tag i;
      batches = λ batch. same.batch_pasts batch i;
      recipes = same.recipes i;
      taker = λ tag. taker tag i;
      onlookers = λ tag. onlookers tag i;
    }

-- an event with the answer that it gets where no rule refuses it
abbrev pub accepted : History → PlainEvent → PlainEntry
accepted history event = paired event (otherwise history event)

-- an orderly event that is accepted after a legal history of orderly events
pub record Comes (history : History) (event : PlainEvent) : Type 0 where
  pub legal : IsLegal history
  pub orderly : IsOrderly history
  pub is_formed : is_orderly event ≡ true
  pub free : NoneHolds (rules history event)
  pub is_accepted : is_accepted (otherwise history event) ≡ true

-- what every accepted event keeps
abbrev pub IsKeptBy : (Sides → Type 0) → Type 0
IsKeptBy Fact = (history : History) (event : PlainEvent) → Comes history event → Fact (sides history)
    → Fact (sides (accepted history event ∷ history))

-- a fact that each event keeps is kept by the next entry
kept_one : (Fact : Sides → Type 0) (history : History) (event : PlainEvent) → IsKeptBy Fact → IsLegal history
    → IsOrderly history → is_orderly event ≡ true →
    Fact (sides history) → Fact (sides (entry_of history event ∷ history))
kept_one Fact history event kept legal orderly formed fact = go (is_accepted (answer_of history event)) refl
  where
    go : (kept : Bool) → is_accepted (answer_of history event) ≡ kept → Fact (sides (entry_of history event ∷ history))
    go false is = subst Fact (sym (refused_same (entry_of history event) history is)) fact
    go true is =
        let same = accepted_otherwise history event is in
        subst (λ answer. Fact (sides (paired event answer ∷ history))) (sym same)
        (kept history event
        (record {
          legal = legal;
          orderly = orderly;
          is_formed = formed;
          free = accepted_none history event is;
          is_accepted = ap is_accepted (sym same) ∙ is;
        }) fact)

-- what no event has and every accepted event keeps holds of every legal history of orderly events
pub always : (Fact : Sides → Type 0) → Fact (sides []) → IsKeptBy Fact → (history : History) → IsLegal history
    → IsOrderly history → Fact (sides history)
always Fact first kept [] legal orderly = first
always Fact first kept (entry ∷ history) legal orderly =
    subst (λ newest. Fact (sides (newest ∷ history))) (ap (paired entry.event) (sym legal.0))
    (kept_one Fact history entry.event kept legal.2 orderly.1 orderly.0
    (always Fact first kept history legal.2 orderly.1))

-- what an event makes of a past, by what it makes of its own
pub at_own : (Holds : History → Type 0) (past : History) (entry : PlainEntry) (kept : Bool)
    (other name : List ℕ) → Holds past →
    (other ≡ name → Holds (entry ∷ past)) → Holds (cond (bytes_eq other name && kept) (entry ∷ past) past)
at_own Holds past entry kept other name before here =
    cond_both (bytes_eq other name && kept) (entry ∷ past) past Holds
    (λ is. here (same_true other name (and_parts (bytes_eq other name) kept is).0)) (λ is. before)
