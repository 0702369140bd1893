-- Who holds a module after one more entry.
use Rattle.std.proofs.Common.{◌≡◌, ℕ, Bool, true, false, cond, List, [], ◌∷◌, Option, Some, None, is_none, refl, ap}
use Rattle.std.proofs.Common.{sym, ◌∙◌, subst}
use Rattle.std.specs.Prelude.{if◌then◌else◌}
use Rattle.std.specs.Option.{option_or, option_eq}
use Rattle.std.specs.Str.{bytes_eq}
use Rattle.mtp_codes.specs.Names.{is_among}
use Rattle.mtp_codes.proofs.Names.{same_true, same_refl, apart_back}
use Rattle.mtp_codes.proofs.Options.{or_none}
use Rattle.chart_core.specs.declared.next.Outcome.{Outcome}
use Rattle.pol_events.specs.Events.{PlainEvent, PlainEntry, start}
use Rattle.pol_events.specs.Bound.{PlainAllocation, tags_of}
use Rattle.pol_events.specs.declared.answer.Answer.TheVariants.{Done}
use Rattle.pol_history.specs.Looking.{History, of_module, of_batch, of_recipe, subject, is_accepted, past_of_batch}
use Rattle.pol_history.specs.Looking.{last_of}
use Rattle.pol_history.specs.Batches.{starting, taking, takes, closing, outcome_by, outcome_of, if_open, holder_of}
use Rattle.pol_history.proofs.Accepted.{paired}
use Rattle.pol_history.proofs.Pasts.{batch_past_own, batch_past_apart, batch_past_same, recipe_batch_past_same}

-- ---- an event that takes no module

-- an event that is no start takes no module
pub no_taking : (tag : List ℕ) (event : PlainEvent) → starting event ≡ None → taking tag event ≡ None
no_taking tag (start at batch name binds) is = cc
no_taking tag _ is = refl

-- nor does its entry, accepted or refused
pub takes_none : (tag : List ℕ) (entry : PlainEntry) → starting entry.event ≡ None → takes tag entry ≡ None
takes_none tag entry is = go (is_accepted entry.answer)
  where
    go : (kept : Bool) → (if kept then taking tag entry.event else None) ≡ None
    go true = no_taking tag entry.event is
    go false = refl

-- the same batches are open, where no batch's past changes
open_same : (history : History) (entry : PlainEntry) →
    ((batch : List ℕ) → past_of_batch batch (entry ∷ history) ≡ past_of_batch batch history) →
    (found : Option (List ℕ)) → if_open (entry ∷ history) found ≡ if_open history found
open_same history entry same None = refl
open_same history entry same (Some batch) = ap (λ past. cond (is_none (outcome_by past)) (Some batch) None) (same batch)

-- the holders stay, where no batch's past changes and no module is taken
pub holders_stay : (history : History) (entry : PlainEntry) (tag : List ℕ) → starting entry.event ≡ None →
    ((batch : List ℕ) → past_of_batch batch (entry ∷ history) ≡ past_of_batch batch history) →
    holder_of (entry ∷ history) tag ≡ holder_of history tag
holders_stay history entry tag is same =
    ap (λ found. if_open (entry ∷ history) (option_or found (last_of (takes tag) history))) (takes_none tag entry is)
    ∙ open_same history entry same (last_of (takes tag) history)

-- an event of a module starts no batch
pub module_no_start : (event : PlainEvent) (tag : List ℕ) → subject event ≡ of_module tag → starting event ≡ None
module_no_start (start at batch name binds) tag is = cc
module_no_start _ tag is = refl

-- an event of a module changes no holder
pub holders_same : (history : History) (entry : PlainEntry) (tag : List ℕ) → subject entry.event ≡ of_module tag →
    (other : List ℕ) →
    holder_of (entry ∷ history) other ≡ holder_of history other
holders_same history entry tag is other =
    holders_stay history entry other (module_no_start entry.event tag is)
    (λ batch. batch_past_same history entry tag batch is)

-- nor does a recipe
pub recipe_no_start : (event : PlainEvent) (name : List ℕ) → subject event ≡ of_recipe name → starting event ≡ None
recipe_no_start (start at batch name binds) other is = cc
recipe_no_start _ other is = refl

-- a recipe changes no holder
pub recipe_holders_same : (history : History) (entry : PlainEntry) (name : List ℕ) →
    subject entry.event ≡ of_recipe name →
    (tag : List ℕ) → holder_of (entry ∷ history) tag ≡ holder_of history tag
recipe_holders_same history entry name is tag =
    holders_stay history entry tag (recipe_no_start entry.event name is)
    (λ batch. recipe_batch_past_same history entry name batch is)

-- ---- an event of a batch that is no start

-- a holder, freed from the batch where that is closed
abbrev pub holder_if : Option Outcome → List ℕ → Option (List ℕ) → Option (List ℕ)
holder_if None batch holder = holder
holder_if (Some outcome) batch holder = if option_eq bytes_eq holder (Some batch) then None else holder

-- the batch itself, where it was open: it is freed where it is closed now
own_freed : (closes : Option Outcome) (batch : List ℕ) →
    cond (is_none closes) (Some batch) None ≡ holder_if closes batch (Some batch)
own_freed None batch = refl
own_freed (Some outcome) batch = ap (λ same. cond same None (Some batch)) (sym (same_refl batch))

-- another batch, where that is a holder: it stays one
other_stays : (closes : Option Outcome) (batch other : List ℕ) (outcome : Option Outcome) →
    bytes_eq batch other ≡ false →
    cond (is_none outcome) (Some other) None ≡ holder_if closes batch (cond (is_none outcome) (Some other) None)
other_stays None batch other outcome apart = refl
other_stays (Some closed) batch other None apart =
    ap (λ same. cond same None (Some other)) (sym (apart_back batch other apart))
other_stays (Some closed) batch other (Some outcome) apart = refl

-- who is a holder of those that took a module, after an accepted event of a batch that was open
open_after : (history : History) (entry : PlainEntry) (batch : List ℕ) → subject entry.event ≡ of_batch batch →
    is_accepted entry.answer ≡ true → outcome_of history batch ≡ None → (found : Option (List ℕ)) →
    if_open (entry ∷ history) found ≡ holder_if (closing entry.answer) batch (if_open history found)
open_after history entry batch is accepted open' None = go (closing entry.answer)
  where
    go : (closes : Option Outcome) → None ≡ holder_if closes batch None
    go None = refl
    go (Some outcome) = refl
open_after history entry batch is accepted open' (Some other) = go (bytes_eq batch other) refl
  where
    own : if_open (entry ∷ history) (Some batch) ≡ holder_if (closing entry.answer) batch (if_open history (Some batch))
    own =
        ap (λ past. cond (is_none (outcome_by past)) (Some batch) None) (batch_past_own history entry batch is accepted)
        ∙ ap (λ found. cond (is_none (option_or (closing entry.answer) found)) (Some batch) None) open'
        ∙ ap (λ found. cond (is_none found) (Some batch) None) (or_none (closing entry.answer))
        ∙ own_freed (closing entry.answer) batch
        ∙ ap (λ found. holder_if (closing entry.answer) batch (cond (is_none found) (Some batch) None)) (sym open')

    go : (same : Bool) → bytes_eq batch other ≡ same →
        if_open (entry ∷ history) (Some other) ≡ holder_if (closing entry.answer) batch (if_open history (Some other))
    go true same =
        subst (λ other. if_open (entry ∷ history) (Some other)
        ≡ holder_if (closing entry.answer) batch (if_open history (Some other)))
        (same_true batch other same) own
    go false apart =
        ap (λ past. cond (is_none (outcome_by past)) (Some other) None)
        (batch_past_apart history entry batch other is apart)
        ∙ other_stays (closing entry.answer) batch other (outcome_of history other) apart

-- the holders are those before, freed where the answer closes the batch
pub holders_after : (history : History) (entry : PlainEntry) (batch : List ℕ) → subject entry.event ≡ of_batch batch →
    starting entry.event ≡ None → is_accepted entry.answer ≡ true → outcome_of history batch ≡ None → (tag : List ℕ) →
    holder_of (entry ∷ history) tag ≡ holder_if (closing entry.answer) batch (holder_of history tag)
holders_after history entry batch is no_start accepted open' tag =
    ap (λ found. if_open (entry ∷ history) (option_or found (last_of (takes tag) history)))
    (takes_none tag entry no_start)
    ∙ open_after history entry batch is accepted open' (last_of (takes tag) history)

-- ---- a start

-- the entry of an accepted start
abbrev pub started : ℕ → List ℕ → List ℕ → PlainAllocation → PlainEntry
started at batch name binds = paired (start at batch name binds) Done

-- the new batch holds the modules that it binds
pub holders_started : (history : History) (at : ℕ) (batch name : List ℕ) (binds : PlainAllocation) →
    past_of_batch batch history ≡ [] →
    (tag : List ℕ) →
    holder_of (started at batch name binds ∷ history) tag ≡ (if is_among
    (tags_of binds.held) tag then Some batch else holder_of history tag)
holders_started history at batch name binds new tag = go (is_among (tags_of binds.held) tag)
  where
    entry : PlainEntry
    entry = started at batch name binds

    own : outcome_by (past_of_batch batch (entry ∷ history)) ≡ None
    own = ap outcome_by (batch_past_own history entry batch refl refl ∙ ap (λ past. entry ∷ past) new)

    before : outcome_by (past_of_batch batch history) ≡ None
    before = ap outcome_by new

    other : (found : Option (List ℕ)) → if_open (entry ∷ history) found ≡ if_open history found
    other None = refl
    other (Some name) = which (bytes_eq batch name) refl
      where
        which : (same : Bool) → bytes_eq batch name ≡ same →
            if_open (entry ∷ history) (Some name) ≡ if_open history (Some name)
        which true same =
            subst (λ name. if_open (entry ∷ history) (Some name) ≡ if_open history (Some name))
            (same_true batch name same)
            (ap (λ outcome. cond (is_none outcome) (Some batch) None) (own ∙ sym before))
        which false apart =
            ap (λ past. cond (is_none (outcome_by past)) (Some name) None)
            (batch_past_apart history entry batch name refl apart)

    go : (among : Bool) →
        if_open (entry ∷ history) (option_or (cond among (Some batch) None) (last_of (takes tag) history))
        ≡ (if among then Some batch else holder_of history tag)
    go true = ap (λ outcome. cond (is_none outcome) (Some batch) None) own
    go false = other (last_of (takes tag) history)
