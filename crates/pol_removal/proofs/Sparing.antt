-- Which entries stay where modules are taken out.
use Rattle.std.proofs.Common.{◌≡◌, ℕ, Bool, true, false, not, ◌&&◌, List, [], refl, ap, ◌∙◌, Option, Some, None}
use Rattle.std.proofs.Common.{if◌then◌else◌}
use Rattle.std.specs.Prelude.{filter}
use Rattle.std.specs.List.{AllByRecursion}
use Rattle.std.proofs.lemmas.Bool.{and_parts, and_from, or_from, or_parts, not_from_false, not-true, false_from_ne_true}
use Rattle.std.proofs.lemmas.Bool.{both_ways}
use Rattle.mtp_codes.specs.Names.{is_among}
use Rattle.mtp_codes.proofs.Names.{same_true}
use Rattle.pol_events.specs.Events.{PlainEvent, start, PlainEntry}
use Rattle.pol_events.specs.declared.answer.Answer.{Answer}
use Rattle.pol_events.specs.declared.answer.Answer.TheVariants.{Refused}
use Rattle.pol_history.specs.Looking.{History, Subject, of_module, of_batch, of_recipe, subject, is_accepted, is_module}
use Rattle.pol_history.specs.Looking.{is_batch, is_recipe, is_accepted_of, is_accepted_of_batch, is_accepted_recipe}
use Rattle.pol_history.specs.Looking.{past, past_of_batch, recipes}
use Rattle.pol_history.specs.Batches.{binds_in, started_batch}
use Rattle.pol_history.proofs.Filters.{filter_kept, all_of}
use Rattle.pol_removal.specs.Removal.{is_refused_for_another, binds_one, is_of, is_named, is_concerned, stays}
use Rattle.pol_removal.proofs.Each.{all_map}
use Rattle.pol_removal.proofs.Owned.{takes_parts}

-- where the entry is an accepted start that binds one of the modules, it is of one of the batches
abbrev pub Covered : List (List ℕ) → List (List ℕ) → PlainEntry → Type 0
Covered tags bound entry = (binds_one tags entry.event && is_accepted entry.answer) ≡ true
    → is_of tags bound (subject entry.event) ≡ true

-- an accepted answer is none for another's sake
accepted_own : (answer : Answer) → is_accepted answer ≡ true → is_refused_for_another answer ≡ false
accepted_own (Refused rule) accepted = cc
accepted_own _ accepted = refl

-- an accepted entry that names none of the modules and none of the batches stays
pub unnamed_stays : (tags bound : List (List ℕ)) (entry : PlainEntry) → is_of tags bound (subject entry.event) ≡ false →
    binds_one tags entry.event ≡ false → is_accepted entry.answer ≡ true → stays tags bound entry ≡ true
unnamed_stays tags bound entry out apart accepted =
    not_from_false (is_concerned tags bound entry) (or_from (is_named tags bound entry.event)
    (is_refused_for_another entry.answer)
    (or_from (is_of tags bound (subject entry.event)) (binds_one tags entry.event) out apart)
    (accepted_own entry.answer accepted))

-- what an entry that stays is
pub stays_parts : (tags bound : List (List ℕ)) (entry : PlainEntry) → stays tags bound entry ≡ true →
    (is_of tags bound (subject entry.event) ≡ false) × (binds_one tags entry.event ≡ false)
    × (is_refused_for_another entry.answer ≡ false)
stays_parts tags bound entry stay =
    let outer = or_parts (is_named tags bound entry.event) (is_refused_for_another entry.answer)
    (not-true (is_concerned tags bound entry) stay) in
    let inner = or_parts (is_of tags bound (subject entry.event)) (binds_one tags entry.event) outer.0 in
    (inner.0, inner.1, outer.1)

-- ---- modules

-- an event of a module binds nothing
module_binds_none : (tag : List ℕ) (event : PlainEvent) → is_module tag (subject event) ≡ true → binds_in event ≡ []
module_binds_none tag (start at batch name binds) of_tag = cc
module_binds_none tag _ of_tag = refl

-- a module that isn't taken out isn't concerned
other_module : (tags bound : List (List ℕ)) (tag : List ℕ) (of : Subject) → is_module tag of ≡ true
    → is_among tags tag ≡ false → is_of tags bound of ≡ false
other_module tags bound tag (of_module other) same outside = rw (same_true other tag same) outside
other_module tags bound tag (of_batch batch) same outside = cc
other_module tags bound tag (of_recipe name) same outside = cc

-- an accepted event of a module that isn't taken out stays
pub of_module_stays : (tags bound : List (List ℕ)) (tag : List ℕ) → is_among tags tag ≡ false → (entry : PlainEntry) →
    is_accepted_of tag entry ≡ true → stays tags bound entry ≡ true
of_module_stays tags bound tag outside entry taken =
    let parts = and_parts (is_module tag (subject entry.event)) (is_accepted entry.answer) taken in
    let none = module_binds_none tag entry.event parts.0 in
    unnamed_stays tags bound entry (other_module tags bound tag (subject entry.event) parts.0 outside) (rw none) parts.1

-- its past is the same
pub past_stays : (tags bound : List (List ℕ)) (history : History) (tag : List ℕ) → is_among tags tag ≡ false →
    past tag (filter (stays tags bound) history) ≡ past tag history
past_stays tags bound history tag outside =
    filter_kept (is_accepted_of tag) (stays tags bound) history
    (all_of (λ entry. is_accepted_of tag entry ≡ true → stays tags bound entry ≡ true)
    (of_module_stays tags bound tag outside) history)

-- ---- batches

-- a batch that isn't taken out isn't concerned
pub other_batch : (tags bound : List (List ℕ)) (batch : List ℕ) (of : Subject) → is_batch batch of ≡ true
    → is_among bound batch ≡ false → is_of tags bound of ≡ false
other_batch tags bound batch (of_module tag) same outside = cc
other_batch tags bound batch (of_batch other) same outside = rw (same_true other batch same) outside
other_batch tags bound batch (of_recipe name) same outside = cc

-- an accepted event of another batch binds none of the modules
pub other_batch_apart : (tags bound : List (List ℕ)) (entry : PlainEntry) → Covered tags bound entry
    → is_of tags bound (subject entry.event) ≡ false →
    is_accepted entry.answer ≡ true → binds_one tags entry.event ≡ false
other_batch_apart tags bound entry covers out accepted =
    false_from_ne_true (binds_one tags entry.event)
    (λ one. both_ways (is_of tags bound (subject entry.event)) out
    (covers (and_from (binds_one tags entry.event) (is_accepted entry.answer) one accepted)))

-- its accepted entries stay
of_batch_stays : (tags bound : List (List ℕ)) (batch : List ℕ) → is_among bound batch ≡ false → (entry : PlainEntry)
    → Covered tags bound entry →
    is_accepted_of_batch batch entry ≡ true → stays tags bound entry ≡ true
of_batch_stays tags bound batch outside entry covers taken =
    let parts = and_parts (is_batch batch (subject entry.event)) (is_accepted entry.answer) taken in
    let out = other_batch tags bound batch (subject entry.event) parts.0 outside in
    unnamed_stays tags bound entry out (other_batch_apart tags bound entry covers out parts.1) parts.1

-- and its past is the same
pub past_of_batch_stays : (tags bound : List (List ℕ)) (history : History)
    → AllByRecursion (Covered tags bound) history →
    (batch : List ℕ) → is_among bound batch ≡ false → past_of_batch batch (filter (stays tags bound) history)
    ≡ past_of_batch batch history
past_of_batch_stays tags bound history covered batch outside =
    filter_kept (is_accepted_of_batch batch) (stays tags bound) history
    (all_map (Covered tags bound) (λ entry. is_accepted_of_batch batch entry ≡ true → stays tags bound entry ≡ true)
    (of_batch_stays tags bound batch outside) history covered)

-- ---- starts

-- the batch that an entry starts
abbrev pub newly_started : PlainEntry → Option (List ℕ)
newly_started entry = if is_accepted entry.answer then started_batch entry.event else None

-- an event that starts a batch is of it
start_subject : (event : PlainEvent) (batch : List ℕ) → started_batch event ≡ Some batch
    → subject event ≡ of_batch batch
start_subject (start at other name binds) batch is = cc
start_subject _ batch is = cc

-- an accepted start stays just if its batch isn't bound
pub start_stays : (tags bound : List (List ℕ)) (entry : PlainEntry) → Covered tags bound entry → (batch : List ℕ)
    → newly_started entry ≡ Some batch →
    stays tags bound entry ≡ not (is_among bound batch)
start_stays tags bound entry covers batch started = go (is_among bound batch) refl
  where
    parts : (is_accepted entry.answer ≡ true) × (started_batch entry.event ≡ Some batch)
    parts = takes_parts (is_accepted entry.answer) (started_batch entry.event) batch started

    named : is_of tags bound (subject entry.event) ≡ is_among bound batch
    named = ap (is_of tags bound) (start_subject entry.event batch parts.1)

    go : (inside : Bool) → is_among bound batch ≡ inside → stays tags bound entry ≡ not inside
    go true is = rw (named, is)
    go false is = unnamed_stays tags bound entry (named ∙ is)
        (other_batch_apart tags bound entry covers (named ∙ is) parts.0) parts.0

-- ---- recipes

-- a recipe binds nothing
recipe_binds_none : (event : PlainEvent) → is_recipe (subject event) ≡ true → binds_in event ≡ []
recipe_binds_none (start at batch name binds) is = cc
recipe_binds_none _ is = refl

-- nor is it of a module or a batch
recipe_unnamed : (tags bound : List (List ℕ)) (of : Subject) → is_recipe of ≡ true → is_of tags bound of ≡ false
recipe_unnamed tags bound (of_module tag) is = cc
recipe_unnamed tags bound (of_batch batch) is = cc
recipe_unnamed tags bound (of_recipe name) is = refl

-- so an accepted recipe stays
recipe_stays : (tags bound : List (List ℕ)) (entry : PlainEntry) → is_accepted_recipe entry ≡ true
    → stays tags bound entry ≡ true
recipe_stays tags bound entry taken =
    let parts = and_parts (is_recipe (subject entry.event)) (is_accepted entry.answer) taken in
    let none = recipe_binds_none entry.event parts.0 in
    unnamed_stays tags bound entry (recipe_unnamed tags bound (subject entry.event) parts.0) (rw none) parts.1

-- and the recipes are the same
pub recipes_stay : (tags bound : List (List ℕ)) (history : History)
    → recipes (filter (stays tags bound) history) ≡ recipes history
recipes_stay tags bound history =
    filter_kept is_accepted_recipe (stays tags bound) history
    (all_of (λ entry. is_accepted_recipe entry ≡ true → stays tags bound entry ≡ true)
    (recipe_stays tags bound) history)
