-- An accepted start that binds one of the modules is of a batch that is bound to them.
use Rattle.std.proofs.Common.{◌≡◌, ℕ, Bool, true, false, cond, List, [], ◌∷◌, refl, Option, Some, None}
use Rattle.std.specs.List.{AllByRecursion, cons_option}
use Rattle.std.specs.Str.{bytes_eq}
use Rattle.std.proofs.lemmas.Bool.{and_parts, or_left, or_right, both_ways}
use Rattle.mtp_codes.specs.Names.{is_among}
use Rattle.mtp_codes.proofs.Names.{same_refl}
use Rattle.pol_events.specs.Events.{PlainEvent, start, PlainEntry}
use Rattle.pol_history.specs.Looking.{History, Subject, of_module, of_batch, of_recipe, subject, is_accepted}
use Rattle.pol_events.specs.Bound.{tags_of}
use Rattle.pol_history.specs.Batches.{binds_in, started_batch}
use Rattle.pol_history.specs.Runs.{is_recorded, recorded}
use Rattle.pol_removal.specs.Removal.{is_some_among, binds_one, bound_batch, bound_batches, is_of}
use Rattle.pol_history.proofs.Filters.{all_of}
use Rattle.pol_removal.proofs.Each.{all_map}
use Rattle.pol_removal.proofs.Sparing.{Covered}

-- with one more batch taken out, what concerned them still does
of_more : (tags bound : List (List ℕ)) (batch : Option (List ℕ)) (of : Subject) → is_of tags bound of ≡ true
    → is_of tags (cons_option batch bound) of ≡ true
of_more tags bound None of is = is
of_more tags bound (Some batch) (of_module tag) is = is
of_more tags bound (Some batch) (of_batch other) is = or_right (bytes_eq batch other) (is_among bound other) is
of_more tags bound (Some batch) (of_recipe name) is = is

-- the start of a batch that binds one of the modules concerns what is taken out once the batch is
of_started : (tags bound : List (List ℕ)) (event : PlainEvent) → binds_one tags event ≡ true
    → is_of tags (cons_option (started_batch event) bound) (subject event) ≡ true
of_started tags bound (start at batch name binds) one = or_left (bytes_eq batch batch) (is_among bound batch)
    (same_refl batch)
of_started tags bound _ one = cc

-- an entry is covered by the batches with its own, if it binds one of the modules
covered_first : (tags bound : List (List ℕ)) (entry : PlainEntry)
    → Covered tags (cons_option (bound_batch tags entry) bound) entry
covered_first tags bound entry is = rw is (of_started tags bound entry.event
    (and_parts (binds_one tags entry.event) (is_accepted entry.answer) is).0)

-- the bound batches of some entries cover each of them
pub bound_covers : (tags : List (List ℕ)) (entries : List PlainEntry)
    → AllByRecursion (Covered tags (bound_batches tags entries)) entries
bound_covers tags [] = tt
bound_covers tags (entry ∷ entries) = (
  covered_first tags (bound_batches tags entries) entry,
  all_map (Covered tags (bound_batches tags entries)) (Covered tags (bound_batches tags (entry ∷ entries)))
      (λ other covers is. of_more tags (bound_batches tags entries) (bound_batch tags entry) (subject other.event)
      (covers is)) entries (bound_covers tags entries),
)

-- an entry that is recorded, or isn't, keeps a history covered
pub covered_recorded : (tags bound : List (List ℕ)) (entry : PlainEntry) (history : History)
    → Covered tags bound entry →
    AllByRecursion (Covered tags bound) history → AllByRecursion (Covered tags bound) (recorded entry history)
covered_recorded tags bound entry history here covered = go (is_recorded entry.answer)
  where
    go : (kept : Bool) → AllByRecursion (Covered tags bound) (cond kept (entry ∷ history) history)
    go true = (here, covered)
    go false = covered

-- a start binds none of no modules
pub binds_none : (binds : List (List ℕ)) → is_some_among [] binds ≡ false
binds_none [] = refl
binds_none (tag ∷ binds) = binds_none binds

-- where no modules are taken out, any batches cover each entry
pub covered_by_none : (bound : List (List ℕ)) (entries : List PlainEntry) → AllByRecursion (Covered [] bound) entries
covered_by_none bound entries = all_of (Covered [] bound) covered entries
  where
    covered : (entry : PlainEntry) → Covered [] bound entry
    covered entry is = let none : binds_one [] entry.event ≡ false = binds_none (tags_of (binds_in entry.event)) in
        absurd (both_ways (binds_one [] entry.event) none
        (and_parts (binds_one [] entry.event) (is_accepted entry.answer) is).0)
