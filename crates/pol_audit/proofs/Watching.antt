-- The batches that watch a module, gone through in the order of their starts.
use Rattle.std.proofs.Common.{◌≡◌, ℕ, Bool, true, false, List, [], ◌∷◌, ◌++◌, Option, Some, None, reverse, refl, sym}
use Rattle.std.proofs.Common.{ap, ◌∙◌}
use Rattle.std.specs.Prelude.{filter, map}
use Rattle.std.specs.Borrow.{Bor}
use Rattle.std.specs.List.{filter_map}
use Rattle.std.proofs.lemmas.List.{append-nil, reverse-append, reverse-reverse}
use Rattle.std.proofs.lemmas.List.Elements.{filter_map-append}
use Rattle.mtp_codes.specs.Faults.{first_of}
use Rattle.mtp_desc.specs.Plain.{PlainDescription}
use Rattle.pol_events.specs.Events.{plain_entry}
use Rattle.pol_events.specs.declared.answer.Rule.TheVariants.{Watched}
use Rattle.pol_events.specs.declared.event.Entry.{Entry}
use Rattle.pol_history.specs.Batches.{is_open, is_start, watchers_of, watches}
use Rattle.pol_history.specs.Looking.{History}
use Rattle.pol_history.specs.Rules.{uncovered_in, watched}
use Rattle.pol_history.proofs.Filters.{filter_reverse}
use Rattle.pol_audit.specs.Listed.{listed}
use Rattle.pol_audit.specs.Starts.{watchers_in}
use Rattle.pol_audit.proofs.Among.{watchers_among}

-- what is made of a list that is turned round
filter_map_reverse : {X Y : Type 0} (says : X → Option Y) (xs : List X)
    → filter_map says (reverse xs) ≡ reverse (filter_map says xs)
filter_map_reverse says [] = refl
filter_map_reverse {X} {Y} says (x ∷ xs) =
    ap (filter_map says) (reverse-append (x ∷ []) xs) ∙ filter_map-append says (reverse xs) (x ∷ [])
    ∙ go (says x) refl (filter_map_reverse says xs)
  where
    go : (said : Option Y) → says x ≡ said → filter_map says (reverse xs) ≡ reverse (filter_map says xs) →
        filter_map says (reverse xs) ++ filter_map says (x ∷ []) ≡ reverse (filter_map says (x ∷ xs))
    go None is rest = rw is (append-nil (filter_map says (reverse xs)) ∙ rest)
    go (Some y) is rest =
        rw is (ap (λ ys. ys ++ y ∷ []) rest ∙ sym (reverse-append (y ∷ []) (filter_map says xs)))

-- the open ones of the batches that entries start are those of which each is open
open_ones : (history : History) (tag : List ℕ) (entries : List (Bor Entry)) →
    filter (is_open history) (filter_map (watches tag) (map (λ entry. plain_entry entry.now) entries))
    ≡ watchers_in history tag entries
open_ones history tag [] = refl
open_ones history tag (entry ∷ later) = go (watches tag (plain_entry entry.now)) refl (open_ones history tag later)
  where
    others : List (List ℕ)
    others = filter_map (watches tag) (map (λ entry. plain_entry entry.now) later)

    kept : (batch : List ℕ) (open' : Bool) → is_open history batch ≡ open' →
        watches tag (plain_entry entry.now) ≡ Some batch →
        filter (is_open history) others ≡ watchers_in history tag later →
        filter (is_open history) (filter_map (watches tag) (map (λ entry. plain_entry entry.now) (entry ∷ later)))
        ≡ watchers_in history tag (entry ∷ later)
    kept batch true is starts rest = rw (starts, is) (ap (λ batches. batch ∷ batches) rest)
    kept batch false is starts rest = rw (starts, is) rest

    go : (said : Option (List ℕ)) → watches tag (plain_entry entry.now) ≡ said →
        filter (is_open history) others ≡ watchers_in history tag later →
        filter (is_open history) (filter_map (watches tag) (map (λ entry. plain_entry entry.now) (entry ∷ later)))
        ≡ watchers_in history tag (entry ∷ later)
    go None starts rest = rw starts rest
    go (Some batch) starts rest = kept batch (is_open history batch) refl starts rest

-- the watchers of a module, in the order of the starts
in_order : (history : History) (tag : List ℕ) (starts : List (Bor Entry)) →
    listed starts ≡ filter is_start history →
    reverse (filter (is_open history) (filter_map (watches tag) history)) ≡ watchers_in history tag starts
in_order history tag starts is =
    let seen = map (λ entry. plain_entry entry.now) starts in
    ap (λ batches. reverse (filter (is_open history) batches))
    (sym (watchers_among tag history) ∙ ap (filter_map (watches tag)) (sym is))
    ∙ filter_reverse (is_open history) (filter_map (watches tag) (listed starts))
    ∙ ap (λ batches. filter (is_open history) (reverse batches)) (filter_map_reverse (watches tag) seen)
    ∙ ap (filter (is_open history)) (reverse-reverse (filter_map (watches tag) seen))
    ∙ open_ones history tag starts

-- a module is watched by the first of them
pub watched_is : (history : History) (tag : List ℕ) (starts : List (Bor Entry)) →
    listed starts ≡ filter is_start history →
    watched history tag ≡ first_of (map (λ batch. Some (Watched batch)) (watchers_in history tag starts))
watched_is history tag starts is =
    ap (λ batches. first_of (map (λ batch. Some (Watched batch)) batches)) (in_order history tag starts is)

-- a new module is held back for the first of them that it doesn't cover
pub held_back_is : (history : History) (tag : List ℕ) (description : PlainDescription) (starts : List (Bor Entry)) →
    listed starts ≡ filter is_start history →
    first_of (map (uncovered_in history tag description) (watchers_of history tag))
    ≡ first_of (map (uncovered_in history tag description) (watchers_in history tag starts))
held_back_is history tag description starts is =
    ap (λ batches. first_of (map (uncovered_in history tag description) batches)) (in_order history tag starts is)
