-- Items under names, where one more is added.
use Rattle.std.proofs.Common.{◌≡◌, ℕ, Bool, true, false, cond, List, [], ◌∷◌, ◌++◌, append-nil, length, map, Option}
use Rattle.std.proofs.Common.{Some, None, refl, ap, sym, ◌∙◌}
use Rattle.std.specs.Prelude.{◌&&◌, filter}
use Rattle.std.proofs.Math.Bool.{and-false, and-true}
use Rattle.std.specs.Borrow.{Bor}
use Rattle.std.specs.List.{cons_option}
use Rattle.std.specs.Map.{lookup, set_value}
use Rattle.std.specs.Option.{option_map_or}
use Rattle.std.specs.Str.{bytes_eq}
use Rattle.std.specs.declared.vec.Vec.{Vec}
use Rattle.std.proofs.lemmas.List.{length-map, length-reverse}
use Rattle.pol_events.specs.Events.{PlainEntry, plain_entry}
use Rattle.pol_events.specs.Subjects.{Subject, of_module, of_batch, of_recipe, subject, accepted_batch, accepted_tag}
use Rattle.pol_events.specs.Subjects.{subject_batch, subject_tag}
use Rattle.pol_history.specs.Looking.{is_accepted, is_accepted_of, is_accepted_of_batch, is_batch, is_module}
use Rattle.pol_events.specs.declared.event.Entry.{Entry}
use Rattle.mtp_codes.proofs.Names.{same_true}
use Rattle.pol_history.proofs.Names.{written}
use Rattle.pol_audit.specs.Listed.{is_this, items_under, listed}

-- an item that is kept is at the end of its name's list
pub added : {T : Type 0} (name other : List ℕ) (old : List T) (item : T) →
    cond (bytes_eq name other) (old ++ item ∷ []) old
    ≡ old ++ cond (is_this other (Some name) && true) (item ∷ []) []
added name other old item = go (bytes_eq name other)
  where
    go : (same : Bool) → cond same (old ++ item ∷ []) old ≡ old ++ cond (same && true) (item ∷ []) []
    go true = refl
    go false = sym (append-nil old)

-- an item that isn't kept is in no list
pub left : {T : Type 0} (name : Option (List ℕ)) (other : List ℕ) (old : List T) (item : T) →
    old ≡ old ++ cond (is_this other name && false) (item ∷ []) []
left name other old item = go (is_this other name)
  where
    go : (same : Bool) → old ≡ old ++ cond (same && false) (item ∷ []) []
    go true = sym (append-nil old)
    go false = sym (append-nil old)

-- an item that is pushed to a name's list
pub items_written : {T Z : Type 0} (named : List (List ℕ × Vec T Z)) (name other : List ℕ) (item : T)
    (old new : Vec T Z) →
    lookup (bytes_eq name) named ≡ Some old → new.items ≡ old.items ++ item ∷ [] →
    items_under (set_value (bytes_eq name) named new) other
    ≡ cond (bytes_eq name other) (items_under named other ++ item ∷ []) (items_under named other)
items_written named name other item old new found is =
    ap (λ found. option_map_or (λ items. items.items) found []) (written name other named old new found)
    ∙ go (bytes_eq name other) refl
  where
    its : new.items ≡ items_under named name ++ item ∷ []
    its = is ∙ ap (λ found. option_map_or (λ items. items.items) found [] ++ item ∷ []) (sym found)

    go : (same : Bool) → bytes_eq name other ≡ same →
        option_map_or (λ items. items.items) (cond same (Some new) (lookup (bytes_eq other) named)) []
        ≡ cond same (items_under named other ++ item ∷ []) (items_under named other)
    go true same = its ∙ ap (λ name. items_under named name ++ item ∷ []) (same_true name other same)
    go false same = refl

-- an item that is given is at the end of its name's list
pub kept_one : {T : Type 0} (name : List ℕ) (said whom : Option (List ℕ)) (told : Option T) (item : T) (old : List T) →
    said ≡ whom → told ≡ Some item →
    old ++ cond (is_this name said && true) (item ∷ []) []
    ≡ old ++ cond (is_this name whom) (cons_option told []) []
kept_one name said whom told item old same is = rw (same, is) (go (is_this name whom))
  where
    go : (its : Bool) → old ++ cond (its && true) (item ∷ []) [] ≡ old ++ cond its (item ∷ []) []
    go true = refl
    go false = refl

-- where none is given all lists stay
pub kept_none : {T : Type 0} (name : List ℕ) (whom : Option (List ℕ)) (told : Option T) (old : List T) →
    told ≡ None → old ≡ old ++ cond (is_this name whom) (cons_option told []) []
kept_none name whom told old is = rw is (go (is_this name whom))
  where
    go : (its : Bool) → old ≡ old ++ cond its [] []
    go true = sym (append-nil old)
    go false = sym (append-nil old)

-- a history is as long as the list of its entries
pub as_listed : (entries : List (Bor Entry)) → length (listed entries) ≡ length entries
as_listed entries =
    length-reverse (map (λ entry. plain_entry entry.now) entries)
    ∙ length-map entries (λ entry. plain_entry entry.now)

-- an item that is given stands there where it passes a test
pub kept_some : {T : Type 0} (kind : T → Bool) (name : List ℕ) (said whom : Option (List ℕ)) (told : Option T)
    (item : T) (old : List T) →
    said ≡ whom → told ≡ Some item →
    old ++ cond (is_this name said && kind item) (item ∷ []) []
    ≡ old ++ cond (is_this name whom) (filter kind (cons_option told [])) []
kept_some kind name said whom told item old same is = rw (same, is) (go (is_this name whom) (kind item))
  where
    go : (its kept : Bool) → old ++ cond (its && kept) (item ∷ []) [] ≡ old ++ cond its (cond kept (item ∷ []) []) []
    go true true = refl
    go true false = refl
    go false kept = refl

-- and where none is given all lists stay
pub kept_nothing : {T : Type 0} (kind : T → Bool) (name : List ℕ) (whom : Option (List ℕ)) (told : Option T)
    (old : List T) → told ≡ None → old ≡ old ++ cond (is_this name whom) (filter kind (cons_option told [])) []
kept_nothing kind name whom told old is = rw is (go (is_this name whom))
  where
    go : (its : Bool) → old ≡ old ++ cond its [] []
    go true = sym (append-nil old)
    go false = sym (append-nil old)

-- an entry is of a module where it is the accepted one's
pub its_tag : (tag : List ℕ) (entry : PlainEntry) → is_this tag (accepted_tag entry) ≡ is_accepted_of tag entry
its_tag tag entry = go (subject entry.event) (is_accepted entry.answer)
  where
    go : (of' : Subject) (kept : Bool) → is_this tag (cond kept (subject_tag of') None) ≡ (is_module tag of' && kept)
    go (of_module other) true = sym (and-true (bytes_eq other tag))
    go (of_module other) false = sym (and-false (bytes_eq other tag))
    go (of_batch batch) true = refl
    go (of_batch batch) false = refl
    go (of_recipe name) true = refl
    go (of_recipe name) false = refl

-- and of a batch likewise
pub its_batch : (batch : List ℕ) (entry : PlainEntry)
    → is_this batch (accepted_batch entry) ≡ is_accepted_of_batch batch entry
its_batch batch entry = go (subject entry.event) (is_accepted entry.answer)
  where
    go : (of' : Subject) (kept : Bool) →
        is_this batch (cond kept (subject_batch of') None) ≡ (is_batch batch of' && kept)
    go (of_module tag) true = refl
    go (of_module tag) false = refl
    go (of_batch other) true = sym (and-true (bytes_eq other batch))
    go (of_batch other) false = sym (and-false (bytes_eq other batch))
    go (of_recipe name) true = refl
    go (of_recipe name) false = refl
