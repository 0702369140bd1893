-- Parts of lists.
use Rattle.std.proofs.Common.{◌≡◌, ◌≤◌, ◌-◌, ℕ, zero, suc, false, List, [], ◌∷◌, ◌++◌, arith, codes, drop, length, map, take}
use Rattle.std.proofs.Common.{append_assoc, refl, ap, ◌∙◌}
use Rattle.std.specs.Prelude.{Option, nat_lt}
use Rattle.std.specs.Option.{unwrap_or}
use Rattle.serde_json.proofs.OnLiterals.{serde_json_on_literals}
use Rattle.serde_json.specs.View.{items_of}
use Rattle.serde_json.specs.Written.{items_text}
use Rattle.pol_events.specs.Events.{PlainEntry}
use Rattle.pol_record.specs.Texts.{under_key}
use Rattle.pol_overview.specs.Entries.{NamedEntry, all_named, cut_of, entries_text, entry_data, text_between}
use Rattle.pol_overview.specs.declared.entries.TheConstants.{MOST_TOLD}

-- from its length on a list has nothing
pub dropped : {A : Type 0} (xs : List A) (from : ℕ) → length xs ≤ from → drop (length xs) xs ≡ drop from xs
dropped [] zero all = refl
dropped [] (suc from) all = refl
dropped (x ∷ xs) zero all = absurd (omega arith)
dropped (x ∷ xs) (suc from) all = dropped xs from (omega arith)

-- a list has no more than its length
pub taken : {A : Type 0} (xs : List A) (most : ℕ) → length xs ≤ most → take (length xs) xs ≡ take most xs
taken [] zero all = refl
taken [] (suc most) all = refl
taken (x ∷ xs) zero all = absurd (omega arith)
taken (x ∷ xs) (suc most) all = ap (λ rest. x ∷ rest) (taken xs most (omega arith))

-- as many entries are told with who asked as there are
pub named_length : (persons : List (Option (List ℕ))) (entries : List PlainEntry) → length persons ≡ length entries
    → length (all_named persons entries) ≡ length entries
named_length [] [] same = refl
named_length [] (entry ∷ entries) same = same
named_length (person ∷ persons) [] same = absurd (omega arith)
named_length (person ∷ persons) (entry ∷ entries) same = ap suc (named_length persons entries (omega arith))

-- what is left of a list behind a place
pub dropped_length : {A : Type 0} (xs : List A) (from : ℕ) → length (drop from xs) ≡ length xs - from
dropped_length [] zero = refl
dropped_length [] (suc from) = omega arith
dropped_length (x ∷ xs) zero = omega arith
dropped_length (x ∷ xs) (suc from) = dropped_length xs from ∙ omega arith

-- a number isn't below itself
not_below : (n : ℕ) → nat_lt n n ≡ false
not_below n = grind arith

-- the line of entries, by its pieces
line_pieces : (front : List ℕ) (entries : List NamedEntry) →
    ((front ++ codes "{\"entries\":[") ++ items_text false (items_of (map entry_data entries))) ++ codes "}\n"
    ≡ front ++ entries_text entries
unfolding serde_json_on_literals under_key
line_pieces front entries =
    regrouped front (codes "{\"entries\":[") (items_text false (items_of (map entry_data entries))) (codes "}") (10 ∷ [])
  where
    regrouped : (front before each close feed : List ℕ) → ((front ++ before) ++ each) ++ (close ++ feed)
        ≡ front ++ ((before ++ (each ++ close)) ++ feed)
    regrouped front before each close feed = simp append_assoc refl

-- the line of the entries from a place up to another, which are those that are asked for
pub cut_pieces : (front between : List ℕ) (entries : List NamedEntry) (from first end : ℕ) (most : Option ℕ) →
    drop first entries ≡ drop from entries →
    take (end - first) (drop first entries) ≡ take (unwrap_or most MOST_TOLD) (drop first entries) →
    between ≡ text_between first first end entries →
    ((front ++ codes "{\"entries\":[") ++ between) ++ codes "}\n"
    ≡ front ++ entries_text (cut_of from most entries)
cut_pieces front between entries from first end most begins ends is =
    ap (λ text. ((front ++ codes "{\"entries\":[") ++ text) ++ codes "}\n")
    (is
    ∙ ap (λ later. items_text later (items_of (map entry_data (take (end - first) (drop first entries))))) (not_below first)
    ∙ ap (λ cut. items_text false (items_of (map entry_data cut)))
    (ends ∙ ap (take (unwrap_or most MOST_TOLD)) begins))
    ∙ line_pieces front (cut_of from most entries)
