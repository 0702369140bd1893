-- Tags in byte order.
use Rattle.std.specs.Prelude.{ℕ, Bool, List, [], ◌∷◌, length, filter}
use Rattle.std.specs.BTreeSet.{insert_key}
use Rattle.std.specs.Cmp.Lexicographic.{slice_cmp}
use Rattle.std.specs.Ordering.{is_lt, nat_cmp}

-- the tag comes before the other in byte order
abbrev pub comes_before : List ℕ → List ℕ → Bool
comes_before tag other = is_lt (slice_cmp nat_cmp tag other)

-- the tags in byte order, each once
unfoldable pub in_byte_order : List (List ℕ) → List (List ℕ)
in_byte_order [] = []
in_byte_order (tag ∷ tags) = insert_key (slice_cmp nat_cmp) (in_byte_order tags) tag

-- how many of the tags come before this one
abbrev pub place_among : List (List ℕ) → List ℕ → ℕ
place_among tags tag = length (filter (λ other. comes_before other tag) tags)
