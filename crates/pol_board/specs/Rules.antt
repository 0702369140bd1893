-- The rule of the board over its words and what its seats remember, and what each kind of step makes known.
use Rattle.std.specs.Prelude.{◌≡◌, ◌≢◌, ℕ, true, false, List, [], slice_index, slice_set}
use mathlib.Core.Option.{some}
use lib.ListN.{get_elem?}
use Rattle.atomic_table.specs.Table.{State, Me, Step, Joins}
use Rattle.pol_board.specs.declared.rule.Remembered.{Remembered}
use Rattle.pol_board.specs.Words.{IsWord, IsOlder, AreOlder, newer_words}

-- a seat that remembers these words
abbrev pub remembers : List ℕ → Remembered
remembers words = record { spent = false; words = words }

-- The rule of a board: each word says some number and state; seat 0, the publisher, remembers the words as they are;
-- each other seat that isn't spent remembers them as they are or as they were.
pub record IsBoard (words : List ℕ) (seats : List Remembered) : Type 0 where
  pub coded : (place : ℕ) → IsWord (slice_index words place)
  pub first : get_elem? seats 0 ≡ some (remembers words)
  pub others : (number : ℕ) (seat : Remembered) → get_elem? seats number ≡ some seat → seat.spent ≡ false
      → AreOlder seat.words words

-- the rule holds of a table's state
abbrev pub KeepsRule : State ℕ Remembered → Type 0
KeepsRule board = IsBoard board.words board.views

-- a load: what is found is the word that was remembered, or a newer one, and is remembered now
abbrev pub IsLoad : Step ℕ → Me ℕ Remembered → ℕ → Me ℕ Remembered → Type 0
IsLoad step before found after =
    (before.0.spent ≡ false → IsOlder (slice_index before.0.words step.word) found
    × IsWord found × (after.0 ≡ remembers (slice_set before.0.words step.word found)))
    × (after.1 ≡ before.1)

-- a store: what was stored is remembered
abbrev pub IsStore : Step ℕ → Me ℕ Remembered → ℕ → Me ℕ Remembered → Type 0
IsStore step before stored after =
    (after.0 ≡ remembers (slice_set before.0.words step.word stored)) × (after.1 ≡ before.1)

-- what is left of a seat that was joined to another
abbrev pub spent : Remembered
spent = record { spent = true; words = [] }

-- what two seats remember together: of each word the newer one
abbrev pub newer_of : Remembered → Remembered → Remembered
newer_of seat other = remembers (newer_words seat.words other.words)

-- Where two seats of readers become one, the rule of the board still holds.
abbrev pub JoinsKeepTheRule : Type 0
JoinsKeepTheRule =
    (number other : ℕ) (seat second : Remembered) → number ≢ 0 → other ≢ 0 → seat.spent ≡ false → second.spent ≡ false
    → Joins KeepsRule number seat other second (newer_of seat second) spent
