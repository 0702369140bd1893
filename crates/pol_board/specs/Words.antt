-- The words of a board: a number and the code of a state, and when one word is older than another.
use Rattle.std.specs.Prelude.{◌≡◌, ◌⊎◌, ℕ, ◌+◌, ◌*◌, ◌/◌, ◌%◌, ◌<◌, Option, Some, None, List, [], ◌∷◌, length, slice_index, nat_lt, if◌then◌else◌}
use Rattle.mtp_codes.specs.declared.state.State.{State}
use Rattle.mtp_codes.specs.Codes.{state_codes, state_of, state_number}

-- the code of a state on the board, 0 where nothing is reported
abbrev pub code_of : Option State → ℕ
code_of None = 0
code_of (Some state) = state_number state

-- the word that says this number and this state
abbrev pub word_of : ℕ → Option State → ℕ
word_of number state = number * 262144 + code_of state

-- the number that a word says
abbrev pub number_of : ℕ → ℕ
number_of word = word / 262144

-- the state that a word says, if any
abbrev pub state_at : ℕ → Option State
state_at word = state_of (word % 262144) state_codes

-- the word says some number and state
abbrev pub IsWord : ℕ → Type 0
IsWord word = (number : ℕ) × (state : Option State) × (word ≡ word_of number state)

-- the first word is the second, or was replaced by words with higher numbers
abbrev pub IsOlder : ℕ → ℕ → Type 0
IsOlder old word = (old ≡ word) ⊎ (number_of old < number_of word)

-- each of the first words is the one at its place among the second, or an older one
abbrev pub AreOlder : List ℕ → List ℕ → Type 0
AreOlder old words = (length old ≡ length words) × ((place : ℕ)
    → IsOlder (slice_index old place) (slice_index words place))

-- the one of two words that has the higher number
abbrev pub newer : ℕ → ℕ → ℕ
newer word other = if nat_lt (number_of word) (number_of other) then other else word

-- place by place the newer of two words
abbrev pub newer_words : List ℕ → List ℕ → List ℕ
newer_words [] others = []
newer_words (word ∷ words) [] = word ∷ words
newer_words (word ∷ words) (other ∷ others) = newer word other ∷ newer_words words others
