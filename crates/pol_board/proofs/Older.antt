-- Numbers of words, and when one word is older than another: what a write, a read and the newer of two words do to it.
use Rattle.std.proofs.Common.{◌≡◌, ◌<◌, ◌⊎◌, ℕ, zero, suc, List, [], ◌∷◌, true, false, Option, Some, None, length, refl, sym, ap, ◌∙◌, subst, inl, inr, ⊎_elim, arith}
use Rattle.std.specs.Prelude.{slice_index, slice_set, nat_lt, if◌then◌else◌}
use Rattle.std.proofs.lemmas.List.{get_or-set_same, get_or-set_other, get_or_past}
use Rattle.std.proofs.lemmas.Bool.{cases_lt}
use Rattle.std.proofs.lemmas.Bool.Decides.{eqb_tells}
use Rattle.std.proofs.lemmas.Nat.{div-mul-add, mod-mul-add}
use Rattle.std.proofs.Math.ListN.{length-set}
use Rattle.mtp_codes.specs.declared.state.State.{State}
use Rattle.mtp_codes.specs.declared.state.State.TheVariants.{Stopped, Starting, Idle, Paused, Execute, Stopping, Aborting, Aborted, Holding, Held, Unholding, Pausing, Resuming, Resetting, Completing, Completed}
use Rattle.mtp_codes.specs.Codes.{state_codes, state_of}
use Rattle.pol_board.specs.Words.{code_of, word_of, number_of, state_at, IsWord, IsOlder, AreOlder, newer, newer_words}

-- a code leaves the number alone
pub code_small : (state : Option State) → code_of state < 262144
code_small None = omega arith
code_small (Some Stopped) = omega arith
code_small (Some Starting) = omega arith
code_small (Some Idle) = omega arith
code_small (Some Paused) = omega arith
code_small (Some Execute) = omega arith
code_small (Some Stopping) = omega arith
code_small (Some Aborting) = omega arith
code_small (Some Aborted) = omega arith
code_small (Some Holding) = omega arith
code_small (Some Held) = omega arith
code_small (Some Unholding) = omega arith
code_small (Some Pausing) = omega arith
code_small (Some Resuming) = omega arith
code_small (Some Resetting) = omega arith
code_small (Some Completing) = omega arith
code_small (Some Completed) = omega arith

-- a word says the number that it was made of
pub number_said : (number : ℕ) (state : Option State) → number_of (word_of number state) ≡ number
number_said number state = div-mul-add number 262144 (code_of state) (code_small state)

-- a code says the state that it was made of
code_said : (state : Option State) → state_of (code_of state) state_codes ≡ state
code_said None = refl
code_said (Some Stopped) = refl
code_said (Some Starting) = refl
code_said (Some Idle) = refl
code_said (Some Paused) = refl
code_said (Some Execute) = refl
code_said (Some Stopping) = refl
code_said (Some Aborting) = refl
code_said (Some Aborted) = refl
code_said (Some Holding) = refl
code_said (Some Held) = refl
code_said (Some Unholding) = refl
code_said (Some Pausing) = refl
code_said (Some Resuming) = refl
code_said (Some Resetting) = refl
code_said (Some Completing) = refl
code_said (Some Completed) = refl

-- a word that says some number and state is made of the two that it says
pub word_again : (word : ℕ) → IsWord word → word_of (number_of word) (state_at word) ≡ word
word_again word (number, state, is) =
    let said_state : state_at word ≡ state =
    ap state_at is ∙ ap (λ code. state_of code state_codes) (mod-mul-add number 262144 (code_of state)
    (code_small state))
    ∙ code_said state in
    ap (λ of. word_of of (state_at word)) (ap number_of is ∙ number_said number state)
    ∙ ap (word_of number) said_state ∙ sym is

-- after a write at one place a read finds what was written there, and elsewhere what stood there
pub found_after : (words : List ℕ) (written place word : ℕ)
    → ((place ≡ written) × (written < length words) × (slice_index (slice_set words written word) place ≡ word))
    ⊎ (slice_index (slice_set words written word) place ≡ slice_index words place)
found_after words written place word =
    ⊎_elim
    (λ told.
    let same : place ≡ written = told.1 in
    ⊎_elim
    (λ inside.
    inl (
      same,
      inside,
      ap (λ at. slice_index (slice_set words written word) at) same
          ∙ get_or-set_same words written word 0 inside,
    ))
    (λ past.
    inr (get_or_past (slice_set words written word) place 0 (omega (arith, same, past, length-set words written word))
    ∙ sym (get_or_past words place 0 (omega (arith, same, past))))) (cases_lt written (length words)))
    (λ told. inr (get_or-set_other words written place word 0 told.1)) (eqb_tells place written)

-- words are no newer than themselves
pub older_same : (words : List ℕ) → AreOlder words words
older_same words = (refl, λ place. inl refl)

-- one place is remembered as it is now
pub older_read : (old words : List ℕ) (read : ℕ) → AreOlder old words
    → AreOlder (slice_set old read (slice_index words read)) words
older_read old words read older = (
  length-set old read (slice_index words read) ∙ older.0,
  λ place.
      ⊎_elim (λ told. inl (told.2 ∙ ap (λ at. slice_index words at) (sym told.0)))
      (λ same. let Older : ℕ → Type 0 = λ word. IsOlder word (slice_index words place) in
      subst Older (sym same) (older.1 place))
      (found_after old read place (slice_index words read)),
)

-- what is older than a word is older than each word with a higher number
older_than : (old word next : ℕ) → IsOlder old word → number_of word < number_of next → IsOlder old next
older_than old word next older less =
    ⊎_elim (λ same. let Less : ℕ → Type 0 = λ of. number_of of < number_of next in inr (subst Less (sym same) less))
    (λ lower. inr (omega (arith, lower, less))) older

-- one place got a word with a higher number
pub older_written : (old words : List ℕ) (written next : ℕ)
    → AreOlder old words → number_of (slice_index words written) < number_of next
    → AreOlder old (slice_set words written next)
older_written old words written next older less = (
  older.0 ∙ sym (length-set words written next),
  λ place.
      let Older : ℕ → Type 0 = λ word. IsOlder (slice_index old place) word in
      ⊎_elim
      (λ told.
      let Less : ℕ → Type 0 = λ at. number_of (slice_index words at) < number_of next in
      subst Older (sym told.2) (older_than (slice_index old place) (slice_index words place) next (older.1 place)
      (subst Less (sym told.0) less)))
      (λ same. subst Older (sym same) (older.1 place)) (found_after words written place next),
)

-- of two words that are older than a third, so is the newer
older_newer : (word other now : ℕ) → IsOlder word now → IsOlder other now → IsOlder (newer word other) now
older_newer word other now first second =
    elim (nat_lt (number_of word) (number_of other)) as (λ lower. IsOlder (if lower then other else word) now) [
      | true ↦ second
      | false ↦ first
    ]

-- place by place
older_places : (words others now : List ℕ)
    → ((place : ℕ) → IsOlder (slice_index words place) (slice_index now place))
    → ((place : ℕ) → IsOlder (slice_index others place) (slice_index now place))
    → length words ≡ length others → (place : ℕ) → IsOlder (slice_index (newer_words words others) place)
    (slice_index now place)
older_places [] others now first second same place = first place
older_places (word ∷ words) [] now first second same place = first place
older_places (word ∷ words) (other ∷ others) [] first second same zero = older_newer word other 0 (first 0) (second 0)
older_places (word ∷ words) (other ∷ others) [] first second same (suc place) =
    older_places words others [] (λ at. first (suc at)) (λ at. second (suc at)) (omega (arith, same)) place
older_places (word ∷ words) (other ∷ others) (at ∷ now) first second same zero =
    older_newer word other at (first 0) (second 0)
older_places (word ∷ words) (other ∷ others) (at ∷ now) first second same (suc place) =
    older_places words others now (λ at. first (suc at)) (λ at. second (suc at)) (omega (arith, same)) place

-- the newer of two lists of words is as long as the first
length_newer : (words others : List ℕ) → length words ≡ length others → length (newer_words words others) ≡ length words
length_newer [] others same = refl
length_newer (word ∷ words) [] same = refl
length_newer (word ∷ words) (other ∷ others) same = ap suc (length_newer words others (omega (arith, same)))

-- what two lists of older words say together is older too
pub older_joined : (words others now : List ℕ) → AreOlder words now → AreOlder others now
    → AreOlder (newer_words words others) now
older_joined words others now first second =
    let same : length words ≡ length others = first.0 ∙ sym second.0 in
    (length_newer words others same ∙ first.0, older_places words others now first.1 second.1 same)
