-- The kinds of step keep the rule of the board.
use Rattle.std.proofs.Common.{◌≡◌, ◌<◌, ℕ, zero, suc, List, [], ◌∷◌, ◌++◌, false, set, refl, sym, ap, ◌∙◌, subst, ⊎_elim}
use Rattle.std.specs.Prelude.{slice_index, slice_set}
use Rattle.std.proofs.lemmas.List.{set-get_or}
use Rattle.std.proofs.lemmas.Bool.{true≢false}
use Rattle.std.proofs.lemmas.Bool.Decides.{eqb_tells}
use mathlib.Core.Option.{some, none, some-injective, some-ne-none}
use lib.ListN.{get_elem?}
use Rattle.atomic_table.specs.Table.{Allows, Me, step, keeps}
use Rattle.atomic_table.proofs.Lists.{at_set, at_snoc, at_longer, set_again, set_else}
use Rattle.pol_board.specs.declared.rule.Remembered.{Remembered}
use Rattle.pol_board.specs.Words.{IsWord, AreOlder, number_of}
use Rattle.pol_board.specs.Rules.{IsBoard, KeepsRule, IsLoad, IsStore, JoinsKeepTheRule, remembers, newer_of, spent}
use Rattle.pol_board.proofs.Older.{older_same, older_read, older_written, older_joined, found_after}

-- what was written over an item is found at its place
set_there : {A : Type 0} (items : List A) (place : ℕ) (item new : A) → get_elem? items place ≡ some item
    → get_elem? (set items place new) place ≡ some new
set_there [] place item new there = absurd (some-ne-none item (sym there))
set_there (first ∷ items) zero item new there = refl
set_there (first ∷ items) (suc place) item new there = set_there items place item new there

-- what seat 0 remembers are the words
remembers_words : (words : List ℕ) (seats : List Remembered) (seat : Remembered)
    → IsBoard words seats → get_elem? seats 0 ≡ some seat → seat ≡ remembers words
remembers_words words seats seat board there = some-injective seat (remembers words) (sym there ∙ board.first)

-- a new seat that remembers what seat 0 does
pub splits : (words : List ℕ) (seats : List Remembered) (seat : Remembered)
    → IsBoard words seats → get_elem? seats 0 ≡ some seat → IsBoard words (set seats 0 seat ++ seat ∷ [])
splits words seats seat board there =
    let is : seat ≡ remembers words = remembers_words words seats seat board there in
    let Kept : List Remembered → Type 0 = λ all. IsBoard words (all ++ seat ∷ []) in
    subst Kept (sym (set_again seats 0 seat there)) record {
      coded = board.coded;
      first = at_longer seats (seat ∷ []) 0 (remembers words) board.first;
      others = λ number found at lives.
          ⊎_elim (λ old. board.others number found old lives)
          (λ new.
          let Older : Remembered → Type 0 = λ one. AreOlder one.words words in
          subst Older (sym is ∙ new) (older_same words)) (at_snoc seats seat found number at);
    }

-- a load, by any seat that isn't spent
load_kept : (words : List ℕ) (seats : List Remembered) (number : ℕ) (seat : Remembered) (place : ℕ)
    → IsBoard words seats → get_elem? seats number ≡ some seat → seat.spent ≡ false
    → IsBoard (slice_set words place (slice_index words place))
    (set seats number (remembers (slice_set seat.words place (slice_index words place))))
load_kept words seats number seat place board there lives =
    let new : Remembered = remembers (slice_set seat.words place (slice_index words place)) in
    let same : slice_set words place (slice_index words place) ≡ words = set-get_or words place 0 in
    let Kept : List ℕ → Type 0 = λ now. IsBoard now (set seats number new) in
    subst Kept (sym same) record {
      coded = board.coded;
      first =
          ⊎_elim
          (λ told.
          let zero_is : number ≡ 0 = told.1 in
          let First : ℕ → Type 0 = λ at. get_elem? seats at ≡ some seat
          → get_elem? (set seats at new) 0 ≡ some (remembers words) in
          subst First (sym zero_is)
          (λ there_first.
          let is : seat ≡ remembers words = remembers_words words seats seat board there_first in
          set_there seats 0 seat new there_first
          ∙ ap (λ (one : Remembered). some (remembers (slice_set one.words place (slice_index words place)))) is
          ∙ ap (λ (now : List ℕ). some (remembers now)) same) there)
          (λ told. set_else seats number 0 new (λ is. told.1 (sym is)) ∙ board.first) (eqb_tells number 0);
      others = λ other found at alive.
          ⊎_elim
          (λ told.
          let Older : Remembered → Type 0 = λ one. AreOlder one.words words in
          subst Older told.1 (older_read seat.words words place (board.others number seat there lives)))
          (λ told. board.others other found told.1 alive) (at_set seats number other new found at);
    }

-- a load is allowed, and tells what it found
pub loads : (slots number place : ℕ) (me : Me ℕ Remembered) → me.0.spent ≡ false
    → Allows {S = ℕ} KeepsRule slots number me place (λ word. word) (IsLoad (step slots place 0 0 none) me)
loads slots number place me lives board kept homes there fits = (
  remembers (slice_set me.0.words place (slice_index board.words place)),
  keeps,
  tt,
  load_kept board.words board.views number me.0 place kept there lives,
  ((λ _. ((kept.others number me.0 there lives).1 place, kept.coded place, refl)), refl),
)

-- a store by seat 0, of a word with a higher number
store_kept : (words : List ℕ) (seats : List Remembered) (seat : Remembered) (place word : ℕ)
    → IsBoard words seats → get_elem? seats 0 ≡ some seat → IsWord word
    → number_of (slice_index seat.words place) < number_of word
    → IsBoard (slice_set words place word) (set seats 0 (remembers (slice_set seat.words place word)))
store_kept words seats seat place word board there coded less =
    let is : seat ≡ remembers words = remembers_words words seats seat board there in
    let Less : Remembered → Type 0 = λ one. number_of (slice_index one.words place) < number_of word in
    let new : Remembered = remembers (slice_set seat.words place word) in
    let new_is : new ≡ remembers (slice_set words place word) =
    ap (λ (one : Remembered). remembers (slice_set one.words place word)) is in
    record {
      coded = λ at. ⊎_elim (λ told. subst IsWord (sym told.2) coded) (λ same. subst IsWord (sym same) (board.coded at))
          (found_after words place at word);
      first = set_there seats 0 seat new there ∙ ap some new_is;
      others = λ other found at alive.
          ⊎_elim
          (λ told.
          let Older : Remembered → Type 0 = λ one. AreOlder one.words (slice_set words place word) in
          subst Older (sym new_is ∙ told.1) (older_same (slice_set words place word)))
          (λ told. older_written found.words words place word (board.others other found told.1 alive)
          (subst Less is less))
          (at_set seats 0 other new found at);
    }

-- a store is allowed, and is remembered
pub stores : (slots place word : ℕ) (me : Me ℕ Remembered) → IsWord word
    → number_of (slice_index me.0.words place) < number_of word
    → Allows {S = ℕ} KeepsRule slots 0 me place (λ _. word) (λ _. IsStore (step slots place word 0 none) me word)
stores slots place word me coded less board kept homes there fits = (
  remembers (slice_set me.0.words place word),
  keeps,
  tt,
  store_kept board.words board.views me.0 place word kept there coded less,
  (refl, refl),
)

-- two readers' seats become one
pub joins : JoinsKeepTheRule
joins number other seat second apart_first apart_second lives second_lives board kept there differ there_second =
    let both : Remembered = newer_of seat second in
    let stood : get_elem? board.views other ≡ some second = sym (set_else board.views number other both differ)
    ∙ there_second in
    let older : AreOlder both.words board.words =
    older_joined seat.words second.words board.words (kept.others number seat there lives)
    (kept.others other second stood second_lives) in
    record {
      coded = kept.coded;
      first =
          set_else (set board.views number both) other 0 spent (λ is. apart_second (sym is))
          ∙ set_else board.views number 0 both (λ is. apart_first (sym is)) ∙ kept.first;
      others = λ at found where_found alive.
          ⊎_elim
          (λ told. absurd (true≢false (ap (λ (one : Remembered). one.spent) told.1 ∙ alive)))
          (λ told.
          ⊎_elim
          (λ joined. let Older : Remembered → Type 0 = λ one. AreOlder one.words board.words in
          subst Older joined.1 older)
          (λ apart. kept.others at found apart.1 alive) (at_set board.views number at both found told.1))
          (at_set (set board.views number both) other at spent found where_found);
    }
