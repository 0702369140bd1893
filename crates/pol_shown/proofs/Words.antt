-- What an entry does to one word of the board, and to the name at it.
use Rattle.std.proofs.Common.{◌≡◌, ◌≤◌, ◌∙◌, ℕ, suc, ◌/◌, ◌%◌, List, [], ◌∷◌, Bool, true, false, cond, Option, Some}
use Rattle.std.proofs.Common.{None, length, refl, sym, ap, arith}
use Rattle.std.specs.Prelude.{◌&&◌, if◌then◌else◌, slice_get}
use Rattle.std.specs.Option.{option_or}
use Rattle.std.proofs.Math.Bool.{and-true, and-false}
use Rattle.mtp_desc.specs.Plain.{PlainDescription}
use Rattle.pol_board.specs.Words.{number_of}
use Rattle.pol_board.proofs.Older.{number_said}
use Rattle.pol_events.specs.Events.{PlainEntry}
use Rattle.pol_history.specs.Looking.{History, Subject, of_module, of_batch, of_recipe, is_module, is_accepted}
use Rattle.pol_history.specs.Looking.{is_accepted_of, past, subject}
use Rattle.pol_history.specs.Modules.{described, description_by, description_of}
use Rattle.pol_site.specs.Shown.{BoardWord, board_word, is_name_of, name_at, shown_by, shown_in, word_after, word_of}
use Rattle.pol_site.specs.Shown.{word_of_module}
use Rattle.pol_site.specs.Sites.{PlainSite, PlainSiteModule}
use Rattle.pol_events.specs.Subjects.{accepted_tag, subject_tag}
use Rattle.pol_shown.specs.Displays.{name_of_module, said_by, service_of_word}
use Rattle.pol_shown.specs.Followed.{name_after, name_or}

-- ---- numbers

-- no word of a module has a higher number than the history's length
word_number_short : (tag : List ℕ) (place : ℕ) (history : History) → (word_of tag place history).number ≤ length history
word_number_short tag place [] = omega arith
word_number_short tag place (entry ∷ older) =
    elim (shown_in tag place older entry)
    as (λ shown. (word_after shown (length older) (word_of tag place older)).number ≤ suc (length older)) [
      | None ↦ omega (arith, word_number_short tag place older)
      | Some state ↦ omega arith
    ]

-- no word has a higher number than the history's length
pub number_short : (site : PlainSite) (history : History) (word : ℕ) →
    (board_word site history word).number ≤ length history
number_short site history word =
    elim (slice_get site.modules (word / 32))
    as (λ unit. (word_of_module unit (word % 32) history).number ≤ length history) [
      | None ↦ omega arith
      | Some unit ↦ word_number_short unit.tag (word % 32) history
    ]

-- the number that is said is the word's
pub said_number : (word : BoardWord) → number_of (said_by word) ≡ word.number
said_number word = number_said word.number word.state

-- ---- an entry that isn't an accepted one of the module

-- an entry that is no accepted one of the module that is found, if one is, leaves its word as it was
quiet_found : (entry : PlainEntry) (older : History) (place : ℕ) (found : Option PlainSiteModule) →
    ((unit : PlainSiteModule) → found ≡ Some unit → is_accepted_of unit.tag entry ≡ false) →
    word_of_module found place (entry ∷ older) ≡ word_of_module found place older
quiet_found entry older place None quiet = refl
quiet_found entry older place (Some unit) quiet =
    ap (λ accepted. word_after (if accepted then shown_by (name_at place (description_of older unit.tag)) entry.event
    else None) (length older) (word_of unit.tag place older)) (quiet unit refl)

-- and the name at it
quiet_named : (entry : PlainEntry) (older : History) (place : ℕ) (found : Option PlainSiteModule) →
    ((unit : PlainSiteModule) → found ≡ Some unit → is_accepted_of unit.tag entry ≡ false) →
    name_of_module found place (entry ∷ older) ≡ name_of_module found place older
quiet_named entry older place None quiet = refl
quiet_named entry older place (Some unit) quiet =
    ap (λ accepted. name_at place (description_by (cond accepted (entry ∷ past unit.tag older) (past unit.tag older))))
    (quiet unit refl)

-- the entry is no accepted one of the module that the word belongs to, if there is one
abbrev pub IsQuiet : PlainSite → PlainEntry → ℕ → Type 0
IsQuiet site entry word =
    (unit : PlainSiteModule) → slice_get site.modules (word / 32) ≡ Some unit → is_accepted_of unit.tag entry ≡ false

-- then the word stays
pub quiet_word : (site : PlainSite) (entry : PlainEntry) (older : History) (word : ℕ) → IsQuiet site entry word →
    board_word site (entry ∷ older) word ≡ board_word site older word
quiet_word site entry older word = quiet_found entry older (word % 32) (slice_get site.modules (word / 32))

-- and the name at it
pub quiet_name : (site : PlainSite) (entry : PlainEntry) (older : History) (word : ℕ) → IsQuiet site entry word →
    service_of_word site (entry ∷ older) word ≡ service_of_word site older word
quiet_name site entry older word = quiet_named entry older (word % 32) (slice_get site.modules (word / 32))

-- ---- an accepted entry of the module

-- the word is what the event shows of its service, if anything
pub word_followed : (site : PlainSite) (entry : PlainEntry) (older : History) (word : ℕ) (unit : PlainSiteModule) →
    slice_get site.modules (word / 32) ≡ Some unit → is_accepted_of unit.tag entry ≡ true →
    board_word site (entry ∷ older) word
    ≡ word_after (shown_by (service_of_word site older word) entry.event) (length older) (board_word site older word)
word_followed site entry older word unit there accepted =
    ap (λ found. word_of_module found (word % 32) (entry ∷ older)) there
    ∙ ap (λ accepted. word_after (if accepted then shown_by (name_at (word % 32) (description_of older unit.tag))
    entry.event else None) (length older) (word_of unit.tag (word % 32) older)) accepted
    ∙ ap (λ found. word_after (shown_by (name_of_module found (word % 32) older) entry.event) (length older)
    (word_of_module found (word % 32) older)) (sym there)

-- the name is that in the newer description, or where there is none the name before
name_described : (place : ℕ) (found before : Option PlainDescription) →
    name_at place (option_or found before) ≡ name_or found place (name_at place before)
name_described place None before = refl
name_described place (Some description) before = refl

-- the name is that in the description that the event brings, if it does
pub name_followed : (site : PlainSite) (entry : PlainEntry) (older : History) (word : ℕ) (unit : PlainSiteModule) →
    slice_get site.modules (word / 32) ≡ Some unit → is_accepted_of unit.tag entry ≡ true →
    service_of_word site (entry ∷ older) word ≡ name_after (word % 32) entry.event (service_of_word site older word)
name_followed site entry older word unit there accepted =
    ap (λ found. name_of_module found (word % 32) (entry ∷ older)) there
    ∙ ap (λ accepted. name_at (word % 32) (description_by (cond accepted (entry ∷ past unit.tag older)
    (past unit.tag older)))) accepted
    ∙ name_described (word % 32) (described entry.event) (description_of older unit.tag)
    ∙ ap (λ found. name_after (word % 32) entry.event (name_of_module found (word % 32) older)) (sym there)

-- ---- whom an accepted entry is about

-- what is accepted is about the module exactly where the tag that it is about is the one of the module
tag_told : (tag : List ℕ) (told : Subject) (accepted : Bool) →
    (is_module tag told && accepted) ≡ is_name_of tag (if accepted then subject_tag told else None)
tag_told tag (of_module other) true = and-true _
tag_told tag (of_module other) false = and-false _
tag_told tag (of_batch batch) true = refl
tag_told tag (of_batch batch) false = refl
tag_told tag (of_recipe name) true = refl
tag_told tag (of_recipe name) false = refl

-- the entry is an accepted one of the module exactly where it is about the module's tag
pub accepted_of : (tag : List ℕ) (entry : PlainEntry) → is_accepted_of tag entry ≡ is_name_of tag (accepted_tag entry)
accepted_of tag entry = tag_told tag (subject entry.event) (is_accepted entry.answer)
