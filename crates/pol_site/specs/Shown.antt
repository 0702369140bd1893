-- What the status board shows of a history.
use Rattle.std.specs.Prelude.{ℕ, suc, ◌/◌, ◌%◌, Bool, false, List, [], ◌∷◌, length, Option, Some, None, is_some}
use Rattle.std.specs.Prelude.{option_map, slice_get, if◌then◌else◌}
use Rattle.std.specs.Str.{bytes_eq}
use Rattle.mtp_codes.specs.declared.state.State.{State}
use Rattle.mtp_desc.specs.Plain.{PlainDescription}
use Rattle.pol_events.specs.Events.{PlainEvent, report, exchange_begin, PlainEntry}
use Rattle.pol_history.specs.Looking.{History, is_accepted_of}
use Rattle.pol_history.specs.Modules.{description_of}
use Rattle.pol_site.specs.Sites.{PlainSite, PlainSiteModule}

-- a word of the board: a number that rises with the history, and a state, if one is reported
pub record BoardWord : Type 0 where
  pub number : ℕ
  pub state : Option State

-- the name of the service at this place of a description
abbrev pub name_at : ℕ → Option PlainDescription → Option (List ℕ)
name_at place None = None
name_at place (Some description) = option_map (λ service. service.name) (slice_get description.services place)

-- the name is this one
abbrev pub is_name_of : List ℕ → Option (List ℕ) → Bool
is_name_of name None = false
is_name_of name (Some other) = bytes_eq other name

-- what an event shows of the service of this name: the state of a report of it; where an exchange begins, that none is
-- reported
abbrev pub shown_by : Option (List ℕ) → PlainEvent → Option (Option State)
shown_by name (report at tag service control) = if is_name_of service name then Some (Some control.state) else None
shown_by name (exchange_begin at tag) = if is_some name then Some None else None
shown_by name _ = None

-- a word of the board after the entry at this place
abbrev pub word_after : Option (Option State) → ℕ → BoardWord → BoardWord
word_after None place word = word
word_after (Some state) place word = record { number = suc place; state = state }

-- what an entry shows of the service at this place of the module
abbrev pub shown_in : List ℕ → ℕ → History → PlainEntry → Option (Option State)
shown_in tag place older entry =
    if is_accepted_of tag entry then shown_by (name_at place (description_of older tag)) entry.event else None

-- the word of the service at this place of the module
abbrev pub word_of : List ℕ → ℕ → History → BoardWord
word_of tag place [] = record { number = 0; state = None }
word_of tag place (entry ∷ older) = word_after (shown_in tag place older entry) (length older) (word_of tag place older)

-- the word of a module, if there is one
abbrev pub word_of_module : Option PlainSiteModule → ℕ → History → BoardWord
word_of_module None place history = record { number = 0; state = None }
word_of_module (Some unit) place history = word_of unit.tag place history

-- what a word of the board shows: each module has 32 words, one for each service
abbrev pub board_word : PlainSite → History → ℕ → BoardWord
board_word site history word = word_of_module (slice_get site.modules (word / 32)) (word % 32) history
