-- How a display follows a history by one entry.
use Rattle.std.specs.Prelude.{ℕ, List, [], ◌∷◌, Option, Some, None, nat_lt, slice_set, if◌then◌else◌}
use Rattle.mtp_codes.specs.declared.state.State.{State}
use Rattle.mtp_desc.specs.Plain.{PlainDescription}
use Rattle.pol_board.specs.Words.{word_of}
use Rattle.pol_events.specs.Events.{PlainEvent, PlainEntry}
use Rattle.pol_history.specs.Looking.{History}
use Rattle.pol_history.specs.Modules.{described}
use Rattle.pol_site.specs.Shown.{name_at}
use Rattle.pol_site.specs.Sites.{PlainSite}
use Rattle.pol_shown.specs.Displays.{Displayed, ShowsAt}

-- the history before its newest entry
abbrev pub before_newest : History → History
before_newest [] = []
before_newest (entry ∷ older) = older

-- the words after one is published, where an event shows something there
abbrev pub published : Option (Option State) → ℕ → ℕ → List ℕ → List ℕ
published None word number words = words
published (Some state) word number words = slice_set words word (word_of number state)

-- the name at a place of a description, or where there is none the name so far
abbrev pub name_or : Option PlainDescription → ℕ → Option (List ℕ) → Option (List ℕ)
name_or None place name = name
name_or (Some description) place name = name_at place (Some description)

-- the name of the service at a place, after an event of its module
abbrev pub name_after : ℕ → PlainEvent → Option (List ℕ) → Option (List ℕ)
name_after place event name = name_or (described event) place name

-- the display shows the history with the entry at the words below a bound, and the history before at the others
abbrev pub ShowsBelow : ℕ → PlainSite → PlainEntry → History → Displayed → Type 0
ShowsBelow bound site entry older display =
    ShowsAt site (λ word. if nat_lt word bound then entry ∷ older else older) display
