-- A display that follows a history by one entry, word after word.
use Rattle.std.proofs.Common.{◌≡◌, ◌≢◌, ◌<◌, ◌≤◌, ◌∙◌, ℕ, suc, ◌*◌, ◌/◌, ◌%◌, ◌∷◌, List, Bool, true, false, Option}
use Rattle.std.proofs.Common.{Some, None, length, refl, sym, ap, subst, ⊎_elim, arith}
use Rattle.std.specs.Str.{bytes_eq}
use Rattle.std.specs.Prelude.{◌+◌, if◌then◌else◌, nat_lt, option_map, slice_get, slice_index, slice_set}
use Rattle.std.proofs.lemmas.Bool.{cases_lt, lt-ltb, le-ltb}
use Rattle.std.proofs.lemmas.Bool.Decides.{eqb_tells}
use Rattle.std.proofs.lemmas.List.{get_or-set_same, get_or-set_other}
use Rattle.std.proofs.lemmas.Option.{same_Some, slice_get_within}
use Rattle.std.proofs.Math.ListN.{length-set}
use Rattle.mtp_codes.specs.declared.state.State.{State}
use Rattle.pol_board.specs.Words.{number_of, word_of}
use Rattle.pol_events.specs.Events.{PlainEntry}
use Rattle.pol_history.specs.Looking.{History, is_accepted_of}
use Rattle.pol_site.specs.Shown.{BoardWord, board_word, is_name_of, shown_by, word_after}
use Rattle.pol_site.specs.Sites.{PlainSite, PlainSiteModule}
use Rattle.pol_events.specs.Subjects.{accepted_tag}
use Rattle.pol_shown.specs.Displays.{Displayed, Shows, ShowsAt, name_in, said_by, service_of_word}
use Rattle.pol_shown.specs.Followed.{ShowsBelow, name_after, published}
use Rattle.pol_shown.proofs.Words.{IsQuiet, accepted_of, quiet_word, quiet_name, word_followed, name_followed}
use Rattle.pol_shown.proofs.Words.{number_short, said_number}

-- ---- nothing is published

-- the display shows other histories that have the same words and names
moved : (site : PlainSite) (was at : ℕ → History) (display : Displayed) →
    ((word : ℕ) → board_word site (was word) word ≡ board_word site (at word) word) →
    ((word : ℕ) → service_of_word site (was word) word ≡ service_of_word site (at word) word) →
    ShowsAt site was display → ShowsAt site at display
moved site was at display words names shows = record {
  of_board = shows.of_board;
  long = shows.long;
  named = shows.named;
  words = λ word. shows.words word ∙ ap said_by (words word);
  names = λ word. shows.names word ∙ names word;
}

-- the history that a word shows, by whether it is below the bound
abbrev history_at : PlainEntry → History → Bool → History
history_at entry older below = if below then entry ∷ older else older

module _ {A : Type 0} (shown : History → A) (entry : PlainEntry) (older : History) where
  -- what is shown at a place, by whether it lies below a bound
  at_bound : (word bound : ℕ) (below : Bool) → nat_lt word bound ≡ below →
      shown (history_at entry older (nat_lt word bound)) ≡ shown (history_at entry older below)
  at_bound word bound below is = ap (λ below. shown (history_at entry older below)) is

  -- between two bounds nothing changes
  same_between : (low high word : ℕ) → low ≤ high →
      (low ≤ word → word < high → shown older ≡ shown (entry ∷ older)) →
      shown (history_at entry older (nat_lt word low)) ≡ shown (history_at entry older (nat_lt word high))
  same_between low high word order between =
      ⊎_elim
      (λ less. at_bound word low true (lt-ltb word low less)
      ∙ sym (at_bound word high true (lt-ltb word high (omega (arith, less, order)))))
      (λ above. at_bound word low false (le-ltb word low above) ∙
      ⊎_elim (λ less. between above less ∙ sym (at_bound word high true (lt-ltb word high less)))
      (λ past. sym (at_bound word high false (le-ltb word high past))) (cases_lt word high))
      (cases_lt word low)

  -- nor above the upper one
  same_above : (bound word : ℕ) → (bound ≤ word → shown older ≡ shown (entry ∷ older)) →
      shown (history_at entry older (nat_lt word bound)) ≡ shown (entry ∷ older)
  same_above bound word above =
      ⊎_elim (λ less. at_bound word bound true (lt-ltb word bound less))
      (λ past. at_bound word bound false (le-ltb word bound past) ∙ above past) (cases_lt word bound)

-- at first the display shows the history before at each word
pub begun : (site : PlainSite) (entry : PlainEntry) (older : History) (display : Displayed) → Shows site older display →
    ShowsBelow 0 site entry older display
begun site entry older display =
    moved site (λ _. older) (λ word. history_at entry older (nat_lt word 0)) display
    (λ word. sym (at_bound (λ history. board_word site history word) entry older word 0 false
    (le-ltb word 0 (omega arith))))
    (λ word. sym (at_bound (λ history. service_of_word site history word) entry older word 0 false
    (le-ltb word 0 (omega arith))))

-- words above the bound that the entry leaves alone show it too
pub passed : (site : PlainSite) (entry : PlainEntry) (older : History) (display : Displayed) (low high : ℕ)
    → low ≤ high →
    ((word : ℕ) → low ≤ word → word < high → IsQuiet site entry word) →
    ShowsBelow low site entry older display → ShowsBelow high site entry older display
passed site entry older display low high order quiet =
    moved site (λ word. history_at entry older (nat_lt word low)) (λ word. history_at entry older (nat_lt word high))
    display
    (λ word. same_between (λ history. board_word site history word) entry older low high word order
    (λ above less. sym (quiet_word site entry older word (quiet word above less))))
    (λ word. same_between (λ history. service_of_word site history word) entry older low high word order
    (λ above less. sym (quiet_name site entry older word (quiet word above less))))

-- where the entry leaves all words above the bound alone, the display shows the history with the entry
pub ended : (site : PlainSite) (entry : PlainEntry) (older : History) (display : Displayed) (bound : ℕ) →
    ((word : ℕ) → bound ≤ word → IsQuiet site entry word) →
    ShowsBelow bound site entry older display → Shows site (entry ∷ older) display
ended site entry older display bound quiet =
    moved site (λ word. history_at entry older (nat_lt word bound)) (λ _. entry ∷ older) display
    (λ word. same_above (λ history. board_word site history word) entry older bound word
    (λ past. sym (quiet_word site entry older word (quiet word past))))
    (λ word. same_above (λ history. service_of_word site history word) entry older bound word
    (λ past. sym (quiet_name site entry older word (quiet word past))))

-- words behind those of the last module belong to none
none_behind : (site : PlainSite) (entry : PlainEntry) (word : ℕ) → 32 * length site.modules ≤ word →
    IsQuiet site entry word
none_behind site entry word behind unit there =
    let inside : word / 32 < length site.modules = slice_get_within site.modules (word / 32) unit there in
    absurd (omega (arith, inside, behind))

-- ---- one word is published

-- the published word says what is shown there, or where nothing is shown what it said before
published_here : (shown : Option (Option State)) (word place : ℕ) (words : List ℕ) (old : BoardWord) →
    word < length words → slice_index words word ≡ said_by old →
    slice_index (published shown word (suc place) words) word ≡ said_by (word_after shown place old)
published_here None word place words old inside was = was
published_here (Some state) word place words old inside was =
    get_or-set_same words word (word_of (suc place) state) 0 inside

-- another word stays as it is
published_elsewhere : (shown : Option (Option State)) (word number : ℕ) (words : List ℕ) (at : ℕ) → at ≢ word →
    slice_index (published shown word number words) at ≡ slice_index words at
published_elsewhere None word number words at other = refl
published_elsewhere (Some state) word number words at other =
    get_or-set_other words word at (word_of number state) 0 other

-- there are as many words as before
length_published : (shown : Option (Option State)) (word number : ℕ) (words : List ℕ) →
    length (published shown word number words) ≡ length words
length_published None word number words = refl
length_published (Some state) word number words = length-set words word (word_of number state)

-- a bound that is one higher changes nothing at other words
one_higher : (at word : ℕ) → at ≢ word → nat_lt at word ≡ nat_lt at (suc word)
one_higher at word other =
    ⊎_elim (λ less. lt-ltb at word less ∙ sym (lt-ltb at (suc word) (omega (arith, less))))
    (λ above. le-ltb at word above ∙ ⊎_elim (λ past. sym (le-ltb at (suc word) (omega (arith, past))))
    (λ below. absurd (other (omega (arith, above, below)))) (cases_lt word at))
    (cases_lt at word)

module _ (site : PlainSite) (entry : PlainEntry) (older : History) (word : ℕ) (unit : PlainSiteModule)
    (there : slice_get site.modules (word / 32) ≡ Some unit) (accepted : is_accepted_of unit.tag entry ≡ true)
    (before after : Displayed) (shows : ShowsBelow word site entry older before) where
  -- and that which they show once it is written
  abbrev at_next : ℕ → History
  at_next at = history_at entry older (nat_lt at (suc word))

  -- a word isn't below itself
  at_itself : nat_lt word word ≡ false
  at_itself = le-ltb word word (omega arith)

  -- but below the next
  at_after : nat_lt word (suc word) ≡ true
  at_after = lt-ltb word (suc word) (omega arith)

  -- the name at the word is that of its service
  name_before : name_in before.names word ≡ service_of_word site older word
  name_before =
      shows.names word
      ∙ at_bound (λ history. service_of_word site history word) entry older word word false at_itself

  -- and the word says what the board shows of it
  word_before : slice_index before.words word ≡ said_by (board_word site older word)
  word_before =
      shows.words word
      ∙ at_bound (λ history. said_by (board_word site history word)) entry older word word false at_itself

  -- the word is one of a module's
  inside : word < 32 * length site.modules
  inside = let few = slice_get_within site.modules (word / 32) unit there in omega (arith, few)

  -- the word that is written says what the board then shows
  word_here : (words : List ℕ) →
      words ≡ published (shown_by (name_in before.names word) entry.event) word (suc (length older)) before.words →
      slice_index words word ≡ said_by (board_word site (at_next word) word)
  word_here words is =
      ap (λ words. slice_index words word) is
      ∙ published_here (shown_by (name_in before.names word) entry.event) word (length older) before.words
      (board_word site older word) (omega (arith, inside, shows.long)) word_before
      ∙ ap (λ name. said_by (word_after (shown_by name entry.event) (length older) (board_word site older word)))
      name_before
      ∙ ap said_by (sym (word_followed site entry older word unit there accepted))
      ∙ sym (at_bound (λ history. said_by (board_word site history word)) entry older word (suc word) true at_after)

  -- and so does each other one
  word_elsewhere : (words : List ℕ) (at : ℕ) → at ≢ word →
      words ≡ published (shown_by (name_in before.names word) entry.event) word (suc (length older)) before.words →
      slice_index words at ≡ said_by (board_word site (at_next at) at)
  word_elsewhere words at other is =
      ap (λ words. slice_index words at) is
      ∙ published_elsewhere (shown_by (name_in before.names word) entry.event) word (suc (length older)) before.words at
      other
      ∙ shows.words at
      ∙ ap (λ below. said_by (board_word site (history_at entry older below) at)) (one_higher at word other)

  -- the name that is written is that of its service
  name_here : (names : List (Option (List ℕ))) →
      names ≡ slice_set before.names word (name_after (word % 32) entry.event (name_in before.names word)) →
      name_in names word ≡ service_of_word site (at_next word) word
  name_here names is =
      ap (λ names. name_in names word) is
      ∙ get_or-set_same before.names word (name_after (word % 32) entry.event (name_in before.names word)) None
      (omega (arith, inside, shows.named))
      ∙ ap (name_after (word % 32) entry.event) name_before
      ∙ sym (name_followed site entry older word unit there accepted)
      ∙ sym (at_bound (λ history. service_of_word site history word) entry older word (suc word) true at_after)

  -- and so is each other one
  name_elsewhere : (names : List (Option (List ℕ))) (at : ℕ) → at ≢ word →
      names ≡ slice_set before.names word (name_after (word % 32) entry.event (name_in before.names word)) →
      name_in names at ≡ service_of_word site (at_next at) at
  name_elsewhere names at other is =
      ap (λ names. name_in names at) is
      ∙ get_or-set_other before.names word at (name_after (word % 32) entry.event (name_in before.names word)) None
      other
      ∙ shows.names at
      ∙ ap (λ below. service_of_word site (history_at entry older below) at) (one_higher at word other)

  -- the display that followed an accepted entry at one word of its module shows it at one word more
  pub followed : after.board ≡ before.board →
      after.words
      ≡ published (shown_by (name_in before.names word) entry.event) word (suc (length older)) before.words →
      after.names ≡ slice_set before.names word (name_after (word % 32) entry.event (name_in before.names word)) →
      ShowsBelow (suc word) site entry older after
  followed board words names = record {
    of_board = ap (λ board. board.words) board ∙ shows.of_board;
    long =
        ap length words
        ∙ length_published (shown_by (name_in before.names word) entry.event) word (suc (length older)) before.words
        ∙ shows.long;
    named =
        ap length names
        ∙ length-set before.names word (name_after (word % 32) entry.event (name_in before.names word)) ∙ shows.named;
    words = λ at.
        ⊎_elim
        (λ told. subst (λ at. slice_index after.words at ≡ said_by (board_word site (at_next at) at)) (sym told.1)
        (word_here after.words words))
        (λ told. word_elsewhere after.words at told.1 words) (eqb_tells at word);
    names = λ at.
        ⊎_elim
        (λ told. subst (λ at. name_in after.names at ≡ service_of_word site (at_next at) at) (sym told.1)
        (name_here after.names names))
        (λ told. name_elsewhere after.names at told.1 names) (eqb_tells at word);
  }

-- ---- the words of a module, and all words

-- the word that comes next has a lower number than the history with the entry
pub number_lower : (site : PlainSite) (entry : PlainEntry) (older : History) (display : Displayed) (word : ℕ) →
    ShowsBelow word site entry older display → number_of (slice_index display.words word) < suc (length older)
number_lower site entry older display word shows =
    let said = shows.words word
    ∙ at_bound (λ history. said_by (board_word site history word)) entry older word word false
    (le-ltb word word (omega arith)) in
    let number : number_of (slice_index display.words word) ≡ (board_word site older word).number =
    ap number_of said ∙ said_number (board_word site older word) in
    let short = number_short site older word in omega (arith, number, short)

-- the module is there, and the entry is an accepted one of it
abbrev pub IsAcceptedAt : PlainSite → PlainEntry → ℕ → Type 0
IsAcceptedAt site entry place =
    option_map (λ unit. is_accepted_of unit.tag entry) (slice_get site.modules place) ≡ Some true

-- where the module that is found has the entry as an accepted one, there is such a module
unit_there : (entry : PlainEntry) (found : Option PlainSiteModule) →
    option_map (λ unit. is_accepted_of unit.tag entry) found ≡ Some true →
    (unit : PlainSiteModule) × (found ≡ Some unit) × (is_accepted_of unit.tag entry ≡ true)
unit_there entry None is = cc
unit_there entry (Some unit) is = (unit, refl, same_Some (is_accepted_of unit.tag entry) true is)

-- one word of the module more
pub follows_on : (site : PlainSite) (entry : PlainEntry) (older : History) (place word next number : ℕ)
    (before after : Displayed) → IsAcceptedAt site entry place → 32 * place ≤ word → word < 32 * (place + 1) →
    next ≡ suc word → number ≡ suc (length older) → ShowsBelow word site entry older before →
    after.board ≡ before.board →
    after.words ≡ published (shown_by (name_in before.names word) entry.event) word number before.words →
    after.names ≡ slice_set before.names word (name_after (word % 32) entry.event (name_in before.names word)) →
    ShowsBelow next site entry older after
follows_on site entry older place word next number before after accepted above below next_is number_is shows board words
    names =
    let unit = unit_there entry (slice_get site.modules place) accepted in
    let here : word / 32 ≡ place = omega (arith, above, below) in
    let there : slice_get site.modules (word / 32) ≡ Some unit.0 = ap (slice_get site.modules) here ∙ unit.1 in
    let counted = words
    ∙ ap (λ number. published (shown_by (name_in before.names word) entry.event) word number before.words) number_is in
    subst (λ bound. ShowsBelow bound site entry older after) (sym next_is)
    (followed site entry older word unit.0 there unit.2 before after shows board counted names)

-- a module that the entry isn't an accepted one of
passes_module : (site : PlainSite) (entry : PlainEntry) (older : History) (display : Displayed) (place : ℕ)
    (unit : PlainSiteModule) → slice_get site.modules place ≡ Some unit → is_accepted_of unit.tag entry ≡ false →
    ShowsBelow (32 * place) site entry older display → ShowsBelow (32 * (place + 1)) site entry older display
passes_module site entry older display place unit there refused =
    passed site entry older display (32 * place) (32 * (place + 1)) (omega arith)
    (λ word above below other found.
    let here : word / 32 ≡ place = omega (arith, above, below) in
    let same : unit ≡ other = same_Some unit other (sym there ∙ ap (slice_get site.modules) (sym here) ∙ found) in
    subst (λ unit. is_accepted_of unit.tag entry ≡ false) same refused)

-- behind the last module the display shows the history with the entry
pub shows_all : (site : PlainSite) (entry : PlainEntry) (older : History) (display : Displayed) (bound : ℕ) →
    32 * length site.modules ≤ bound → ShowsBelow bound site entry older display → Shows site (entry ∷ older) display
shows_all site entry older display bound behind =
    ended site entry older display bound (λ word past. none_behind site entry word (omega (arith, behind, past)))

-- where the entry is no accepted one of a module, nothing is published
pub shows_unchanged : (site : PlainSite) (entry : PlainEntry) (older : History) (display : Displayed) →
    accepted_tag entry ≡ None → Shows site older display → Shows site (entry ∷ older) display
shows_unchanged site entry older display none shows =
    ended site entry older display 0
    (λ word past unit there. accepted_of unit.tag entry ∙ ap (is_name_of unit.tag) none)
    (begun site entry older display shows)

-- the module at this place has the tag of the entry
pub accepted_at : (site : PlainSite) (entry : PlainEntry) (place : ℕ) (unit : PlainSiteModule) (tag : List ℕ) →
    slice_get site.modules place ≡ Some unit → accepted_tag entry ≡ Some tag → bytes_eq tag unit.tag ≡ true →
    IsAcceptedAt site entry place
accepted_at site entry place unit tag there told same =
    ap (option_map (λ (unit : PlainSiteModule). is_accepted_of unit.tag entry)) there
    ∙ ap Some (accepted_of unit.tag entry ∙ ap (is_name_of unit.tag) told ∙ same)

-- or another one
pub other_module : (site : PlainSite) (entry : PlainEntry) (older : History) (display : Displayed) (place : ℕ)
    (unit : PlainSiteModule) (tag : List ℕ) → slice_get site.modules place ≡ Some unit → accepted_tag entry ≡ Some tag →
    bytes_eq tag unit.tag ≡ false → ShowsBelow (32 * place) site entry older display →
    ShowsBelow (32 * (place + 1)) site entry older display
other_module site entry older display place unit tag there told other =
    passes_module site entry older display place unit there
    (accepted_of unit.tag entry ∙ ap (is_name_of unit.tag) told ∙ other)
