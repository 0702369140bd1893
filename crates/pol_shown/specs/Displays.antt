-- What contracts see of a display, and when it shows a history.
use Rattle.std.specs.Prelude.{◌≡◌, ℕ, ◌*◌, ◌/◌, ◌%◌, ◌<◌, ◌≤◌, List, length, Option, Some, None, slice_get, slice_index}
use Rattle.std.specs.Prelude.{slice_index_or, refl}
use Rattle.std.specs.Coded.{Coded, code_by, coded×, coded_ℕ, coded_list, coded_option}
use Rattle.atomic_table.specs.Seated.{TableId, table_id_coded}
use Rattle.pol_board.specs.Words.{word_of}
use Rattle.pol_history.specs.Looking.{History}
use Rattle.pol_history.specs.Modules.{description_of}
use Rattle.pol_site.specs.Shown.{BoardWord, board_word, name_at}
use Rattle.pol_site.specs.Sites.{PlainSite, PlainSiteModule}

-- a display: which board it publishes on, the words that it published last, and at each word the name of its service,
-- if there is one
pub record Displayed : Type 0 where
  pub board : TableId
  pub words : List ℕ
  pub names : List (Option (List ℕ))

-- a display as a pair of pairs, since a model's value needs a code
abbrev pub displayed_code : Coded Displayed
displayed_code =
    code_by (TableId × (List ℕ × List (Option (List ℕ))))
    (coded× table_id_coded (coded× (coded_list coded_ℕ) (coded_list (coded_option (coded_list coded_ℕ)))))
    (λ display. (display.board, (display.words, display.names)))
    (λ pair. record { board = pair.0; words = pair.1.0; names = pair.1.1 }) (λ _. refl)

-- the board has a word for each name, at least one, and at most 2,048
pub record IsOfBoard (board publisher : TableId) (names : ℕ) : Type 0 where
  pub same : publisher ≡ board
  pub some : 0 < board.words
  pub few : board.words ≤ 2048
  pub named : names ≡ board.words

-- the word of the board that says this
abbrev pub said_by : BoardWord → ℕ
said_by word = word_of word.number word.state

-- the name at a word, if there is one
abbrev pub name_in : List (Option (List ℕ)) → ℕ → Option (List ℕ)
name_in names word = slice_index_or names word None

-- the name of a module's service at a place, by the description that the history leaves it
abbrev pub name_of_module : Option PlainSiteModule → ℕ → History → Option (List ℕ)
name_of_module None place history = None
name_of_module (Some unit) place history = name_at place (description_of history unit.tag)

-- the name of the service that a word of the board is about
abbrev pub service_of_word : PlainSite → History → ℕ → Option (List ℕ)
service_of_word site history word = name_of_module (slice_get site.modules (word / 32)) (word % 32) history

-- each word is what a history shows there, and its name is that of the word's service; the history may be another one
-- at each word
pub record ShowsAt (site : PlainSite) (at : ℕ → History) (display : Displayed) : Type 0 where
  pub of_board : display.board.words ≡ 32 * length site.modules
  pub long : length display.words ≡ 32 * length site.modules
  pub named : length display.names ≡ 32 * length site.modules
  pub words : (word : ℕ) → slice_index display.words word ≡ said_by (board_word site (at word) word)
  pub names : (word : ℕ) → name_in display.names word ≡ service_of_word site (at word) word

-- the display shows the history: the board has 32 words for each module, and each was published as the history has it
abbrev pub Shows : PlainSite → History → Displayed → Type 0
Shows site history display = ShowsAt site (λ _. history) display
