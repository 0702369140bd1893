-- A question is told from an event by the front of its line.
use Rattle.std.specs.Prelude.{ℕ, List, [], ◌∷◌, Bool, false, not, ◌&&◌, ◌==◌, codes, drop, nat_eq}
use Rattle.std.specs.List.{position_or_len, starts_with}
use Rattle.json.specs.Ascii as ascii
use Rattle.json.specs.Word.{is_space}

-- the bytes from the first one on that is no blank of JSON
abbrev pub behind_blanks : List ℕ → List ℕ
behind_blanks bytes = drop (position_or_len (λ byte. not (is_space byte)) bytes) bytes

-- an opening brace, and behind blanks the bytes of the key `ask`
abbrev pub opens_with_ask : List ℕ → Bool
opens_with_ask [] = false
opens_with_ask (byte ∷ bytes) =
    byte == ascii.open_brace && starts_with nat_eq (behind_blanks bytes) (codes "\"ask\"")

-- a line is a question where, behind blanks, it opens with the key `ask`
unfoldable pub is_question : List ℕ → Bool
is_question line = opens_with_ask (behind_blanks line)
