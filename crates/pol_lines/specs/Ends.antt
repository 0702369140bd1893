-- The bytes that a JSON text begins and ends with.
use Rattle.std.specs.Prelude.{ℕ, ◌||◌, ◌==◌, Bool}
use Rattle.std.specs.Char.{is_ascii_digit}

-- a space, a tab or the end of a line
abbrev pub is_white : ℕ → Bool
is_white byte = byte == 32 || byte == 9 || byte == 10 || byte == 13

-- an opening brace or bracket
abbrev pub opens : ℕ → Bool
opens byte = byte == 123 || byte == 91

-- a value may begin with this byte: a brace, a bracket, a quote, a minus, a digit, the first of a word, or space
abbrev pub begins_value : ℕ → Bool
begins_value byte = opens byte || byte == 34 || byte == 45 || is_ascii_digit byte || byte == 116 || byte == 102 ||
    byte == 110 || is_white byte

-- a text that opens may end with this byte: a closing brace, a closing bracket, or space
abbrev pub may_end : ℕ → Bool
may_end byte = byte == 125 || byte == 93 || is_white byte
