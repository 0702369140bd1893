-- What a site text says: the site of its one line that isn't blank.
use Rattle.std.specs.Prelude.{ℕ, ◌||◌, nat_lt, Bool, not, List, [], ◌∷◌, length, map, filter, Err, if◌then◌else◌}
use Rattle.std.specs.List.{list_all}
use Rattle.mtp_json.specs.Parse.{json_of}
use Rattle.mtp_json.specs.ReadResult.{ReadResult, ◌>>=◌, here}
use Rattle.mtp_json.specs.declared.fault.FaultKind.TheVariants.{Missing, Unknown, TooLong}
use Rattle.pol_io.specs.Pieces.{pieces, line_of}
use Rattle.pol_io.specs.declared.limits.TheConstants.{LONGEST_LINE}
use Rattle.event_json.specs.Lines.{is_blank_byte}
use Rattle.pol_site.specs.Sites.{PlainSite}
use Rattle.site_json.specs.Form.{site_in}

-- the site that a line says, or its first fault
unfoldable pub site_on : List ℕ → ReadResult PlainSite
site_on line = here (json_of line) >>= site_in

-- the line is longer than a line may be
abbrev pub is_long : List ℕ → Bool
is_long line = nat_lt LONGEST_LINE (length line)

-- the line isn't blank; a line that is too long never is
abbrev pub is_filled : List ℕ → Bool
is_filled line = is_long line || not (list_all is_blank_byte line)

-- the lines of a text that aren't blank
abbrev pub filled_lines : List ℕ → List (List ℕ)
filled_lines bytes = filter is_filled (map line_of (pieces bytes))

-- the site of the one line of a text that isn't blank: none is Missing, two or more are Unknown, and one that is too
-- long is TooLong
abbrev pub site_among : List (List ℕ) → ReadResult PlainSite
site_among [] = here (Err Missing)
site_among (line ∷ []) = if is_long line then here (Err TooLong) else site_on line
site_among (line ∷ next ∷ lines) = here (Err Unknown)

-- the site that a text says, or its first fault
unfoldable pub site_of : List ℕ → ReadResult PlainSite
site_of bytes = site_among (filled_lines bytes)
