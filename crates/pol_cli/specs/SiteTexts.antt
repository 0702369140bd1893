-- A site text that is read line by line, and what it says in all.
use Rattle.std.specs.Prelude.{ℕ, ◌≡◌, List, [], Ok, Err, Some, None, if◌then◌else◌}
use Rattle.mtp_json.specs.ReadResult.{ReadResult, here}
use Rattle.mtp_json.specs.declared.fault.FaultKind.TheVariants.{Missing, Unknown, TooLong}
use Rattle.mtp_json.specs.declared.fault.JsonFault.{JsonFault}
use Rattle.pol_site.specs.PlainSite.{plain_site}
use Rattle.pol_site.specs.Sites.{PlainSite}
use Rattle.pol_jobs.specs.Ends.{IsRead}
use Rattle.pol_jobs.specs.LineWork.{Line, LineWork}
use Rattle.site_json.specs.Texts.{site_of, site_on}
use Rattle.pol_replay.specs.Meanings.{is_some_line}
use Rattle.pol_cli.specs.declared.jobs.site_text.SiteLines.{SiteLines}
use Rattle.pol_cli.specs.declared.jobs.site_text.SiteLines.TheVariants.{Nothing, Site, Fault, More}

-- what the lines of a site text have said so far: nothing, where all were blank; what the one line says that isn't
-- blank; or that there are more
pub data Told : Type 0 where
  none_yet : Told
  one : (said : ReadResult PlainSite) → Told
  more : Told

-- what the lines of a site text have said, by what the code knows
abbrev pub lines_told : SiteLines → Told
lines_told Nothing = none_yet
lines_told (Site site) = one (Ok (plain_site site))
lines_told (Fault fault) = one (Err fault)
lines_told More = more

-- what a line says that isn't blank
unfoldable pub line_says : Line → ReadResult PlainSite
line_says None = here (Err TooLong)
line_says (Some text) = site_on text

-- what the lines have said, once one more line wasn't blank
abbrev pub after_filled : Told → Line → Told
after_filled none_yet line = one (line_says line)
after_filled (one said) line = more
after_filled more line = more

-- what the lines have said, once one more line was read
abbrev pub after_line : Told → Line → Told
after_line so_far line = if is_some_line line then after_filled so_far line else so_far

-- what the whole text says
abbrev pub told : Told → ReadResult PlainSite
told none_yet = here (Err Missing)
told (one said) = said
told more = here (Err Unknown)

-- reading a site text replies nothing and closes with nothing; a text that says no site is refused, for its fault
abbrev pub site_work : LineWork Told JsonFault
site_work =
    record {
      reply = λ so_far line. [];
      after = after_line;
      Closing = λ so_far text. text ≡ [];
      Refuses = λ so_far line fault. ⊥;
      RefusesEnd = λ so_far fault. told so_far ≡ Err fault;
    }

-- the input was read to its end, and its text says this
pub record Says (said : ReadResult PlainSite) (bytes left : List ℕ) : Type 0 where
  pub read : IsRead bytes left
  pub text : site_of bytes ≡ said
