-- What is told of a site text line by line is what it says.
use Rattle.std.proofs.Common.{◌≡◌, ℕ, List, [], ◌∷◌, Bool, true, false, refl, sym, ap, ◌∙◌}
use Rattle.std.specs.List.{list_all}
use Rattle.std.specs.Prelude.{Some, None, Ok, Err, Option, filter, map, if◌then◌else◌}
use Rattle.mtp_json.specs.ReadResult.{ReadResult, here}
use Rattle.mtp_json.specs.declared.fault.FaultKind.TheVariants.{TooLong}
use Rattle.mtp_json.specs.declared.fault.JsonFault.{JsonFault}
use Rattle.pol_io.specs.Known.{Between}
use Rattle.pol_io.specs.Pieces.{pieces, line_of}
use Rattle.pol_io.proofs.Known.{between_both}
use Rattle.pol_jobs.specs.Ends.{Writes}
use Rattle.pol_jobs.specs.LineWork.{AcceptsEnd, KnowsAfter, after_all, line_met, met, output_by}
use Rattle.pol_jobs.proofs.Meeting.{met_by_length}
use Rattle.event_json.specs.Lines.{is_blank_byte}
use Rattle.pol_site.specs.Sites.{PlainSite}
use Rattle.pol_site.specs.declared.site.Site.{Site}
use Rattle.site_json.specs.Texts.{is_filled, is_long, site_among, site_of, site_on}
use Rattle.pol_cli.specs.declared.jobs.site_text.SiteLines.{SiteLines}
use Rattle.pol_cli.specs.declared.jobs.site_text.SiteLines.TheVariants as lines
use Rattle.pol_cli.specs.SiteTexts.{Says, Told, lines_told, none_yet, one, more, after_line, after_filled, line_says}
use Rattle.pol_cli.specs.SiteTexts.{told, site_work}
use Rattle.pol_cli.proofs.Filled.{met_filled}

-- ---- one line

-- a line says what is read on it
pub says_short : (line : List ℕ) (said : ReadResult PlainSite) → site_on line ≡ said →
    one said ≡ one (line_says (Some line))
unfolding line_says
says_short line said is = rw is refl

-- one that is too long says so
pub says_long : (fault : JsonFault) → fault ≡ record { kind = TooLong; path = [] } →
    one (Err fault) ≡ one (line_says None)
unfolding line_says
says_long fault is = rw is refl

-- a line of blanks tells nothing
pub after_blank : (so_far : Told) (line : List ℕ) → list_all is_blank_byte line ≡ true →
    so_far ≡ after_line so_far (Some line)
after_blank so_far line blank = rw blank refl

-- another one is told
pub after_some : (so_far next : Told) (line : List ℕ) → list_all is_blank_byte line ≡ false →
    next ≡ after_filled so_far (Some line) → next ≡ after_line so_far (Some line)
after_some so_far next line some is = rw some is

-- a line that is told alone says what it says
alone : (line : List ℕ) → line_says (met line) ≡ (if is_long line then here (Err TooLong) else site_on line)
unfolding line_says
alone line = ap line_says (met_by_length line) ∙ by_length (is_long line)
  where
    by_length : (long : Bool) →
        line_says (if long then None else Some line) ≡ (if long then here (Err TooLong) else site_on line)
    by_length true = refl
    by_length false = refl

-- ---- the end

-- a text that tells a site isn't refused
pub told_accepted : (so_far : Told) (site : PlainSite) → Ok site ≡ told so_far → AcceptsEnd site_work so_far
told_accepted so_far site is = λ fault refuses. other (is ∙ refuses)
  where
    other : {fault : JsonFault} → Ok site ≡ Err fault → ⊥
    other same = cc

-- what isn't refused is a site
pub accepted_site : (so_far : SiteLines) → AcceptsEnd site_work (lines_told so_far) →
    ((site : Site) → so_far ≡ lines.Site site → ⊥) → ⊥
accepted_site lines.Nothing accepted other = accepted _ refl
accepted_site (lines.Site site) accepted other = other site refl
accepted_site (lines.Fault fault) accepted other = accepted fault refl
accepted_site lines.More accepted other = accepted _ refl

-- what tells a site is that site alone
pub told_well : (so_far : Told) (site : PlainSite) → Ok site ≡ told so_far → one (Ok site) ≡ so_far
told_well none_yet site is = cc
told_well (one said) site is = ap one is
told_well more site is = cc

-- ---- all lines

-- of more lines than one nothing else is told
more_stays : (parts : List (List ℕ)) → after_all site_work more parts ≡ more
more_stays [] = refl
more_stays (piece ∷ parts) =
    rw (met_filled (line_of piece)) (by_line (is_filled (line_of piece)) (more_stays parts))
  where
    by_line : (filled : Bool) → after_all site_work more parts ≡ more →
        after_all site_work (if filled then more else more) parts ≡ more
    by_line true rest = rest
    by_line false rest = rest

-- one line was told, and others come
one_told : (line : List ℕ) (parts : List (List ℕ)) →
    told (after_all site_work (one (line_says (met line))) parts)
    ≡ site_among (line ∷ filter is_filled (map line_of parts))
one_told line [] = alone line
one_told line (piece ∷ parts) =
    rw (met_filled (line_of piece)) (by_line (is_filled (line_of piece)) (one_told line parts))
  where
    by_line : (filled : Bool) → told (after_all site_work (one (line_says (met line))) parts)
        ≡ site_among (line ∷ filter is_filled (map line_of parts)) →
        told (after_all site_work (if filled then more else one (line_says (met line))) parts)
        ≡ site_among (line ∷ (if filled then line_of piece ∷ filter is_filled (map line_of parts)
        else filter is_filled (map line_of parts)))
    by_line true rest = ap told (more_stays parts)
    by_line false rest = rest

-- none was told, and others come
none_told : (parts : List (List ℕ)) →
    told (after_all site_work none_yet parts) ≡ site_among (filter is_filled (map line_of parts))
none_told [] = refl
none_told (piece ∷ parts) =
    rw (met_filled (line_of piece)) (by_line (is_filled (line_of piece)) (none_told parts))
  where
    by_line : (filled : Bool) →
        told (after_all site_work none_yet parts) ≡ site_among (filter is_filled (map line_of parts)) →
        told (after_all site_work (if filled then one (line_says (line_met piece)) else none_yet) parts)
        ≡ site_among (if filled then line_of piece ∷ filter is_filled (map line_of parts)
        else filter is_filled (map line_of parts))
    by_line true rest = one_told (line_of piece) parts
    by_line false rest = rest

-- what is told of all lines is what the text says
pub text_told : (bytes : List ℕ) → site_of bytes ≡ told (after_all site_work none_yet (pieces bytes))
unfolding site_of
text_told bytes = sym (none_told (pieces bytes))

-- so an input that was read to its end says the site that is told
pub text_says : (telling : Told) (site : PlainSite) (held held' begin left : Option (List ℕ)) →
    Between (Writes (output_by site_work none_yet) held held') begin left →
    Between (KnowsAfter site_work none_yet telling) begin left → told telling ≡ Ok site →
    Between (Says (Ok site)) begin left
text_says telling site held held' begin left writes knows is =
    between_both (Writes (output_by site_work none_yet) held held') (KnowsAfter site_work none_yet telling)
    (Says (Ok site)) begin left
    (λ bytes rest done after. record {
      read = done.read;
      text = text_told bytes ∙ ap told (sym after) ∙ is;
    }) writes knows
