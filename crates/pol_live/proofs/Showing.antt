-- A board that shows a history shows it with one entry more.
use Rattle.std.proofs.Common.{◌≤◌, ℕ, length, ap, sym, subst, arith}
use Rattle.mtp_codes.specs.declared.limits.TheConstants.{LONGEST_HISTORY}
use Rattle.std.proofs.lemmas.Bool.{leb-false}
use Rattle.pol_events.proofs.Histories.{length_history}
use Rattle.pol_history.specs.Looking.{History}
use Rattle.pol_shown.specs.Displays.{Displayed, Shows}
use Rattle.pol_shown.specs.Followed.{before_newest}
use Rattle.pol_site.specs.Sites.{PlainSite}
use Rattle.pol_live.specs.Turns.{HasMade, Locked, history_of}
use Rattle.pol_live.specs.declared.turned.Placed.{Placed}

-- a history that got one entry has no more than it may have
pub short_made : (site : PlainSite) (before after : Locked) (actor : ℕ) (placed : Placed) →
    HasMade site before after actor placed → length after.entries ≤ LONGEST_HISTORY
short_made site before after actor placed made =
    let less = leb-false LONGEST_HISTORY (length (history_of before)) made.room in
    let long = ap length made.enters.entered in
    let same = length_history after.entries in
    omega (arith, less, long, same)

-- the board shows the history before the entry
pub shown_before : (site : PlainSite) (before after : Locked) (actor : ℕ) (placed : Placed) (display : Displayed) →
    HasMade site before after actor placed → Shows site (history_of before) display →
    Shows site (before_newest (history_of after)) display
shown_before site before after actor placed display made shown =
    subst (λ (history : History). Shows site (before_newest history) display) (sym made.enters.entered) shown
