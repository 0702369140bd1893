use Rattle.std.proofs.Common.{◌≡◌, ◌*◌, length}
use Rattle.pol_events.specs.Events.{plain_entry, plain_history}
use Rattle.pol_site.specs.PlainSite.{plain_site}
use Rattle.pol_shown.specs.Followed.{ShowsBelow}
use Rattle.pol_shown.proofs.display.Display.follow_tag.Given as goal

abbrev pub invariant-loop-place : goal.invariant-loop-place
invariant-loop-place l =
    (l.self.board ≡ l.fn.self.board)
    × (l.place-end ≡ length l.site.modules.items)
    × ShowsBelow (32 * l.place) (plain_site l.site) (plain_entry l.entry) (plain_history l.older) l.self
