use Rattle.std.proofs.Common.{◌≡◌, ◌≤◌, ◌+◌, ◌*◌}
use Rattle.pol_events.specs.Events.{plain_entry, plain_history}
use Rattle.pol_site.specs.PlainSite.{plain_site}
use Rattle.pol_shown.specs.Followed.{ShowsBelow}
use Rattle.pol_shown.proofs.display.Display.follow_module.Given as goal

abbrev pub invariant-loop-word : goal.invariant-loop-word
invariant-loop-word l =
    (l.self.board ≡ l.fn.self.board)
    × (32 * l.place ≤ l.word)
    × (l.word-end ≡ 32 * (l.place + 1))
    × ShowsBelow l.word (plain_site l.site) (plain_entry l.entry) (plain_history l.older) l.self
