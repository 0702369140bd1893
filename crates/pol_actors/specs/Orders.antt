-- What the desk does next.
use Rattle.std.specs.Prelude.{ℕ, nat_lt, Option, None, Some, if◌then◌else◌}
use Rattle.pol_events.specs.Events.{PlainEvent, desk}
use Rattle.pol_site.specs.Sites.{PlainSiteDesk}

-- the next command of the desk, if there is one and the history is long enough
abbrev pub order_event : ℕ → Option PlainSiteDesk → Option PlainEvent
order_event count None = None
order_event count (Some order) =
    if nat_lt count order.after then None else Some (desk 0 order.tag order.service order.command)
