-- A module is away exactly under the ticket of the exchange that is open.
use Rattle.std.specs.Prelude.{ℕ, ◌≡◌, List, Option, Some, None, if◌then◌else◌}
use Rattle.std.specs.Str.{bytes_eq}
use Rattle.pol_history.specs.Looking.{History}
use Rattle.pol_history.specs.Modules.{docking_of, ticket_of}
use Rattle.pol_history.specs.Runs.{IsLegal}
use Rattle.pol_site.specs.Sites.{PlainSite}
use Rattle.pol_site.specs.Following.{FollowsSite, Exchanging, none_open, was_begun, was_held, exchanging}

-- the ticket of the exchange that is open, where it is of this tag
abbrev pub open_ticket : List ℕ → Exchanging → Option ℕ
open_ticket tag none_open = None
open_ticket tag (was_begun other ticket) = if bytes_eq other tag then Some ticket else None
open_ticket tag (was_held other ticket) = if bytes_eq other tag then Some ticket else None

-- In a history that follows its site a module is away exactly under the ticket of the exchange that is open.
abbrev pub OpenIsAway : Type 0
OpenIsAway =
    (site : PlainSite) (history : History) (tag : List ℕ) → IsLegal history → FollowsSite site history →
    ticket_of (docking_of history tag) ≡ open_ticket tag (exchanging history)
