-- Whether a module is docked or away, and what it reported.
use Rattle.std.specs.Prelude.{ℕ, ◌≡◌, Option, Some, None}
use Rattle.pol_slots.specs.Reported.{ForgetsAll}
use Rattle.pol_slots.specs.declared.berth.Berth.{Berth}
use Rattle.pol_slots.specs.declared.berth.Berth.TheVariants.{Docked, Away}
use Rattle.pol_slots.specs.declared.reported.Reported.{Reported}

-- the ticket under which the module is away
abbrev pub ticket_in : Berth → Option ℕ
ticket_in (Docked reported) = None
ticket_in (Away kept) = Some kept.ticket

-- what the module reported; of one that is away, what it reported before
abbrev pub reported_in : Berth → Reported
reported_in (Docked reported) = reported
reported_in (Away kept) = kept.part

-- what the module reported, while it is docked
abbrev pub docked_in : Berth → Option Reported
docked_in (Docked reported) = Some reported
docked_in (Away kept) = None

-- the module is docked again, and all that it reported is forgotten
pub record IsBack (old new : Berth) : Type 0 where
  pub docked : ticket_in new ≡ None
  pub forgotten : ForgetsAll (reported_in old) (reported_in new)
