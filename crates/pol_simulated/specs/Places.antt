-- The places of a history, from 0 for the oldest entry: what comes before a place, and the next command from it on.
use Rattle.std.specs.Prelude.{ℕ, suc, ◌+◌, ◌≡◌, ◌≤◌, nat_lt, nat_le, true, false, List, [], ◌∷◌, length, Option, Some}
use Rattle.std.specs.Prelude.{None, option_map, if◌then◌else◌, ◌&&◌, is_some}
use Rattle.std.specs.Option.{option_or}
use Rattle.mtp_codes.specs.declared.command.Command.{Command}
use Rattle.chart_core.specs.declared.entry.LogEntry.{LogEntry}
use Rattle.chart_cursor.specs.Commands.{sent_by}
use Rattle.pol_events.specs.Events.{PlainEntry}
use Rattle.pol_history.specs.Looking.{History}
use Rattle.pol_history.specs.Batches.{taken}
use Rattle.pol_history.specs.Modules.{is_moving}
use Rattle.pol_site.specs.Stories.{if_to, is_given, sent_to, story, times_sent, touches}

-- the entries before a place
abbrev pub before : ℕ → History → History
before place [] = []
before place (entry ∷ older) = if nat_lt (length older) place then entry ∷ before place older else before place older

-- an entry of a log that commands a module, and the place of the answer that it is
pub record Found : Type 0 where
  pub did : LogEntry
  pub place : ℕ

-- what the answer at this place does, where it commands the module and the place isn't before the one to look from
abbrev pub found_at : List ℕ → ℕ → ℕ → PlainEntry → Option Found
found_at tag from place entry =
    if nat_le from place && is_some (sent_to tag entry)
    then option_map (λ did. record { did = did; place = place }) (taken entry.answer)
    else None

-- the next command to the module: the first one from a place on
abbrev pub next_command : List ℕ → ℕ → History → Option Found
next_command tag from [] = None
next_command tag from (entry ∷ older) = option_or (next_command tag from older) (found_at tag from (length older) entry)

-- from a place on the module wasn't docked, undocked or away
abbrev pub StaysFrom : List ℕ → ℕ → History → Type 0
StaysFrom tag from [] = Unit {0}
StaysFrom tag from (entry ∷ older) =
    (from ≤ length older → touches tag entry ≡ true → is_moving entry.event ≡ false) × StaysFrom tag from older

-- Looking at the next command counts that command and no other.
abbrev pub NextCounts : Type 0
NextCounts =
    (tag : List ℕ) (from : ℕ) (history : History) (found : Found) (service : List ℕ) (command : Command) →
    StaysFrom tag from history → next_command tag from history ≡ Some found →
    times_sent tag service command (story tag (before (suc found.place) history))
    ≡ (if is_given service command (if_to tag (sent_by found.did)) then 1 else 0)
    + times_sent tag service command (story tag (before from history))
