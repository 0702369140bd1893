-- What moves a module, what replaces it, and what reads it.
use Rattle.std.specs.Prelude.{ℕ, Bool, true, false, ◌&&◌, ◌||◌, List, [], ◌∷◌, Option, Some, None, if◌then◌else◌}
use Rattle.std.specs.List.{list_any}
use Rattle.mtp_codes.specs.Names.{is_among}
use Rattle.pol_events.specs.Events.{PlainEvent, plug, unplug, start, advance, PlainEntry}
use Rattle.pol_events.specs.declared.event.Bind.{Bind}
use Rattle.pol_events.specs.Bound.{tags_of, given}
use Rattle.pol_history.specs.Looking.{History, is_module, subject}
use Rattle.pol_history.specs.Modules.{is_moving}
use Rattle.pol_history.specs.Batches.{Started, start_of}

-- the event changes whether the module is docked
abbrev pub moves : List ℕ → PlainEvent → Bool
moves tag event = is_module tag (subject event) && is_moving event

-- the event plugs a module or unplugs it
abbrev pub is_replacing : PlainEvent → Bool
is_replacing (plug at tag description) = true
is_replacing (unplug at tag) = true
is_replacing _ = false

-- the event puts another module in the tag's place, or none
abbrev pub replaces : List ℕ → PlainEvent → Bool
replaces tag event = is_module tag (subject event) && is_replacing event

-- one of the entries puts another module in the tag's place, or none
abbrev pub is_replaced : List ℕ → List PlainEntry → Bool
is_replaced tag entries = list_any (λ entry. replaces tag entry.event) entries

-- the binds that a batch was started with, held or watched; none where it wasn't started
abbrev pub started_binds : Option Started → List Bind
started_binds None = []
started_binds (Some started) = given started.binds

-- the binds of the modules on whose reports the answer to an event may depend
abbrev pub read_binds : History → PlainEvent → List Bind
read_binds whole (start at batch name binds) = given binds
read_binds whole (advance at batch) = started_binds (start_of whole batch)
read_binds whole _ = []

-- the event reads the module: one of the binds that it reads is of the module
abbrev pub reads : History → List ℕ → PlainEvent → Bool
reads whole tag event = is_among (tags_of (read_binds whole event)) tag

-- one of these entries, the newest first, read the module since it was moved last
abbrev pub is_read : History → List ℕ → History → Bool
is_read whole tag [] = false
is_read whole tag (entry ∷ older) =
    if moves tag entry.event then false else (reads whole tag entry.event || is_read whole tag older)
