use Rattle.std.proofs.Common.{◌≡◌, ℕ, List, take}
use Rattle.std.specs.Prelude.{◌||◌}
use Rattle.mtp_codes.specs.Names.{is_among}
use Rattle.pol_events.specs.Bound.{tags_of}
use Rattle.pol_compaction.specs.Noted.{is_noted}
use Rattle.pol_compaction.proofs.noted.Noted.note_all.Given as goal

abbrev pub invariant-loop-bind : goal.invariant-loop-bind
invariant-loop-bind l = (other : List ℕ) → is_noted l.self.named.entries other
    ≡ (is_among (tags_of (take l.bind-index l.binds)) other || is_noted l.initial.self.named.entries other)
