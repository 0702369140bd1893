-- The modules of the binds so far are read.
use Rattle.std.proofs.Common.{◌≡◌, ℕ, List, cond, take}
use Rattle.mtp_codes.specs.Names.{is_among}
use Rattle.pol_events.specs.Bound.{tags_of}
use Rattle.pol_compaction.specs.Ahead.{ahead_of, turned}
use Rattle.pol_compaction.specs.declared.ahead.Turn.TheVariants.{Read}
use Rattle.pol_compaction.proofs.outlook.Outlook.meet_each.Given as goal

abbrev pub invariant-loop-bind : goal.invariant-loop-bind
invariant-loop-bind l = (other : List ℕ) → ahead_of l.self.modules.entries other
    ≡ cond (is_among (tags_of (take l.bind-index l.binds)) other)
    (turned Read (ahead_of l.initial.self.modules.entries other).replaced)
    (ahead_of l.initial.self.modules.entries other)
