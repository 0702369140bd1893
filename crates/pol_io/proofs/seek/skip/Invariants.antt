use Rattle.std.proofs.Common.{◌<◌, ◌≡◌, ◌-◌, false}
use Rattle.pol_io.specs.Known.{Between, Counts}
use Rattle.pol_io.specs.Cuts.{PassesLong}
use Rattle.pol_io.specs.Window.{ahead, given}
use Rattle.pol_io.specs.declared.limits.TheConstants.{LONGEST_LINE, LONGEST_INPUT}
use Rattle.pol_io.proofs.seek.skip.Given as goal

-- all that was taken so far has no line feed, and is long
abbrev pub invariant-pass : goal.invariant-pass
invariant-pass g l = record {
  long : Between (PassesLong LONGEST_LINE) (ahead l.fn.window (g.S.Source.left l.fn.source)) (g.S.Source.left l.source);
  given : given l.fn.window < l.window.taken;
  open_end : (l.window.ended ≡ false) × (l.fn.window.ended ≡ false);
  counted : Between (Counts l.fn.window.taken l.window.taken) (g.S.Source.left l.fn.source) (g.S.Source.left l.source);
  sound : g.S.Source.faults l.source ≡ g.S.Source.faults l.fn.source;
}

abbrev pub decreases-pass : goal.decreases-pass
decreases-pass g l = LONGEST_INPUT - l.window.taken
