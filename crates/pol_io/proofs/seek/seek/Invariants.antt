use Rattle.std.proofs.Common.{◌≡◌, ◌≤◌, ◌-◌, ◌||◌, not, length, take, IsTrue}
use Rattle.std.specs.Io.KnownBytes.{Keeps}
use Rattle.pol_io.specs.Known.{Between, Counts}
use Rattle.pol_io.specs.Pieces.{has_no_feed}
use Rattle.pol_io.specs.Window.{waiting, ahead, given}
use Rattle.pol_io.specs.declared.limits.TheConstants.{LONGEST_INPUT}
use Rattle.pol_io.proofs.seek.seek.Given as goal

-- no line feed stands among the bytes that were looked at, and the source was asked only where it had to be
abbrev pub invariant-scan : goal.invariant-scan
invariant-scan g l = record {
  scanned : l.scanned ≤ length (waiting l.window);
  no_feed : IsTrue (has_no_feed (take l.scanned (waiting l.window)));
  bytes : Keeps (ahead l.fn.window (g.S.Source.left l.fn.source)) (ahead l.window (g.S.Source.left l.source));
  given : given l.window ≡ given l.fn.window;
  ended : l.window.ended ≡ l.fn.window.ended;
  counted : Between (Counts l.fn.window.taken l.window.taken) (g.S.Source.left l.fn.source) (g.S.Source.left l.source);
  unasked : IsTrue (l.fn.window.ended || not (has_no_feed (waiting l.fn.window)))
      → (l.source ≡ l.fn.source) × (waiting l.window ≡ waiting l.fn.window);
  sound : g.S.Source.faults l.source ≡ g.S.Source.faults l.fn.source;
}

abbrev pub decreases-scan : goal.decreases-scan
decreases-scan g l = LONGEST_INPUT - l.window.taken
