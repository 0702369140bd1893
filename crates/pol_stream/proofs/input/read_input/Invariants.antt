use Rattle.std.proofs.Common.{◌≡◌, ◌≤◌, length}
use Rattle.std.specs.Io.KnownBytes.{Consumes}
use Rattle.pol_io.specs.declared.limits.TheConstants.{LONGEST_INPUT}
use Rattle.pol_stream.specs.declared.more.TheConstants.{READ_TOGETHER}
use Rattle.pol_stream.proofs.input.read_input.Given as goal

abbrev pub invariant-loop : goal.invariant-loop
invariant-loop g l = record {
  so_far : Consumes (g.S.Source.left l.fn.source) (g.S.Source.left l.source) l.bytes.items;
  sound : g.S.Source.faults l.source ≡ g.S.Source.faults l.fn.source;
  room : length l.room.items ≡ READ_TOGETHER;
  fits : length l.bytes.items ≤ LONGEST_INPUT;
}
