use Rattle.std.proofs.Common.{◌≡◌, ◌+◌}
use Rattle.pol_demo.specs.Journal.{docked, each}
use Rattle.pol_demo.specs.Telling.{lines_told, told_by}
use Rattle.pol_demo.proofs.journal.dock.Given as goal

abbrev pub invariant-loop-place : goal.invariant-loop-place
invariant-loop-place l = record {
  told : told_by l.teller ≡ lines_told (each docked l.place) (told_by l.fn.teller);
  at : l.teller.at ≡ l.fn.teller.at + l.place;
}
