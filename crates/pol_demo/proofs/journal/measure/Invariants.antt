use Rattle.std.proofs.Common.{◌≡◌, ◌+◌}
use Rattle.pol_demo.specs.Journal.{each, measured}
use Rattle.pol_demo.specs.Telling.{lines_told, told_by}
use Rattle.pol_demo.specs.Values.{drawn}
use Rattle.pol_demo.proofs.journal.measure.Given as goal

abbrev pub invariant-loop-place : goal.invariant-loop-place
invariant-loop-place l = record {
  told : told_by l.teller
      ≡ lines_told (each (measured l.tag l.fn.sequence) l.place) (told_by l.fn.teller);
  drawn : l.sequence ≡ drawn l.fn.sequence l.place;
  at : l.teller.at ≡ l.fn.teller.at + l.place;
}
