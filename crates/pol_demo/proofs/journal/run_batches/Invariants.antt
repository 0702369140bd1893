use Rattle.std.proofs.Common.{◌≡◌, ◌+◌, ◌*◌, ◌≤◌}
use Rattle.pol_demo.specs.declared.journal.TheConstants.{BATCH_LINES, VALUES}
use Rattle.pol_demo.specs.Journal.{batch_runs}
use Rattle.pol_demo.specs.Telling.{lines_told, told_by}
use Rattle.pol_demo.specs.Values.{drawn}
use Rattle.pol_demo.proofs.journal.run_batches.Given as goal

abbrev pub invariant-loop-number : goal.invariant-loop-number
invariant-loop-number l = record {
  told : told_by l.teller ≡ lines_told (batch_runs l.seed l.number) (told_by l.fn.teller);
  drawn : l.sequence ≡ drawn l.seed (VALUES * l.number);
  at : l.teller.at ≤ l.fn.teller.at + BATCH_LINES * l.number;
}
