use Rattle.std.proofs.Common.{◌≡◌, true, replicate}
use Rattle.pol_journal.proofs.writing.all_up.Given as goal

abbrev pub invariant-loop : goal.invariant-loop
invariant-loop l = l.flags.items ≡ replicate l.counter true
