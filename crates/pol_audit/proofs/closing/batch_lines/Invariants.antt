use Rattle.std.proofs.Common.{◌≡◌, ◌++◌, drop, map}
use Rattle.pol_record.specs.Gathered.{known_of, record_text}
use Rattle.pol_audit.proofs.closing.batch_lines.Given as goal

abbrev pub invariant-loop-batch : goal.invariant-loop-batch
invariant-loop-batch l =
    map (λ line. line.items) l.lines.items
    ++ map (λ batch. record_text batch (known_of l.gathered.records.entries batch)) (drop l.batch-index l.batches)
    ≡ map (λ batch. record_text batch (known_of l.gathered.records.entries batch)) l.batches
