-- What ends an output isn't empty.
use Rattle.std.proofs.Common.{◌<◌, ℕ, List, length, arith, length-append, Option}
use Rattle.pol_jobs.specs.Written.{WritesPart}
use Rattle.pol_jobs.proofs.Written.{none_written}
use Rattle.pol_record.specs.Texts.{batches_text}
use Rattle.pol_ledger.specs.Work.{BegunLedger}
use Rattle.pol_operate.specs.Texts.{history_in, sealed_text}
use Rattle.pol_operate.specs.Work.{ending_text}
use Rattle.pol_operate.proofs.Tokens.{some_line}

-- where nothing of it was written, it wasn't written whole
pub nothing_closed : (held : Option (List ℕ)) (ledger : Option BegunLedger) → WritesPart held held (ending_text ledger)
nothing_closed held ledger =
    none_written held (ending_text ledger) (rw (length-append lines last) (omega (arith, long)))
  where
    lines : List ℕ
    lines = batches_text (history_in ledger)

    last : List ℕ
    last = sealed_text ledger

    long : 0 < length last
    long = some_line _
