use Rattle.pol_jobs.proofs.Written.{front_written}
use Rattle.pol_jobs.proofs.output.put.Goals as goal

pub returns-in-Err-Failed-clause-part : goal.returns-in-Err-Failed-clause-part
returns-in-Err-Failed-clause-part g c = let err = c.in-Err-Failed.ensures.err in
    front_written _ _ c.args.line.now err.0 err.1 err.2

pub returns-in-Err-Memory-clause-part : goal.returns-in-Err-Memory-clause-part
returns-in-Err-Memory-clause-part g c = let err = c.in-Err-Memory.ensures.err in
    front_written _ _ c.args.line.now err.0 err.1 err.2
