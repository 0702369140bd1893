-- What is read only grows.
use Rattle.std.specs.Prelude.{◌≤◌, ◌<◌, Bool, true, false, List, [], ◌∷◌, ◌++◌, length, if◌then◌else◌}
use Rattle.std.proofs.Common.{arith, length-append}
use Rattle.chart_core.specs.declared.limits.TheConstants.{MOST_READS}
use Rattle.chart_core.specs.Formulas.{Formula, Formulas, constant, all_of, any_of, not_of, test, no_formulas, more_formulas}
use Rattle.chart_core.specs.Reads.{has_read, with_reads, with_all_reads}
use Rattle.chart_core.specs.declared.reads.Read.{Read}

-- a read that is added, or was there
one_grows : (is_there : Bool) (read : Read) (reads : List Read)
    → length reads ≤ length (if is_there then reads else reads ++ (read ∷ []))
one_grows true read reads = omega arith
one_grows false read reads = omega (arith, length-append reads (read ∷ []))

-- The variables that a condition reads, or some conditions, are only added to those found.
mutual
  pub grows : (each : Formula) (reads : List Read) → length reads ≤ length (with_reads each reads)
  grows (constant value) reads = omega arith
  grows (all_of each) reads = all_grow each reads
  grows (any_of each) reads = all_grow each reads
  grows (not_of inner) reads = grows inner reads
  grows (test role variable op value) reads =
      one_grows (has_read (record { role = role; var = variable }) reads) (record { role = role; var = variable }) reads

  pub all_grow : (each : Formulas) (reads : List Read) → length reads ≤ length (with_all_reads each reads)
  all_grow no_formulas reads = omega arith
  all_grow (more_formulas each others) reads =
      omega (arith, grows each reads, all_grow others (with_reads each reads))

-- what is too much for one condition is too much for all of them
pub too_many :
    (each : Formula) (others : Formulas) (reads : List Read)
    → MOST_READS < length (with_reads each reads)
    → MOST_READS < length (with_all_reads (more_formulas each others) reads)
too_many each others reads many = omega (arith, all_grow others (with_reads each reads))
