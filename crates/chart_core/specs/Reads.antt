-- What conditions read, in order of first appearance, and the readings that are stored for these reads.
use Rattle.std.specs.Prelude.{ℕ, List, [], ◌∷◌, ◌++◌, Bool, false, ◌&&◌, ◌||◌, if◌then◌else◌, slice_get, suc}
use Rattle.mtp_codes.specs.declared.value.Reading.{Reading}
use Rattle.mtp_codes.specs.Names.{same_name}
use Rattle.chart_core.specs.Formulas.{Formula, Formulas, constant, all_of, any_of, not_of, test, no_formulas, more_formulas, Known}
use Rattle.chart_core.specs.declared.reads.Read.{Read}

-- the two reads are of the same variable of the same role
abbrev pub same_read : Read → Read → Bool
same_read left right = same_name left.role right.role && same_name left.var right.var

-- the pair of role and variable is one of these reads
abbrev pub has_read : Read → List Read → Bool
has_read read [] = false
has_read read (each ∷ others) = same_read each read || has_read read others

-- these reads, and the pair behind them where it isn't one of them
abbrev pub with_read : Read → List Read → List Read
with_read read reads = if has_read read reads then reads else reads ++ (read ∷ [])

-- these reads and then what the condition reads, each pair where it appears first
abbrev mutual
  pub with_reads : Formula → List Read → List Read
  with_reads (constant value) reads = reads
  with_reads (all_of each) reads = with_all_reads each reads
  with_reads (any_of each) reads = with_all_reads each reads
  with_reads (not_of inner) reads = with_reads inner reads
  with_reads (test role variable op value) reads = with_read (record { role = role; var = variable }) reads

  pub with_all_reads : Formulas → List Read → List Read
  with_all_reads no_formulas reads = reads
  with_all_reads (more_formulas each others) reads = with_all_reads others (with_reads each reads)

-- what a list of conditions reads: the distinct pairs of role and variable in order of first appearance
abbrev pub reads_of : Formulas → List Read
reads_of conditions = with_all_reads conditions []

-- the place of the pair among these reads, or their number where it isn't one of them
abbrev pub place_of : Read → List Read → ℕ
place_of read [] = 0
place_of read (each ∷ others) = if same_read each read then 0 else suc (place_of read others)

-- the readings that are stored for these reads, each at the place of its pair
abbrev pub stored : List Read → List Reading → Known
stored reads values role variable = slice_get values (place_of (record { role = role; var = variable }) reads)
