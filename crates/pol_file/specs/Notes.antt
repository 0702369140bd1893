-- How the calls of a file are noted, and what is seen of a file's disk.
use Rattle.std.specs.Prelude.{ℕ, ◌==◌, if◌then◌else◌, Bool, false, List, slice_index}
use Rattle.pol_disk.specs.Answers.{FileCall, measured, read, written, tried, brought, Told, learnt}

-- the call of a note: numbers, which say which call it was and its place or its answer, and the bytes that were read or
-- given
abbrev pub call_of : List ℕ → List ℕ → FileCall
call_of numbers bytes =
    if slice_index numbers 0 == 0 then measured (slice_index numbers 1)
    else (if slice_index numbers 0 == 1 then read (slice_index numbers 1) bytes
    else (if slice_index numbers 0 == 2 then written (slice_index numbers 1) bytes
    else (if slice_index numbers 0 == 3 then tried (slice_index numbers 1) bytes
    else brought)))

-- the state of a file's disk: what is known of the file by its calls, how often it failed, and whether it did by a lock
-- of another program
pub record FileState : Type 0 where
  pub told : Told
  pub faults : ℕ
  pub in_use : Bool

-- the state before the first call
abbrev pub unopened : Told → FileState
unopened told = record { told = told; faults = 0; in_use = false }

-- the state after one call more
abbrev pub noted : FileCall → FileState → FileState
noted call state = record state { told = learnt call state.told }
