-- What the handles of a run promise.
use Rattle.std.specs.Prelude.{ℕ, List, map}
use Rattle.std.specs.declared.thread.PromisedHandle.{PromisedHandle}
use Rattle.pol_live.specs.declared.run.SeatOf.{SeatOf}
use Rattle.pol_live.specs.Seats.{Seated}

-- the actors whose seats were promised
abbrev pub promised : List (PromisedHandle Seated SeatOf) → List ℕ
promised handles = map (λ (handle : PromisedHandle Seated SeatOf). handle.promise.0) handles
