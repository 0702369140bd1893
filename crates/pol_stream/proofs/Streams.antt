-- A source is read to its end, piece by piece.
use Rattle.std.proofs.Common.{◌≡◌, List, ℕ, [], ◌++◌, Bool, false, Option, None, Some, ap, sym, ◌∙◌, append-nil, subst}
use Rattle.std.proofs.KnownBytes.{Consumes-trans}
use Rattle.std.specs.Io.KnownBytes.{Consumes, IsAtEnd, Keeps}
use Rattle.pol_io.specs.Known.{Between}
use Rattle.pol_stream.specs.Streams.{IsAll, TakesMore, TakesSome}

-- a read that failed took nothing
pub took_none : (old new : Option (List ℕ)) → Keeps old new → TakesSome old new
took_none None new kept = record { piece = []; took = tt }
took_none (Some all) None kept = absurd kept
took_none (Some all) (Some rest) kept = record { piece = []; took = sym kept }

-- one read more
pub takes_on : (old between new : Option (List ℕ)) (most : ℕ) (bytes bytes' : List ℕ) (more : Bool) →
    Consumes old between bytes → TakesMore between new most bytes bytes' more → Consumes old new bytes'
takes_on old between new most bytes bytes' more so_far takes =
    subst (Consumes old new) (sym takes.behind)
    (Consumes-trans old between new bytes takes.piece so_far takes.took)

-- the last one brought nothing
pub nothing_more : (left left' : Option (List ℕ)) (most : ℕ) (bytes bytes' : List ℕ) (more : Bool) →
    TakesMore left left' most bytes bytes' more → more ≡ false → bytes' ≡ bytes
nothing_more left left' most bytes bytes' more takes ended =
    takes.behind ∙ ap (λ piece. bytes ++ piece) (takes.ended ended).0 ∙ append-nil bytes

-- and where it stopped
pub takes_some : (old between new : Option (List ℕ)) (bytes : List ℕ) → Consumes old between bytes →
    TakesSome between new → TakesSome old new
takes_some old between new bytes so_far takes = record {
  piece = bytes ++ takes.piece;
  took = Consumes-trans old between new bytes takes.piece so_far takes.took;
}

-- at the end all was taken
pub all_taken : (old new : Option (List ℕ)) (bytes : List ℕ) → Consumes old new bytes → IsAtEnd new →
    Between (IsAll bytes) old new
all_taken None new bytes took ended = tt
all_taken (Some all) None bytes took ended = absurd took
all_taken (Some all) (Some rest) bytes took ended =
    (took ∙ ap (λ rest. bytes ++ rest) ended ∙ append-nil bytes, ended)
