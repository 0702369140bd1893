-- What is left after a fault.
use Rattle.std.proofs.Common.{ℕ, ◌≡◌, ◌≤◌, ◌+◌, List, [], ◌∷◌, ◌++◌, Bool, true, false, IsTrue, Option, None, Some, append_assoc, ap, ◌∙◌, sym, refl}
use Rattle.std.specs.Io.KnownBytes.{Keeps, Consumes}
use Rattle.pol_io.specs.declared.limits.TheConstants.{LONGEST_INPUT}
use Rattle.pol_io.specs.declared.lines.IoFault.{IoFault}
use Rattle.pol_io.specs.declared.lines.IoFault.TheVariants.{Read, TooMuch}
use Rattle.pol_io.specs.Known.{Between, Counts, joined}
use Rattle.pol_io.specs.Pieces.{has_no_feed, Passes, PassesMore}
use Rattle.pol_io.specs.Cuts.{PassesLong}
use Rattle.pol_io.specs.Faults.{Stops}
use Rattle.pol_io.proofs.Known.{between_weaker, between_trans, between_kept, counts_taken, counts_kept, counts_trans}
use Rattle.pol_io.proofs.Feeds.{no_feed_append}

-- one byte that was consumed was passed over
Consumes_PassesMore : (old new : Option (List ℕ)) (byte : ℕ) → Consumes old new (byte ∷ []) → Between PassesMore old new
Consumes_PassesMore None new byte took = tt
Consumes_PassesMore (Some text) None byte took = absurd took
Consumes_PassesMore (Some text) (Some rest) byte took = record
    { last = byte; passes = record { part = []; no_feed = refl; cut = took } }

-- the source failed, and nothing is gone
pub stops_read : (left after : Option (List ℕ)) (taken : ℕ) → taken ≤ LONGEST_INPUT → Keeps left after
    → Stops taken left left after Read
stops_read left after taken limit kept = record {
  reached = taken;
  counted = counts_kept left after taken kept;
  read = λ _. (limit, between_kept Passes left after (λ text. record { part = []; no_feed = refl; cut = refl }) kept);
  too_much = λ is. absurd (cc);
}

-- one byte came past the limit
pub stops_too_much : (left after : Option (List ℕ)) (byte : ℕ) → Consumes left after (byte ∷ [])
    → Stops LONGEST_INPUT left left after TooMuch
stops_too_much left after byte took = record {
  reached = LONGEST_INPUT + 1;
  counted = counts_taken left after (byte ∷ []) LONGEST_INPUT 1 refl took;
  read = λ is. absurd (cc);
  too_much = λ _. (refl, Consumes_PassesMore left after byte took);
}

-- passed over, and again
Passes_trans : (text between rest : List ℕ) → Passes text between → Passes between rest → Passes text rest
Passes_trans text between rest first later = record {
  part = first.part ++ later.part;
  no_feed = no_feed_append first.part later.part first.no_feed later.no_feed;
  cut = first.cut ∙ (ap (λ part. first.part ++ part) later.cut ∙ sym (append_assoc first.part later.part rest));
}

-- passed over, and one more byte
Passes_PassesMore : (text between rest : List ℕ) → Passes text between → PassesMore between rest → PassesMore text rest
Passes_PassesMore text between rest first later = record {
  last = later.last;
  passes =
      Passes_trans text between (later.last ∷ rest) first later.passes;
}

-- a fault after some bytes were passed over
pub stops_after : (text left middle after : Option (List ℕ)) (before now : ℕ) (fault : IoFault)
    → Between Passes text middle
    → Between (Counts before now) left middle → Stops now middle middle after fault → Stops before text left after fault
stops_after text left middle after before now fault passes counted stops = record {
  reached = stops.reached;
  counted = counts_trans left middle after before now stops.reached counted stops.counted;
  read = λ is. let at = stops.read is in
      (at.0, between_trans Passes Passes Passes text middle after Passes_trans passes at.1);
  too_much = λ is. let at = stops.too_much is in
      (at.0, between_trans Passes PassesMore PassesMore text middle after Passes_PassesMore passes at.1);
}

-- all that waited was passed over
pub passed : (ended : Bool) (text left : Option (List ℕ)) (waiting : List ℕ) → ended ≡ false
    → IsTrue (has_no_feed waiting) → Keeps text (joined ended waiting left) → Between Passes text left
passed true text left waiting unended no_feed kept = absurd (cc)
passed false None left waiting unended no_feed kept = tt
passed false (Some text) None waiting unended no_feed kept = absurd kept
passed false (Some text) (Some rest) waiting unended no_feed kept =
    record { part = waiting; no_feed = no_feed; cut = sym kept }

-- what passes over a long part passes over it
pub passed_long : (most : ℕ) (old new : Option (List ℕ)) → Between (PassesLong most) old new → Between Passes old new
passed_long most old new fact = between_weaker (PassesLong most) Passes old new
    (λ text rest long. record { part = long.part; no_feed = long.no_feed; cut = long.cut }) fact
