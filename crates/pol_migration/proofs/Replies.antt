-- The work of a migration, line by line, gives its output.
use Rattle.std.proofs.Common.{ℕ, ◌≡◌, ◌∙◌, List, [], ◌∷◌, Bool, true, false, length, ap, refl, if◌then◌else◌}
use Rattle.std.specs.Prelude.{Some, None, nat_lt}
use Rattle.std.specs.List.{flat_map}
use Rattle.pol_io.specs.Pieces.{pieces, line_of}
use Rattle.pol_io.specs.declared.limits.TheConstants.{LONGEST_LINE}
use Rattle.pol_jobs.specs.LineWork.{met, output_by, replies}
use Rattle.pol_jobs.proofs.Meeting.{met_by_length}
use Rattle.event_json.specs.declared.fault.LineFault.TheVariants.{TooLong}
use Rattle.pol_record.specs.Lines.{a_fault}
use Rattle.pol_migration.specs.Job.{migrated_met, migrating, migrating_work}
use Rattle.pol_migration.specs.Migration.{meaning_of_version_1, migrated_line, migrated_of, short_meaning_of_version_1}

-- a line becomes what it becomes as it is met
met_becomes : (line : List ℕ) → migrated_met (met line) ≡ migrated_of line
unfolding meaning_of_version_1
met_becomes line = ap migrated_met (met_by_length line) ∙ by_length (nat_lt LONGEST_LINE (length line))
  where
    by_length : (long : Bool) → migrated_met (if long then None else Some line)
        ≡ migrated_line line (if long then a_fault TooLong else short_meaning_of_version_1 line)
    by_length true = refl
    by_length false = refl

-- the replies to lines are what the lines become
replies_are : (parts : List (List ℕ)) →
    replies migrating_work tt parts ≡ flat_map (λ piece. migrated_of (line_of piece)) parts
replies_are [] = refl
replies_are (piece ∷ parts) = rw (met_becomes (line_of piece), replies_are parts) refl

-- the output of a migration is the defined one
pub migrating_output : output_by migrating_work tt ≡ migrating
migrating_output =
    λ i. record {
      replies = λ bytes. replies_are (pieces bytes) i;
      Closing = λ bytes text. text ≡ [];
      Refuses = λ bytes line reason. ⊥;
      RefusesEnd = λ bytes reason. ⊥;
    }
