-- Tests of a role that the module's variables don't fit.
use Rattle.std.specs.Prelude.{ℕ, List, Bool, ◌&&◌}
use Rattle.mtp_codes.specs.Names.{same_name}
use Rattle.mtp_desc.specs.Plain.{PlainDescription}
use Rattle.mtp_procs.specs.Tests.{PlainTest}
use Rattle.mtp_procs.specs.Covers.{is_test_misfit}

-- the test is of the role, and doesn't fit
abbrev pub is_test_misfit_for : List ℕ → PlainDescription → PlainTest → Bool
is_test_misfit_for role description test = same_name test.role role && is_test_misfit description test
