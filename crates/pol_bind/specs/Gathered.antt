-- Tests in a list, as plain data.
use Rattle.std.specs.Prelude.{List, map}
use Rattle.mtp_procs.specs.Tests.{PlainTest}
use Rattle.pol_bind.specs.declared.gathered.Test.{Test}

-- a test as plain data
abbrev pub plain_test : Test → PlainTest
plain_test test = record { role = test.role; variable = test.variable; value = test.value }

-- tests as plain data
abbrev pub plain_tests : List Test → List PlainTest
plain_tests tests = map plain_test tests
