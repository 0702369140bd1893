-- Choosing the first of several faults, and the answer where there is none.
use Rattle.std.specs.Prelude.{Bool, true, false, List, [], ◌∷◌, Option, Some, None, Result, Ok, Err, ⊤}
use Rattle.std.specs.Option.{option_or}

-- the value, where the test holds
abbrev pub when : {A : Type 0} → Bool → A → Option A
when true value = Some value
when false value = None

-- the first value that is there, in a list of optional ones
abbrev pub first_of : {A : Type 0} → List (Option A) → Option A
first_of [] = None
first_of (each ∷ others) = option_or each (first_of others)

-- the value, unless there is a fault
abbrev pub unless : {A E : Type 0} → Option E → A → Result A E
unless None value = Ok value
unless (Some fault) value = Err fault

-- done, unless there is a fault
abbrev pub done_unless : {E : Type 0} → Option E → Result ⊤ E
done_unless None = Ok tt
done_unless (Some fault) = Err fault
