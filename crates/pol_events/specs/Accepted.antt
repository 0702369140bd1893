-- Whether an event was accepted.
use Rattle.std.specs.Prelude.{Bool, true, false}
use Rattle.pol_events.specs.declared.answer.Answer.{Answer}
use Rattle.pol_events.specs.declared.answer.Answer.TheVariants.{Refused}

-- the answer is no refusal
abbrev pub is_accepted : Answer → Bool
is_accepted (Refused rule) = false
is_accepted _ = true
