-- What single states say of a service.
use Rattle.std.specs.Prelude.{Bool, true, false}
use Rattle.mtp_codes.specs.declared.state.State.{State}
use Rattle.mtp_codes.specs.declared.state.State.TheVariants.{Idle, Execute, Completed, Stopped, Aborted}

-- a service in this state is idle
abbrev pub is_idle : State → Bool
is_idle Idle = true
is_idle _ = false

-- a service in this state executes its procedure
abbrev pub is_execute : State → Bool
is_execute Execute = true
is_execute _ = false

-- the procedure of a service in this state is completed
abbrev pub is_completed : State → Bool
is_completed Completed = true
is_completed _ = false

-- a service in this state is at rest: Idle, Completed, Stopped or Aborted
abbrev pub is_at_rest : State → Bool
is_at_rest Idle = true
is_at_rest Completed = true
is_at_rest Stopped = true
is_at_rest Aborted = true
is_at_rest _ = false
