-- What is written of an answer is found again under the keys of its object.
use Rattle.std.proofs.Common.{◌≡◌, ◌≤◌, ◌&&◌, ◌∷◌, [], ℕ, length, map, List, Bool, true, false, Some, refl, ap, ◌∙◌}
use Rattle.std.proofs.Common.{arith, codes}
use Rattle.std.proofs.lemmas.Bool.{and_parts, le-leb, leb-true}
use Rattle.std.specs.List.{list_all}
use Rattle.std.specs.Prelude.{nat_le, unwrap_or}
use Rattle.serde_json.specs.Data.{number as number_data, string, unsigned}
use Rattle.serde_json.specs.View.{items_of}
use Rattle.mtp_codes.specs.Codes.{command_codes, command_number, command_of, state_codes, state_number, state_of}
use Rattle.mtp_codes.specs.Names.{is_name}
use Rattle.mtp_codes.specs.Numbers.{greatest_u32, greatest_u64, is_between}
use Rattle.mtp_codes.specs.declared.command.Command.{Command}
use Rattle.mtp_codes.specs.declared.command.Command.TheVariants as command
use Rattle.mtp_codes.specs.declared.mode.Forbid.{Forbid}
use Rattle.mtp_codes.specs.declared.mode.Forbid.TheVariants as forbid
use Rattle.mtp_codes.specs.declared.state.State.{State}
use Rattle.mtp_codes.specs.declared.state.State.TheVariants as state
use Rattle.mtp_codes.specs.declared.value.Reading.{Reading}
use Rattle.mtp_codes.specs.declared.value.Reading.TheVariants.{Whole, Bit}
use Rattle.mtp_json.specs.Leaf.{count, name}
use Rattle.mtp_json.proofs.Again.{len_again, whole_again}
use Rattle.mtp_json.specs.Leaf.{meaning_of}
use Rattle.chart_core.specs.declared.entry.LogEntry.{LogEntry}
use Rattle.chart_core.specs.declared.entry.LogEntry.TheVariants as entry
use Rattle.chart_core.specs.declared.next.Outcome.{Outcome}
use Rattle.chart_core.specs.declared.next.Outcome.TheVariants.{Completed, Broken, Stopped, Abandoned}
use Rattle.chart_core.specs.declared.why.Why.{Why}
use Rattle.chart_core.specs.declared.why.Why.TheVariants as why
use Rattle.chart_core.specs.declared.limits.TheConstants.{MOST_READS}
use Rattle.pol_events.specs.declared.answer.Rule.{Rule}
use Rattle.pol_events.specs.declared.answer.Rule.TheVariants.{TagTaken, NoModule, PlantFull, Held, InExchange}
use Rattle.pol_events.specs.declared.answer.Rule.TheVariants.{NotInExchange, WrongTicket, NoService, NotAnEdge}
use Rattle.pol_events.specs.declared.answer.Rule.TheVariants.{NoVariable, WrongKind, RecipeKnown, NoRecipe, BatchKnown}
use Rattle.pol_events.specs.declared.answer.Rule.TheVariants.{NoBatch, BatchClosed, RoleUnbound, RoleUnknown}
use Rattle.pol_events.specs.declared.answer.Rule.TheVariants.{OneModuleTwice, WrongType, WrongVersion, NotCovered}
use Rattle.pol_events.specs.declared.answer.Rule.TheVariants.{NotReported, NotIdle, Busy, BatchesFull, NotAtRest}
use Rattle.pol_events.specs.declared.answer.Rule.TheVariants.{ActiveStep, HeldBack, ModeForbids, StateForbids}
use Rattle.pol_events.specs.declared.answer.Rule.TheVariants.{NotEnabled, OutOfRange, NotFrozen, AlreadyFrozen}
use Rattle.pol_events.specs.declared.answer.Rule.TheVariants.{SelfCompletes, RecipesFull, HistoryFull, Watched}
use Rattle.pol_events.specs.declared.answer.Rule.TheVariants.{WatchedStep}
use Rattle.event_json.specs.RuleTable.{rule_row}
use Rattle.event_json.specs.FieldRanges.{are_in_range, is_reading_in_range}
use Rattle.pol_record.specs.Objects.{fields_data, reading_data}
use Rattle.pol_record.specs.Rows.{entry_row, forbid_name, obstacle_row}
use Rattle.pol_record.specs.Texts.{entry_data, obstacle_fields, refusal_fields}
use Rattle.pol_record.specs.Ranges.{is_start_in_range}
use Rattle.pol_entries.specs.Answers.{closed_fields, has}
use Rattle.pol_entries.specs.Candidates.{entry_named, obstacle_named, outcome_named, rule_numbered}
use Rattle.pol_entries.specs.Found.{each_reading, few_readings, forbid_words, found_or, lookup_in, number_at}
use Rattle.pol_entries.specs.Found.{reading_of, text_at, up_to}

-- ---- single values

-- a name
name_again : (bytes : List ℕ) → is_name bytes ≡ true → found_or (codes "-") (name (string bytes)) ≡ bytes
name_again bytes named = rw named refl

-- a number of 32 bits is one of 64 bits
wider : (n : ℕ) → is_between 0 greatest_u32 n ≡ true → is_between 0 greatest_u64 n ≡ true
wider n held =
    let both = and_parts (nat_le 0 n) (nat_le n greatest_u32) held in
    let few : n ≤ greatest_u32 = leb-true n greatest_u32 both.1 in
    let more : nat_le n greatest_u64 ≡ true = le-leb n greatest_u64 (omega (arith, few)) in
    rw (both.0, more) refl

-- a number of 32 bits
pub number_again : (n : ℕ) → is_between 0 greatest_u32 n ≡ true
    → up_to greatest_u32 (found_or 0 (count 0 greatest_u64 (number_data (unsigned n)))) ≡ n
number_again n held = rw (wider n held, (and_parts (nat_le 0 n) (nat_le n greatest_u32) held).1) refl

-- a number of 16 bits
half_again : (n : ℕ) → is_between 0 greatest_u32 n ≡ true → is_between 0 65535 n ≡ true
    → up_to 65535 (up_to greatest_u32 (found_or 0 (count 0 greatest_u64 (number_data (unsigned n))))) ≡ n
half_again n held half =
    ap (up_to 65535) (number_again n held) ∙ (rw ((and_parts (nat_le 0 n) (nat_le n 65535) half).1) refl)

-- a state by its code
state_again : (each : State) →
    unwrap_or (state_of (up_to greatest_u32
    (found_or 0 (count 0 greatest_u64 (number_data (unsigned (state_number each)))))) state_codes) state.Idle ≡ each
state_again state.Stopped = refl
state_again state.Starting = refl
state_again state.Idle = refl
state_again state.Paused = refl
state_again state.Execute = refl
state_again state.Stopping = refl
state_again state.Aborting = refl
state_again state.Aborted = refl
state_again state.Holding = refl
state_again state.Held = refl
state_again state.Unholding = refl
state_again state.Pausing = refl
state_again state.Resuming = refl
state_again state.Resetting = refl
state_again state.Completing = refl
state_again state.Completed = refl

-- a command by its code
command_again : (each : Command) →
    unwrap_or (command_of (up_to greatest_u32
    (found_or 0 (count 0 greatest_u64 (number_data (unsigned (command_number each)))))) command_codes) command.Reset
    ≡ each
command_again command.Reset = refl
command_again command.Start = refl
command_again command.Stop = refl
command_again command.Hold = refl
command_again command.Unhold = refl
command_again command.Pause = refl
command_again command.Resume = refl
command_again command.Abort = refl
command_again command.Restart = refl
command_again command.Complete = refl

-- why a command is forbidden, by its word
pub forbid_again : (each : Forbid) → unwrap_or (meaning_of (forbid_name each) forbid_words) forbid.NotEnabled ≡ each
forbid_again forbid.ModeForbids = refl
forbid_again forbid.SelfCompletes = refl
forbid_again forbid.StateForbids = refl
forbid_again forbid.NotEnabled = refl

-- a reading whose number is in range
reading_again : (reading : Reading) → is_reading_in_range reading ≡ true → reading_of (reading_data reading) ≡ reading
reading_again (Whole z) held = rw (whole_again z, held) refl
reading_again (Bit bit) held = refl

-- each of some readings whose numbers are in range
each_again : (told : List Reading) → list_all is_reading_in_range told ≡ true
    → each_reading (items_of (map reading_data told)) ≡ told
each_again [] held = refl
each_again (reading ∷ others) held =
    let both = and_parts (is_reading_in_range reading) (list_all is_reading_in_range others) held in
    rw (reading_again reading both.0, each_again others both.1) refl

-- readings are as many as a node reads at most, and their numbers have 64 bits
abbrev pub are_held_readings : List Reading → Bool
are_held_readings told = nat_le (length told) MOST_READS && list_all is_reading_in_range told

-- readings
readings_again : (told : List Reading) → are_held_readings told ≡ true
    → few_readings (items_of (map reading_data told)) ≡ told
readings_again told held =
    let both = and_parts (nat_le (length told) MOST_READS) (list_all is_reading_in_range told) held in
    rw (len_again reading_data told, both.0) (each_again told both.1)

-- ---- rows

-- one name in a row
one_name : (bytes : List ℕ) → (is_name bytes && true) ≡ true → found_or (codes "-") (name (string bytes)) ≡ bytes
one_name bytes held = name_again bytes (and_parts (is_name bytes) true held).0

-- two names
two_names : (first second : List ℕ) → (is_name first && (is_name second && true)) ≡ true →
    (found_or (codes "-") (name (string first)) ≡ first) × (found_or (codes "-") (name (string second)) ≡ second)
two_names first second held =
    let both = and_parts (is_name first) (is_name second && true) held in
    (name_again first both.0, one_name second both.1)

-- the object of a rule is a refusal, and its number and its keys tell the rule
pub rule_again : (rule : Rule) → are_in_range (rule_row rule).fields ≡ true →
    (has (codes "refused") (fields_data (refusal_fields rule)) ≡ true)
    × (rule_numbered (number_at (codes "refused") (fields_data (refusal_fields rule)))
    (lookup_in (fields_data (refusal_fields rule))) ≡ Some rule)
rule_again TagTaken held = (refl, refl)
rule_again (NoModule tag) held = (refl, rw (one_name tag held) refl)
rule_again PlantFull held = (refl, refl)
rule_again (Held batch) held = (refl, rw (one_name batch held) refl)
rule_again (InExchange tag ticket) held =
    let first = and_parts _ _ held in
    let second = and_parts _ _ first.1 in
    (refl, rw (name_again tag first.0, number_again ticket second.0) refl)
rule_again NotInExchange held = (refl, refl)
rule_again (WrongTicket kept given) held =
    let first = and_parts _ _ held in
    let second = and_parts _ _ first.1 in
    (refl, rw (number_again kept first.0, number_again given second.0) refl)
rule_again NoService held = (refl, refl)
rule_again (NotAnEdge from to) held =
    (refl, rw (state_again from, state_again to) refl)
rule_again NoVariable held = (refl, refl)
rule_again WrongKind held = (refl, refl)
rule_again RecipeKnown held = (refl, refl)
rule_again NoRecipe held = (refl, refl)
rule_again BatchKnown held = (refl, refl)
rule_again NoBatch held = (refl, refl)
rule_again BatchClosed held = (refl, refl)
rule_again (RoleUnbound role) held = (refl, rw (one_name role held) refl)
rule_again (RoleUnknown role) held = (refl, rw (one_name role held) refl)
rule_again (OneModuleTwice tag) held = (refl, rw (one_name tag held) refl)
rule_again (WrongType role) held = (refl, rw (one_name role held) refl)
rule_again (WrongVersion role) held = (refl, rw (one_name role held) refl)
rule_again (NotCovered missing) held = (refl, rw (one_name missing held) refl)
rule_again (NotReported tag named) held =
    let names = two_names tag named held in (refl, rw (names.0, names.1) refl)
rule_again (NotIdle tag service state) held =
    let first = and_parts _ _ held in
    let second = and_parts _ _ first.1 in
    (refl, rw (name_again tag first.0, name_again service second.0, state_again state) refl)
rule_again (Busy tag batch) held =
    let names = two_names tag batch held in (refl, rw (names.0, names.1) refl)
rule_again BatchesFull held = (refl, refl)
rule_again (NotAtRest service state) held =
    let first = and_parts _ _ held in
    (refl, rw (name_again service first.0, state_again state) refl)
rule_again (ActiveStep batch step) held =
    let names = two_names batch step held in (refl, rw (names.0, names.1) refl)
rule_again (HeldBack batch missing) held =
    let names = two_names batch missing held in (refl, rw (names.0, names.1) refl)
rule_again ModeForbids held = (refl, refl)
rule_again StateForbids held = (refl, refl)
rule_again NotEnabled held = (refl, refl)
rule_again OutOfRange held = (refl, refl)
rule_again NotFrozen held = (refl, refl)
rule_again AlreadyFrozen held = (refl, refl)
rule_again SelfCompletes held = (refl, refl)
rule_again RecipesFull held = (refl, refl)
rule_again HistoryFull held = (refl, refl)
rule_again (Watched batch) held = (refl, rw (one_name batch held) refl)
rule_again (WatchedStep role) held = (refl, rw (one_name role held) refl)

-- three names with whatever stands behind them in a row
three_names : (step tag service : List ℕ) → (rest : Bool) →
    ((is_name step && (is_name tag && (is_name service && true))) && rest) ≡ true →
    (found_or (codes "-") (name (string step)) ≡ step)
    × ((found_or (codes "-") (name (string tag)) ≡ tag)
    × (found_or (codes "-") (name (string service)) ≡ service))
three_names step tag service rest held =
    let row = and_parts _ _ held in
    let first = and_parts _ _ row.0 in
    let others = two_names tag service first.1 in
    (name_again step first.0, others)

-- the name in the object of a log entry and its keys tell the entry
pub entry_again : (each : LogEntry) → (are_in_range (entry_row each).fields && is_start_in_range each) ≡ true →
    entry_named (text_at (codes "do") (entry_data each)) (lookup_in (entry_data each)) ≡ Some each
entry_again (entry.Start step tag service procedure) held =
    let both = and_parts _ _ held in
    let first = and_parts _ _ both.0 in
    let second = and_parts _ _ first.1 in
    let third = and_parts _ _ second.1 in
    let fourth = and_parts _ _ third.1 in
    rw (
      name_again step first.0,
      name_again tag second.0,
      name_again service third.0,
      half_again procedure fourth.0 both.1,
    ) refl
entry_again (entry.Finish step tag service) held =
    let names = three_names step tag service (is_start_in_range (entry.Finish step tag service)) held in
    rw (names.0, names.1.0, names.1.1) refl
entry_again (entry.Reset step tag service) held =
    let names = three_names step tag service (is_start_in_range (entry.Reset step tag service)) held in
    rw (names.0, names.1.0, names.1.1) refl
entry_again (entry.End step) held =
    let both = and_parts _ _ held in
    let first = and_parts _ _ both.0 in
    rw (name_again step first.0) refl
entry_again (entry.Chose node arm values) held =
    let both = and_parts _ _ held in
    let first = and_parts _ _ both.0 in
    let second = and_parts _ _ first.1 in
    let third = and_parts _ _ second.1 in
    rw (number_again node first.0, number_again arm second.0, readings_again values third.0) refl
entry_again (entry.Turn node values) held =
    let both = and_parts _ _ held in
    let first = and_parts _ _ both.0 in
    let second = and_parts _ _ first.1 in
    rw (number_again node first.0, readings_again values second.0) refl
entry_again (entry.Leave node values) held =
    let both = and_parts _ _ held in
    let first = and_parts _ _ both.0 in
    let second = and_parts _ _ first.1 in
    rw (number_again node first.0, readings_again values second.0) refl
entry_again (entry.Stop step tag service) held =
    let names = three_names step tag service (is_start_in_range (entry.Stop step tag service)) held in
    rw (names.0, names.1.0, names.1.1) refl
entry_again (entry.Broke step state) held =
    let both = and_parts _ _ held in
    let first = and_parts _ _ both.0 in
    rw (name_again step first.0, state_again state) refl
entry_again (entry.Left step state) held =
    let both = and_parts _ _ held in
    let first = and_parts _ _ both.0 in
    rw (name_again step first.0, state_again state) refl
entry_again entry.StopAsked held = refl
entry_again (entry.Hold step tag service) held =
    let names = three_names step tag service (is_start_in_range (entry.Hold step tag service)) held in
    rw (names.0, names.1.0, names.1.1) refl
entry_again (entry.Unhold step tag service) held =
    let names = three_names step tag service (is_start_in_range (entry.Unhold step tag service)) held in
    rw (names.0, names.1.0, names.1.1) refl
entry_again (entry.Asked tag service command) held =
    let both = and_parts _ _ held in
    let first = and_parts _ _ both.0 in
    let second = and_parts _ _ first.1 in
    rw (name_again tag first.0, name_again service second.0, command_again command) refl

-- the object of an obstacle is no refusal, and its name and its keys tell the obstacle
pub obstacle_again : (each : Why) → are_in_range (obstacle_row each).fields ≡ true →
    (has (codes "refused") (fields_data (obstacle_fields each)) ≡ false)
    × (has (codes "wait") (fields_data (obstacle_fields each)) ≡ true)
    × (obstacle_named (text_at (codes "wait") (fields_data (obstacle_fields each)))
    (lookup_in (fields_data (obstacle_fields each))) ≡ Some each)
obstacle_again why.Frozen held = (refl, refl, refl)
obstacle_again (why.Away tag) held = (refl, refl, rw (one_name tag held) refl)
obstacle_again (why.NotReported tag named) held =
    let names = two_names tag named held in (refl, refl, rw (names.0, names.1) refl)
obstacle_again (why.InState step state) held =
    let first = and_parts _ _ held in
    (refl, refl, rw (name_again step first.0, state_again state) refl)
obstacle_again (why.Forbidden step by) held =
    let first = and_parts _ _ held in
    (refl, refl, rw (name_again step first.0, forbid_again by) refl)
obstacle_again (why.Unmet step) held = (refl, refl, rw (one_name step held) refl)
obstacle_again (why.NoArm node) held =
    let first = and_parts _ _ held in
    (refl, refl, rw (number_again node first.0) refl)

-- the name in the object of an outcome tells the outcome
pub outcome_again : (each : Outcome)
    → outcome_named (text_at (codes "closed") (fields_data (closed_fields each))) ≡ Some each
outcome_again Completed = refl
outcome_again Broken = refl
outcome_again Stopped = refl
outcome_again Abandoned = refl
