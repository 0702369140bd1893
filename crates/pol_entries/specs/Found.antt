-- What is under the keys of an object, with a stand-in where nothing of the kind is there.
use Rattle.std.specs.Prelude.{ℕ, nat_le, List, [], ◌∷◌, codes, pos, unwrap_or, Bool, Ok, Err, if◌then◌else◌}
use Rattle.serde_json.specs.Data.{Data, Items, no_items, item}
use Rattle.serde_json.specs.Events.{items_len}
use Rattle.mtp_codes.specs.Codes.{state_codes, state_of, command_codes, command_of}
use Rattle.mtp_codes.specs.Numbers.{greatest_i64, greatest_u32, greatest_u64, least_i64}
use Rattle.mtp_codes.specs.declared.command.Command.{Command}
use Rattle.mtp_codes.specs.declared.command.Command.TheVariants.{Reset}
use Rattle.mtp_codes.specs.declared.mode.Forbid.{Forbid}
use Rattle.mtp_codes.specs.declared.mode.Forbid.TheVariants.{ModeForbids, SelfCompletes, StateForbids, NotEnabled}
use Rattle.mtp_codes.specs.declared.state.State.{State}
use Rattle.mtp_codes.specs.declared.state.State.TheVariants.{Idle}
use Rattle.mtp_codes.specs.declared.value.Reading.{Reading}
use Rattle.mtp_codes.specs.declared.value.Reading.TheVariants.{Whole, Bit}
use Rattle.chart_core.specs.declared.limits.TheConstants.{MOST_READS}
use Rattle.mtp_json.specs.Form.{field}
use Rattle.mtp_json.specs.Leaf.{count, items, meaning_of, name, text, truth, whole}
use Rattle.mtp_json.specs.ReadResult.{Finding}
use Rattle.pol_record.specs.Rows.{forbid_name}

-- what was found, or the stand-in for it
abbrev pub found_or : {A : Type 0} → A → Finding A → A
found_or blank (Ok found) = found
found_or blank (Err kind) = blank

-- the text under a key
abbrev pub text_at : List ℕ → Data → List ℕ
text_at key value = found_or [] (field key text value)

-- the name under a key
abbrev pub name_at : List ℕ → Data → List ℕ
name_at key value = found_or (codes "-") (field key name value)

-- a number, if it is no greater than this; else 0
abbrev pub up_to : ℕ → ℕ → ℕ
up_to greatest number = if nat_le number greatest then number else 0

-- the number of 32 bits under a key
abbrev pub number_at : List ℕ → Data → ℕ
number_at key value = up_to greatest_u32 (found_or 0 (field key (count 0 greatest_u64) value))

-- the number of 16 bits under a key
abbrev pub half_at : List ℕ → Data → ℕ
half_at key value = up_to 65535 (number_at key value)

-- the state whose code is under a key
abbrev pub state_at : List ℕ → Data → State
state_at key value = unwrap_or (state_of (number_at key value) state_codes) Idle

-- the command whose code is under a key
abbrev pub command_at : List ℕ → Data → Command
command_at key value = unwrap_or (command_of (number_at key value) command_codes) Reset

-- the words for why a command is forbidden
abbrev pub forbid_words : List (List ℕ × Forbid)
forbid_words =
    (forbid_name ModeForbids, ModeForbids)
    ∷ (forbid_name SelfCompletes, SelfCompletes)
    ∷ (forbid_name StateForbids, StateForbids)
    ∷ (forbid_name NotEnabled, NotEnabled)
    ∷ []

-- why a command is forbidden, by the word under a key
abbrev pub forbid_at : List ℕ → Data → Forbid
forbid_at key value = unwrap_or (meaning_of (text_at key value) forbid_words) NotEnabled

-- a truth value that was found, or none, as a reading; where none was found, a whole number
abbrev pub reading_by : Finding Bool → Data → Reading
reading_by (Ok bit) value = Bit bit
reading_by (Err kind) value = Whole (found_or (pos 0) (whole least_i64 greatest_i64 value))

-- a value as a reading
abbrev pub reading_of : Data → Reading
reading_of value = reading_by (truth value) value

-- each item as a reading
abbrev pub each_reading : Items → List Reading
each_reading no_items = []
each_reading (item value rest) = reading_of value ∷ each_reading rest

-- the items as readings, if they are at most four; else none
abbrev pub few_readings : Items → List Reading
few_readings values = if nat_le (items_len values) MOST_READS then each_reading values else []

-- the readings under a key
abbrev pub readings_at : List ℕ → Data → List Reading
readings_at key value = few_readings (found_or no_items (field key items value))

-- what is under each key, read as each kind of value
pub record Lookup : Type 0 where
  pub name : List ℕ → List ℕ
  pub number : List ℕ → ℕ
  pub half : List ℕ → ℕ
  pub state : List ℕ → State
  pub command : List ℕ → Command
  pub forbid : List ℕ → Forbid
  pub readings : List ℕ → List Reading

-- what is under each key of an object
abbrev pub lookup_in : Data → Lookup
lookup_in value =
    record {
      name = λ key. name_at key value;
      number = λ key. number_at key value;
      half = λ key. half_at key value;
      state = λ key. state_at key value;
      command = λ key. command_at key value;
      forbid = λ key. forbid_at key value;
      readings = λ key. readings_at key value;
    }
