-- What is written of an event token by token is its text, and it is read as the event.
use Rattle.std.proofs.Common.{◌≡◌, ◌&&◌, ◌<◌, ◌≤◌, ◌^◌, ℕ, pos, negsuc, List, [], ◌∷◌, ◌++◌, Some, true, codes, decimal, append_assoc, append-nil, refl, sym, ap, subst, ◌∙◌, arith}
use Rattle.std.proofs.lemmas.Bool.{and_parts}
use Rattle.std.proofs.lemmas.Grind.{common_steps}
use Rattle.std.specs.Str.{IsUtf8}
use Rattle.json.specs.Print.{IsNumber, print, print_from}
use Rattle.json.specs.Token as token
use Rattle.json.specs.Token.{Token}
use Rattle.json.specs.Tree.{HasNumbers, depth, json_tokens}
use Rattle.json.proofs.Printed.Decimals.{IsNumber-decimal, IsNumber-signed_decimal}
use Rattle.serde_json.specs.Data.{Data, unsigned}
use Rattle.serde_json.specs.Read.{number_of, of_json, read}
use Rattle.serde_json.specs.Written.{compact_text, outline}
use Rattle.serde_json.proofs.Numbers.{number_of-decimal, number_of-negative}
use Rattle.serde_json.proofs.Texts.{print-outline}
use Rattle.mtp_assembly.specs.declared.control.ServiceControl.{ServiceControl}
use Rattle.mtp_codes.specs.Codes.{command_number, state_number}
use Rattle.mtp_codes.specs.Names.{is_name}
use Rattle.mtp_codes.specs.Numbers.{greatest_u32, greatest_u64, is_between}
use Rattle.mtp_codes.specs.declared.command.Command.{Command}
use Rattle.mtp_codes.specs.declared.command.Command.TheVariants as command
use Rattle.mtp_codes.specs.declared.state.State.{State}
use Rattle.mtp_codes.specs.declared.state.State.TheVariants as state
use Rattle.mtp_codes.specs.declared.value.Value.{Value}
use Rattle.mtp_codes.specs.declared.value.Value.TheVariants as scalar
use Rattle.mtp_json.specs.Written.{is_scalar, scalar_data}
use Rattle.pol_events.specs.Events.{PlainEvent, advance, desk, plain_event, report, variable}
use Rattle.pol_events.specs.Orderly.{is_orderly}
use Rattle.pol_events.specs.declared.event.Event.{Event}
use Rattle.event_json.specs.Ranges.{is_control_in_range, is_in_range, is_stamped}
use Rattle.event_json.specs.Written.{mode_word, origin_word, written_batch, written_desk, written_event, written_report, written_variable}
use Rattle.event_json.proofs.Again.{event_again, line_again}
use Rattle.pol_lines.proofs.Printed.{begins_all}
use Rattle.pol_record.specs.Objects.{data_tokens}
use Rattle.pol_record.specs.Texts.{event_text}
use Rattle.pol_store.specs.Written.{IsReadBack, IsTold, control_tokens}

-- ---- pieces behind one another are the tokens of the whole

-- a key with a whole number
abbrev numbered : List ℕ → ℕ → List Token
numbered key number = token.key key ∷ token.number (decimal number) ∷ []

-- a key with a text
abbrev named : List ℕ → List ℕ → List Token
named key text = token.key key ∷ token.string text ∷ []

-- the five fields of what a service reports
pub control_pieces : (t0 t1 t2 t3 t4 t5 : List Token) (control : ServiceControl) (mode source : List ℕ) (code : ℕ) →
    mode ≡ mode_word control.mode → source ≡ origin_word control.origin → code ≡ state_number control.state →
    t1 ≡ t0 ++ numbered (codes "CommandEn") control.mask → t2 ≡ t1 ++ named (codes "Mode") mode →
    t3 ≡ t2 ++ numbered (codes "ProcedureCur") control.procedure → t4 ≡ t3 ++ named (codes "Src") source →
    t5 ≡ t4 ++ numbered (codes "StateCur") code → t5 ≡ t0 ++ control_tokens control
control_pieces t0 t1 t2 t3 t4 t5 control mode source code mode_is source_is code_is e1 e2 e3 e4 e5 =
    rw (e5, e4, e3, e2, e1, mode_is, source_is, code_is) (simp append_assoc refl)

-- a report
pub report_pieces : (t0 t1 t2 t3 t4 t5 t6 t7 : List Token) (at : ℕ) (tag service : List ℕ) (control : ServiceControl)
    (tag_text service_text : List ℕ) → tag_text ≡ tag → service_text ≡ service →
    t1 ≡ t0 ++ token.begin_object ∷ [] → t2 ≡ t1 ++ control_tokens control → t3 ≡ t2 ++ numbered (codes "at") at →
    t4 ≡ t3 ++ named (codes "ev") (codes "report") → t5 ≡ t4 ++ named (codes "service") service_text →
    t6 ≡ t5 ++ named (codes "tag") tag_text → t7 ≡ t6 ++ token.end_object ∷ [] →
    t7 ≡ t0 ++ data_tokens (written_report at tag service control)
unfolding written_report
report_pieces t0 t1 t2 t3 t4 t5 t6 t7 at tag service control tag_text service_text tag_is service_is
    e1 e2 e3 e4 e5 e6 e7 =
    rw (e7, e6, e5, e4, e3, e2, e1, tag_is, service_is) (simp append_assoc refl)

-- a variable's value
pub variable_pieces : (t0 t1 t2 t3 t4 t5 t6 t7 t8 : List Token) (at : ℕ) (tag name : List ℕ) (value : Data)
    (tag_text name_text : List ℕ) → tag_text ≡ tag → name_text ≡ name →
    t1 ≡ t0 ++ token.begin_object ∷ [] → t2 ≡ t1 ++ numbered (codes "at") at →
    t3 ≡ t2 ++ named (codes "ev") (codes "variable") → t4 ≡ t3 ++ named (codes "name") name_text →
    t5 ≡ t4 ++ named (codes "tag") tag_text → t6 ≡ t5 ++ token.key (codes "value") ∷ [] →
    t7 ≡ t6 ++ data_tokens value → t8 ≡ t7 ++ token.end_object ∷ [] →
    t8 ≡ t0 ++ data_tokens (written_variable at tag name value)
unfolding written_variable
variable_pieces t0 t1 t2 t3 t4 t5 t6 t7 t8 at tag name value tag_text name_text tag_is name_is
    e1 e2 e3 e4 e5 e6 e7 e8 =
    rw (e8, e7, e6, e5, e4, e3, e2, e1, tag_is, name_is) (simp append_assoc refl)

-- an advance
pub advance_written : (old : List Token) (at : ℕ) (batch : List ℕ) →
    ((((old ++ token.begin_object ∷ []) ++ numbered (codes "at") at) ++ named (codes "batch") batch)
    ++ named (codes "ev") (codes "advance"))
    ++ token.end_object
    ∷ []
    ≡ old ++ data_tokens (written_batch (codes "advance") at batch)
unfolding written_batch
advance_written old at batch = simp append_assoc refl

-- an operator's command
pub desk_pieces : (t0 t1 t2 t3 t4 t5 t6 t7 : List Token) (at : ℕ) (tag service : List ℕ) (order : Command)
    (tag_text service_text : List ℕ) (code : ℕ) → tag_text ≡ tag → service_text ≡ service →
    code ≡ command_number order →
    t1 ≡ t0 ++ token.begin_object ∷ [] → t2 ≡ t1 ++ numbered (codes "CommandOp") code →
    t3 ≡ t2 ++ numbered (codes "at") at → t4 ≡ t3 ++ named (codes "ev") (codes "desk") →
    t5 ≡ t4 ++ named (codes "service") service_text → t6 ≡ t5 ++ named (codes "tag") tag_text →
    t7 ≡ t6 ++ token.end_object ∷ [] → t7 ≡ t0 ++ data_tokens (written_desk at tag service order)
unfolding written_desk
desk_pieces t0 t1 t2 t3 t4 t5 t6 t7 at tag service order tag_text service_text code tag_is service_is code_is
    e1 e2 e3 e4 e5 e6 e7 =
    rw (e7, e6, e5, e4, e3, e2, e1, tag_is, service_is, code_is) (simp append_assoc refl)

-- ---- what JSON writes of such a value is read as the value

-- its numbers are numbers, it nests no deeper than a line may, and its tree means the value
pub record IsReadable (value : Data) : Type 0 where
  pub numbers : HasNumbers (outline value)
  pub shallow : depth (outline value) ≤ 127
  pub means : of_json (outline value) ≡ Some value

-- so its text is read as the value
readable : (value : Data) → IsReadable value → read (compact_text value) ≡ Some value
readable value is =
    begins_all 127 (compact_text value) value (omega arith) (record {
      tree = outline value;
      piece = sym (append-nil (print (json_tokens (outline value))) ∙ print-outline value);
      numbers = is.numbers;
      shallow = is.shallow;
      means = is.means;
    })

-- a number that fits is written as one, and read again
fits : (number : ℕ) → number < 2 ^ 64 →
    IsNumber (decimal number) × (number_of (decimal number) ≡ Some (unsigned number))
fits number small = (IsNumber-decimal number small, number_of-decimal number small)

-- the number of a state fits
state_fits : (one : State) → state_number one < 2 ^ 64
state_fits state.Stopped = omega arith
state_fits state.Starting = omega arith
state_fits state.Idle = omega arith
state_fits state.Paused = omega arith
state_fits state.Execute = omega arith
state_fits state.Stopping = omega arith
state_fits state.Aborting = omega arith
state_fits state.Aborted = omega arith
state_fits state.Holding = omega arith
state_fits state.Held = omega arith
state_fits state.Unholding = omega arith
state_fits state.Pausing = omega arith
state_fits state.Resuming = omega arith
state_fits state.Resetting = omega arith
state_fits state.Completing = omega arith
state_fits state.Completed = omega arith

-- that of a command too
command_fits : (order : Command) → command_number order < 2 ^ 64
command_fits command.Reset = omega arith
command_fits command.Start = omega arith
command_fits command.Stop = omega arith
command_fits command.Hold = omega arith
command_fits command.Unhold = omega arith
command_fits command.Pause = omega arith
command_fits command.Resume = omega arith
command_fits command.Abort = omega arith
command_fits command.Restart = omega arith
command_fits command.Complete = omega arith

-- so does a stamp
stamp_fits : (at : ℕ) (named : List ℕ) → is_stamped at named ≡ true → at < 2 ^ 64
stamp_fits at named held =
    let parts = and_parts (is_between 0 greatest_u64 at) (is_name named) held in grind (arith, common_steps, parts.0)

-- a report
report_readable : (at : ℕ) (tag service : List ℕ) (control : ServiceControl) →
    is_in_range (report at tag service control) ≡ true → IsReadable (written_report at tag service control)
unfolding written_report
report_readable at tag service control held =
    let parts = and_parts (is_stamped at tag) (is_name service && is_control_in_range control) held in
    let ranged = and_parts (is_name service) (is_control_in_range control) parts.1 in
    let of_control = and_parts (is_between 0 greatest_u32 control.mask) (is_between 0 65535 control.procedure)
    ranged.1 in
    let stamp = fits at (stamp_fits at tag parts.0) in
    let mask = fits control.mask (grind (arith, common_steps, of_control.0)) in
    let procedure = fits control.procedure (grind (arith, common_steps, of_control.1)) in
    let code = fits (state_number control.state) (state_fits control.state) in
    record {
      numbers = (mask.0, (tt, (procedure.0, (tt, (code.0, (stamp.0, (tt, (tt, (tt, tt)))))))));
      shallow = omega arith;
      means = rw (mask.1, procedure.1, code.1, stamp.1) refl;
    }

-- a value of a variable, as JSON
scalar_readable : (one : Value) → is_scalar one ≡ true → IsReadable (scalar_data one)
scalar_readable (scalar.Whole (pos n)) held =
    let number = fits n (grind (arith, common_steps, held)) in
    record { numbers = number.0; shallow = omega arith; means = rw number.1 refl }
scalar_readable (scalar.Whole (negsuc n)) held = record {
  numbers = IsNumber-signed_decimal (negsuc n) (grind (arith, common_steps, held));
  shallow = omega arith;
  means = rw (number_of-negative n (grind (arith, common_steps, held))) refl;
}
scalar_readable (scalar.Bit bit) held = record { numbers = tt; shallow = omega arith; means = refl }
scalar_readable (scalar.Text bytes) held = record { numbers = tt; shallow = omega arith; means = refl }

-- a value of a variable holds no other
scalar_flat : (one : Value) → depth (outline (scalar_data one)) ≡ 0
scalar_flat (scalar.Whole z) = refl
scalar_flat (scalar.Bit bit) = refl
scalar_flat (scalar.Text bytes) = refl

-- a variable's value
variable_readable : (at : ℕ) (tag name : List ℕ) (value : Value) → is_in_range (variable at tag name value) ≡ true →
    IsReadable (written_variable at tag name (scalar_data value))
unfolding written_variable
variable_readable at tag name value held =
    let parts = and_parts (is_stamped at tag) (is_name name && is_scalar value) held in
    let ranged = and_parts (is_name name) (is_scalar value) parts.1 in
    let stamp = fits at (stamp_fits at tag parts.0) in
    let held_value = scalar_readable value ranged.1 in
    record {
      numbers = (stamp.0, (tt, (tt, (tt, (held_value.numbers, tt)))));
      shallow = omega (arith, scalar_flat value);
      means = rw (stamp.1, held_value.means) refl;
    }

-- an advance
advance_readable : (at : ℕ) (batch : List ℕ) → is_in_range (advance at batch) ≡ true →
    IsReadable (written_batch (codes "advance") at batch)
unfolding written_batch
advance_readable at batch held =
    let stamp = fits at (stamp_fits at batch held) in
    record { numbers = (stamp.0, (tt, (tt, tt))); shallow = omega arith; means = rw stamp.1 refl }

-- an operator's command
desk_readable : (at : ℕ) (tag service : List ℕ) (order : Command) → is_in_range (desk at tag service order) ≡ true →
    IsReadable (written_desk at tag service order)
unfolding written_desk
desk_readable at tag service order held =
    let parts = and_parts (is_stamped at tag) (is_name service) held in
    let stamp = fits at (stamp_fits at tag parts.0) in
    let code = fits (command_number order) (command_fits order) in
    record {
      numbers = (code.0, (stamp.0, (tt, (tt, (tt, tt)))));
      shallow = omega arith;
      means = rw (code.1, stamp.1) refl;
    }

-- ---- so the events are told by their texts

-- a report
pub report_told : (at : ℕ) (tag service : List ℕ) (control : ServiceControl) →
    is_in_range (report at tag service control) ≡ true → IsTold (report at tag service control)
report_told at tag service control held = record {
  held = held;
  read_back = readable (written_report at tag service control) (report_readable at tag service control held);
}

-- a variable's value
pub variable_told : (at : ℕ) (tag name : List ℕ) (value : Value) → is_in_range (variable at tag name value) ≡ true →
    IsTold (variable at tag name value)
variable_told at tag name value held = record {
  held = held;
  read_back = readable (written_variable at tag name (scalar_data value)) (variable_readable at tag name value held);
}

-- an advance
pub advance_told : (at : ℕ) (batch : List ℕ) → is_in_range (advance at batch) ≡ true → IsTold (advance at batch)
advance_told at batch held = record {
  held = held;
  read_back = readable (written_batch (codes "advance") at batch) (advance_readable at batch held);
}

-- an operator's command
pub desk_told : (at : ℕ) (tag service : List ℕ) (order : Command) → is_in_range (desk at tag service order) ≡ true →
    IsTold (desk at tag service order)
desk_told at tag service order held = record {
  held = held;
  read_back = readable (written_desk at tag service order) (desk_readable at tag service order held);
}

-- what a writer printed behind a front part is the front part and the text of the event
pub text_behind : (front : List ℕ) (event : PlainEvent) (tokens : List Token) →
    tokens ≡ data_tokens (written_event event) → front ++ print tokens ≡ front ++ event_text event
text_behind front event tokens is = ap (λ text. front ++ text) (ap print is ∙ print-outline (written_event event))

-- where a writer wrote nothing, a text is put behind the front part
pub tree_behind : (front : List ℕ) (event : PlainEvent) (tokens : List Token) → tokens ≡ [] →
    (front ++ print tokens) ++ event_text event ≡ front ++ event_text event
unfolding print_from
tree_behind front event tokens none = rw none (ap (λ held. held ++ event_text event) (append-nil front))

-- an event whose text is UTF-8 and tells it is read back
pub told_again : (event : Event) (tokens : List Token) → is_orderly (plain_event event) ≡ true →
    tokens ≡ data_tokens (written_event (plain_event event)) → IsUtf8 (print tokens) →
    IsTold (plain_event event) → IsReadBack (plain_event event)
told_again event tokens orderly is utf8 told =
    line_again (event_text (plain_event event)) (written_event (plain_event event)) (plain_event event)
    (subst IsUtf8 (ap print is ∙ print-outline (written_event (plain_event event))) utf8) told.read_back
    (event_again event told.held orderly) orderly
