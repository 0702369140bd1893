-- The lines of a plant that is operated which no journal has.
use Rattle.std.specs.Prelude.{ℕ, List, [], ◌∷◌, length, true, codes, Option, Some, None}
use Rattle.std.specs.Option.{unwrap_or}
use Rattle.hex.specs.Hex.{encode_lower}
use Rattle.json.specs.Token as token
use Rattle.json.specs.Token.{Token}
use Rattle.serde_json.specs.Data.{Data, boolean, number, unsigned, string, object, Members, member, no_members}
use Rattle.mtp_codes.specs.declared.value.Setting.{Setting}
use Rattle.chart_core.specs.declared.entry.LogEntry.TheVariants.{Start}
use Rattle.chart_json.specs.Written.{written_settings}
use Rattle.pol_core.specs.Calls.{settings_of}
use Rattle.pol_events.specs.Events.{PlainEvent, advance}
use Rattle.pol_events.specs.declared.answer.Answer.{Answer}
use Rattle.pol_events.specs.declared.answer.Answer.TheVariants.{Did}
use Rattle.pol_events.specs.declared.answer.Rule.{Rule}
use Rattle.pol_history.specs.Looking.{History}
use Rattle.pol_record.specs.Objects.{data_tokens}
use Rattle.pol_record.specs.Texts.{answer_data, entry_data, line_text}
use Rattle.pol_overview.specs.Near.{near_limits, rules_data}
use Rattle.pol_ledger.specs.Items.{PlainAsked, sum_of}
use Rattle.pol_ledger.specs.Work.{BegunLedger, history_of, items_of}

-- ---- an answer that starts a step has its settings

-- the batch that an event has go on, if it is an advance
abbrev pub advanced_by : PlainEvent → Option (List ℕ)
advanced_by (advance at batch) = Some batch
advanced_by event = None

-- the settings that are written with an answer: where a batch went on and started a step, those of that step
abbrev pub settings_told : History → Option (List ℕ) → Answer → List Setting
settings_told history (Some batch) (Did (Start step tag service procedure)) =
    unwrap_or (settings_of history batch step) []
settings_told history batch answer = []

-- what was done, and the settings with which it was
unfoldable pub did_object : Data → Data → Data
did_object entry settings = object (member (codes "did") entry (member (codes "settings") settings no_members))

-- an answer with these settings; where there are none, as in a journal's replay
abbrev pub told_data : List Setting → Answer → Data
told_data (first ∷ others) (Did entry) = did_object (entry_data entry) (written_settings (first ∷ others))
told_data settings answer = answer_data answer

-- the line of an answer with these settings
abbrev pub told_text : List Setting → Answer → List ℕ
told_text settings answer = line_text (told_data settings answer)

-- ---- the file is open, and the end

-- what was asked for so far of a ledger
abbrev pub so_far_in : Option BegunLedger → List PlainAsked
so_far_in None = []
so_far_in (Some ledger) = ledger.so_far

-- the history of a ledger's plant
abbrev pub history_in : Option BegunLedger → History
history_in ledger = history_of (so_far_in ledger)

-- the sum of the last record, in hex
abbrev pub sum_text : Option BegunLedger → List ℕ
sum_text ledger = encode_lower (sum_of (items_of ledger))

-- what the header says; nothing where there is none
abbrev pub begun_text : Option BegunLedger → List ℕ
begun_text None = []
begun_text (Some ledger) = ledger.build

-- members, and the rules whose limits are near in front of them, where there are such
abbrev pub near_member : List Rule → Members → Members
near_member [] others = others
near_member (first ∷ rules) others = member (codes "near") (rules_data (first ∷ rules)) others

-- the tokens of these rules, where there are such
abbrev pub near_tokens : List Rule → List Token
near_tokens [] = []
near_tokens (first ∷ rules) = token.key (codes "near") ∷ data_tokens (rules_data (first ∷ rules))

-- the object that says how many events are kept, which limits are near, and the sum of the last record
unfoldable pub kept_object : ℕ → List Rule → List ℕ → Data
kept_object count near sum =
    object (member (codes "kept") (number (unsigned count))
    (near_member near (member (codes "sum") (string sum) no_members)))

-- the line that answers the policy
abbrev pub kept_text : Option BegunLedger → List ℕ
kept_text ledger =
    line_text (kept_object (length (so_far_in ledger)) (near_limits (history_in ledger)) (sum_text ledger))

-- the end, where the last record has this sum
unfoldable pub end_object : List ℕ → Data
end_object sum = object (member (codes "end") (boolean true) (member (codes "sum") (string sum) no_members))

-- the last line
abbrev pub sealed_text : Option BegunLedger → List ℕ
sealed_text ledger = line_text (end_object (sum_text ledger))
