-- The form of a plant's policy: what a line says, or its first fault in reading order.
use Rattle.std.specs.Prelude.{ℕ, Bool, false, List, Option, Some, None, codes, Ok, Err, if◌then◌else◌}
use Rattle.serde_json.specs.Data.{Data}
use Rattle.mtp_codes.specs.Names.{same_name}
use Rattle.mtp_codes.specs.Repeats.{repeats_by}
use Rattle.mtp_json.specs.Form.{required, list_if_there, object_here, nothing_but, refused_if}
use Rattle.mtp_json.specs.Leaf.{name, truth, word}
use Rattle.mtp_json.specs.Parse.{json_of}
use Rattle.mtp_json.specs.ReadResult.{Finding, ReadResult, ◌>>=◌, here, under}
use Rattle.mtp_json.specs.declared.fault.FaultKind.TheVariants.{OutOfRange, Repeated}
use Rattle.event_json.specs.declared.kind.EventKind.{EventKind}
use Rattle.event_json.specs.Guarded.{is_desk_kind}
use Rattle.event_json.specs.Words.{kind_words}
use Rattle.named_lines.specs.Without.{without}
use Rattle.pol_policy.specs.Form.{name_of, policy_in}
use Rattle.pol_policy.specs.declared.limits.TheConstants.{MOST_LISTED, MOST_RULES}
use Rattle.pol_rights.specs.Rules.{PlainLineRule, PlainPlantPolicy}
use Rattle.pol_rights.specs.declared.limits.TheConstants.{MOST_KINDS}

-- a kind of line that was found, where it isn't that of a command of the desk
abbrev pub unless_desk : Finding EventKind → Finding EventKind
unless_desk (Ok kind) = if is_desk_kind kind then Err OutOfRange else Ok kind
unless_desk (Err fault) = Err fault

-- an item that is a word of `ev` other than `desk`
abbrev pub kind_of : Data → ReadResult EventKind
kind_of value = here (unless_desk (word kind_words value))

-- a rule of lines: each of its lists may be absent
unfoldable pub line_rule_of : Data → ReadResult PlainLineRule
line_rule_of value =
    object_here value >>= λ _.
    required (codes "name") name value >>= λ named.
    required (codes "allow") truth value >>= λ allow.
    list_if_there (codes "who") 1 MOST_LISTED name_of value >>= λ who.
    list_if_there (codes "kinds") 1 MOST_KINDS kind_of value >>= λ kinds.
    nothing_but (codes "name allow who kinds") value >>= λ _.
    Ok (record { name = named; allow = allow; who = who; kinds = kinds })

-- two rules of lines of one name
abbrev pub same_line_rule : PlainLineRule → PlainLineRule → Bool
same_line_rule rule other = same_name rule.name other.name

-- two of the rules, if there are any, are of one name
abbrev pub repeats_a_rule : Option (List PlainLineRule) → Bool
repeats_a_rule None = false
repeats_a_rule (Some rules) = repeats_by same_line_rule rules

-- the rules of lines, if they are there: that none is named twice is asked when all of them were read
unfoldable pub lines_in : Data → ReadResult (Option (List PlainLineRule))
lines_in value =
    list_if_there (codes "lines") 0 MOST_RULES line_rule_of value >>= λ rules.
    under (codes "lines") (refused_if (repeats_a_rule rules) Repeated) >>= λ _.
    Ok rules

-- the policy of a plant: without its rules of lines it is read as a policy of the job guard, and then these are read
unfoldable pub plant_policy_in : Data → ReadResult PlainPlantPolicy
plant_policy_in value =
    policy_in (without (codes "lines") value) >>= λ commands.
    lines_in value >>= λ lines.
    Ok (record { commands = commands; lines = lines })

-- the policy of a plant that a line says, or its first fault
unfoldable pub plant_policy_on : List ℕ → ReadResult PlainPlantPolicy
plant_policy_on line = here (json_of line) >>= plant_policy_in
