-- What the table of the rules of lines finds, against the rules.
use Rattle.std.proofs.Common.{ℕ, ◌≡◌, ◌&&◌, List, Option, Some, None, sym}
use Rattle.event_json.specs.declared.kind.EventKind.{EventKind}
use Rattle.pol_policy.specs.Allowing.{lists}
use Rattle.pol_policy.specs.Places.{has, passes_at}
use Rattle.pol_policy.specs.Policies.{PlainGroup}
use Rattle.pol_policy.proofs.Passing.{passes_both}
use Rattle.pol_rights.specs.Rules.{PlainLineRule}
use Rattle.pol_rights.specs.Tables.{IsLineTableOf, has_giver, places_of_kind}
use Rattle.pol_rights.specs.Verdicts.{admits_giver, matches_line, same_kind}
use Rattle.pol_rights.specs.declared.line_table.LineTable.{LineTable}

-- the places by whoever gives a line are those of the rules whose people have them
giver_matches : (groups : List PlainGroup) (rules : List PlainLineRule) (table : LineTable)
    → IsLineTableOf groups rules table → (by : Option (List ℕ)) (place : ℕ)
    → has_giver table by place ≡ passes_at (λ rule. admits_giver groups by rule.who) rules place
giver_matches groups rules table made (Some person) place = made.people.who person place
giver_matches groups rules table made None place = made.unnamed place

-- the places at which the tables agree are those of the rules that match
pub line_matches : (groups : List PlainGroup) (rules : List PlainLineRule) (table : LineTable)
    → IsLineTableOf groups rules table → (by : Option (List ℕ)) (kind : EventKind) (place : ℕ)
    → (has_giver table by place && has (places_of_kind table.kinds kind) place)
    ≡ passes_at (matches_line groups by kind) rules place
line_matches groups rules table made by kind place =
    rw (giver_matches groups rules table made by place, made.kinds kind place)
    (sym (passes_both (λ rule. admits_giver groups by rule.who) (λ rule. lists same_kind rule.kinds kind) rules place))
