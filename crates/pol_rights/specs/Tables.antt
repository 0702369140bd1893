-- What the table of the rules of lines keeps.
use Rattle.std.specs.Prelude.{ℕ, Bool, List, Option, Some, None, is_none}
use Rattle.event_json.specs.declared.kind.EventKind.{EventKind}
use Rattle.event_json.specs.declared.kind.EventKind.TheVariants.{Plug, Unplug, Report, Variable, Recipe, Start, Advance}
use Rattle.event_json.specs.declared.kind.EventKind.TheVariants.{Freeze, Thaw, Stop, Abandon, Desk, ExchangeBegin}
use Rattle.event_json.specs.declared.kind.EventKind.TheVariants.{ExchangeEnd, ExchangeCancel}
use Rattle.pol_policy.specs.Allowing.{lists}
use Rattle.pol_policy.specs.Places.{IsPlacesOf, has}
use Rattle.pol_policy.specs.Policies.{PlainGroup}
use Rattle.pol_policy.specs.Tables.{IsPeopleOf, is_for}
use Rattle.pol_policy.specs.declared.place_set.PlaceSet.{PlaceSet}
use Rattle.pol_rights.specs.Rules.{PlainLineRule}
use Rattle.pol_rights.specs.Verdicts.{same_kind}
use Rattle.pol_rights.specs.declared.kind_index.KindIndex.{KindIndex}
use Rattle.pol_rights.specs.declared.line_table.LineTable.{LineTable}

-- the places of a kind
abbrev pub places_of_kind : KindIndex → EventKind → PlaceSet
places_of_kind index Plug = index.plug
places_of_kind index Unplug = index.unplug
places_of_kind index Report = index.report
places_of_kind index Variable = index.variable
places_of_kind index Recipe = index.recipe
places_of_kind index Start = index.start
places_of_kind index Advance = index.advance
places_of_kind index Freeze = index.freeze
places_of_kind index Thaw = index.thaw
places_of_kind index Stop = index.stop
places_of_kind index Abandon = index.abandon
places_of_kind index Desk = index.desk
places_of_kind index ExchangeBegin = index.exchange_begin
places_of_kind index ExchangeEnd = index.exchange_end
places_of_kind index ExchangeCancel = index.exchange_cancel

-- the place is of a rule that matches by whoever gives a line
abbrev pub has_giver : LineTable → Option (List ℕ) → ℕ → Bool
has_giver table (Some person) place = is_for table.people person place
has_giver table None place = has table.unnamed place

-- the table has the places of the rules that match by whoever gives a line, and by the line's kind
pub record IsLineTableOf (groups : List PlainGroup) (rules : List PlainLineRule) (table : LineTable) : Type 0 where
  pub people : IsPeopleOf (λ rule. rule.allow) (λ rule. rule.who) groups rules table.people
  pub unnamed : IsPlacesOf (λ rule. is_none rule.who) rules table.unnamed
  pub kinds : (kind : EventKind) →
      IsPlacesOf (λ rule. lists same_kind rule.kinds kind) rules (places_of_kind table.kinds kind)
