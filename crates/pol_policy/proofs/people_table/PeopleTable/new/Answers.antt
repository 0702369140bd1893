use Rattle.std.proofs.Common.{◌∙◌, sym, not}
use Rattle.pol_policy.proofs.Passing.{passes_map}
use Rattle.pol_policy.proofs.Tabled.{who_is}
use Rattle.pol_policy.proofs.people_table.PeopleTable.new.Goals as goal

pub returns : goal.returns
returns g c = record {
  who = who_is g.R.Rule.plain g.R.Rule.people c.args.groups.now c.args.rules.now c.in_ok-who.who
      c.give_to_members.new.index c.in_ok-who.ensures c.in_ok-give_to_members.ensures;
  allowing = λ place. c.places_where.ensures place
      ∙ sym (passes_map g.R.Rule.plain g.R.Rule.allows c.args.rules.now place);
  denying = λ place. c.places_where-2.ensures place
      ∙ sym (passes_map g.R.Rule.plain (λ rule. not (g.R.Rule.allows rule)) c.args.rules.now place);
}
