-- An exchange begins, or a rule is against it.
use Rattle.std.proofs.Common.{◌∙◌, sym}
use Rattle.pol_core.proofs.Away.{begin_answered, begin_refused}
use Rattle.pol_core.proofs.exchanges.exchange_begin.Goals as goal

pub returns-in-Some : goal.returns-in-Some
returns-in-Some c = record {
  answered = λ history at seats counted batches room.
      begin_refused history at c.args.tag c.args.modules.now c.in-Some.rule room seats counted
      (sym (c.begin_rule.ensures.rule history at seats batches) ∙ c.in-Some.is);
}

pub returns : goal.returns
returns c = record {
  answered =
      λ history at seats counted batches room.
      let docked = c.begin_rule.ensures.docked c.in_default.is in
      begin_answered history at c.args.tag c.send_away.result docked.slot c.args.modules.now
      c.send_away.new.modules seats counted room
      docked.found docked.docked (sym (c.begin_rule.ensures.rule history at seats batches) ∙ c.in_default.is)
      (c.send_away.ensures docked.slot docked.found);
}

pub send_away-requires-clause-docked : goal.send_away-requires-clause-docked
send_away-requires-clause-docked c = c.begin_rule.ensures.docked c.in_default.is
