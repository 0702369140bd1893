use Rattle.std.proofs.Common.{◌≡◌, drop, map}
use Rattle.site_json.specs.Ruled.{each_ruled}
use Rattle.site_json.proofs.rules.ask_each.Given as goal

abbrev pub invariant-loop-place : goal.invariant-loop-place
invariant-loop-place g l =
    each_ruled (g.T.OwnRule.rule l.rule) l.place (map g.T.OwnRule.plain (drop l.place l.items))
    ≡ each_ruled (g.T.OwnRule.rule l.rule) 0 (map g.T.OwnRule.plain l.items)
