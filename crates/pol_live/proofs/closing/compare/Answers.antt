use Rattle.std.proofs.Common.{rules, ◌<◌, ◌≤◌, ◌∙◌, length, sym}
use Rattle.std.proofs.lemmas.Bool.Decides.{not_from_Decides}
use Rattle.pol_live.proofs.Compared.{least_then, part_then, part_whole, strays_at}
use Rattle.pol_live.proofs.closing.compare.Goals as goal

pub returns-then-not-is_kept-clause-err : goal.returns-then-not-is_kept-clause-err
returns-then-not-is_kept-clause-err c =
    let within : c.loop-placed.placed-index < length c.args.list.now = search rules in
    let pair = c.placed-item.result in
    strays_at c.args.ran.now.by.items c.args.ran.now.history.items c.args.actor c.loop-placed.least
    c.loop-placed.placed-index c.args.list.now pair pair c.kept_at-kept.result within c.placed-item.is
    c.loop-placed.invariant.0 c.kept_at-kept.ensures (not_from_Decides _ c.is_kept.ensures c.if-not-is_kept.true)
    c.loop-placed.invariant.1

pub loop-placed-preserved : goal.loop-placed-preserved
loop-placed-preserved c =
    let within : c.loop-placed.placed-index < length c.args.list.now = search rules in
    let pair = c.placed-item.result in (
      least_then c.loop-placed.placed-index c.args.list.now pair pair within c.placed-item.is,
      part_then c.args.ran.now.by.items c.args.ran.now.history.items c.args.actor c.loop-placed.least
          c.loop-placed.placed-index c.args.list.now pair pair within c.placed-item.is
          (sym c.kept_at-kept.ensures ∙ c.is_kept.ensures.0 c.if-not-is_kept.false) c.loop-placed.invariant.1,
    )

pub returns-clause-ok : goal.returns-clause-ok
returns-clause-ok c =
    let all : length c.args.list.now ≤ c.loop-placed.placed-index = search rules in
    part_whole c.args.ran.now.by.items c.args.ran.now.history.items c.args.actor c.loop-placed.least
    c.loop-placed.placed-index c.args.list.now all c.loop-placed.invariant.1
