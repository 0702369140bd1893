use Rattle.std.proofs.Common.{subst}
use Rattle.pol_kept.specs.Names.{Names}
use Rattle.pol_kept.proofs.Replays.{neither_broken, unnamed_broken}
use Rattle.pol_kept.proofs.records.next_record.Goals as goal

pub returns-in-Neither-clause-is : goal.returns-in-Neither-clause-is
returns-in-Neither-clause-is g c =
    let ch = g.C.Chronicle in
    neither_broken ch.work (ch.work.items (ch.state c.args.chronicle.now)) c.args.bytes.now c.in-Neither.ensures

pub returns-in-None-clause-is : goal.returns-in-None-clause-is
returns-in-None-clause-is g c =
    let ch = g.C.Chronicle in
    let before = ch.work.items (ch.state c.args.chronicle.now) in
    let text = c.in-Text.text.now in
    let found = c.in-Text.ensures in
    unnamed_broken ch.work before c.args.bytes.now text found.0 found.1
    (subst (Names ch.work ch.plain before text) c.in-None.is c.in_ok-item.ensures.names)
