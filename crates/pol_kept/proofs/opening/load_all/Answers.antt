use Rattle.pol_kept.proofs.Opened.{cut_breaks}
use Rattle.pol_kept.proofs.opening.load_all.Goals as goal

pub returns-then-cut-clause-breaks : goal.returns-then-cut-clause-breaks
returns-then-cut-clause-breaks g c =
    cut_breaks g.C.Chronicle.work c.in_ok-cut.cut (g.D.Disk.bytes c.begins_cut_short.new.disk) c.if-cut.true
    c.in_ok-cut.ensures.told
