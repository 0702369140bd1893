use Rattle.pol_runs.proofs.run.Run.advance.Goals as goal

pub settle-requires : goal.settle-requires
settle-requires g c = (g.S.Seen.sights c.args.seen.now, c.would-next.ensures)
