use Rattle.pol_audit.proofs.log.Log.run.Goals as goal

pub returns : goal.returns
returns c = c.args.self.now.ran
