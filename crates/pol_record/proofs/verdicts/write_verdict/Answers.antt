use Rattle.pol_record.proofs.verdicts.write_verdict.Goals as goal

pub returns-in-TooMany-clause-tokens : goal.returns-in-TooMany-clause-tokens
returns-in-TooMany-clause-tokens c = rw (c.in-TooMany.is) c.write_bad.ensures.tokens
