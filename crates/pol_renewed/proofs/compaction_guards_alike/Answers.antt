use Rattle.pol_renewed.proofs.Replied.{commands_alike, replies_alike}
use Rattle.pol_renewed.proofs.compaction_guards_alike.Goals as goal

pub returns : goal.returns
returns c = record { replies = replies_alike; commands = commands_alike }
