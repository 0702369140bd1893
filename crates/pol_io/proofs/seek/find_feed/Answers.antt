use Rattle.pol_io.proofs.Feeds.{first_feed}
use Rattle.pol_io.proofs.seek.find_feed.Goals as goal

pub returns : goal.returns
returns c = first_feed c.args.bytes.now c.memchr.result c.memchr.ensures
