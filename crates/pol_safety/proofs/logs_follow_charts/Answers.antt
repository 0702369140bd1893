use Rattle.pol_safety.proofs.Courses.{logs_follow}
use Rattle.pol_safety.proofs.logs_follow_charts.Goals as goal

pub returns : goal.returns
returns c = logs_follow
