use Rattle.std.proofs.Common.{◌≡◌, ◌++◌, drop}
use Rattle.pol_history.specs.Modules.{tags_without}
use Rattle.pol_audit.proofs.modules.tags_without.Given as goal

abbrev pub invariant-loop-other : goal.invariant-loop-other
invariant-loop-other l = l.others.items ++ tags_without l.tag (drop l.other-index l.tags) ≡ tags_without l.tag l.tags
