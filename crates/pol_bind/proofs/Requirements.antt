-- A role's requirement matches as what its text reads to.
use Rattle.std.specs.Prelude.{ℕ, ◌≡◌, List}
use Rattle.std.proofs.Common.{refl}
use Rattle.semver.specs.Eval.{matches_all}
use Rattle.semver.specs.Identifiers.{parts_of}
use Rattle.semver.specs.Parse.{req_of}
use Rattle.semver.specs.declared.Version.{Version}
use Rattle.semver.specs.declared.VersionReq.{VersionReq}
use Rattle.semver.proofs.EvalViews.{matches_all-views}
use Rattle.chart_core.specs.Requirements.{IsReadTo}
use Rattle.mtp_procs.specs.Covers.{meets}

-- a version matches what was read of a requirement where it meets what the text asks for
pub matches_as_read :
    (wants : List ℕ) (req : VersionReq) (version : Version) → IsReadTo wants req
    → matches_all req.comparators.items version ≡ meets (parts_of version) (req_of wants)
matches_as_read wants req version reads = rw (reads, matches_all-views req.comparators.items version) refl
