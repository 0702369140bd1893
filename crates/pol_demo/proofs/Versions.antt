-- The version of a doser, as its text reads.
use Rattle.std.proofs.Common.{◌≡◌, ◌∙◌, ◌⊎◌, inl, inr, [], true, false, refl, sym, ap}
use Rattle.std.specs.Prelude.{Result, Ok, Err, IfErr, codes, is_some}
use Rattle.std.specs.Result.{result_ok}
use Rattle.semver.specs.Parse.{digits_from, memory_error, req_from, req_of, strip_spaces}
use Rattle.semver.specs.declared.VersionReq.{VersionReq}
use Rattle.semver.specs.declared.error.Error.{Error}
use Rattle.mtp_desc.specs.Version.{version_of}

-- the text reads to its numbers
pub doser_version : version_of (codes "1.0.0") ≡ Ok (1, 0, 0, [], [])
unfolding digits_from
doser_version = refl

-- the requirement is read
requirement_read : is_some (result_ok (req_of (codes "^1"))) ≡ true
unfolding digits_from req_from strip_spaces
requirement_read = refl

-- so it isn't refused
not_refused : (error : Error) → req_of (codes "^1") ≡ Err error → ⊥
not_refused error is =
    let clash : true ≡ false = sym requirement_read ∙ ap (λ read. is_some (result_ok read)) is in cc

-- so where it isn't read there was no memory
pub memory_alone : (result : Result VersionReq Error) →
    IfErr result (λ error. (error ≡ memory_error) ⊎ (req_of (codes "^1") ≡ Err error)) →
    IfErr result (λ error. error ≡ memory_error)
memory_alone (Ok req) told = tt
memory_alone (Err error) (inl memory) = memory
memory_alone (Err error) (inr refused) = absurd (not_refused error refused)
