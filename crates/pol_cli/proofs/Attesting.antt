-- The lines of an audit that tells which bytes it read.
use Rattle.std.proofs.Common.{◌≡◌, ◌<◌, ◌∙◌, ℕ, List, [], ◌∷◌, ◌++◌, codes, length, refl, ap, subst, arith}
use Rattle.std.proofs.Common.{append_assoc}
use Rattle.std.proofs.Common.{length-append}
use Rattle.std.specs.Prelude.{Ok, Some, decimal}
use Rattle.std.specs.declared.convert.Infallible.{Infallible}
use Rattle.json.specs.Token as token
use Rattle.json.specs.Token.{Token}
use Rattle.pol_io.specs.Scripted.{Scripted}
use Rattle.pol_jobs.specs.Ends.{Ends, edge}
use Rattle.pol_jobs.specs.LineWork.{Output}
use Rattle.pol_record.specs.Objects.{data_tokens}
use Rattle.pol_record.specs.Verdicts.{verdict_text}
use Rattle.pol_cli.specs.Attests.{attested_text, read_object, read_text}
use Rattle.pol_cli.specs.Audits.{audit_of, audited}
use Rattle.pol_cli.proofs.Auditing.{some_verdict}

-- a bracket, the number, the checksum and a bracket behind other tokens are the tokens of what was read
pub read_tokens : (old : List Token) (count : ℕ) (sum : List ℕ) →
    ((((old ++ token.begin_object ∷ []) ++ token.key (codes "bytes") ∷ []) ++ token.number (decimal count) ∷ [])
    ++ token.key (codes "sha256") ∷ token.string sum ∷ [])
    ++ token.end_object
    ∷ []
    ≡ old ++ data_tokens (read_object count sum)
unfolding read_object
read_tokens old count sum = simp append_assoc refl

-- an audit in memory that is done has written the verdict's line
pub verdict_written : (by : Output Infallible) → by ≡ audited → (source source' sink sink' : Scripted)
    (bytes : List ℕ) → source.bytes ≡ bytes → sink.bytes ≡ [] →
    Ends {Failure = Infallible} by (edge (Some source.bytes) source.faults) (edge (Some source'.bytes) source'.faults)
    (edge (Some sink.bytes) sink.faults) (edge (Some sink'.bytes) sink'.faults) (Ok tt) →
    sink'.bytes ≡ verdict_text (audit_of bytes)
verdict_written by is source source' sink sink' bytes given empty ends =
    let done = (subst (λ (output : Output Infallible). Ends {Failure = Infallible} output
    (edge (Some source.bytes) source.faults) (edge (Some source'.bytes) source'.faults)
    (edge (Some sink.bytes) sink.faults) (edge (Some sink'.bytes) sink'.faults) (Ok tt)) is ends).0 in
    done.written ∙ ap (λ held. held ++ done.closing) empty ∙ done.may
    ∙ ap (λ bytes. verdict_text (audit_of bytes)) given

-- what is told of an input isn't empty
pub some_told : (bytes : List ℕ) → 0 < length (attested_text bytes)
some_told bytes =
    let some = some_verdict (audit_of bytes) in
    omega (arith, length-append (verdict_text (audit_of bytes)) (read_text bytes), some)
