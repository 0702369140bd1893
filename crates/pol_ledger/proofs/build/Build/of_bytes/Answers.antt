use Rattle.std.proofs.Common.{sym, ◌∙◌, arith}
use Rattle.mtp_codes.proofs.OverZeros.{first_used, padded_over_zeros}
use Rattle.pol_ledger.proofs.build.Build.of_bytes.Goals as goal

pub invariant_of-result : goal.invariant_of-result
invariant_of-result c =
    rw c.copy_from_slice.ensures.after (record {
      padding = padded_over_zeros 96 c.args.bytes.now (omega arith);
      form = rw (first_used 96 c.args.bytes.now) (sym c.is_build.ensures ∙ c.if-not-is_build.false);
    })

pub returns : goal.returns
returns c = rw (
  (sym c.is_build.ensures ∙ c.if-not-is_build.false),
  c.copy_from_slice.ensures.after,
  first_used 96
      c.args.bytes.now,
)
