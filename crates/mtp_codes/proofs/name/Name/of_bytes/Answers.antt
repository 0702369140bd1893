use Rattle.std.proofs.Common.{sym, ◌∙◌, arith}
use Rattle.mtp_codes.proofs.OverZeros.{first_used, padded_over_zeros}
use Rattle.mtp_codes.proofs.name.Name.of_bytes.Goals as goal

pub invariant_of-result : goal.invariant_of-result
invariant_of-result c =
    rw c.copy_from_slice.ensures.after (record {
      padding = padded_over_zeros 32 c.args.bytes.now (omega arith);
      form = rw (first_used 32 c.args.bytes.now) (sym c.is_name.ensures ∙ c.if-not-is_name.false);
    })

pub returns : goal.returns
returns c = rw (
  (sym c.is_name.ensures ∙ c.if-not-is_name.false),
  c.copy_from_slice.ensures.after,
  first_used 32
      c.args.bytes.now,
)
