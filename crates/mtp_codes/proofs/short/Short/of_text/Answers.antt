use Rattle.std.proofs.Common.{arith}
use Rattle.std.proofs.lemmas.Str.{is_utf8-from_IsUtf8}
use Rattle.mtp_codes.proofs.OverZeros.{first_used, padded_over_zeros}
use Rattle.mtp_codes.proofs.short.Short.of_text.Goals as goal

pub invariant_of-result : goal.invariant_of-result
invariant_of-result c =
    rw (c.copy_from_slice.ensures.after, c.as_bytes-bytes.ensures.value) (record {
      padding = padded_over_zeros 254 c.args.text.now (omega arith);
      form = rw (first_used 254 c.args.text.now) (is_utf8-from_IsUtf8 c.args.text.now c.utf8.text);
    })
