use Rattle.mtp_codes.proofs.Ascii.{name_is_text}
use Rattle.mtp_codes.proofs.name.Name.as_str.Goals as goal

pub from_utf8_unchecked-requires : goal.from_utf8_unchecked-requires
from_utf8_unchecked-requires c = rw c.as_bytes.ensures.bytes (name_is_text c.args.self.now c.as_bytes.ensures.form)
