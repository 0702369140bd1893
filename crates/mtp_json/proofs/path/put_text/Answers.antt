use Rattle.mtp_json.proofs.Utf8.{still_utf8}
use Rattle.mtp_json.proofs.path.put_text.Goals as goal

pub returns-clause-utf8 : goal.returns-clause-utf8
returns-clause-utf8 c =
    still_utf8 c.extend_from_slice.result c.args.out.now.items c.as_bytes.result.now c.extend_from_slice.new.self.items
    c.extend_from_slice.ensures.items c.as_bytes.ensures.utf8
