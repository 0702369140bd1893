use Rattle.std.proofs.Common.{◌≡◌, take}
use Rattle.std.specs.Str.{IsUtf8}
use Rattle.mtp_json.specs.PathText.{path_text}
use Rattle.mtp_json.proofs.path.parts_text.Given as goal

abbrev pub invariant-loop-i : goal.invariant-loop-i
invariant-loop-i l = record {
  bytes : l.out.items ≡ path_text (take l.i l.parts);
  utf8 : IsUtf8 l.out.items;
}
