use Rattle.std.proofs.Common.{◌≡◌, rules, subst, sym}
use Rattle.std.specs.Str.{IsUtf8}
use Rattle.pol_cli.proofs.Told.{utf8_after}
use Rattle.pol_cli.proofs.status.refusal_text.Goals as goal

pub returns-clause-utf8 : goal.returns-clause-utf8
returns-clause-utf8 c =
    let same : c.in_ok-text.text.items ≡ c.as_bytes.result.now = search rules in
    let first = subst IsUtf8 (sym same) c.as_bytes.ensures.utf8 in
    let second = utf8_after _ _ _ c.in_ok-extend_from_slice.ensures.items first c.as_bytes-2.ensures.utf8 in
    let third = utf8_after _ _ _ c.in_ok-extend_from_slice-2.ensures.items second c.as_bytes-3.ensures.utf8 in
    utf8_after _ _ _ c.in_ok-extend_from_slice-3.ensures.items third
    (subst IsUtf8 (sym c.deref.ensures.value) c.in_ok-text-2.ensures.utf8)
