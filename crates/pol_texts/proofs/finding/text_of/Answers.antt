use Rattle.std.proofs.Common.{◌≡◌, ◌<◌, ◌^◌, ℕ, List, length, drop, get_or, arith, rules}
use Rattle.pol_texts.proofs.Bodies.{body_is, bytes_of_front}
use Rattle.pol_texts.proofs.finding.text_of.Goals as goal

pub returns : goal.returns
returns c =
    let size : List ℕ = c.in_ok-size.size.now in
    let rest : List ℕ = c.in_ok-size.behind.now in
    let number : ℕ = c.from_be_bytes-size.result in
    let parts = c.in_ok-size.ensures.cases in
    let eight : length size ≡ 8 = search rules in
    let bytes : (i : ℕ) →
    get_or size i 0 < 256 = bytes_of_front c.args.body.now size (λ i. omega (arith, c.type_inv.body i)) parts.0 in
    let small : number < 2 ^ 64 = search rules in (
      drop number rest,
      body_is c.args.body.now size rest number parts.0 parts.1 eight bytes c.from_be_bytes-size.ensures
          (omega (arith, c.if-size-behind.false)) small,
    )
