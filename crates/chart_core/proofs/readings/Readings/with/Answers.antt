use Rattle.std.proofs.Common.{◌≡◌, ◌+◌, ◌-◌, ◌<◌, ◌∷◌, List, length, drop, get_or, replicate, arith, sym, ◌∙◌, ap, false, zero, suc, ℕ}
use Rattle.std.proofs.lemmas.List.{drop-set-lt, length-set}
use Rattle.std.proofs.Math.Seq.{drop-cons}
use Rattle.chart_core.specs.declared.limits.TheConstants.{MOST_READS}
use Rattle.chart_core.specs.Readings.{length-used}
use Rattle.mtp_codes.specs.declared.value.Reading.{Reading}
use Rattle.mtp_codes.specs.declared.value.Reading.TheVariants.{Bit}
use Rattle.chart_core.proofs.readings.Readings.with.Goals as goal

one_blank_less : (m : ℕ) (x : Reading) (rest : List Reading) → x ∷ rest ≡ replicate m (Bit false)
    → rest ≡ replicate (m - 1) (Bit false)
one_blank_less zero x rest h = cc
one_blank_less (suc m) x rest h =
    let less : suc m - 1 ≡ m = omega arith in
    let same : rest ≡ replicate m (Bit false) = cc in
    same ∙ ap (λ n. replicate n (Bit false)) (sym less)

pub invariant_of-result : goal.invariant_of-result
invariant_of-result c =
    let items = c.self.inside.items in
    let len = c.self.inside.len in
    let kept = c.self.invariant in
    let used = length-used items len kept in
    let room : len < MOST_READS = omega (arith, used, ap length c.self.view_is, c.requires) in
    let inside : len < length items = omega (arith, kept.whole) in
    let last = one_blank_less (MOST_READS - len) (get_or items len (Bit false)) (drop (suc len) items)
    (sym (drop-cons items len (Bit false) inside) ∙ kept.blanks) in
    let next : len + 1 ≡ suc len = omega arith in
    let less : MOST_READS - len - 1 ≡ MOST_READS - (len + 1) = omega arith in
    record {
      whole = length-set items len c.args.reading ∙ kept.whole;
      fits = omega arith;
      blanks =
          drop-set-lt (len + 1) items len c.args.reading (omega arith)
          ∙ ap (λ n. drop n items) next ∙ last ∙ ap (λ n. replicate n (Bit false)) less;
    }
