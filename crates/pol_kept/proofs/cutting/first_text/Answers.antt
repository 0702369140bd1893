use Rattle.std.proofs.Common.{length, sym, subst, ◌+◌, ◌∙◌}
use Rattle.std.proofs.lemmas.List.{take_rest}
use Rattle.pol_kept.specs.Stands.{HasFirst}
use Rattle.pol_kept.proofs.Firsts.{none_first, record_behind, text_first}
use Rattle.pol_kept.proofs.cutting.first_text.Goals as goal

pub returns-in-Text-clause-first : goal.returns-in-Text-clause-first
returns-in-Text-clause-first g c =
    let work = g.C.Chronicle.work in
    let image = c.args.image.now in
    let text = c.in-Text.text.now in
    let found = c.in-Text.ensures in λ before items stands.
    subst (λ behind. HasFirst work before text behind items)
    (sym (take_rest image (9 + length text) ∙ record_behind work before text image found.0 found.1))
    (text_first work before text image found.0 found.1 items stands)

pub returns-in-Closed : goal.returns-in-Closed
returns-in-Closed g c = record {
  first = tt;
  none = λ before. none_first g.C.Chronicle.work before c.args.image.now c.find.result c.find.ensures c.in-Closed.is;
  shorter = tt;
}
