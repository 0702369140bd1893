use Rattle.std.proofs.Common.{◌≡◌, ◌∙◌, ap, length, drop}
use Rattle.std.proofs.Math.Seq.{take_at}
use Rattle.chart_core.specs.Charts.{plain_chart}
use Rattle.chart_cursor.specs.Kept.{Kept}
use Rattle.chart_cursor.proofs.Passing.{after_one}
use Rattle.chart_cursor.proofs.cursor.Cursor.go_along.Goals as goal

pub returns-clause-log : goal.returns-clause-log
returns-clause-log c =
    λ log after.
    let inside = c.self.inside.marks in
    let new = c.take_entry.new.marks in
    let kept : c.self.inside.chart.value ≡ c.args.self.now.chart = ap (λ (k : Kept). k.chart) c.self.view_is in
    let same = c.deref.ensures ∙ kept in
    let old = c.deref_mut.ensures.value ∙ ap (λ (k : Kept). k.marks) c.self.view_is in
    let whole = take_at new (drop (length new) inside.items) inside.len
    (c.take_entry.auto.marks ∙ c.deref_mut.ensures.len) in
    rw (whole, kept)
    (after_one (plain_chart c.args.self.now.chart) c.deref_mut.result.now new log c.args.entry.now
    (rw same at c.take_entry.ensures.moves) (rw old after))
