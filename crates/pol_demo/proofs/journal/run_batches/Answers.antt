use Rattle.std.proofs.Common.{arith, ap, sym, ◌∙◌, ◌*◌}
use Rattle.pol_demo.specs.declared.journal.TheConstants.{VALUES}
use Rattle.pol_demo.specs.Journal.{batch_run, batch_runs}
use Rattle.pol_demo.specs.Telling.{lines_told, told_by}
use Rattle.pol_demo.specs.Values.{drawn}
use Rattle.pol_demo.proofs.Runs.{drawn_none, drawn_on, runs_next, runs_none}
use Rattle.pol_demo.proofs.Told.{told_append}
use Rattle.pol_demo.proofs.journal.run_batches.Goals as goal

pub loop-number-init : goal.loop-number-init
loop-number-init c = record {
  told = runs_none c.args.seed _;
  drawn = c.new-sequence.ensures ∙ drawn_none c.args.seed;
  at = omega arith;
}

pub loop-number-preserved : goal.loop-number-preserved
loop-number-preserved c =
    let runs = c.in_ok-run_batch.ensures in
    let so_far = c.loop-number.invariant in
    let count = c.loop-number.number in
    record {
      told = runs.told ∙ (ap (λ sequence. lines_told (batch_run sequence count)
          (told_by c.loop-number.teller)) so_far.drawn
          ∙ (ap (lines_told (batch_run (drawn c.args.seed (VALUES * count)) count)) so_far.told
          ∙ (sym (told_append (batch_runs c.args.seed count) (batch_run (drawn c.args.seed (VALUES * count)) count)
          (told_by c.args.teller.now))
          ∙ ap (λ lines. lines_told lines (told_by c.args.teller.now)) (sym (runs_next c.args.seed count)))));
      drawn = runs.drawn ∙ (ap (λ number. drawn number VALUES) so_far.drawn
          ∙ drawn_on c.args.seed (VALUES * count) VALUES
          ∙ ap (drawn c.args.seed) (omega arith));
      at = let here = runs.at in let before = so_far.at in omega (arith, here, before);
    }
