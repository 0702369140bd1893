use Rattle.std.proofs.Common.{arith, ap, ◌∙◌}
use Rattle.mtp_codes.specs.declared.state.State.TheVariants.{Idle}
use Rattle.pol_demo.specs.Journal.{idle, reported}
use Rattle.pol_demo.specs.Telling.{line_told, told_by}
use Rattle.pol_demo.proofs.Told.{told_next, told_none}
use Rattle.pol_demo.proofs.journal.report_idle.Goals as goal

pub loop-place-init : goal.loop-place-init
loop-place-init c = record { told = told_none idle _; at = omega arith }

pub loop-place-preserved : goal.loop-place-preserved
loop-place-preserved c =
    let reports = c.in_ok-report.ensures in
    let so_far = c.loop-place.invariant in
    record {
      told = told_next idle c.loop-place.place _ _ _ so_far.told
          (reports.told ∙ ap (λ tag. line_told (reported tag Idle 4) (told_by c.loop-place.teller))
          c.in_ok-tag.ensures);
      at = let here = reports.at in let before = so_far.at in omega (arith, here, before);
    }
