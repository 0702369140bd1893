use Rattle.std.proofs.Common.{refl, [], sym, subst, ◌∙◌}
use Rattle.chart_core.specs.Charts.{plain_chart}
use Rattle.chart_core.specs.declared.chart.Chart.{Chart}
use Rattle.pol_runs.specs.Holds.{HaveRoom}
use Rattle.pol_runs.proofs.Nexts.{nothing_active}
use Rattle.pol_runs.proofs.run.Run.of_recipe.Goals as goal

pub invariant_of-result : goal.invariant_of-result
invariant_of-result c =
    let same = c.in_ok-cursor.ensures.chart in
    record {
      valid = rw same c.requires.valid;
      paired = c.requires.paired;
      room = subst (λ (chart : Chart). HaveRoom (plain_chart chart) c.in_ok-holds.holds) (c.deref.ensures ∙ sym same)
          c.in_ok-holds.ensures.room;
      log = [];
      follows = record {
        proceeds = record {
          marks = c.in_ok-cursor.ensures.empty;
          broke = refl;
          stopped = refl;
          active = λ placed inside. nothing_active placed;
        };
        held = λ placed inside. sym (c.in_ok-holds.ensures.held placed.number);
      };
      asked = [];
      asks = λ placed inside. sym (c.in_ok-holds.ensures.asked placed.number);
    }
