-- The run of the batch is to be stopped.
use Rattle.std.proofs.Common.{◌≡◌, ◌∙◌, sym, ap, subst, Some, None}
use Rattle.std.specs.Map.{lookup}
use Rattle.std.specs.Option.{option_copied_mut}
use Rattle.std.specs.Str.{bytes_eq}
use Rattle.std.proofs.lemmas.Option.{same_Some}
use Rattle.pol_runs.specs.Runs.{PlainRun}
use Rattle.pol_core.specs.Batches.{Stops}
use Rattle.pol_history.proofs.Names.{written}
use Rattle.pol_core.proofs.batches.stop_run.Goals as goal

pub returns-clause-stopped : goal.returns-clause-stopped
returns-clause-stopped c =
    λ run found.
    let is : c.in-Some.run'.now ≡ run = same_Some c.in-Some.run'.now run (sym (ap option_copied_mut c.in-Some.is)
    ∙ c.get_mut.ensures.value ∙ found) in
    record {
      after = c.stop.new.self;
      stops = subst (λ (run : PlainRun). Stops c.stop.result run c.stop.new.self) is
          (record {
            was = c.stop.ensures.new;
            log = c.stop.ensures.log;
            same_batch = c.stop.ensures.same_batch;
            asked = c.stop.ensures.asked;
            freeze_is = c.stop.ensures.freeze;
            outcome_is = c.stop.ensures.outcome;
          });
      runs = λ other. ap (lookup (bytes_eq other)) (c.get_mut.follows.holds c.stop.new.self).0
          ∙ written c.args.batch other c.args.runs.now.entries run c.stop.new.self found;
    }

pub unreachable-requires : goal.unreachable-requires
unreachable-requires c =
    let clash : None ≡ Some c.requires.0 = ap option_copied_mut (sym c.in-None.is) ∙ c.get_mut.ensures.value
    ∙ c.requires.1 in cc
