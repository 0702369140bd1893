-- The run of the batch does what comes next.
use Rattle.std.proofs.Common.{◌≡◌, ◌∙◌, sym, ap, subst, Some, None}
use Rattle.std.specs.Map.{lookup}
use Rattle.std.specs.Option.{option_copied_mut}
use Rattle.std.specs.Str.{bytes_eq}
use Rattle.std.proofs.lemmas.Option.{same_Some}
use Rattle.pol_runs.specs.Runs.{PlainRun}
use Rattle.pol_core.specs.Batches.{Settles}
use Rattle.pol_history.proofs.Names.{written}
use Rattle.pol_core.proofs.batches.settle.Goals as goal

pub returns-clause-settled : goal.returns-clause-settled
returns-clause-settled c =
    λ run found.
    let is : c.in-Some.run'.now ≡ run = same_Some c.in-Some.run'.now run (sym (ap option_copied_mut c.in-Some.is)
    ∙ c.get_mut.ensures.value ∙ found) in
    record {
      after = c.settle.new.self;
      settles = subst (λ (run : PlainRun). Settles c.args.next.now run c.settle.new.self) is
          (record {
            log = c.settle.ensures.log;
            same_batch = c.settle.ensures.same_batch;
            asked = c.settle.ensures.asked;
            freeze_is = c.settle.ensures.freeze;
            outcome_is = c.settle.ensures.outcome;
          });
      runs = λ other. ap (lookup (bytes_eq other)) (c.get_mut.follows.holds c.settle.new.self).0
          ∙ written c.args.batch other c.args.runs.now.entries run c.settle.new.self found;
    }

pub settle-requires : goal.settle-requires
settle-requires c = (
  c.requires.next.0,
  c.requires.next.1 c.in-Some.run'.now
      (sym c.get_mut.ensures.value ∙ ap option_copied_mut c.in-Some.is),
)

pub unreachable-requires : goal.unreachable-requires
unreachable-requires c =
    let clash : None ≡ Some c.requires.known.0 = ap option_copied_mut (sym c.in-None.is) ∙ c.get_mut.ensures.value
    ∙ c.requires.known.1 in cc
