-- The run of the batch is frozen in its place, or stays as it was.
use Rattle.std.proofs.Common.{◌≡◌, ◌∙◌, sym, ap, subst, Some, cond, None, Result, Ok, Err}
use Rattle.std.specs.Map.{lookup}
use Rattle.std.specs.Option.{option_copied_mut}
use Rattle.std.specs.Prelude.{OnOk}
use Rattle.std.specs.Str.{bytes_eq}
use Rattle.std.proofs.lemmas.Result.{on_err_weaker}
use Rattle.std.proofs.lemmas.Option.{same_Some}
use Rattle.pol_runs.specs.Runs.{PlainRun}
use Rattle.pol_core.specs.Batches.{Freezes}
use Rattle.pol_history.proofs.Names.{written}
use Rattle.pol_core.proofs.batches.freeze_run.Goals as goal

-- what follows from two facts, where there is a value
both_ok : {T E P Q R : Type 0} (result : Result T E) → (P → Q → R) → OnOk result P → OnOk result Q → OnOk result R
both_ok (Ok value) follows one other = follows one other
both_ok (Err fault) follows one other = tt

pub returns-clause-frozen : goal.returns-clause-frozen
returns-clause-frozen c =
    both_ok c.freeze.result (λ freeze_is asked run found.
    let is : c.in-Some.run'.now ≡ run = same_Some c.in-Some.run'.now run (sym (ap option_copied_mut c.in-Some.is)
    ∙ c.get_mut.ensures.value ∙ found) in
    record {
      after = c.freeze.new.self;
      freezes = subst (λ (run : PlainRun). Freezes c.args.hold run c.freeze.new.self) is
          (record {
            log = c.freeze.ensures.log;
            asked = asked;
            same_batch = c.freeze.ensures.same_batch;
            freeze_is = freeze_is;
            outcome_is = c.freeze.ensures.outcome;
          });
      runs = λ other. ap (lookup (bytes_eq other)) (c.get_mut.follows.holds c.freeze.new.self).0
          ∙ written c.args.batch other c.args.runs.now.entries run c.freeze.new.self found;
    }) c.freeze.ensures.freeze c.freeze.ensures.asked

pub returns-clause-unchanged : goal.returns-clause-unchanged
returns-clause-unchanged c =
    on_err_weaker c.freeze.result (λ same run found other.
    let is : c.in-Some.run'.now ≡ run = same_Some c.in-Some.run'.now run (sym (ap option_copied_mut c.in-Some.is)
    ∙ c.get_mut.ensures.value ∙ found) in
    ap (lookup (bytes_eq other)) (c.get_mut.follows.holds c.freeze.new.self).0
    ∙ written c.args.batch other c.args.runs.now.entries run c.freeze.new.self found
    ∙ ap (λ (run : PlainRun). cond (bytes_eq c.args.batch other) (Some run)
    (lookup (bytes_eq other) c.args.runs.now.entries)) (same ∙ is)) c.freeze.ensures.unchanged

pub unreachable-requires : goal.unreachable-requires
unreachable-requires c =
    let clash : None ≡ Some c.requires.0 = ap option_copied_mut (sym c.in-None.is) ∙ c.get_mut.ensures.value
    ∙ c.requires.1 in cc
