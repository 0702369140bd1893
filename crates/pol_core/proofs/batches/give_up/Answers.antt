-- The run of the batch is changed in its place.
use Rattle.std.proofs.Common.{◌≡◌, ◌∙◌, sym, ap, Some, cond, None}
use Rattle.std.specs.Map.{lookup}
use Rattle.std.specs.Option.{option_copied_mut}
use Rattle.std.specs.Str.{bytes_eq}
use Rattle.std.proofs.lemmas.Option.{same_Some}
use Rattle.chart_core.specs.declared.next.Outcome.TheVariants.{Abandoned}
use Rattle.pol_runs.specs.Runs.{PlainRun}
use Rattle.pol_history.proofs.Names.{written}
use Rattle.pol_core.proofs.batches.give_up.Goals as goal

pub returns-clause-changed : goal.returns-clause-changed
returns-clause-changed c =
    λ run found other.
    let is : c.in-Some.run'.now ≡ run = same_Some c.in-Some.run'.now run (sym (ap option_copied_mut c.in-Some.is)
    ∙ c.get_mut.ensures.value ∙ found) in
    ap (lookup (bytes_eq other)) (c.get_mut.follows.holds c.abandon.new.self).0
    ∙ written c.args.batch other c.args.runs.now.entries run c.abandon.new.self found
    ∙ ap (λ (run : PlainRun). cond (bytes_eq c.args.batch other) (Some run)
    (lookup (bytes_eq other) c.args.runs.now.entries))
    (c.abandon.ensures ∙ ap (λ (run : PlainRun). record run { outcome = Some Abandoned }) is)

pub unreachable-requires : goal.unreachable-requires
unreachable-requires c =
    let clash : None ≡ Some c.requires.0 = ap option_copied_mut (sym c.in-None.is) ∙ c.get_mut.ensures.value
    ∙ c.requires.1 in cc
