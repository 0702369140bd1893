-- The batch watches and holds its modules and has a run.
use Rattle.std.proofs.Common.{◌≡◌, ◌+◌, ◌++◌, ◌∷◌, [], ◌∙◌, ap, sym, subst, cond, Some, List, length, ℕ, true}
use Rattle.std.specs.Prelude.{IsSome}
use Rattle.std.specs.List.{IsDistinct}
use Rattle.std.specs.Map.{keys_of, lookup}
use Rattle.std.specs.Str.{bytes_eq}
use Rattle.mtp_codes.specs.Names.{is_among}
use Rattle.pol_table.specs.Answers.{hold_answer}
use Rattle.pol_table.specs.Rows.{look}
use Rattle.pol_runs.specs.Runs.{PlainRun}
use Rattle.pol_core.specs.Starting.{Holds, Watches}
use Rattle.pol_core.proofs.starting.begin.Goals as goal

pub watch-requires-clause-there : goal.watch-requires-clause-there
watch-requires-clause-there c =
    subst (λ tags. (tag : List ℕ) → is_among tags tag ≡ true → IsSome (look tag c.args.modules.now))
    (sym (c.deref.ensures.value ∙ c.in_ok-watched.ensures)) c.requires.there

pub watch-requires-clause-distinct : goal.watch-requires-clause-distinct
watch-requires-clause-distinct c =
    subst (IsDistinct bytes_eq) (sym (c.deref.ensures.value ∙ c.in_ok-watched.ensures)) c.requires.distinct

pub hold-requires : goal.hold-requires
hold-requires c =
    ap (λ tags. hold_answer tags c.watch.new.modules) (c.deref-2.ensures.value ∙ c.in_ok-held.ensures)
    ∙ c.watch.ensures.holding _ ∙ c.requires.free

pub returns-clause-begun : goal.returns-clause-begun
returns-clause-begun c =
    record {
      run = c.in_ok-run.run';
      is_new = c.in_ok-run.ensures;
      watched = c.watch.new.modules;
      watches = subst (λ tags. Watches tags c.args.batch c.args.modules.now c.watch.new.modules)
          (c.deref.ensures.value ∙ c.in_ok-watched.ensures) c.in_ok-watch.ensures.watches;
      there = c.requires.there;
      holds = subst (λ tags. Holds tags c.args.batch c.watch.new.modules c.hold.new.modules)
          (c.deref-2.ensures.value ∙ c.in_ok-held.ensures) c.hold.ensures.holds;
      runs_are = λ other. c.enter.ensures.looks other
          ∙ ap (λ (entries : List (List ℕ × PlainRun)). cond (bytes_eq c.args.batch other)
          (Some c.in_ok-run.run') (lookup (bytes_eq other) entries)) c.in_ok-reserve.ensures.entries;
      order = c.enter.ensures.order
          ∙ ap (λ (entries : List (List ℕ × PlainRun)). keys_of entries ++ c.args.batch ∷ [])
          c.in_ok-reserve.ensures.entries;
      count = c.enter.ensures.count
          ∙ ap (λ (entries : List (List ℕ × PlainRun)). length entries + 1) c.in_ok-reserve.ensures.entries;
    }
