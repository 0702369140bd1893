-- One more entry is looked at.
use Rattle.std.proofs.Common.{◌+◌, ap, drop, subst, sym, ◌∙◌}
use Rattle.std.specs.List.{cons_option}
use Rattle.std.specs.Prelude.{option_map}
use Rattle.std.proofs.lemmas.Result.{err_from_is_err_and}
use Rattle.pol_match.specs.Candidates.{plain_candidates}
use Rattle.pol_find.specs.Recipes.{plain_recipe}
use Rattle.pol_find.proofs.Entries.{recipes_end, recipes_in, recipes_next}
use Rattle.pol_find.proofs.Possible.{can_tell_each, rightly_behind}
use Rattle.pol_find.proofs.Written.{ToldSoFar, told_all, told_next, told_part}
use Rattle.pol_find.proofs.telling.put_recipes.Goals as goal
use Rattle.pol_find.proofs.telling.put_recipes.Goals.{in-Some+in_ok-put_recipe, in_default}

pub returns-in_err-put_recipe-clause-part : goal.returns-in_err-put_recipe-clause-part
returns-in_err-put_recipe-clause-part g c =
    let candidates = plain_candidates c.args.candidates.now in
    let recipes = recipes_in c.args.entries.now in
    let held = g.K.Sink.held in
    let rest = recipes_in (drop (c.loop-entry.entry-index + 1) c.args.entries.now) in
    let next = recipes_next c.args.entries.now c.loop-entry.entry-index c.entry-item.result c.loop-entry-test.true
    c.entry-item.is
    ∙ ap (λ first. cons_option first rest) (sym c.in-Some.ensures) in
    let fault = err_from_is_err_and c.from_residual.result c.from_residual.ensures.1 in
    rw fault.1
    (told_part candidates recipes (held c.args.sink.now) (held c.loop-entry.sink) (held c.put_recipe.new.sink)
    (plain_recipe c.in-Some.recipe) rest
    (subst (λ left. ToldSoFar candidates recipes left (held c.args.sink.now) (held c.loop-entry.sink)) next
    c.loop-entry.invariant.so_far)
    c.in_err-put_recipe.ensures.part (can_tell_each candidates rest
    (rightly_behind candidates c.args.entries.now (c.loop-entry.entry-index + 1) c.requires.right)))

pub loop-entry-preserved : goal.loop-entry-preserved
loop-entry-preserved g c =
    let candidates = plain_candidates c.args.candidates.now in
    let recipes = recipes_in c.args.entries.now in
    let held = g.K.Sink.held in
    let faults = g.K.Sink.faults in
    let rest = recipes_in (drop (c.loop-entry.entry-index + 1) c.args.entries.now) in
    let next = recipes_next c.args.entries.now c.loop-entry.entry-index c.entry-item.result c.loop-entry-test.true
    c.entry-item.is in
    record {
      so_far = elim c.match-made_known.branch [
        | in-Some+in_ok-put_recipe w ↦
            subst (λ sink. ToldSoFar candidates recipes rest (held c.args.sink.now) (held sink)) (sym w.sink-is)
            (told_next candidates recipes (held c.args.sink.now) (held c.loop-entry.sink) (held w.put_recipe.new.sink)
            (plain_recipe w.in-Some.recipe) rest
            (subst (λ left. ToldSoFar candidates recipes left (held c.args.sink.now) (held c.loop-entry.sink))
            (next ∙ ap (λ first. cons_option first rest) (sym w.in-Some.ensures)) c.loop-entry.invariant.so_far)
            w.in_ok-put_recipe.ensures.text)
        | in_default w ↦
            subst (λ sink. ToldSoFar candidates recipes rest (held c.args.sink.now) (held sink)) (sym w.sink-is)
            (subst (λ left. ToldSoFar candidates recipes left (held c.args.sink.now) (held c.loop-entry.sink))
            (next ∙ ap (λ first. cons_option first rest)
            (sym c.made_known.ensures ∙ ap (option_map plain_recipe) w.in_default.is)) c.loop-entry.invariant.so_far)
      ];
      sound = elim c.match-made_known.branch [
        | in-Some+in_ok-put_recipe w ↦
            ap faults w.sink-is ∙ w.in_ok-put_recipe.ensures.cause.done ∙ c.loop-entry.invariant.sound
        | in_default w ↦ ap faults w.sink-is ∙ c.loop-entry.invariant.sound
      ];
    }

pub returns-clause-text : goal.returns-clause-text
returns-clause-text g c =
    let candidates = plain_candidates c.args.candidates.now in
    let recipes = recipes_in c.args.entries.now in
    let held = g.K.Sink.held in
    told_all candidates recipes (held c.args.sink.now) (held c.loop-entry.sink)
    (subst (λ left. ToldSoFar candidates recipes left (held c.args.sink.now) (held c.loop-entry.sink))
    (recipes_end c.args.entries.now c.loop-entry.entry-index c.loop-entry-test.false) c.loop-entry.invariant.so_far)
