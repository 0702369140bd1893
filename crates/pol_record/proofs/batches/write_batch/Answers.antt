-- The tokens of each part stand behind those before it.
use Rattle.std.proofs.Common.{◌++◌, ◌∷◌, [], ◌∙◌, ap}
use Rattle.std.proofs.lemmas.Result.{on_ok_weaker}
use Rattle.json.specs.Token.{end_object}
use Rattle.pol_record.specs.Gathered.{plain_start}
use Rattle.pol_record.specs.Texts.{course_tokens, start_tokens, watch_tokens}
use Rattle.pol_record.proofs.Tokens.{batch_tokens}
use Rattle.pol_record.proofs.batches.write_batch.Goals as goal

pub returns-clause-tokens : goal.returns-clause-tokens
returns-clause-tokens c =
    let started = plain_start c.args.start.now in
    let behind_start = c.in_ok-write_start.ensures.tokens
    ∙ ap (λ tokens. tokens ++ start_tokens c.args.batch started.binds.held) c.in_ok-begin_object.ensures.ok in
    let behind_course = c.in_ok-write_course.ensures.tokens
    ∙ ap (λ tokens. tokens ++ course_tokens c.args.log.now c.args.outcome started.recipe) behind_start in
    let behind_watch = c.in_ok-write_watch.ensures.tokens
    ∙ ap (λ tokens. tokens ++ watch_tokens started.binds.watched) behind_course in
    on_ok_weaker c.end_object.result
    (λ written. written ∙ ap (λ tokens. tokens ++ end_object ∷ []) behind_watch
    ∙ batch_tokens c.args.writer.now.tokens c.args.batch started c.args.log.now c.args.outcome)
    c.end_object.ensures.ok
