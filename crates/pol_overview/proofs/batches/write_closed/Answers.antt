-- The tokens of each part stand behind those before it.
use Rattle.std.proofs.Common.{◌++◌, ◌∷◌, [], ◌∙◌, ap, codes, refl}
use Rattle.std.proofs.lemmas.Result.{on_ok_weaker}
use Rattle.json.specs.Token as token
use Rattle.pol_record.specs.Objects.{data_tokens}
use Rattle.event_json.specs.Written.{written_binds}
use Rattle.pol_overview.proofs.Tokens.{closed_tokens}
use Rattle.pol_overview.proofs.batches.write_closed.Goals as goal

pub returns-clause-tokens : goal.returns-clause-tokens
returns-clause-tokens c =
    let behind_1 = c.in_ok-begin_object.ensures.ok in
    let behind_2 = c.in_ok-write_text.ensures.tokens
    ∙ ap (λ tokens. tokens ++ token.key (codes "batch") ∷ token.string c.as_str.result.now ∷ []) behind_1 in
    let behind_3 = c.in_ok-write_binds_at.ensures.tokens
    ∙ ap (λ tokens. tokens ++ token.key (codes "bind") ∷ data_tokens (written_binds c.args.started.now.held.now)) behind_2 in
    let behind_4 = c.in_ok-write_text-2.ensures.tokens
    ∙ ap (λ tokens. tokens ++ token.key (codes "outcome") ∷ token.string c.outcome_name.result.now ∷ []) behind_3 in
    let behind_5 = c.in_ok-write_text-3.ensures.tokens
    ∙ ap (λ tokens. tokens ++ token.key (codes "recipe") ∷ token.string c.as_str-2.result.now ∷ []) behind_4 in
    let behind_6 = c.in_ok-write_binds_at-2.ensures.tokens
    ∙ ap (λ tokens. tokens ++ token.key (codes "watch") ∷ data_tokens (written_binds c.args.started.now.watched.now)) behind_5 in
    on_ok_weaker c.end_object.result
    (λ written. written ∙ ap (λ tokens. tokens ++ token.end_object ∷ []) behind_6
    ∙ closed_tokens c.args.writer.now.tokens c.as_str.result.now (written_binds c.args.started.now.held.now)
    c.outcome_name.result.now c.as_str-2.result.now (written_binds c.args.started.now.watched.now)
    ∙ rw (c.as_str.ensures.bytes, c.outcome_name.ensures, c.as_str-2.ensures.bytes) refl)
    c.end_object.ensures.ok
