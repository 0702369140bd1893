-- The tokens of each part stand behind those before it.
use Rattle.std.proofs.Common.{◌++◌, ◌∷◌, [], ◌∙◌, ap, codes, refl}
use Rattle.std.proofs.lemmas.Result.{on_ok_weaker}
use Rattle.json.specs.Token as token
use Rattle.pol_record.specs.Objects.{data_tokens}
use Rattle.event_json.specs.Written.{written_binds}
use Rattle.pol_core.specs.Plants.{plant_history}
use Rattle.pol_overview.specs.Lists.{each_data}
use Rattle.pol_overview.specs.Steps.{unheld_steps, waiting_data}
use Rattle.pol_overview.proofs.Tokens.{back_grouped}
use Rattle.pol_overview.proofs.batches.write_back.Goals as goal

pub returns-clause-tokens : goal.returns-clause-tokens
returns-clause-tokens c =
    let unheld = unheld_steps (plant_history c.args.plant.now) c.args.held.now in
    let waits = each_data waiting_data c.args.waits.now in
    let behind_1 = c.in_ok-write_text.ensures.tokens in
    let behind_2 = c.in_ok-write_text-2.ensures.tokens
    ∙ ap (λ tokens. tokens ++ token.key (codes "recipe") ∷ token.string c.as_str.result.now ∷ []) behind_1 in
    let behind_3 = c.in_ok-key.ensures.ok
    ∙ ap (λ tokens. tokens ++ token.key (codes "stopping") ∷ []) behind_2 in
    let behind_4 = c.in_ok-boolean.ensures.ok
    ∙ ap (λ tokens. tokens ++ token.boolean c.args.stopping ∷ []) behind_3 in
    let behind_5 = c.in_ok-key-2.ensures.ok
    ∙ ap (λ tokens. tokens ++ token.key (codes "unheld") ∷ []) behind_4 in
    let behind_6 = c.in_ok-write_unheld.ensures.tokens
    ∙ ap (λ tokens. tokens ++ data_tokens unheld) behind_5 in
    let behind_7 = c.in_ok-key-3.ensures.ok
    ∙ ap (λ tokens. tokens ++ token.key (codes "waits") ∷ []) behind_6 in
    let behind_8 = c.in_ok-write_waiting.ensures.tokens
    ∙ ap (λ tokens. tokens ++ data_tokens waits) behind_7 in
    on_ok_weaker c.write_binds_at.result
    (λ written. written
    ∙ ap (λ tokens. tokens ++ token.key (codes "watch") ∷ data_tokens (written_binds c.args.started.now.watched.now))
    behind_8
    ∙ back_grouped c.args.writer.now.tokens c.as_str.result.now c.args.stopping unheld waits
    (written_binds c.args.started.now.watched.now)
    ∙ rw c.as_str.ensures.bytes refl)
    c.write_binds_at.ensures.tokens
