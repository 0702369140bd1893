-- The tokens of each part stand behind those before it.
use Rattle.std.proofs.Common.{◌++◌, ◌∷◌, [], ◌∙◌, ap, codes, refl}
use Rattle.std.proofs.lemmas.Result.{on_ok_weaker}
use Rattle.json.specs.Token as token
use Rattle.pol_record.specs.Objects.{data_tokens}
use Rattle.event_json.specs.Written.{written_binds}
use Rattle.pol_core.specs.Plants.{plant_history}
use Rattle.pol_overview.specs.Batches.{hold_data, next_data}
use Rattle.pol_overview.specs.Lists.{each_data}
use Rattle.pol_overview.specs.Steps.{active_data}
use Rattle.pol_overview.proofs.Tokens.{front_grouped}
use Rattle.pol_overview.proofs.batches.write_front.Goals as goal

pub returns-clause-tokens : goal.returns-clause-tokens
returns-clause-tokens c =
    let history = plant_history c.args.plant.now in
    let active = each_data (active_data history) c.args.active.now in
    let behind_1 = c.in_ok-key.ensures.ok in
    let behind_2 = c.in_ok-write_active.ensures.tokens
    ∙ ap (λ tokens. tokens ++ data_tokens active) behind_1 in
    let behind_3 = c.in_ok-write_text.ensures.tokens
    ∙ ap (λ tokens. tokens ++ token.key (codes "batch") ∷ token.string c.as_str.result.now ∷ []) behind_2 in
    let behind_4 = c.in_ok-write_binds_at.ensures.tokens
    ∙ ap (λ tokens. tokens ++ token.key (codes "bind") ∷ data_tokens (written_binds c.args.held.now)) behind_3 in
    let behind_5 = c.in_ok-key-2.ensures.ok
    ∙ ap (λ tokens. tokens ++ token.key (codes "hold") ∷ []) behind_4 in
    let behind_6 = c.in_ok-write_hold.ensures.tokens
    ∙ ap (λ tokens. tokens ++ data_tokens (hold_data c.args.hold)) behind_5 in
    let behind_7 = c.in_ok-key-3.ensures.ok
    ∙ ap (λ tokens. tokens ++ token.key (codes "next") ∷ []) behind_6 in
    on_ok_weaker c.write_next.result
    (λ written. written ∙ ap (λ tokens. tokens ++ data_tokens (next_data history c.args.batch)) behind_7
    ∙ front_grouped c.args.writer.now.tokens active c.as_str.result.now (written_binds c.args.held.now)
    (hold_data c.args.hold) (next_data history c.args.batch)
    ∙ rw c.as_str.ensures.bytes refl)
    c.write_next.ensures.tokens
