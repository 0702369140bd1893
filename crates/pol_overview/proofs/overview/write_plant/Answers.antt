-- The tokens of each part stand behind those before it.
use Rattle.std.proofs.Common.{◌++◌, ◌∷◌, [], ◌∙◌, ap, codes, refl}
use Rattle.std.proofs.lemmas.Result.{on_ok_weaker}
use Rattle.json.specs.Token as token
use Rattle.pol_record.specs.Objects.{data_tokens}
use Rattle.event_json.specs.Written.{whole}
use Rattle.pol_history.specs.Looking.{recipes}
use Rattle.pol_core.specs.Plants.{plant_history}
use Rattle.pol_core.specs.Recipes.{names_in}
use Rattle.pol_overview.specs.Batches.{batches_data}
use Rattle.pol_overview.specs.Lists.{names_data}
use Rattle.pol_overview.specs.Modules.{modules_data}
use Rattle.pol_overview.specs.Near.{rules_data}
use Rattle.pol_overview.proofs.Tokens.{plant_tokens}
use Rattle.pol_overview.proofs.overview.write_plant.Goals as goal

pub returns-clause-tokens : goal.returns-clause-tokens
returns-clause-tokens g c =
    let allows = g.A.Allowing.allows c.args.allowing.now in
    let history = plant_history c.args.plant.now in
    let behind_1 = c.in_ok-begin_object.ensures.ok in
    let behind_2 = c.in_ok-key.ensures.ok
    ∙ ap (λ tokens. tokens ++ token.key (codes "plant") ∷ []) behind_1 in
    let behind_3 = c.in_ok-begin_object-2.ensures.ok
    ∙ ap (λ tokens. tokens ++ token.begin_object ∷ []) behind_2 in
    let behind_4 = c.in_ok-key-2.ensures.ok
    ∙ ap (λ tokens. tokens ++ token.key (codes "batches") ∷ []) behind_3 in
    let behind_5 = c.in_ok-write_batches.ensures.tokens
    ∙ ap (λ tokens. tokens ++ data_tokens (batches_data history)) behind_4 in
    let behind_6 = c.in_ok-write_text.ensures.tokens
    ∙ ap (λ tokens. tokens ++ token.key (codes "begun") ∷ token.string c.args.file.now.begun.now ∷ []) behind_5 in
    let behind_7 = c.in_ok-key-3.ensures.ok
    ∙ ap (λ tokens. tokens ++ token.key (codes "entries") ∷ []) behind_6 in
    let behind_8 = c.in_ok-u64.ensures.ok
    ∙ ap (λ tokens. tokens ++ data_tokens (whole c.args.entries)) behind_7 in
    let behind_9 = c.in_ok-key-4.ensures.ok
    ∙ ap (λ tokens. tokens ++ token.key (codes "modules") ∷ []) behind_8 in
    let behind_10 = c.in_ok-write_modules.ensures.tokens
    ∙ ap (λ tokens. tokens ++ data_tokens (modules_data allows history)) behind_9 in
    let behind_11 = c.in_ok-key-5.ensures.ok
    ∙ ap (λ tokens. tokens ++ token.key (codes "near") ∷ []) behind_10 in
    let behind_12 = c.in_ok-write_rules.ensures.tokens
    ∙ ap (λ tokens. tokens ++ data_tokens (rules_data c.args.near.now)) behind_11 in
    let behind_13 = c.in_ok-key-6.ensures.ok
    ∙ ap (λ tokens. tokens ++ token.key (codes "recipes") ∷ []) behind_12 in
    let behind_14 = c.in_ok-write_recipes.ensures.tokens
    ∙ ap (λ tokens. tokens ++ data_tokens (names_data (names_in (recipes history)))) behind_13 in
    let behind_15 = c.in_ok-write_text-2.ensures.tokens
    ∙ ap (λ tokens. tokens ++ token.key (codes "sum") ∷ token.string c.args.file.now.sum.now ∷ []) behind_14 in
    let behind_16 = c.in_ok-end_object.ensures.ok
    ∙ ap (λ tokens. tokens ++ token.end_object ∷ []) behind_15 in
    on_ok_weaker c.end_object-2.result
    (λ written. written ∙ ap (λ tokens. tokens ++ token.end_object ∷ []) behind_16
    ∙ plant_tokens c.args.writer.now.tokens (batches_data history) c.args.file.now.begun.now c.args.entries
    (modules_data allows history) (rules_data c.args.near.now) (names_data (names_in (recipes history)))
    c.args.file.now.sum.now
    ∙ rw (c.requires.near, c.requires.entries) refl)
    c.end_object-2.ensures.ok
