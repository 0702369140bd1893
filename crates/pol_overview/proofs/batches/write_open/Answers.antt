-- The tokens of each part stand behind those before it.
use Rattle.std.proofs.Common.{◌++◌, ◌∷◌, [], ◌∙◌, ap, refl}
use Rattle.std.proofs.lemmas.Result.{on_ok_weaker}
use Rattle.json.specs.Token as token
use Rattle.json.specs.Token.{Token}
use Rattle.event_json.specs.Written.{written_binds}
use Rattle.pol_core.specs.Plants.{plant_history}
use Rattle.pol_overview.specs.Batches.{back_tokens, front_tokens, hold_data, next_data}
use Rattle.pol_overview.specs.Lists.{each_data}
use Rattle.pol_overview.specs.Steps.{active_data, unheld_steps, waiting_data}
use Rattle.pol_overview.proofs.Tokens.{open_tokens}
use Rattle.pol_overview.proofs.batches.write_open.Goals as goal

pub returns-clause-tokens : goal.returns-clause-tokens
returns-clause-tokens c =
    let history = plant_history c.args.plant.now in
    let started = c.args.started.now in
    let standing = c.args.standing.now in
    let active = each_data (active_data history) c.deref-2.result.now in
    let unheld = unheld_steps history c.held_steps-held.result.now in
    let waits = each_data waiting_data c.deref-3.result.now in
    let front = front_tokens active c.args.batch (written_binds started.held.now) (hold_data standing.hold)
    (next_data history c.args.batch) in
    let back = back_tokens started.recipe standing.is_stopping unheld waits (written_binds started.watched.now) in
    let behind_1 = c.in_ok-begin_object.ensures.ok in
    let behind_2 = c.in_ok-write_front.ensures.tokens ∙ ap (λ tokens. tokens ++ front) behind_1 in
    let behind_3 = c.in_ok-write_back.ensures.tokens ∙ ap (λ tokens. tokens ++ back) behind_2 in
    on_ok_weaker c.end_object.result
    (λ written. written ∙ ap (λ tokens. tokens ++ token.end_object ∷ []) behind_3
    ∙ open_tokens c.args.writer.now.tokens active c.args.batch (written_binds started.held.now)
    (hold_data standing.hold) (next_data history c.args.batch) started.recipe standing.is_stopping unheld waits
    (written_binds started.watched.now)
    ∙ rw (
      c.deref-2.ensures.value,
      c.held_steps-held.ensures,
      c.deref.ensures.value,
      c.in_ok-active.ensures,
      c.deref-3.ensures.value,
      c.in_ok-waits.ensures,
    ) refl)
    c.end_object.ensures.ok
