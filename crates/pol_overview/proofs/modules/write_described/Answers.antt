-- The tokens of each part stand behind those before it.
use Rattle.std.proofs.Common.{◌++◌, ◌∷◌, [], ◌∙◌, ap, codes, map, refl}
use Rattle.std.proofs.lemmas.Result.{on_ok_weaker}
use Rattle.json.specs.Token as token
use Rattle.pol_record.specs.Objects.{data_tokens}
use Rattle.mtp_assembly.specs.Plain.{plain_variable}
use Rattle.mtp_desc.specs.PlainService.{plain_service}
use Rattle.pol_history.specs.Batches.{watchers_of}
use Rattle.pol_history.specs.Modules.{ticket_of}
use Rattle.pol_core.specs.Calls.{plain_docking}
use Rattle.pol_core.specs.Plants.{plant_history}
use Rattle.pol_overview.specs.Lists.{each_data, name_or_null, names_data}
use Rattle.pol_overview.specs.Modules.{service_data, ticket_data, variable_data}
use Rattle.pol_overview.proofs.Tokens.{module_tokens}
use Rattle.pol_overview.proofs.modules.write_described.Goals as goal

pub returns-clause-tokens : goal.returns-clause-tokens
returns-clause-tokens g c =
    let allows = g.A.Allowing.allows c.args.allowing.now in
    let history = plant_history c.args.plant.now in
    let behind_1 = c.in_ok-begin_object.ensures.ok in
    let behind_2 = c.in_ok-key.ensures.ok
    ∙ ap (λ tokens. tokens ++ token.key (codes "holder") ∷ []) behind_1 in
    let behind_3 = c.in_ok-write_name_or_null.ensures.tokens
    ∙ ap (λ tokens. tokens ++ data_tokens (name_or_null c.holder.result)) behind_2 in
    let behind_4 = c.in_ok-key-2.ensures.ok
    ∙ ap (λ tokens. tokens ++ token.key (codes "services") ∷ []) behind_3 in
    let behind_5 = c.in_ok-write_services.ensures.tokens
    ∙ ap (λ tokens. tokens ++ data_tokens (each_data (service_data allows history c.args.tag) (map plain_service c.deref.result.now))) behind_4 in
    let behind_6 = c.in_ok-write_text.ensures.tokens
    ∙ ap (λ tokens. tokens ++ token.key (codes "tag") ∷ token.string c.as_str.result.now ∷ []) behind_5 in
    let behind_7 = c.in_ok-key-3.ensures.ok
    ∙ ap (λ tokens. tokens ++ token.key (codes "ticket") ∷ []) behind_6 in
    let behind_8 = c.in_ok-write_ticket.ensures.tokens
    ∙ ap (λ tokens. tokens ++ data_tokens (ticket_data (ticket_of (plain_docking c.docking.result)))) behind_7 in
    let behind_9 = c.in_ok-write_text-2.ensures.tokens
    ∙ ap (λ tokens. tokens ++ token.key (codes "type") ∷ token.string c.as_str-2.result.now ∷ []) behind_8 in
    let behind_10 = c.in_ok-key-4.ensures.ok
    ∙ ap (λ tokens. tokens ++ token.key (codes "values") ∷ []) behind_9 in
    let behind_11 = c.in_ok-write_values.ensures.tokens
    ∙ ap (λ tokens. tokens ++ data_tokens (each_data (variable_data history c.args.tag) (map plain_variable c.deref-2.result.now))) behind_10 in
    let behind_12 = c.in_ok-write_text-3.ensures.tokens
    ∙ ap (λ tokens. tokens ++ token.key (codes "version") ∷ token.string c.as_str-3.result.now ∷ []) behind_11 in
    let behind_13 = c.in_ok-key-5.ensures.ok
    ∙ ap (λ tokens. tokens ++ token.key (codes "watchers") ∷ []) behind_12 in
    let behind_14 = c.in_ok-write_watchers.ensures.tokens
    ∙ ap (λ tokens. tokens ++ data_tokens (names_data (watchers_of history c.args.tag))) behind_13 in
    on_ok_weaker c.end_object.result
    (λ written. written ∙ ap (λ tokens. tokens ++ token.end_object ∷ []) behind_14
    ∙ module_tokens c.args.writer.now.tokens (name_or_null c.holder.result)
    (each_data (service_data allows history c.args.tag) (map plain_service c.deref.result.now)) c.as_str.result.now
    (ticket_data (ticket_of (plain_docking c.docking.result))) c.as_str-2.result.now
    (each_data (variable_data history c.args.tag) (map plain_variable c.deref-2.result.now)) c.as_str-3.result.now
    (names_data (watchers_of history c.args.tag))
    ∙ rw (
      c.holder.ensures,
      c.deref.ensures.value,
      c.as_str.ensures.bytes,
      c.docking.ensures,
      c.as_str-2.ensures.bytes,
      c.deref-2.ensures.value,
      c.as_str-3.ensures.text,
    ) refl)
    c.end_object.ensures.ok
