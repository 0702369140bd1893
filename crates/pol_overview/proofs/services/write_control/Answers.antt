-- The tokens of each part stand behind those before it.
use Rattle.std.proofs.Common.{◌++◌, ◌∷◌, [], ◌∙◌, ap, codes, refl}
use Rattle.std.proofs.lemmas.Result.{on_ok_weaker}
use Rattle.json.specs.Token as token
use Rattle.pol_record.specs.Objects.{data_tokens}
use Rattle.event_json.specs.Written.{whole}
use Rattle.pol_overview.proofs.Tokens.{control_tokens}
use Rattle.pol_overview.proofs.services.write_control.Goals as goal

pub returns-clause-tokens : goal.returns-clause-tokens
returns-clause-tokens c =
    let behind_1 = c.in_ok-begin_object.ensures.ok in
    let behind_2 = c.in_ok-write_number.ensures.tokens
    ∙ ap (λ tokens. tokens ++ token.key (codes "CommandEn") ∷ data_tokens (whole c.args.control.now.mask)) behind_1 in
    let behind_3 = c.in_ok-write_text.ensures.tokens
    ∙ ap (λ tokens. tokens ++ token.key (codes "Mode") ∷ token.string c.mode_word.result.now ∷ []) behind_2 in
    let behind_4 = c.in_ok-write_number-2.ensures.tokens
    ∙ ap (λ tokens. tokens ++ token.key (codes "ProcedureCur") ∷ data_tokens (whole c.args.control.now.procedure)) behind_3 in
    let behind_5 = c.in_ok-write_text-2.ensures.tokens
    ∙ ap (λ tokens. tokens ++ token.key (codes "Src") ∷ token.string c.origin_word.result.now ∷ []) behind_4 in
    let behind_6 = c.in_ok-write_number-3.ensures.tokens
    ∙ ap (λ tokens. tokens ++ token.key (codes "StateCur") ∷ data_tokens (whole c.code.result)) behind_5 in
    on_ok_weaker c.end_object.result
    (λ written. written ∙ ap (λ tokens. tokens ++ token.end_object ∷ []) behind_6
    ∙ control_tokens c.args.writer.now.tokens c.args.control.now.mask c.mode_word.result.now
    c.args.control.now.procedure c.origin_word.result.now c.code.result
    ∙ rw (c.mode_word.ensures, c.origin_word.ensures, c.code.ensures.number) refl)
    c.end_object.ensures.ok
