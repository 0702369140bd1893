use Rattle.std.proofs.lemmas.Result.{on_ok_weaker}
use Rattle.mtp_json.specs.Written.{scalar_data}
use Rattle.pol_store.proofs.Tokens.{variable_pieces}
use Rattle.pol_store.proofs.writing.write_variable.Goals as goal

pub returns-clause-tokens : goal.returns-clause-tokens
returns-clause-tokens c =
    on_ok_weaker c.end_object.result
    (λ last. variable_pieces _ _ _ _ _ _ _ _ _ c.args.at c.args.tag.now c.args.name.now (scalar_data c.args.value.now)
    _ _ c.as_str-tag.ensures.bytes c.as_str-name.ensures.bytes c.in_ok-begin_object.ensures.ok
    c.in_ok-write_number.ensures.tokens c.in_ok-write_text.ensures.tokens c.in_ok-write_text-2.ensures.tokens
    c.in_ok-write_text-3.ensures.tokens c.in_ok-key.ensures.ok c.in_ok-write_scalar.ensures.tokens last)
    c.end_object.ensures.ok
