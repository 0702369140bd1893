use Rattle.std.proofs.lemmas.Result.{on_ok_weaker}
use Rattle.pol_store.proofs.Tokens.{control_pieces}
use Rattle.pol_store.proofs.writing.write_control.Goals as goal

pub returns-clause-tokens : goal.returns-clause-tokens
returns-clause-tokens c =
    on_ok_weaker c.write_number-3.result
    (λ last. control_pieces _ _ _ _ _ _ c.args.control _ _ _ c.mode_word.ensures c.origin_word.ensures
    c.code.ensures.number c.in_ok-write_number.ensures.tokens c.in_ok-write_text.ensures.tokens
    c.in_ok-write_number-2.ensures.tokens c.in_ok-write_text-2.ensures.tokens last) c.write_number-3.ensures.tokens
