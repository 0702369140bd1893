use Rattle.std.proofs.lemmas.Result.{on_ok_weaker}
use Rattle.pol_store.proofs.Tokens.{report_pieces}
use Rattle.pol_store.proofs.writing.write_report.Goals as goal

pub returns-clause-tokens : goal.returns-clause-tokens
returns-clause-tokens c =
    on_ok_weaker c.end_object.result
    (λ last. report_pieces _ _ _ _ _ _ _ _ c.args.at c.args.tag.now c.args.service.now c.args.control _ _
    c.as_str-tag.ensures.bytes c.as_str-service.ensures.bytes c.in_ok-begin_object.ensures.ok
    c.in_ok-write_control.ensures.tokens c.in_ok-write_number.ensures.tokens c.in_ok-write_text.ensures.tokens
    c.in_ok-write_text-2.ensures.tokens c.in_ok-write_text-3.ensures.tokens last) c.end_object.ensures.ok
