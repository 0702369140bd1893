use Rattle.std.proofs.lemmas.Result.{IfOk-weaker}
use Rattle.mtp_desc.specs.PlainDescription.{plain_description}
use Rattle.desc_json.proofs.Again.{description_again}
use Rattle.mtp_desc.proofs.Sound.{description_sound}
use Rattle.desc_json.proofs.writing.write_description.Goals as goal

pub returns-clause-reads_back : goal.returns-clause-reads_back
returns-clause-reads_back c =
    IfOk-weaker c.write_whole.result _ _
    (λ value is. rw is (description_again (plain_description c.args.description.now)
    (description_sound c.args.description.now))) c.write_whole.ensures
