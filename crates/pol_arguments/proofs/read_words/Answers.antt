use Rattle.std.proofs.Common.{◌∙◌, codes, sym}
use Rattle.pol_arguments.specs.Words.{texts_of}
use Rattle.pol_arguments.proofs.Meaning.{asks, ungiven, unnamed, value_is}
use Rattle.pol_arguments.proofs.read_words.Goals as goal

pub returns-in_default-clause-refused : goal.returns-in_default-clause-refused
returns-in_default-clause-refused c =
    let words = texts_of c.args.words.now in
    let rows = c.in_ok-matches.ensures.ok.1 in
    λ _ task. unnamed words _ task
    (value_is words c.in_ok-matches.matches (codes "job") _ rows c.get_str.ensures)
    (sym c.in_default.is ∙ c.form_of.ensures)

pub returns-in-Some-task_of-clause-ok : goal.returns-in-Some-task_of-clause-ok
returns-in-Some-task_of-clause-ok c =
    let words = texts_of c.args.words.now in
    let found = c.in_ok-matches.ensures.ok in
    let value = value_is words c.in_ok-matches.matches in (
      found.0,
      asks words c.in-Some.form _ _ _ _ (value (codes "job") _ found.1 c.get_str.ensures)
          (value (codes "seed") _ found.1 c.get_str-2.ensures) (value (codes "watchers") _ found.1 c.get_str-3.ensures)
          (sym c.in-Some.is ∙ c.form_of.ensures) c.in-Some-task_of.ensures,
    )

pub returns-clause-refused : goal.returns-clause-refused
returns-clause-refused c =
    let words = texts_of c.args.words.now in
    let found = c.in_ok-matches.ensures.ok in
    let value = value_is words c.in_ok-matches.matches in
    λ _ task. ungiven words c.in-Some.form _ _ _ task (value (codes "job") _ found.1 c.get_str.ensures)
    (value (codes "seed") _ found.1 c.get_str-2.ensures) (value (codes "watchers") _ found.1 c.get_str-3.ensures)
    (sym c.in-Some.is ∙ c.form_of.ensures) (c.in-None.ensures task)
