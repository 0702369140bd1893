-- A new batch goes last.
use Rattle.std.proofs.Common.{◌∙◌, ◌∷◌, [], ap}
use Rattle.std.specs.Map.{keys_of}
use Rattle.std.specs.Str.{bytes_eq}
use Rattle.std.proofs.lemmas.List.{map-append}
use Rattle.indexmap.proofs.CallerLemmas.{insert_entry-new}
use Rattle.pol_core.proofs.Telling.{from_ok}
use Rattle.pol_core.proofs.starting.enter.Goals as goal

pub returns-clause-order : goal.returns-clause-order
returns-clause-order c =
    ap keys_of (from_ok c.insert.result (c.insert.ensures.succeeds c.requires.room) c.insert.ensures.entries
    ∙ insert_entry-new bytes_eq c.args.runs.now c.args.batch c.args.run c.requires.new)
    ∙ map-append (λ entry. entry.0) c.args.runs.now.entries ((c.args.batch, c.args.run) ∷ [])
