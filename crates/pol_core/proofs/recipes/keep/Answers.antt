-- A new name goes last.
use Rattle.std.proofs.Common.{◌∙◌, ◌∷◌, [], ap}
use Rattle.std.specs.Map.{keys_of}
use Rattle.std.specs.Str.{bytes_eq}
use Rattle.std.proofs.lemmas.List.{map-append}
use Rattle.indexmap.proofs.CallerLemmas.{insert_entry-new}
use Rattle.pol_core.proofs.recipes.keep.Goals as goal

pub returns-in-Ok-clause-order : goal.returns-in-Ok-clause-order
returns-in-Ok-clause-order c =
    ap keys_of (c.in-Ok.ensures.entries
    ∙ insert_entry-new bytes_eq c.args.recipes.now c.args.name c.args.chart c.requires)
    ∙ map-append (λ entry. entry.0) c.args.recipes.now.entries ((c.args.name, c.args.chart) ∷ [])
