-- The tag before which so many stand is the one at that place of the order.
use Rattle.std.proofs.Common.{◌==◌, ◌∙◌, rules, tests}
use Rattle.std.specs.Map.{keys_of}
use Rattle.std.proofs.lemmas.Iterator.Consumers.{YieldsList-from_rest}
use Rattle.std.proofs.lemmas.Iterator.Search.{find_from_yields_List}
use Rattle.pol_table.specs.ByteOrder.{place_among}
use Rattle.pol_table.proofs.ByteOrder.{found_at}
use Rattle.pol_table.proofs.order.tag_at.Goals as goal

pub returns : goal.returns
returns c =
    let tags = keys_of c.args.seats.now.entries in
    c.copied.ensures
    ∙ find_from_yields_List (λ tag. place_among tags tag == c.args.place) _ _ c.find.result c.find.ensures.ran
    (YieldsList-from_rest tags c.keys.ensures.rest) (λ tag b q k. search (rules, tests))
    ∙ found_at tags c.args.place c.keys.ensures.unique
