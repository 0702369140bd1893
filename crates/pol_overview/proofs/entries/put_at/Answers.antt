-- The entry at the place is told before those that are left.
use Rattle.std.proofs.Common.{◌++◌, ◌∙◌, ap, map}
use Rattle.std.proofs.lemmas.Result.{on_ok_weaker}
use Rattle.serde_json.specs.Written.{compact_text}
use Rattle.pol_events.specs.Events.{plain_entry}
use Rattle.pol_overview.specs.Entries.{NamedEntry, all_named, entry_data}
use Rattle.pol_overview.proofs.Between.{drop_named, entry_orderly, next_between}
use Rattle.pol_overview.proofs.entries.put_at.Goals as goal

pub put_told-requires : goal.put_told-requires
put_told-requires c =
    entry_orderly c.args.entries.now c.args.place c.index-entries-place.result c.requires.orderly c.requires.within
    c.index-entries-place.is

pub returns : goal.returns
returns c =
    let told : NamedEntry = record {
      entry = plain_entry c.index-entries-place.result;
      person = c.index-persons-place.result;
    } in
    let cut = drop_named c.args.persons.now c.args.entries.now c.args.place c.index-entries-place.result
    c.index-persons-place.result c.requires.same c.requires.within c.index-entries-place.is c.index-persons-place.is in
    on_ok_weaker c.put_told.result
    (λ wrote end inside.
    next_between (all_named c.args.persons.now (map plain_entry c.args.entries.now)) told c.args.first c.args.place end
    c.args.out.now.items c.put_told.new.out.items cut c.requires.behind inside
    (wrote ∙ ap (λ text. text ++ compact_text (entry_data told)) c.in_ok-put_comma.ensures))
    c.put_told.ensures
