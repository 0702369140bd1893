-- The entries from the first place up to the last are those that are asked for.
use Rattle.std.proofs.Common.{◌≡◌, ◌+◌, ◌-◌, ◌++◌, ◌∙◌, ap, arith, codes, drop, length, map, refl, sym, take}
use Rattle.std.proofs.lemmas.List.{length-map}
use Rattle.pol_events.specs.Events.{plain_entry}
use Rattle.pol_overview.specs.Entries.{all_named, cut_of, entries_text, text_between}
use Rattle.pol_overview.proofs.Cuts.{cut_pieces, dropped_length, named_length}
use Rattle.pol_overview.proofs.entries.put_entries_line.Goals as goal

pub returns : goal.returns
returns c =
    let known = c.history-entries.result.now in
    let persons = c.args.persons.now in
    let entries = all_named persons (map plain_entry known) in
    let first = c.first_of-first.result in
    let few = c.few_of.result in
    let as_many : length persons ≡ length (map plain_entry known) =
    c.requires ∙ ap length (sym c.history-entries.ensures.entries) ∙ sym (length-map known plain_entry) in
    let count : length entries ≡ length known =
    named_length persons (map plain_entry known) as_many ∙ length-map known plain_entry in
    let between : (first + few) - first ≡ few = omega arith in
    let ends = ap (λ number. take number (drop first entries)) between
    ∙ c.few_of.ensures.same (drop first entries)
    (dropped_length entries first ∙ ap (λ number. number - first) count)
    ∙ ap (λ number. take number (drop first entries)) c.most_of.ensures in
    c.in_ok-extend_from_slice-2.ensures.items
    ∙ ap (λ text. text ++ codes "}\n")
    (c.in_ok-put_between.ensures
    ∙ ap (λ text. text ++ text_between first first (first + few) entries) c.in_ok-extend_from_slice.ensures.items)
    ∙ cut_pieces c.args.out.now.items (text_between first first (first + few) entries) entries c.args.from first
    (first + few) c.args.most (c.first_of-first.ensures.same entries count) ends refl
    ∙ ap (λ known. c.args.out.now.items
    ++ entries_text (cut_of c.args.from c.args.most (all_named persons (map plain_entry known))))
    c.history-entries.ensures.entries
