-- The recipes of entries, one after the other.
use Rattle.std.proofs.Common.{◌≡◌, ◌<◌, ◌≤◌, ◌+◌, ℕ, List, [], drop, get_or, length, map, refl, ap, sym, add-one}
use Rattle.std.specs.Prelude.{filter_map}
use Rattle.std.specs.List.{cons_option}
use Rattle.std.proofs.Math.ListN.{drop_of_length-le}
use Rattle.std.proofs.Math.Seq.{drop-cons}
use Rattle.std.proofs.lemmas.List.{reverse-reverse}
use Rattle.pol_events.specs.Events.{plain_entry, plain_history}
use Rattle.pol_events.specs.declared.event.Entry.{Entry}
use Rattle.pol_find.specs.Recipes.{PlainRecipe, made_known, recipes_of}

-- the recipes that these entries make known
abbrev pub recipes_in : List Entry → List PlainRecipe
recipes_in entries = filter_map made_known (map plain_entry entries)

-- those from an entry on are the one that it makes known, if it does, and those behind it
pub recipes_next : (entries : List Entry) (at : ℕ) (entry : Entry) → at < length entries →
    entry ≡ get_or entries at entry →
    recipes_in (drop at entries) ≡ cons_option (made_known (plain_entry entry)) (recipes_in (drop (at + 1) entries))
recipes_next entries at entry low here = rw (add-one, drop-cons entries at entry low, ← here) refl

-- behind the last entry there is none
pub recipes_end : (entries : List Entry) (at : ℕ) → length entries ≤ at → recipes_in (drop at entries) ≡ []
recipes_end entries at past = ap recipes_in (drop_of_length-le entries past)

-- those of a plant's entries are those of its history
pub all_recipes : (entries : List Entry) → recipes_in entries ≡ recipes_of (plain_history entries)
all_recipes entries = ap (filter_map made_known) (sym (reverse-reverse (map plain_entry entries)))
