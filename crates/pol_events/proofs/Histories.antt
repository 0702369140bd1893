-- A plant's entries, from the oldest on, and the history that contracts see of them.
use Rattle.std.proofs.Common.{◌≡◌, ◌∙◌, List, [], ◌∷◌, ◌++◌, length, map, reverse, ap}
use Rattle.std.proofs.lemmas.List.{length-map, length-reverse, map-append, reverse-append}
use Rattle.pol_events.specs.Events.{plain_entry, plain_history}
use Rattle.pol_events.specs.declared.event.Entry.{Entry}

-- an entry at the end of the entries is the newest of the history
pub history_pushed : (entries : List Entry) (entry : Entry) → plain_history (entries ++ entry ∷ [])
    ≡ plain_entry entry ∷ plain_history entries
history_pushed entries entry = ap reverse (map-append plain_entry entries (entry ∷ []))
    ∙ reverse-append (map plain_entry entries) (plain_entry entry ∷ [])

-- a history is as long as the entries
pub length_history : (entries : List Entry) → length (plain_history entries) ≡ length entries
length_history entries = length-reverse (map plain_entry entries) ∙ length-map entries plain_entry
