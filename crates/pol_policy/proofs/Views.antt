-- The same value seen by two views that agree.
use Rattle.std.proofs.Common.{ℕ, List, map, Result, Ok, Err, Option, Some, None, ◌∙◌, ap, Vec, Global}
use Rattle.std.specs.Option.{option_map}
use Rattle.std.proofs.lemmas.List.{map-id}
use Rattle.mtp_codes.specs.declared.name.Name.{Name}
use Rattle.mtp_json.specs.declared.fault.JsonRefusal.{JsonRefusal}
use Rattle.mtp_json.specs.ReadsAs.{ReadsAs}
use Rattle.mtp_json.specs.ReadResult.{ReadResult}

-- names are plain data as they are
pub names_seen : (result : Result (Vec Name Global) JsonRefusal) (read : ReadResult (List (List ℕ)))
    → ReadsAs (λ found. map (λ name. name) found.items) result read → ReadsAs (λ found. found.items) result read
names_seen (Ok found) read gives = gives ∙ ap Ok (map-id found.items)
names_seen (Err refusal) read gives = gives

-- the same of a list that may be absent
pub names_if_seen : (result : Result (Option (Vec Name Global)) JsonRefusal) (read : ReadResult (Option (List
    (List ℕ))))
    → ReadsAs (option_map (λ found. map (λ name. name) found.items)) result read
    → ReadsAs (option_map (λ found. found.items)) result read
names_if_seen (Ok None) read gives = gives
names_if_seen (Ok (Some found)) read gives = gives ∙ ap (λ names. Ok (Some names)) (map-id found.items)
names_if_seen (Err refusal) read gives = gives

-- and of items of any type that are plain data as they are
pub items_if_seen : {A : Type 0} (result : Result (Option (Vec A Global)) JsonRefusal) (read : ReadResult (Option
    (List A)))
    → ReadsAs (option_map (λ found. map (λ item. item) found.items)) result read
    → ReadsAs (option_map (λ found. found.items)) result read
items_if_seen (Ok None) read gives = gives
items_if_seen (Ok (Some found)) read gives = gives ∙ ap (λ items. Ok (Some items)) (map-id found.items)
items_if_seen (Err refusal) read gives = gives
