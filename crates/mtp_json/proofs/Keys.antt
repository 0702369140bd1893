-- The keys of an object.
use Rattle.std.proofs.Common.{◌≡◌, ℕ, List, [], ◌∷◌, String, Global, BTreeMap, string_bytes, refl, sym, ap, ◌&&◌}
use Rattle.std.specs.List.{list_all}
use Rattle.std.specs.BTreeMap.{keys as map_keys}
use Rattle.std.specs.Map.{keys_of}
use Rattle.serde_json.specs.View.{members_view}
use Rattle.serde_json.specs.declared.value.Value.{Value}
use Rattle.mtp_json.specs.Form.{is_listed, all_listed}

-- the keys of some entries are listed where those of the members are
all_listed_of : (keys : List ℕ) (entries : List (String Global × Value))
    → list_all (λ key. is_listed keys (string_bytes key)) (keys_of entries) ≡ all_listed keys (members_view entries)
all_listed_of keys [] = refl
all_listed_of keys (entry ∷ entries) = ap (λ b. is_listed keys (string_bytes entry.0) && b) (all_listed_of keys entries)

-- so a map's keys tell whether its members are listed
pub all_listed_by_keys : (keys : List ℕ) (object : BTreeMap (String Global) Value)
    → all_listed keys (members_view object.entries)
    ≡ list_all (λ key. is_listed keys (string_bytes key)) (map_keys object)
all_listed_by_keys keys object = sym (all_listed_of keys object.entries)
