-- Lines by their parts.
use Rattle.std.proofs.Common.{◌≡◌, ℕ, suc, ◌≤◌, ◌<◌, List, [], ◌∷◌, length, true, Option, Some, None, Ok, Err}
use Rattle.std.proofs.Common.{refl, ap, ◌∙◌, subst, arith, codes}
use Rattle.std.specs.Prelude.{IfOk, IfSome, IsTrue, option_map}
use Rattle.std.specs.Str.{IsUtf8}
use Rattle.std.proofs.lemmas.Grind.{common_steps}
use Rattle.std.specs.List.{list_all}
use Rattle.serde_json.specs.Data.{Data, Items, array, object}
use Rattle.serde_json.specs.Events.{items_len}
use Rattle.serde_json.specs.Read.{read}
use Rattle.mtp_codes.specs.Numbers.{greatest_u32, greatest_u64, is_between}
use Rattle.mtp_json.specs.Form.{nested_if_present, field, is_listed}
use Rattle.mtp_json.specs.Leaf.{count, name, word}
use Rattle.mtp_json.specs.Parse.{json_of}
use Rattle.mtp_json.specs.ReadResult.{ReadResult, ◌>>=◌}
use Rattle.mtp_json.proofs.Utf8.{utf8_is}
use Rattle.mtp_desc.specs.Plain.{PlainDescription}
use Rattle.desc_json.specs.Form.{description_of}
use Rattle.chart_core.specs.Form.{is_tree_formed}
use Rattle.chart_core.specs.Roles.{PlainChart, PlainRole}
use Rattle.chart_core.specs.Trees.{Tree}
use Rattle.chart_json.specs.Form.{are_roles_sized, chart_from, role_of, roles_of, tree_of}
use Rattle.chart_json.proofs.Formed.{roles_sized, tree_formed}
use Rattle.pol_events.specs.declared.event.Event.{Event}
use Rattle.pol_events.specs.Events.{PlainEvent, exchange_end, plain_event, plug, recipe}
use Rattle.pol_events.specs.Orderly.{is_orderly}
use Rattle.event_json.specs.declared.kind.EventKind.TheVariants.{ExchangeEnd, Plug, Recipe}
use Rattle.event_json.specs.Forms.{event_in, exchange_end_in, plug_in, recipe_in}
use Rattle.event_json.specs.declared.guarded.Guarded.{Guarded}
use Rattle.event_json.specs.Guarded.{PlainGuarded, guarded_in, guarded_of, plain_guarded}
use Rattle.event_json.specs.Lines.{event_of, fault_within}
use Rattle.event_json.specs.Words.{kind_words}
use Rattle.event_json.proofs.Again.{faultless}
use Rattle.pol_lines.specs.declared.flat.Member.{Member}
use Rattle.pol_lines.specs.declared.key.Key.TheVariants as key
use Rattle.pol_lines.specs.declared.objects.Cut.{Cut}
use Rattle.pol_lines.specs.declared.objects.Cut.TheVariants.{End, More}
use Rattle.pol_lines.specs.Begins.{Begins}
use Rattle.pol_lines.specs.Flat.{flat_data}
use Rattle.pol_lines.specs.Keys.{key_text}
use Rattle.pol_lines.specs.Objects.{GivesEach, IsEnd, Makes, Stands, with_value}
use Rattle.pol_lines.proofs.Cuts.{flat_field}
use Rattle.pol_lines.proofs.Printed.{begins_all}

-- ---- lines

-- a text that reads as what says a faultless event is its line
line_says : (text : List ℕ) (value : Data) (event : PlainEvent) → IsUtf8 text → read text ≡ Some value
    → event_in value ≡ Ok event → fault_within event ≡ None → event_of text ≡ Ok event
unfolding event_of json_of
line_says text value event utf8 is again none = rw (utf8_is text utf8, is, again, none) refl

-- so is one object with nothing behind it, of whose members a faultless event is made
pub line_of_object : (deep : ℕ) (line : List ℕ) (cut : Cut) (members : List Member)
    (others : List (List ℕ × Data)) (event : PlainEvent) → deep < 127 → IsUtf8 line
    → Stands deep line members others cut → IsEnd cut → Makes event_in event members others
    → fault_within event ≡ None → event_of line ≡ Ok event
line_of_object deep line (More rest) members others event fits utf8 is ends makes none = absurd ends
line_of_object deep line (End rest) members others event fits utf8 is ends makes none =
    line_says line (object is.found) event utf8
    (begins_all (suc deep) line (object is.found) (omega arith)
    (subst (λ s. Begins (suc deep) line (object is.found) s) ends is.begins))
    (makes is.found is.among) none

-- what a form gave of a value that is there
pub given_value : {A : Type 0} (form : Data → ReadResult A) (value : Data) (made : A)
    → nested_if_present form (Some value) ≡ Ok (Some made) → form value ≡ Ok made
given_value {A = A} form value made is = go (form value) is
  where
    go : (read : ReadResult A) → (read >>= λ found. Ok (Some found)) ≡ Ok (Some made) → read ≡ Ok made
    go (Ok found) one = let same : found ≡ made = cc in rw same refl
    go (Err fault) none = absurd cc

-- a line that is one object of flat members and a value, of which a form gave something, and its event
pub line_with_value : {A : Type 0} (form : Data → ReadResult A) (made : A) (deep : ℕ) (line name : List ℕ) (cut : Cut)
    (members : List Member) (value : Option Data) (event : PlainEvent)
    → deep < 127 → IsUtf8 line → nested_if_present form value ≡ Ok (Some made)
    → Stands deep line members (with_value name value []) cut → IsEnd cut
    → ((given : Data) → form given ≡ Ok made → Makes event_in event members ((name, given) ∷ []))
    → fault_within event ≡ None → event_of line ≡ Ok event
line_with_value form made deep line name cut members None event fits utf8 gives is ends makes none = absurd cc
line_with_value form made deep line name cut members (Some value) event fits utf8 gives is ends makes none =
    line_of_object deep line cut members ((name, value) ∷ []) event fits utf8 is ends
    (makes value (given_value form value made gives)) none

-- what flat members say they say as members of an object
pub flat_makes : {A : Type 0} (form : Data → ReadResult A) (made : A) (members : List Member)
    → form (flat_data members) ≡ Ok made → Makes form made members []
flat_makes form made members is found among = ap (λ all. form (object all)) (among.alone refl) ∙ is

-- what flat members say, a line of nothing else says
pub line_of_flats : (line : List ℕ) (cut : Cut) (members : List Member) (result : Option Event) → IsUtf8 line
    → Stands 0 line members [] cut → IsEnd cut
    → IfSome result (λ event. event_in (flat_data members) ≡ Ok (plain_event event))
    → IfSome result (λ event. IsTrue (is_orderly (plain_event event)))
    → IfSome result (λ event. event_of line ≡ Ok (plain_event event))
line_of_flats line cut members None utf8 is ends says orderly = tt
line_of_flats line cut members (Some event) utf8 is ends says orderly =
    line_of_object 0 line cut members [] (plain_event event) (omega arith) utf8 is ends
    (flat_makes event_in (plain_event event) members says) (faultless (plain_event event) orderly)

-- a text that reads as what says a faultless event under a policy is its line
guarded_line_says : (text : List ℕ) (value : Data) (said : PlainGuarded) → IsUtf8 text → read text ≡ Some value
    → guarded_in value ≡ Ok said → fault_within said.event ≡ None → guarded_of text ≡ Ok said
unfolding guarded_of json_of
guarded_line_says text value said utf8 is again none = rw (utf8_is text utf8, is, again, none) refl

-- so is one object of flat members with nothing behind it
guarded_line_of_object : (line : List ℕ) (cut : Cut) (members : List Member) (said : PlainGuarded) → IsUtf8 line
    → Stands 0 line members [] cut → IsEnd cut → guarded_in (flat_data members) ≡ Ok said
    → fault_within said.event ≡ None → guarded_of line ≡ Ok said
guarded_line_of_object line (More rest) members said utf8 is ends says none = absurd ends
guarded_line_of_object line (End rest) members said utf8 is ends says none =
    guarded_line_says line (object is.found) said utf8
    (begins_all 1 line (object is.found) (omega arith)
    (subst (λ s. Begins 1 line (object is.found) s) ends is.begins))
    (flat_makes guarded_in said members says is.found is.among) none

-- what flat members say under a policy, a line of nothing else says
pub guarded_line_of_flats : (line : List ℕ) (cut : Cut) (members : List Member) (result : Option Guarded)
    → IsUtf8 line → Stands 0 line members [] cut → IsEnd cut
    → IfSome result (λ said. guarded_in (flat_data members) ≡ Ok (plain_guarded said))
    → IfSome result (λ said. fault_within (plain_event said.event) ≡ None)
    → IfSome result (λ said. guarded_of line ≡ Ok (plain_guarded said))
guarded_line_of_flats line cut members None utf8 is ends says none = tt
guarded_line_of_flats line cut members (Some said) utf8 is ends says none =
    guarded_line_of_object line cut members (plain_guarded said) utf8 is ends says none

-- ---- modules

-- a plug of these members and this description
pub plug_of_parts : (members : List Member) (value : Data) (at : ℕ) (tag : List ℕ) (description : PlainDescription)
    → field (codes "ev") (word kind_words) (flat_data members) ≡ Ok Plug
    → field (codes "at") (count 0 greatest_u64) (flat_data members) ≡ Ok at
    → field (codes "tag") name (flat_data members) ≡ Ok tag
    → list_all (λ each. is_listed (codes "ev at tag desc") (key_text each.key)) members ≡ true
    → description_of value ≡ Ok description
    → Makes event_in (plug at tag description) members ((codes "desc", value) ∷ [])
unfolding event_in plug_in
plug_of_parts members value at tag description is_kind is_at is_tag listed described found among =
    let e0 = flat_field members _ found (word kind_words) key.Ev (Ok Plug) among is_kind in
    let e1 = flat_field members _ found (count 0 greatest_u64) key.At (Ok at) among is_at in
    let e2 = flat_field members _ found name key.Tag (Ok tag) among is_tag in
    let e3 = among.other (codes "desc") refl in
    let e4 = among.listed (codes "ev at tag desc") listed refl in
    rw (e0, e1, e2, e3, described, e4) refl

-- the end of an exchange of these members and this description
pub exchange_of_parts : (members : List Member) (value : Data) (at : ℕ) (tag : List ℕ) (ticket : ℕ)
    (description : PlainDescription)
    → field (codes "ev") (word kind_words) (flat_data members) ≡ Ok ExchangeEnd
    → field (codes "at") (count 0 greatest_u64) (flat_data members) ≡ Ok at
    → field (codes "tag") name (flat_data members) ≡ Ok tag
    → field (codes "ticket") (count 0 greatest_u32) (flat_data members) ≡ Ok ticket
    → list_all (λ each. is_listed (codes "ev at tag ticket desc") (key_text each.key)) members ≡ true
    → description_of value ≡ Ok description
    → Makes event_in (exchange_end at tag ticket description) members ((codes "desc", value) ∷ [])
unfolding event_in exchange_end_in
exchange_of_parts members value at tag ticket description is_kind is_at is_tag is_ticket listed described found among =
    let e0 = flat_field members _ found (word kind_words) key.Ev (Ok ExchangeEnd) among is_kind in
    let e1 = flat_field members _ found (count 0 greatest_u64) key.At (Ok at) among is_at in
    let e2 = flat_field members _ found name key.Tag (Ok tag) among is_tag in
    let e3 = flat_field members _ found (count 0 greatest_u32) key.Ticket (Ok ticket) among is_ticket in
    let e4 = among.other (codes "desc") refl in
    let e5 = among.listed (codes "ev at tag ticket desc") listed refl in
    rw (e0, e1, e2, e3, e4, described, e5) refl

-- ---- recipes

-- what is known of what was read
known : {A : Type 0} (P : A → Type 0) (read : ReadResult A) (found : A) → read ≡ Ok found → IfOk read P → P found
known P read found is told = rw is at told

-- a node that was read is formed
pub node_formed : (value : Data) (root : Tree) → tree_of value ≡ Ok root → is_tree_formed root ≡ true
node_formed value root is = known (λ node. is_tree_formed node ≡ true) (tree_of value) root is (tree_formed value)

-- a list of 1 to 64 roles is the roles of a chart
pub roles_in : (values : Items) (roles : List PlainRole) → GivesEach role_of roles (Some values)
    → 0 < length roles → length roles ≤ 64 → roles_of (array values) ≡ Ok roles
unfolding roles_of
roles_in values roles gives some few =
    let sized : is_between 1 64 (items_len values) ≡ true = grind (arith, common_steps, gives.1, some, few) in
    rw sized gives.0

-- so they are sized
pub roles_fit : (values : Items) (roles : List PlainRole) → roles_of (array values) ≡ Ok roles
    → are_roles_sized roles ≡ true
roles_fit values roles is = known (λ found. are_roles_sized found ≡ true) (roles_of (array values)) roles is
    (roles_sized (array values))

-- a recipe of these members, roles and root
pub recipe_of_parts : (members : List Member) (values : Items) (chart : Data) (at : ℕ) (named : List ℕ)
    (roles : List PlainRole) (root : Tree) (made : PlainChart)
    → field (codes "ev") (word kind_words) (flat_data members) ≡ Ok Recipe
    → field (codes "at") (count 0 greatest_u64) (flat_data members) ≡ Ok at
    → field (codes "recipe") name (flat_data members) ≡ Ok named
    → list_all (λ each. is_listed (codes "ev at recipe roles chart") (key_text each.key)) members ≡ true
    → roles_of (array values) ≡ Ok roles → tree_of chart ≡ Ok root → chart_from roles root ≡ Ok made
    → Makes event_in (recipe at named made) members ((codes "chart", chart) ∷ (codes "roles", array values) ∷ [])
unfolding event_in recipe_in
recipe_of_parts members values chart at named roles root made is_kind is_at is_named listed is_roles is_root is_made
    found among =
    let e1 = flat_field members _ found (word kind_words) key.Ev (Ok Recipe) among is_kind in
    let e2 = flat_field members _ found (count 0 greatest_u64) key.At (Ok at) among is_at in
    let e3 = flat_field members _ found name key.Recipe (Ok named) among is_named in
    let e4 = among.other (codes "roles") refl in
    let e5 = among.other (codes "chart") refl in
    let e6 = among.listed (codes "ev at recipe roles chart") listed refl in
    rw (e1, e2, e3, e4, is_roles, e5, is_root, e6, is_made) refl

-- a line that is one object of flat members, roles and a chart, and its recipe
pub line_of_recipe : (line : List ℕ) (cut : Cut) (members : List Member) (values : Option Items)
    (chart : Option Data) (roles : List PlainRole) (root : Tree) (event : PlainEvent)
    → IsUtf8 line → GivesEach role_of roles values → 0 < length roles → length roles ≤ 64
    → nested_if_present tree_of chart ≡ Ok (Some root)
    → Stands 64 line members (with_value (codes "chart") chart
    (with_value (codes "roles") (option_map array values) [])) cut → IsEnd cut
    → ((played : Items) (given : Data) → roles_of (array played) ≡ Ok roles → tree_of given ≡ Ok root
    → Makes event_in event members ((codes "chart", given) ∷ (codes "roles", array played) ∷ []))
    → fault_within event ≡ None → event_of line ≡ Ok event
line_of_recipe line cut members None chart roles root event utf8 given some few gives is ends makes none =
    absurd (omega (arith, some, ap length given))
line_of_recipe line cut members (Some values) None roles root event utf8 given some few gives is ends makes none =
    absurd cc
line_of_recipe line cut members (Some values) (Some chart) roles root event utf8 given some few gives is ends makes
    none =
    line_of_object 64 line cut members ((codes "chart", chart) ∷ (codes "roles", array values) ∷ []) event
    (omega arith) utf8 is ends
    (makes values chart (roles_in values roles given some few) (given_value tree_of chart root gives)) none

-- roles and a root that were read are sized and formed
pub read_is_formed : (values : Option Items) (chart : Option Data) (roles : List PlainRole) (root : Tree)
    → GivesEach role_of roles values → 0 < length roles → length roles ≤ 64
    → nested_if_present tree_of chart ≡ Ok (Some root)
    → (are_roles_sized roles ≡ true) × (is_tree_formed root ≡ true)
read_is_formed None chart roles root given some few gives = absurd (omega (arith, some, ap length given))
read_is_formed (Some values) None roles root given some few gives = absurd cc
read_is_formed (Some values) (Some chart) roles root given some few gives = (
  roles_fit values roles (roles_in values roles given some few),
  node_formed chart root (given_value tree_of chart root gives),
)
