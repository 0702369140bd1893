-- A step by its parts.
use Rattle.std.proofs.Common.{◌≡◌, ℕ, ◌≤◌, List, [], ◌∷◌, length, map, true, false, Option, Some, None, Ok, Err, refl}
use Rattle.std.proofs.Common.{ap, ◌∙◌, codes}
use Rattle.std.specs.Option.{option_or}
use Rattle.std.specs.Prelude.{option_map}
use Rattle.std.specs.List.{list_all}
use Rattle.serde_json.specs.Data.{Data, Items, array}
use Rattle.mtp_codes.specs.declared.value.Setting.{Setting}
use Rattle.mtp_codes.specs.Repeats.{repeats_by}
use Rattle.mtp_json.specs.Form.{field, is_listed, nested_if_present}
use Rattle.mtp_json.specs.Leaf.{count, meaning_of, name}
use Rattle.mtp_json.specs.ReadResult.{ReadResult, ◌>>=◌}
use Rattle.chart_core.specs.Formulas.{Formula, plain_condition}
use Rattle.chart_core.specs.Trees.{plain_finish}
use Rattle.chart_core.specs.declared.condition.Condition.{Condition}
use Rattle.chart_json.specs.Form.{condition_of, same_setting, setting_of, step_of}
use Rattle.pol_lines.specs.declared.flat.Member.{Member}
use Rattle.pol_lines.specs.declared.key.Key.TheVariants as key
use Rattle.pol_lines.specs.Flat.{flat_data}
use Rattle.pol_lines.specs.Keys.{key_text}
use Rattle.pol_lines.specs.Objects.{GivesEach, Makes, with_value}
use Rattle.pol_lines.specs.Steps.{GivesStep}
use Rattle.pol_lines.proofs.Cuts.{flat_field, found_with, list_if_any, listed_with, unlike_with}

-- a step of these members, settings and condition
pub step_of_parts : (members : List Member) (others : List (List ℕ × Data)) (named role service : List ℕ)
    (procedure : ℕ) (settings : List Setting) (finish : Option Formula)
    → field (codes "step") name (flat_data members) ≡ Ok named
    → field (codes "role") name (flat_data members) ≡ Ok role
    → field (codes "service") name (flat_data members) ≡ Ok service
    → field (codes "procedure") (count 1 65535) (flat_data members) ≡ Ok procedure
    → list_all (λ each. is_listed (codes "step role service procedure settings finish")
    (key_text each.key)) members ≡ true
    → length settings ≤ 32 → repeats_by same_setting settings ≡ false → GivesStep settings finish others
    → Makes step_of (record {
      name = named;
      role = role;
      service = service;
      procedure = procedure;
      settings =
          settings;
      finish = finish;
    }) members others
unfolding step_of
step_of_parts members others named role service procedure settings finish is_named is_role is_service is_procedure
    listed few apart given found among =
    let keys = codes "step role service procedure settings finish" in
    let e1 = flat_field members others found name key.Step (Ok named) among is_named in
    let e2 = flat_field members others found name key.Role (Ok role) among is_role in
    let e3 = flat_field members others found name key.Service (Ok service) among is_service in
    let e4 = flat_field members others found (count 1 65535) key.Procedure (Ok procedure) among is_procedure in
    let e5 = among.other (codes "settings") refl ∙ given.there in
    let e6 = list_if_any (codes "settings") setting_of 32 given.values settings given.gives few in
    let e7 = among.other (codes "finish") refl in
    let e8 = among.listed keys listed given.listed in
    rw (e1, e2, e3, e4, e5, e6, e7, given.finishes, e8, apart) refl

-- ---- what is beside the flat members

-- a condition that is there or not, as plain data
finish_is : (finish : Option Condition) → option_map plain_condition finish ≡ plain_finish finish
finish_is None = refl
finish_is (Some condition) = refl

-- a condition, settings and a condition, the last first
abbrev pub around : Option Data → Option Items → Option Data → List (List ℕ × Data)
around first settings last =
    with_value (codes "finish") last (with_value (codes "settings") (option_map array settings)
    (with_value (codes "finish") first []))

-- the settings are found among them
settings_around : (first last : Option Data) (settings : Option Items)
    → meaning_of (codes "settings") (around first settings last) ≡ option_map array settings
settings_around first last settings =
    let before = with_value (codes "finish") first [] in
    unlike_with (codes "settings") (codes "finish") last
    (with_value (codes "settings") (option_map array settings) before) refl
    ∙ found_with (codes "settings") (option_map array settings) before
    (unlike_with (codes "settings") (codes "finish") first [] refl)

-- of the conditions the last one is found
finish_around : (first last : Option Data) (settings : Option Items)
    → meaning_of (codes "finish") (around first settings last) ≡ option_or last first
finish_around first None settings =
    unlike_with (codes "finish") (codes "settings") (option_map array settings)
    (with_value (codes "finish") first []) refl
    ∙ found_with (codes "finish") first [] refl
finish_around first (Some value) settings = refl

-- a value that is there gives something
gives_some : {A : Type 0} (form : Data → ReadResult A) (value : Data)
    → nested_if_present form (Some value) ≡ Ok None → ⊥
gives_some {A = A} form value none = go (form value) none
  where
    go : (read : ReadResult A) → (read >>= λ found. Ok (Some found)) ≡ Ok None → ⊥
    go (Ok found) some = cc
    go (Err fault) failed = cc

-- the condition that the last one gives, or else the first
finish_given : (first last : Option Data) (early late : Option Condition)
    → nested_if_present condition_of first ≡ Ok (option_map plain_condition early)
    → nested_if_present condition_of last ≡ Ok (option_map plain_condition late)
    → nested_if_present condition_of (option_or last first) ≡ Ok (plain_finish (option_or late early))
finish_given first None early None is_early is_late = is_early ∙ ap Ok (finish_is early)
finish_given first None early (Some condition) is_early is_late = absurd cc
finish_given first (Some value) early None is_early is_late = absurd (gives_some condition_of value is_late)
finish_given first (Some value) early (Some condition) is_early is_late = is_late

-- so they give a step its settings and its condition
pub step_around : (first last : Option Data) (values : Option Items) (settings : List Setting)
    (early late : Option Condition) → GivesEach setting_of settings values
    → nested_if_present condition_of first ≡ Ok (option_map plain_condition early)
    → nested_if_present condition_of last ≡ Ok (option_map plain_condition late)
    → GivesStep settings (plain_finish (option_or late early)) (around first values last)
step_around first last values settings early late gives is_early is_late =
    let keys = codes "step role service procedure settings finish" in
    let before = with_value (codes "finish") first [] in record {
      values = values;
      there = settings_around first last values;
      gives = gives;
      finishes = ap (nested_if_present condition_of) (finish_around first last values)
          ∙ finish_given first last early late is_early is_late;
      listed = listed_with keys (codes "finish") last
          (with_value (codes "settings") (option_map array values) before) refl
          (listed_with keys (codes "settings") (option_map array values) before refl
          (listed_with keys (codes "finish") first [] refl refl));
    }

-- a list seen as it is
pub same_list : {A : Type 0} (list : List A) → map (λ each. each) list ≡ list
same_list [] = refl
same_list (first ∷ others) = ap (λ s. first ∷ s) (same_list others)
