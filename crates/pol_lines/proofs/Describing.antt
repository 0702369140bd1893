-- Descriptions by their parts.
use Rattle.std.proofs.Common.{◌≡◌, ℕ, ℤ, ◌≤◌, ◌<◌, List, [], ◌∷◌, Bool, true, false, length, Option, None, Some, Ok}
use Rattle.std.proofs.Common.{refl, ap, ◌∙◌, arith, codes}
use Rattle.std.specs.Prelude.{int_lt, option_map}
use Rattle.std.proofs.lemmas.Grind.{common_steps}
use Rattle.std.specs.List.{list_all}
use Rattle.serde_json.specs.Data.{Items, array}
use Rattle.serde_json.specs.Events.{items_len}
use Rattle.serde_json.specs.Find.{get}
use Rattle.semver.specs.Parse.{Parts}
use Rattle.mtp_codes.specs.Numbers.{is_between}
use Rattle.mtp_codes.specs.Repeats.{repeats_by}
use Rattle.mtp_json.specs.Form.{field, is_listed, present_or}
use Rattle.mtp_json.specs.Leaf.{count, name, text_to, truth, whole}
use Rattle.mtp_assembly.specs.Plain.{PlainParam, PlainVariable}
use Rattle.mtp_assembly.specs.declared.param.ParamKind.{ParamKind}
use Rattle.mtp_desc.specs.Plain.{has_one_default, PlainProcedure, PlainService, same_param, same_procedure}
use Rattle.mtp_desc.specs.Plain.{same_service, same_variable}
use Rattle.mtp_desc.specs.Version.{version_of}
use Rattle.mtp_desc.specs.declared.limits.TheConstants.{MOST_SERVICES, MOST_PROCEDURES, MOST_PARAMS, MOST_VARIABLES}
use Rattle.mtp_desc.specs.declared.limits.TheConstants.{LONGEST_VERSION, GREATEST_PROCEDURE}
use Rattle.desc_json.specs.Form.{description_of, only_procedure, param_of, procedure_of, ranged_param, ruled_service}
use Rattle.desc_json.specs.Form.{service_of, variable_of}
use Rattle.pol_lines.specs.declared.flat.Member.{Member}
use Rattle.pol_lines.specs.declared.key.Key.TheVariants as key
use Rattle.pol_lines.specs.Begins.{Reads, last_of}
use Rattle.pol_lines.specs.Flat.{flat_data}
use Rattle.pol_lines.specs.Keys.{key_text}
use Rattle.pol_lines.specs.Objects.{GivesEach, IsObject, Makes, with_value}
use Rattle.pol_lines.proofs.Lookups.{only_listed}
use Rattle.pol_lines.proofs.Cuts.{flat_absent, flat_field, found_with, list_if_any, listed_with, object_reads}
use Rattle.pol_lines.proofs.Cuts.{unlike_with}

-- a parameter of these members that has a range
pub ranged_of_parts : (members : List Member) (named : List ℕ) (low high min max : ℤ) (kind : ℤ → ℤ → ParamKind)
    → field (codes "min") (whole low high) (flat_data members) ≡ Ok min
    → field (codes "max") (whole low high) (flat_data members) ≡ Ok max
    → list_all (λ each. is_listed (codes "name kind min max") (key_text each.key)) members ≡ true
    → int_lt max min ≡ false
    → ranged_param named low high kind (flat_data members) ≡ Ok (record { name = named; kind = kind min max })
unfolding ranged_param
ranged_of_parts members named low high min max kind is_min is_max listed ordered =
    rw (is_min, is_max, only_listed (codes "name kind min max") members listed, ordered) refl

-- a procedure of these members and parameters
pub procedure_of_parts : (members : List Member) (values : Option Items) (number : ℕ) (is_default completes : Bool)
    (params : List PlainParam)
    → field (codes "number") (count 1 GREATEST_PROCEDURE) (flat_data members) ≡ Ok number
    → present_or false truth (get (codes "default") (flat_data members)) ≡ Ok is_default
    → present_or false truth (get (codes "self_completing") (flat_data members)) ≡ Ok completes
    → list_all (λ each. is_listed (codes "number default self_completing params") (key_text each.key)) members ≡ true
    → length params ≤ MOST_PARAMS → repeats_by same_param params ≡ false → GivesEach param_of params values
    → Makes procedure_of
    (record { number = number; is_default = is_default; self_completing = completes; params = params })
    members (with_value (codes "params") (option_map array values) [])
unfolding procedure_of
procedure_of_parts members values number is_default completes params is_number default_is completes_is listed few apart
    gives found among =
    let there = option_map array values in
    let keys = codes "number default self_completing params" in
    let e1 = flat_field members _ found (count 1 GREATEST_PROCEDURE) key.Number (Ok number) among is_number in
    let e2 = flat_absent members _ found false truth key.IsDefault (Ok is_default) among default_is in
    let e3 = flat_absent members _ found false truth key.SelfCompleting (Ok completes) among completes_is in
    let e4 = among.other (codes "params") refl ∙ found_with (codes "params") there [] refl in
    let e5 = list_if_any (codes "params") param_of MOST_PARAMS values params gives few in
    let e6 = among.listed keys listed (listed_with keys (codes "params") there [] refl refl) in
    rw (e1, e2, e3, e4, e5, e6, apart) refl

-- a service of these members and procedures
pub service_of_parts : (members : List Member) (values : Items) (named : List ℕ) (procedures : List PlainProcedure)
    → field (codes "name") name (flat_data members) ≡ Ok named
    → list_all (λ each. is_listed (codes "name procedures") (key_text each.key)) members ≡ true
    → 0 < length procedures → length procedures ≤ MOST_PROCEDURES
    → repeats_by same_procedure procedures ≡ false → has_one_default procedures ≡ true
    → GivesEach procedure_of procedures (Some values)
    → Makes service_of (record { name = named; procedures = procedures }) members
    ((codes "procedures", array values) ∷ [])
unfolding service_of ruled_service
service_of_parts members values named procedures is_named listed some few apart one gives found among =
    let e1 = flat_field members _ found name key.Name (Ok named) among is_named in
    let e2 = among.other (codes "procedures") refl in
    let e3 : is_between 1 MOST_PROCEDURES (items_len values) ≡ true = grind (arith, common_steps, gives.1, some, few) in
    let e4 = among.listed (codes "name procedures") listed refl in
    rw (e1, e2, e3, gives.0, e4, apart, one) refl

-- a service of these members that names no procedure
pub service_alone : (members : List Member) (named : List ℕ)
    → field (codes "name") name (flat_data members) ≡ Ok named
    → list_all (λ each. is_listed (codes "name procedures") (key_text each.key)) members ≡ true
    → Makes service_of (record { name = named; procedures = only_procedure ∷ [] }) members []
unfolding service_of ruled_service
service_alone members named is_named listed found among =
    let e1 = flat_field members [] found name key.Name (Ok named) among is_named in
    let e2 = among.other (codes "procedures") refl in
    let e3 = among.listed (codes "name procedures") listed refl in
    rw (e1, e2, e3) refl

-- the service at the front of a text, of these members and of the procedures that it names
pub service_reads : (text rest : List ℕ) (members : List Member) (values : Option Items)
    (procedures : List PlainProcedure) (service : PlainService)
    → IsObject 4 text members (with_value (codes "procedures") (option_map array values) []) rest
    → GivesEach procedure_of procedures values → 0 < length procedures
    → ((given : Items) → GivesEach procedure_of procedures (Some given)
    → Makes service_of service members ((codes "procedures", array given) ∷ []))
    → Reads service_of 5 text service (last_of (length rest) text)
service_reads text rest members None procedures service is gives some makes =
    absurd (omega (arith, some, ap length gives))
service_reads text rest members (Some values) procedures service is gives some makes =
    object_reads service_of service 4 text rest members ((codes "procedures", array values) ∷ []) is
    (makes values gives)

-- a description of these members, services and variables
pub description_of_parts : (members : List Member) (served seen : Option Items) (type_name version_text : List ℕ)
    (version : Parts) (services : List PlainService) (variables : List PlainVariable)
    → field (codes "type") name (flat_data members) ≡ Ok type_name
    → field (codes "version") (text_to LONGEST_VERSION) (flat_data members) ≡ Ok version_text
    → version_of version_text ≡ Ok version
    → list_all (λ each. is_listed (codes "type version services variables") (key_text each.key)) members ≡ true
    → 0 < length services → length services ≤ MOST_SERVICES → length variables ≤ MOST_VARIABLES
    → repeats_by same_service services ≡ false → repeats_by same_variable variables ≡ false
    → GivesEach service_of services served → GivesEach variable_of variables seen
    → Makes description_of (record {
      type_name = type_name;
      version_text = version_text;
      version = version;
      services = services;
      variables = variables;
    }) members (with_value (codes "variables") (option_map array seen)
    (with_value (codes "services") (option_map array served) []))
unfolding description_of
description_of_parts members None seen type_name version_text version services variables is_type is_text is_version
    listed some few_services few_variables apart unlike served_is seen_is found among =
    absurd (omega (arith, some, ap length served_is))
description_of_parts members (Some served) seen type_name version_text version services variables is_type is_text
    is_version listed some few_services few_variables apart unlike served_is seen_is found among =
    let e4 : is_between 1 MOST_SERVICES (items_len served) ≡ true =
    grind (arith, common_steps, served_is.1, some, few_services) in
    let there = option_map array seen in
    let before = (codes "services", array served) ∷ [] in
    let keys = codes "type version services variables" in
    let e1 = flat_field members _ found name key.TypeName (Ok type_name) among is_type in
    let e2 = flat_field members _ found (text_to LONGEST_VERSION) key.Version (Ok version_text) among is_text in
    let e3 = among.other (codes "services") refl
    ∙ unlike_with (codes "services") (codes "variables") there before refl in
    let e5 = among.other (codes "variables") refl
    ∙ found_with (codes "variables") there before refl in
    let e6 = list_if_any (codes "variables") variable_of MOST_VARIABLES seen variables seen_is few_variables in
    let e7 = among.listed keys listed (listed_with keys (codes "variables") there before refl refl) in
    rw (e1, e2, is_version, e3, e4, served_is.0, e5, e6, e7, apart, unlike) refl
