-- The form of a description: what it says, or its first fault in reading order.
use Rattle.std.specs.Prelude.{ℕ, ℤ, Bool, true, false, not, int_lt, List, [], ◌∷◌, codes, unwrap_or, Ok}
use Rattle.serde_json.specs.Data.{Data}
use Rattle.mtp_codes.specs.Numbers.{greatest_i32, greatest_i64, least_i32, least_i64}
use Rattle.mtp_assembly.specs.Plain.{PlainParam, PlainVariable}
use Rattle.mtp_assembly.specs.declared.param.ParamKind.{ParamKind}
use Rattle.mtp_assembly.specs.declared.param.ParamKind.TheVariants.{Ana, DInt, Bin, Text}
use Rattle.mtp_json.specs.Form.{required, required_or, list, list_or_none, list_if_there, object_here, nothing_but, refused_if}
use Rattle.mtp_codes.specs.Repeats.{repeats_by}
use Rattle.mtp_json.specs.Leaf.{count, name, parsed, text_to, truth, whole, word}
use Rattle.mtp_json.specs.ReadResult.{ReadResult, ◌>>=◌, here, under}
use Rattle.mtp_json.specs.declared.fault.FaultKind.TheVariants.{Repeated, Unsound}
use Rattle.mtp_desc.specs.declared.limits.TheConstants.{MOST_SERVICES, MOST_PROCEDURES, MOST_PARAMS, MOST_VARIABLES, LONGEST_VERSION, GREATEST_PROCEDURE}
use Rattle.desc_json.specs.declared.words.ParamWord.{ParamWord}
use Rattle.desc_json.specs.declared.words.ParamWord.TheVariants as param
use Rattle.mtp_desc.specs.Plain.{PlainProcedure, PlainService, PlainDescription, has_one_default, same_param, same_procedure, same_service, same_variable}
use Rattle.mtp_desc.specs.Version.{version_of}
use Rattle.desc_json.specs.Words.{param_words, variable_words}

-- a parameter that has a least and a greatest value, each from low to high
unfoldable pub ranged_param : List ℕ → ℤ → ℤ → (ℤ → ℤ → ParamKind) → Data → ReadResult PlainParam
ranged_param named low high kind value =
    required (codes "min") (whole low high) value >>= λ min.
    required (codes "max") (whole low high) value >>= λ max.
    nothing_but (codes "name kind min max") value >>= λ _.
    refused_if (int_lt max min) Unsound >>= λ _.
    Ok (record { name = named; kind = kind min max })

-- a parameter that has no least and no greatest value
unfoldable pub free_param : List ℕ → ParamKind → Data → ReadResult PlainParam
free_param named kind value =
    nothing_but (codes "name kind") value >>= λ _.
    Ok (record { name = named; kind = kind })

-- a parameter of this kind
abbrev pub param_by : List ℕ → Data → ParamWord → ReadResult PlainParam
param_by named value param.Ana = ranged_param named least_i64 greatest_i64 Ana value
param_by named value param.DInt = ranged_param named least_i32 greatest_i32 DInt value
param_by named value param.Bin = free_param named Bin value
param_by named value param.Text = free_param named Text value

-- the form of a parameter
unfoldable pub param_of : Data → ReadResult PlainParam
param_of value =
    object_here value >>= λ _.
    required (codes "name") name value >>= λ named.
    required (codes "kind") (word param_words) value >>= λ kind.
    param_by named value kind

-- the form of a procedure
unfoldable pub procedure_of : Data → ReadResult PlainProcedure
procedure_of value =
    object_here value >>= λ _.
    required (codes "number") (count 1 GREATEST_PROCEDURE) value >>= λ number.
    required_or (codes "default") false truth value >>= λ is_default.
    required_or (codes "self_completing") false truth value >>= λ self_completing.
    list_or_none (codes "params") 0 MOST_PARAMS param_of value >>= λ params.
    nothing_but (codes "number default self_completing params") value >>= λ _.
    under (codes "params") (refused_if (repeats_by same_param params) Repeated) >>= λ _.
    Ok (record { number = number; is_default = is_default; self_completing = self_completing; params = params })

-- the procedure of a service that names none
abbrev pub only_procedure : PlainProcedure
only_procedure = record { number = 1; is_default = true; self_completing = false; params = [] }

-- the own rules of a service
unfoldable pub ruled_service : List ℕ → List PlainProcedure → ReadResult PlainService
ruled_service named procedures =
    under (codes "procedures") (refused_if (repeats_by same_procedure procedures) Repeated) >>= λ _.
    under (codes "procedures") (refused_if (not (has_one_default procedures)) Unsound) >>= λ _.
    Ok (record { name = named; procedures = procedures })

-- the form of a service
unfoldable pub service_of : Data → ReadResult PlainService
service_of value =
    object_here value >>= λ _.
    required (codes "name") name value >>= λ named.
    list_if_there (codes "procedures") 1 MOST_PROCEDURES procedure_of value >>= λ procedures.
    nothing_but (codes "name procedures") value >>= λ _.
    ruled_service named (unwrap_or procedures (only_procedure ∷ []))

-- the form of a variable
unfoldable pub variable_of : Data → ReadResult PlainVariable
variable_of value =
    object_here value >>= λ _.
    required (codes "name") name value >>= λ named.
    required (codes "kind") (word variable_words) value >>= λ kind.
    nothing_but (codes "name kind") value >>= λ _.
    Ok (record { name = named; kind = kind })

-- the form of a description
unfoldable pub description_of : Data → ReadResult PlainDescription
description_of value =
    object_here value >>= λ _.
    required (codes "type") name value >>= λ type_name.
    required (codes "version") (text_to LONGEST_VERSION) value >>= λ version_text.
    under (codes "version") (here (parsed (version_of version_text))) >>= λ version.
    list (codes "services") 1 MOST_SERVICES service_of value >>= λ services.
    list_or_none (codes "variables") 0 MOST_VARIABLES variable_of value >>= λ variables.
    nothing_but (codes "type version services variables") value >>= λ _.
    under (codes "services") (refused_if (repeats_by same_service services) Repeated) >>= λ _.
    under (codes "variables") (refused_if (repeats_by same_variable variables) Repeated) >>= λ _.
    Ok (record {
      type_name = type_name;
      version_text = version_text;
      version = version;
      services = services;
      variables = variables;
    })
