-- What contracts see of a description.
use Rattle.std.specs.Prelude.{map}
use Rattle.semver.specs.Identifiers.{parts_of}
use Rattle.mtp_assembly.specs.Plain.{plain_variable}
use Rattle.mtp_desc.specs.declared.description.Description.{Description}
use Rattle.mtp_desc.specs.Plain.{PlainDescription}
use Rattle.mtp_desc.specs.PlainService.{plain_service}

-- a description as plain data
abbrev pub plain_description : Description → PlainDescription
plain_description description = record {
  type_name = description.type_name;
  version_text = description.version_text;
  version = parts_of description.version;
  services = map plain_service description.services.items;
  variables = map plain_variable description.variables.items;
}
