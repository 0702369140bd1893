-- The same value seen by two views that agree.
use Rattle.std.proofs.Common.{◌≡◌, List, map, Result, Ok, Err, Option, Some, None, ◌∙◌, refl, ap, Vec, Global}
use Rattle.std.specs.Prelude.{ℕ, true, is_ok, option_map}
use Rattle.std.proofs.lemmas.List.{map-id}
use Rattle.mtp_codes.specs.declared.value.Setting.{Setting}
use Rattle.semver.specs.declared.VersionReq.{VersionReq}
use Rattle.mtp_json.specs.declared.fault.JsonRefusal.{JsonRefusal}
use Rattle.mtp_json.specs.ReadsAs.{ReadsAs}
use Rattle.mtp_json.specs.ReadResult.{ReadResult}
use Rattle.chart_core.specs.Requirements.{IsReadTo}
use Rattle.chart_core.specs.Formulas.{Formula, plain_condition}
use Rattle.chart_core.specs.Trees.{plain_finish}
use Rattle.chart_core.specs.declared.condition.Condition.{Condition}
use Rattle.chart_json.specs.Requirement.{requirement_of}

-- settings are plain data as they are
pub settings_seen : (result : Result (Vec Setting Global) JsonRefusal) (read : ReadResult (List Setting))
    → ReadsAs (λ found. map (λ setting. setting) found.items) result read → ReadsAs (λ found. found.items) result read
settings_seen (Ok found) read gives = gives ∙ ap Ok (map-id found.items)
settings_seen (Err refusal) read gives = gives

-- a finish that may be absent
pub finish_seen : (result : Result (Option Condition) JsonRefusal) (read : ReadResult (Option Formula))
    → ReadsAs (option_map plain_condition) result read → ReadsAs plain_finish result read
finish_seen (Ok None) read gives = gives
finish_seen (Ok (Some finish)) read gives = gives
finish_seen (Err refusal) read gives = gives

-- a text that was read to a requirement is one
pub requirement_told : (text : List ℕ) (req : VersionReq) → IsReadTo text req → is_ok (requirement_of text) ≡ true
requirement_told text req reads = rw reads refl
