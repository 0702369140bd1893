-- The keys of the events' lines.
use Rattle.std.specs.Prelude.{ℕ, List, codes}
use Rattle.event_json.specs.declared.kind.EventKind.{EventKind}
use Rattle.event_json.specs.declared.kind.EventKind.TheVariants.{Plug, Unplug, Report, Variable, Recipe, Start, Advance}
use Rattle.event_json.specs.declared.kind.EventKind.TheVariants.{Freeze, Thaw, Stop, Abandon, Desk, ExchangeBegin}
use Rattle.event_json.specs.declared.kind.EventKind.TheVariants.{ExchangeEnd, ExchangeCancel}

-- the keys that may occur in a line of a kind
abbrev pub keys_of : EventKind → List ℕ
keys_of Plug = codes "ev at tag desc"
keys_of Unplug = codes "ev at tag"
keys_of Report = codes "ev at tag service StateCur CommandEn Mode Src ProcedureCur"
keys_of Variable = codes "ev at tag name value"
keys_of Recipe = codes "ev at recipe roles chart"
keys_of Start = codes "ev at batch recipe bind watch"
keys_of Advance = codes "ev at batch"
keys_of Freeze = codes "ev at batch hold"
keys_of Thaw = codes "ev at batch"
keys_of Stop = codes "ev at batch"
keys_of Abandon = codes "ev at batch"
keys_of Desk = codes "ev at tag service CommandOp"
keys_of ExchangeBegin = codes "ev at tag"
keys_of ExchangeEnd = codes "ev at tag ticket desc"
keys_of ExchangeCancel = codes "ev at tag ticket"
