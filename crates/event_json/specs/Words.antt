-- The words of an event line.
use Rattle.std.specs.Prelude.{ℕ, List, [], ◌∷◌, codes}
use Rattle.mtp_codes.specs.declared.mode.Mode.{Mode}
use Rattle.mtp_codes.specs.declared.mode.Mode.TheVariants.{Off, Operator, Automatic}
use Rattle.mtp_codes.specs.declared.mode.Origin.{Origin}
use Rattle.mtp_codes.specs.declared.mode.Origin.TheVariants.{Internal, External}
use Rattle.event_json.specs.declared.kind.EventKind.{EventKind}
use Rattle.event_json.specs.declared.kind.EventKind.TheVariants.{Plug, Unplug, Report, Variable, Recipe, Start, Advance}
use Rattle.event_json.specs.declared.kind.EventKind.TheVariants.{Freeze, Thaw, Stop, Abandon, Desk, ExchangeBegin}
use Rattle.event_json.specs.declared.kind.EventKind.TheVariants.{ExchangeEnd, ExchangeCancel}

-- the words of `ev`
abbrev pub kind_words : List (List ℕ × EventKind)
kind_words =
    (codes "plug", Plug) ∷ (codes "unplug", Unplug) ∷ (codes "report", Report) ∷ (codes "variable", Variable)
    ∷ (codes "recipe", Recipe) ∷ (codes "start", Start) ∷ (codes "advance", Advance) ∷ (codes "freeze", Freeze)
    ∷ (codes "thaw", Thaw)
    ∷ (codes "stop", Stop) ∷ (codes "abandon", Abandon) ∷ (codes "desk", Desk) ∷ (codes "exchange_begin", ExchangeBegin)
    ∷ (codes "exchange_end", ExchangeEnd) ∷ (codes "exchange_cancel", ExchangeCancel) ∷ []

-- the words of `Mode`
abbrev pub mode_words : List (List ℕ × Mode)
mode_words = (codes "Off", Off) ∷ (codes "Operator", Operator) ∷ (codes "Automatic", Automatic) ∷ []

-- the words of `Src`
abbrev pub origin_words : List (List ℕ × Origin)
origin_words = (codes "Internal", Internal) ∷ (codes "External", External) ∷ []
