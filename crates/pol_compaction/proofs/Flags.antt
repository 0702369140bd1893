-- The flagged entries of a history are those to which it is compacted.
use Rattle.std.proofs.Common.{◌≡◌, Bool, true, false, cond, List, [], ◌∷◌, reverse, refl, ap, sym, ◌∙◌}
use Rattle.std.specs.Prelude.{◌&&◌}
use Rattle.pol_events.specs.Events.{PlainEntry}
use Rattle.pol_history.specs.Looking.{History}
use Rattle.pol_history.proofs.Filters.{filter_reverse}
use Rattle.pol_compaction.specs.Lasting.{is_lasting}
use Rattle.pol_compaction.specs.Compaction.{stays_between, kept_before, kept_from}
use Rattle.pol_compaction.specs.Flags.{lasting_in, stay_flags, flagged, FlagsAreCompaction}

-- of the entries to come, those flagged are those kept of what lasts
flagged_from : (whole older : History) (newer : List PlainEntry) →
    flagged (stay_flags whole older newer) newer ≡ kept_from whole (lasting_in whole older) (lasting_in whole newer)
flagged_from whole older [] = refl
flagged_from whole older (entry ∷ newer) =
    go (is_lasting whole entry) refl (flagged_from whole (entry ∷ older) newer)
  where
    stays : Bool
    stays = stays_between whole (lasting_in whole older) (lasting_in whole newer) entry.event

    go : (lasts : Bool) → is_lasting whole entry ≡ lasts →
        flagged (stay_flags whole (entry ∷ older) newer) newer
        ≡ kept_from whole (cond (is_lasting whole entry) (entry ∷ lasting_in whole older) (lasting_in whole older))
        (lasting_in whole newer) →
        kept_before (lasts && stays) entry (flagged (stay_flags whole (entry ∷ older) newer) newer)
        ≡ kept_from whole (lasting_in whole older)
        (cond lasts (entry ∷ lasting_in whole newer) (lasting_in whole newer))
    go true is rest = ap (kept_before stays entry) (rest
        ∙ ap (λ lasts. kept_from whole (cond lasts (entry ∷ lasting_in whole older) (lasting_in whole older))
        (lasting_in whole newer)) is)
    go false is rest = rest
        ∙ ap (λ lasts. kept_from whole (cond lasts (entry ∷ lasting_in whole older) (lasting_in whole older))
        (lasting_in whole newer)) is

-- so it is with a whole history
pub flags_are_compaction : FlagsAreCompaction
flags_are_compaction history =
    flagged_from history [] (reverse history)
    ∙ ap (kept_from history []) (sym (filter_reverse (is_lasting history) history))
