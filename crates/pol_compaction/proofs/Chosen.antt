-- What the looks over a history note, and what they choose by it.
use Rattle.std.proofs.Common.{◌≡◌, ℕ, ◌+◌, ◌<◌, Bool, List, [], ◌∷◌, ◌++◌, length, map, get_or, take, drop, refl, ap}
use Rattle.std.proofs.Common.{sym, ◌∙◌, subst, append_assoc, arith, set}
use Rattle.std.specs.Prelude.{◌&&◌}
use Rattle.std.proofs.lemmas.List.{drop-map, drop-set, drop_all, reverse-reverse}
use Rattle.chart_core.proofs.Items.{one_more as items_from}
use Rattle.pol_events.specs.Events.{PlainEntry, plain_event, plain_entry, plain_history}
use Rattle.pol_events.specs.declared.event.Entry.{Entry}
use Rattle.pol_record.proofs.Known.{one_more}
use Rattle.pol_history.specs.Looking.{History, Subject, of_module, of_batch, of_recipe, subject}
use Rattle.pol_compaction.specs.Lasting.{is_lasting}
use Rattle.pol_compaction.specs.Compaction.{stays_between, compacted}
use Rattle.pol_compaction.specs.Ahead.{AreAhead}
use Rattle.pol_compaction.specs.Fates.{each_fate, entry_fate, stays_by}
use Rattle.pol_compaction.specs.Flags.{lasting_in, stay_flags, flagged, is_read_in}
use Rattle.pol_compaction.specs.Noted.{is_subject_noted, AreRead}
use Rattle.pol_compaction.specs.declared.ahead.Ahead.{Ahead}
use Rattle.pol_compaction.specs.declared.ahead.Fate.{Fate}
use Rattle.pol_compaction.proofs.Fates.{entry_by, fate_at}
use Rattle.pol_compaction.proofs.Flags.{flags_are_compaction}

-- ---- back

-- behind the last entry there is no fate
pub fates_none : (whole : History) (history : List Entry) (told : List Fate) → length told ≡ length history →
    drop (length history) told ≡ each_fate whole (map plain_entry (drop (length history) history))
fates_none whole history told all =
    drop_all (length history) told (omega (arith, all))
    ∙ sym (ap (λ entries. each_fate whole (map plain_entry entries))
    (drop_all (length history) history (omega arith)))

-- and nothing lies ahead
pub ahead_none : (whole : History) (history : List Entry) (modules : List (List ℕ × Ahead)) →
    AreAhead whole [] modules → AreAhead whole (map plain_entry (drop (length history) history)) modules
ahead_none whole history modules are =
    subst (λ entries. AreAhead whole (map plain_entry entries) modules)
    (sym (drop_all (length history) history (omega arith))) are

module _ (whole : History) (history : List Entry) (below place : ℕ) (next : below + 1 ≡ place) (entry : Entry)
    (inside : below < length history) (is : entry ≡ get_or history below entry) where
  -- the entries behind the next one
  abbrev behind : List PlainEntry
  behind = map plain_entry (drop place history)

  here : map plain_entry (drop below history) ≡ plain_entry entry ∷ behind
  here = ap (map plain_entry) (items_from history below entry inside is)
      ∙ ap (λ place. plain_entry entry ∷ map plain_entry (drop place history)) next

  -- one more fate stands beside its entry
  pub fates_next : (told : List Fate) (fate : Fate) → length told ≡ length history →
      fate ≡ entry_fate whole behind (plain_entry entry) → drop place told ≡ each_fate whole behind →
      drop below (set told below fate) ≡ each_fate whole (map plain_entry (drop below history))
  fates_next told fate all right so_far =
      drop-set told below fate (omega (arith, inside, all))
      ∙ ap (λ place. fate ∷ drop place told) next
      ∙ ap (λ rest. fate ∷ rest) so_far
      ∙ ap (λ fate. fate ∷ each_fate whole behind) right
      ∙ sym (ap (each_fate whole) here)

  -- and so much lies ahead then
  pub ahead_next : (modules : List (List ℕ × Ahead)) → AreAhead whole (plain_entry entry ∷ behind) modules →
      AreAhead whole (map plain_entry (drop below history)) modules
  ahead_next modules are = subst (λ entries. AreAhead whole entries modules) (sym here) are

-- ---- forward

-- the module of an event is noted where it was read
noted_read : (whole : History) (named : List (List ℕ × Bool)) (older : History) (of : Subject) →
    AreRead whole named older → is_subject_noted named of ≡ is_read_in whole (lasting_in whole older) of
noted_read whole named older (of_module tag) are = are tag
noted_read whole named older (of_batch batch) are = refl
noted_read whole named older (of_recipe name) are = refl

-- with the next flag, all flags are still those of the history
pub stay_next : (whole : History) (history : List Entry) (place : ℕ) (entry : Entry)
    (named : List (List ℕ × Bool)) (told : List Fate) (flags flags_then : List Bool) (stays : Bool) (default : Fate)
    (total : List Bool) →
    place < length history → entry ≡ get_or history place entry →
    AreRead whole named (plain_history (take place history)) → told ≡ each_fate whole (map plain_entry history) →
    stays ≡ stays_by (get_or told place default) (is_subject_noted named (subject (plain_event entry.event))) →
    flags_then ≡ flags ++ stays ∷ [] →
    flags ++ stay_flags whole (plain_history (take place history)) (map plain_entry (drop place history)) ≡ total →
    flags_then ++ stay_flags whole (plain_history (take (place + 1) history))
    (map plain_entry (drop (place + 1) history)) ≡ total
stay_next whole history place entry named told flags flags_then stays default total inside is read known chosen pushed
    before =
    ap (λ older. flags_then ++ stay_flags whole older newer) (one_more history place entry inside is)
    ∙ ap (λ flags. flags ++ stay_flags whole (plain_entry entry ∷ older) newer) pushed
    ∙ append_assoc flags (stays ∷ []) (stay_flags whole (plain_entry entry ∷ older) newer)
    ∙ ap (λ stays. flags ++ stays ∷ stay_flags whole (plain_entry entry ∷ older) newer) right
    ∙ sym (ap (λ entries. flags ++ stay_flags whole older entries) here) ∙ before
  where
    older : History
    older = plain_history (take place history)

    newer : List PlainEntry
    newer = map plain_entry (drop (place + 1) history)

    here : map plain_entry (drop place history) ≡ plain_entry entry ∷ newer
    here = ap (map plain_entry) (items_from history place entry inside is)

    fate : get_or told place default ≡ entry_fate whole newer (plain_entry entry)
    fate = ap (λ told. get_or told place default) known
        ∙ fate_at whole (map plain_entry history) place default (plain_entry entry) newer
        (drop-map plain_entry place history ∙ here)

    right : stays ≡ (is_lasting whole (plain_entry entry)
        && stays_between whole (lasting_in whole older) (lasting_in whole newer) (plain_event entry.event))
    right = chosen
        ∙ ap (stays_by (get_or told place default))
        (noted_read whole named older (subject (plain_event entry.event)) read)
        ∙ ap (λ fate. stays_by fate (is_read_in whole (lasting_in whole older) (subject (plain_event entry.event))))
        fate
        ∙ entry_by whole (lasting_in whole older) newer (plain_entry entry)

-- the flagged entries of a history as it is are those to which it is compacted
pub kept_flagged : (history : List Entry) (flags : List Bool) →
    flags ≡ stay_flags (plain_history history) [] (map plain_entry history) →
    flagged flags (map plain_entry history) ≡ compacted (plain_history history)
kept_flagged history flags are =
    ap (λ flags. flagged flags (map plain_entry history)) are
    ∙ subst (λ entries. flagged (stay_flags (plain_history history) [] entries) entries
    ≡ compacted (plain_history history)) (reverse-reverse (map plain_entry history))
    (flags_are_compaction (plain_history history))
