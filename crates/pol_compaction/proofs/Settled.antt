-- Compacting again changes nothing.
use Rattle.std.proofs.Common.{◌≡◌, ℕ, Bool, true, false, not, List, [], ◌∷◌, reverse, refl, ap, sym, ◌∙◌, inl, subst}
use Rattle.std.specs.Prelude.{◌&&◌, filter, is_none}
use Rattle.std.specs.List.{AllByRecursion}
use Rattle.mtp_codes.specs.Names.{is_among}
use Rattle.pol_events.specs.Events.{PlainEvent, advance, PlainEntry}
use Rattle.pol_events.specs.Bound.{tags_of}
use Rattle.pol_history.specs.Looking.{History, Subject, of_module, of_batch, of_recipe, subject, is_accepted}
use Rattle.pol_history.specs.Runs.{history_after, recorded_all, AreOrderly}
use Rattle.pol_history.proofs.Legal.{legal_after, orderly_after}
use Rattle.pol_removal.specs.Removal.{is_of}
use Rattle.pol_removal.proofs.Each.{all_map}
use Rattle.pol_compaction.specs.Lasting.{is_desk, is_wait, closed_batches, is_closed_batch, is_lasting}
use Rattle.pol_compaction.specs.Reading.{started_binds, reads}
use Rattle.pol_compaction.specs.Compaction.{stays_between, kept_before, kept_from, compacted, compacted_events}
use Rattle.pol_compaction.specs.Alike.{AnswersAlike}
use Rattle.pol_compaction.specs.Alone.{lasting}
use Rattle.pol_compaction.specs.Law.{AgainChangesNothing}
use Rattle.pol_compaction.proofs.Closed.{of_closed}
use Rattle.pol_compaction.proofs.Follows.{accepted_recorded}
use Rattle.pol_compaction.proofs.Law.{lasting_parts, lasting_reversed, all_last, follows, compacted_is, answered_again}
use Rattle.pol_compaction.proofs.Law.{all_alike}
use Rattle.pol_compaction.proofs.Lists.{filter_all}
use Rattle.pol_compaction.proofs.Twice.{again_kept}

-- what holds of all holds of those that stay
pub all_stay : (P : PlainEntry → Type 0) (whole older : History) (newer : List PlainEntry) → AllByRecursion P newer →
    AllByRecursion P (kept_from whole older newer)
all_stay P whole older [] all = tt
all_stay P whole older (entry ∷ newer) all =
    go (stays_between whole older newer entry.event) (all_stay P whole (entry ∷ older) newer all.1)
  where
    go : (stay : Bool) → AllByRecursion P (kept_from whole (entry ∷ older) newer) →
        AllByRecursion P (kept_before stay entry (kept_from whole (entry ∷ older) newer))
    go true rest = (all.0, rest)
    go false rest = rest

module _ (events : List PlainEvent) (orderly : AreOrderly events) where
  -- the whole history
  abbrev whole : History
  whole = history_after [] events

  -- the history of what stays
  abbrev again : History
  again = history_after [] (compacted_events whole)

  -- both are alike
  alike : AnswersAlike (closed_batches whole) whole again
  alike = all_alike events orderly

  -- what lasts is of no forgotten batch
  unforgotten : (of : Subject) → is_closed_batch whole of ≡ false → is_of [] (closed_batches whole) of ≡ false
  unforgotten of is = of_closed whole (legal_after [] events tt) (orderly_after [] events tt orderly) of ∙ is

  -- so it is of no batch that is closed again
  open_again : (of : Subject) → is_closed_batch whole of ≡ false → is_closed_batch again of ≡ false
  open_again (of_module tag) is = refl
  open_again (of_recipe name) is = refl
  open_again (of_batch batch) is =
      ap (λ outcome. not (is_none outcome)) (alike.running.batches batch (unforgotten (of_batch batch) is)).outcome ∙ is

  -- and lasts again
  lasts_again : (entry : PlainEntry) → is_lasting whole entry ≡ true → is_lasting again entry ≡ true
  lasts_again entry is =
      ap (λ closed. is_accepted entry.answer && (not (is_wait entry) && (not (is_desk entry.event) && not closed)))
      (open_again (subject entry.event) parts.2 ∙ sym parts.2) ∙ is
    where
      parts : (is_accepted entry.answer ≡ true) × (is_desk entry.event ≡ false)
          × (is_closed_batch whole (subject entry.event) ≡ false)
      parts = lasting_parts whole entry is

  -- it reads the same modules
  reads_again : (event : PlainEvent) → is_closed_batch whole (subject event) ≡ false → (tag : List ℕ) →
      reads again tag event ≡ reads whole tag event
  reads_again (advance at batch) is tag =
      ap (λ started. is_among (tags_of (started_binds started)) tag)
      (alike.running.batches batch (unforgotten (of_batch batch) is)).start
  reads_again _ is tag = refl

  -- so nothing more goes
  pub settled : compacted again ≡ compacted whole
  settled =
      ap (λ entries. kept_from again [] (reverse (filter (is_lasting again) (recorded_all [] entries))))
      (answered_again events orderly)
      ∙ ap (kept_from again []) (lasting_reversed (is_lasting again)
      (λ entry is. accepted_recorded entry.answer (lasting_parts again entry is).0) (compacted whole) []
      ∙ filter_all (is_lasting again) (compacted whole) all_again)
      ∙ ap (kept_from again []) (compacted_is events orderly)
      ∙ again_kept whole again [] [] (lasting events) (follows events orderly) reading (λ tag later. inl refl)
      ∙ sym (compacted_is events orderly)
    where
      lasting_all : AllByRecursion (λ entry. is_lasting whole entry ≡ true) (lasting events)
      lasting_all = all_last events orderly

      all_again : AllByRecursion (λ entry. is_lasting again entry ≡ true) (compacted whole)
      all_again = subst (AllByRecursion (λ entry. is_lasting again entry ≡ true)) (sym (compacted_is events orderly))
          (all_stay (λ entry. is_lasting again entry ≡ true) whole [] (lasting events)
          (all_map (λ entry. is_lasting whole entry ≡ true) (λ entry. is_lasting again entry ≡ true) lasts_again
          (lasting events) lasting_all))

      reading : AllByRecursion (λ entry. (tag : List ℕ) → reads again tag entry.event ≡ reads whole tag entry.event)
          (lasting events)
      reading = all_map (λ entry. is_lasting whole entry ≡ true)
          (λ entry. (tag : List ℕ) → reads again tag entry.event ≡ reads whole tag entry.event)
          (λ entry is. reads_again entry.event (lasting_parts whole entry is).2) (lasting events) lasting_all

-- compacting again changes nothing
pub settled_again : AgainChangesNothing
settled_again events orderly = settled events orderly
