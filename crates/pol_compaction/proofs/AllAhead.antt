-- What lies ahead of all modules, with one more entry, and the fate of that entry.
use Rattle.std.proofs.Common.{◌≡◌, ℕ, Bool, true, false, cond, List, ◌∷◌, ◌++◌, None, refl, ap, sym, ◌∙◌, subst}
use Rattle.std.specs.Prelude.{◌||◌}
use Rattle.std.specs.Str.{bytes_eq}
use Rattle.std.proofs.lemmas.List.{map-append}
use Rattle.std.proofs.lemmas.List.Folds.{list_any-append}
use Rattle.mtp_codes.specs.Names.{is_among, same_name}
use Rattle.pol_events.specs.Bound.{tags_of}
use Rattle.pol_events.specs.declared.event.Bind.{Bind}
use Rattle.pol_events.specs.Events.{PlainEvent, plug, unplug, report, variable, recipe, start, advance, freeze, thaw}
use Rattle.pol_events.specs.Events.{stop_batch, abandon, desk, exchange_begin, exchange_end, exchange_cancel}
use Rattle.pol_events.specs.Events.{PlainEntry}
use Rattle.pol_events.specs.Subjects.{Subject, of_module, of_batch, of_recipe, plain_subject, subject, subject_tag}
use Rattle.pol_events.specs.declared.subject.Subject.{Subject as Told}
use Rattle.pol_events.specs.declared.subject.Subject.TheVariants.{Module, Batch, Recipe}
use Rattle.pol_history.specs.Looking.{History, is_module}
use Rattle.pol_compaction.specs.Ahead.{AreAhead, IsAhead, PlainAhead, ahead_of, ahead_with, fate_ahead, turned}
use Rattle.pol_compaction.specs.Fates.{entry_fate, event_fate}
use Rattle.pol_compaction.specs.Flags.{lasting_in}
use Rattle.pol_compaction.specs.Lasting.{is_lasting}
use Rattle.pol_compaction.specs.Reading.{read_binds, reads}
use Rattle.pol_compaction.specs.declared.ahead.Ahead.{Ahead}
use Rattle.pol_compaction.specs.declared.ahead.Fate.{Fate}
use Rattle.pol_compaction.specs.declared.ahead.Fate.TheVariants.{Stays, Goes}
use Rattle.pol_compaction.specs.declared.ahead.Turn.TheVariants.{Read}
use Rattle.pol_compaction.proofs.OneAhead.{ahead_own, ahead_read, ahead_same, fate_other, fate_own}

-- ---- events

-- an event of a module reads none
unread_own : (whole : History) (event : PlainEvent) (tag other : List ℕ) → of_module tag ≡ subject event →
    reads whole other event ≡ false
unread_own whole (plug at of description) tag other is = refl
unread_own whole (unplug at of) tag other is = refl
unread_own whole (report at of service control) tag other is = refl
unread_own whole (variable at of name value) tag other is = refl
unread_own whole (recipe at name chart) tag other is = refl
unread_own whole (start at batch name binds) tag other is = cc
unread_own whole (advance at batch) tag other is = cc
unread_own whole (freeze at batch hold) tag other is = refl
unread_own whole (thaw at batch) tag other is = refl
unread_own whole (stop_batch at batch) tag other is = refl
unread_own whole (abandon at batch) tag other is = refl
unread_own whole (desk at of service command) tag other is = refl
unread_own whole (exchange_begin at of) tag other is = refl
unread_own whole (exchange_end at of ticket description) tag other is = refl
unread_own whole (exchange_cancel at of ticket) tag other is = refl

-- one of no module does nothing to those that it meets but to read them
pub reads_only : (event : PlainEvent) → subject_tag (subject event) ≡ None → (known : PlainAhead) →
    ahead_with event known ≡ turned Read known.replaced
reads_only (plug at tag description) none known = cc
reads_only (unplug at tag) none known = cc
reads_only (report at tag service control) none known = cc
reads_only (variable at tag name value) none known = cc
reads_only (recipe at name chart) none known = refl
reads_only (start at batch name binds) none known = refl
reads_only (advance at batch) none known = refl
reads_only (freeze at batch hold) none known = refl
reads_only (thaw at batch) none known = refl
reads_only (stop_batch at batch) none known = refl
reads_only (abandon at batch) none known = refl
reads_only (desk at tag service command) none known = cc
reads_only (exchange_begin at tag) none known = cc
reads_only (exchange_end at tag ticket description) none known = cc
reads_only (exchange_cancel at tag ticket) none known = cc

-- and is of no module
of_none : (of : Subject) (tag : List ℕ) → subject_tag of ≡ None → is_module tag of ≡ false
of_none (of_module other) tag none = cc
of_none (of_batch batch) tag none = refl
of_none (of_recipe name) tag none = refl

-- what is told of no module has no tag
pub no_tag : (told : Told) → ((tag : List ℕ) → told ≡ Module tag → ⊥) → subject_tag (plain_subject told) ≡ None
no_tag (Module tag) apart = absurd (apart tag refl)
no_tag (Batch batch) apart = refl
no_tag (Recipe name) apart = refl

-- ---- binds

-- the modules of some binds and those of others are met by turns
pub both_met : (held watched : List Bind) (tag : List ℕ) (old mid new : PlainAhead) →
    mid ≡ cond (is_among (tags_of held) tag) (turned Read old.replaced) old →
    new ≡ cond (is_among (tags_of watched) tag) (turned Read mid.replaced) mid →
    new ≡ cond (is_among (tags_of (held ++ watched)) tag) (turned Read old.replaced) old
both_met held watched tag old mid new first second =
    second ∙ ap (λ mid. cond (is_among (tags_of watched) tag) (turned Read mid.replaced) mid) first
    ∙ either (is_among (tags_of held) tag) (is_among (tags_of watched) tag)
    ∙ sym (ap (λ among. cond among (turned Read old.replaced) old) (ap (λ tags. is_among tags tag)
    (map-append (λ (bind : Bind). bind.tag) held watched)
    ∙ list_any-append (λ each. same_name each tag) (tags_of held) (tags_of watched)))
  where
    either : (one other : Bool) →
        cond other (turned Read (cond one (turned Read old.replaced) old).replaced)
        (cond one (turned Read old.replaced) old)
        ≡ cond (one || other) (turned Read old.replaced) old
    either true true = refl
    either true false = refl
    either false true = refl
    either false false = refl

-- ---- entries

module _ (whole : History) (entry : PlainEntry) where
  -- an entry that doesn't last goes
  pub fate_gone : is_lasting whole entry ≡ false → (newer : List PlainEntry) → Goes ≡ entry_fate whole newer entry
  fate_gone gone newer =
      sym (ap (λ lasts. cond lasts (event_fate whole (lasting_in whole newer) entry.event) Goes) gone)

  -- and changes nothing
  pub ahead_gone : is_lasting whole entry ≡ false → (modules : List (List ℕ × Ahead)) (newer : List PlainEntry) →
      AreAhead whole newer modules → AreAhead whole (entry ∷ newer) modules
  ahead_gone gone modules newer are tag =
      subst (λ entries. IsAhead whole tag entries (ahead_of modules tag))
      (sym (ap (λ lasts. cond lasts (entry ∷ lasting_in whole newer) (lasting_in whole newer)) gone)) (are tag)

  module _ (lasts : is_lasting whole entry ≡ true) where
    -- the fate of one that lasts is that of its event
    fate_lasting : (newer : List PlainEntry) →
        event_fate whole (lasting_in whole newer) entry.event ≡ entry_fate whole newer entry
    fate_lasting newer =
        sym (ap (λ lasts. cond lasts (event_fate whole (lasting_in whole newer) entry.event) Goes) lasts)

    -- so much lies ahead then, if it does in front of what lasts
    ahead_lasting : (new : List (List ℕ × Ahead)) (newer : List PlainEntry) →
        ((tag : List ℕ) → IsAhead whole tag (entry ∷ lasting_in whole newer) (ahead_of new tag)) →
        AreAhead whole (entry ∷ newer) new
    ahead_lasting new newer are tag =
        subst (λ entries. IsAhead whole tag entries (ahead_of new tag))
        (sym (ap (λ lasts. cond lasts (entry ∷ lasting_in whole newer) (lasting_in whole newer)) lasts)) (are tag)

    module _ (old : List (List ℕ × Ahead)) where
      module _ (tag : List ℕ) (own : of_module tag ≡ subject entry.event) where
        -- an event of a module
        pub fate_module : (fate : Fate) → fate ≡ fate_ahead (ahead_of old tag) entry.event →
            (newer : List PlainEntry) → AreAhead whole newer old → fate ≡ entry_fate whole newer entry
        fate_module fate is newer are =
            is ∙ fate_own whole (lasting_in whole newer) (ahead_of old) are entry.event tag own ∙ fate_lasting newer

        pub ahead_module : (new : List (List ℕ × Ahead)) →
            ((other : List ℕ) → ahead_of new other
            ≡ cond (bytes_eq tag other) (ahead_with entry.event (ahead_of old other)) (ahead_of old other)) →
            (newer : List PlainEntry) → AreAhead whole newer old → AreAhead whole (entry ∷ newer) new
        ahead_module new is newer are =
            ahead_lasting new newer (λ other. subst (IsAhead whole other (entry ∷ lasting_in whole newer))
            (sym (is other)) (go other (bytes_eq tag other) refl))
          where
            go : (other : List ℕ) (same : Bool) → bytes_eq tag other ≡ same →
                IsAhead whole other (entry ∷ lasting_in whole newer)
                (cond same (ahead_with entry.event (ahead_of old other)) (ahead_of old other))
            go other true same =
                ahead_own whole other entry.answer (lasting_in whole newer) (ahead_of old other) (are other)
                entry.event (ap (is_module other) (sym own) ∙ same)
            go other false apart =
                ahead_same whole other entry (lasting_in whole newer) (ahead_of old other)
                (ap (is_module other) (sym own) ∙ apart) (unread_own whole entry.event tag other own) (are other)

      module _ (none : subject_tag (subject entry.event) ≡ None) where
        -- an event of no module
        pub fate_none : (newer : List PlainEntry) → AreAhead whole newer old → Stays ≡ entry_fate whole newer entry
        fate_none newer are =
            fate_other whole (lasting_in whole newer) (ahead_of old) are entry.event none ∙ fate_lasting newer

        pub ahead_binds : (binds : List Bind) (new : List (List ℕ × Ahead)) →
            binds ≡ read_binds whole entry.event →
            ((other : List ℕ) → ahead_of new other
            ≡ cond (is_among (tags_of binds) other) (turned Read (ahead_of old other).replaced) (ahead_of old other)) →
            (newer : List PlainEntry) → AreAhead whole newer old → AreAhead whole (entry ∷ newer) new
        ahead_binds binds new are_read is newer are =
            ahead_lasting new newer (λ tag. subst (IsAhead whole tag (entry ∷ lasting_in whole newer))
            (sym (is tag)) (go tag (is_among (tags_of binds) tag) refl))
          where
            go : (tag : List ℕ) (seen : Bool) → is_among (tags_of binds) tag ≡ seen →
                IsAhead whole tag (entry ∷ lasting_in whole newer)
                (cond seen (turned Read (ahead_of old tag).replaced) (ahead_of old tag))
            go tag true seen =
                ahead_read whole tag entry (lasting_in whole newer) (ahead_of old tag).replaced
                (of_none (subject entry.event) tag none)
                (ap (λ binds. is_among (tags_of binds) tag) (sym are_read) ∙ seen) (are tag).replaced
            go tag false unseen =
                ahead_same whole tag entry (lasting_in whole newer) (ahead_of old tag)
                (of_none (subject entry.event) tag none)
                (ap (λ binds. is_among (tags_of binds) tag) (sym are_read) ∙ unseen) (are tag)
