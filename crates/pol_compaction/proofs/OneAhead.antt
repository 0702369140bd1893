-- What lies ahead of a module, with one more entry.
use Rattle.std.proofs.Common.{◌≡◌, ℕ, Bool, true, false, cond, List, [], ◌∷◌, Option, Some, None, refl, ap, sym, ◌∙◌}
use Rattle.std.specs.Prelude.{◌&&◌, ◌||◌, option_map}
use Rattle.std.specs.List.{cons_option}
use Rattle.std.specs.Map.{lookup}
use Rattle.std.specs.Str.{bytes_eq}
use Rattle.std.specs.Cmp.{IsEquivalence}
use Rattle.std.proofs.lemmas.Cmp.{nat_list_eq_equiv}
use Rattle.indexmap.specs.IndexMap.{insert_entry}
use Rattle.pol_events.specs.declared.answer.Answer.{Answer}
use Rattle.pol_events.specs.Events.{PlainEvent, plug, unplug, report, variable, recipe, start, advance, freeze, thaw}
use Rattle.pol_events.specs.Events.{stop_batch, abandon, desk, exchange_begin, exchange_end, exchange_cancel}
use Rattle.pol_events.specs.Events.{PlainEntry}
use Rattle.pol_events.specs.Subjects.{subject_tag}
use Rattle.pol_history.specs.Looking.{History, of_module, is_module, subject}
use Rattle.pol_history.specs.Modules.{is_moving, reported, reported_value}
use Rattle.pol_compaction.specs.Ahead.{IsAhead, PlainAhead, ahead_with, fate_ahead, mark_ahead, turn_mark, turned}
use Rattle.pol_compaction.specs.Fates.{event_fate, next_of, report_fate, unless_replaced, value_fate}
use Rattle.pol_compaction.specs.Marks.{Mark, told, read, moved, mark_of, marks_of, said_of}
use Rattle.pol_compaction.specs.Reading.{is_replaced, is_replacing, moves, reads}
use Rattle.pol_compaction.specs.declared.ahead.Fate.TheVariants.{Stays}
use Rattle.pol_compaction.specs.declared.ahead.Turn.{Turn}
use Rattle.pol_compaction.specs.declared.ahead.Turn.TheVariants.{Read, Moved}

-- ---- maps

-- what is put under a key is found under it, and all else as before
put_in : {K X : Type 0} {eq : K → K → Bool} → IsEquivalence eq → (key other : K) (value : X) (entries : List (K × X)) →
    lookup (eq other) (insert_entry eq entries key value) ≡ cond (eq key other) (Some value) (lookup (eq other) entries)
put_in {eq = eq} laws key other value [] = ap (λ same. cond same (Some value) None) (laws.symm other key)
put_in {K = K} {X = X} {eq = eq} laws key other value (each ∷ entries) =
    go (eq key each.0) refl (put_in laws key other value entries)
  where
    both : (same : Bool) → cond same (Some value) (lookup (eq other) entries)
        ≡ cond same (Some value) (cond same (Some each.1) (lookup (eq other) entries))
    both true = refl
    both false = refl

    apart : (same here : Bool) → eq key other ≡ same → eq other each.0 ≡ here → eq key each.0 ≡ false →
        (found : Option X) → found ≡ cond same (Some value) (lookup (eq other) entries) →
        cond here (Some each.1) found
        ≡ cond same (Some value) (cond here (Some each.1) (lookup (eq other) entries))
    apart true true same here not_first found is =
        let clash : true ≡ false = sym here ∙ sym (laws.congr key other each.0 same) ∙ not_first in cc
    apart true false same here not_first found is = is
    apart false true same here not_first found is = refl
    apart false false same here not_first found is = is

    go : (first : Bool) → eq key each.0 ≡ first →
        lookup (eq other) (insert_entry eq entries key value)
        ≡ cond (eq key other) (Some value) (lookup (eq other) entries) →
        lookup (eq other) (cond first ((each.0, value) ∷ entries) (each ∷ insert_entry eq entries key value))
        ≡ cond (eq key other) (Some value) (cond (eq other each.0) (Some each.1) (lookup (eq other) entries))
    go true is rest =
        both (eq other each.0)
        ∙ ap (λ same. cond same (Some value) (cond (eq other each.0) (Some each.1) (lookup (eq other) entries)))
        (laws.symm other each.0 ∙ sym (laws.congr key each.0 other is))
    go false is rest =
        apart (eq key other) (eq other each.0) refl refl is (lookup (eq other) (insert_entry eq entries key value)) rest

-- ---- one module

-- what one more entry tells comes first, if it does
first_or : {A : Type 0} (tells : Bool) (said : A) (marks : List (Mark A)) →
    next_of (cons_option (option_map told (cond tells (Some said) None)) marks)
    ≡ cond tells (Some (told said)) (next_of marks)
first_or true said marks = refl
first_or false said marks = refl

module _ (whole : History) (tag : List ℕ) (entry : PlainEntry) (newer : List PlainEntry) where
  -- the next mark is that of the entry, if it is one
  next_with : {A : Type 0} (says : PlainEvent → Option A) (mark : Option (Mark A)) →
      mark_of whole tag says entry.event ≡ mark →
      next_of (marks_of whole tag says (entry ∷ newer)) ≡ next_of (cons_option mark (marks_of whole tag says newer))
  next_with says mark is = ap (λ mark. next_of (cons_option mark (marks_of whole tag says newer))) is

  -- an entry that is not of the module and doesn't read it changes nothing
  pub ahead_same : (known : PlainAhead) → is_module tag (subject entry.event) ≡ false →
      reads whole tag entry.event ≡ false → IsAhead whole tag newer known → IsAhead whole tag (entry ∷ newer) known
  ahead_same known apart unread is = record {
    replaced = is.replaced
        ∙ sym (ap (λ own. (own && is_replacing entry.event) || is_replaced tag newer) apart);
    control = λ service. is.control service ∙ sym (next_with (reported service) None (unmarked (reported service)));
    value = λ name. is.value name ∙ sym (next_with (reported_value name) None (unmarked (reported_value name)));
  }
    where
      unmarked : {A : Type 0} (says : PlainEvent → Option A) → mark_of whole tag says entry.event ≡ None
      unmarked says =
          ap (λ seen. cond seen (Some read) (cond (moves tag entry.event) (Some moved)
          (option_map told (said_of tag says entry.event)))) unread
          ∙ ap (λ own. cond (own && is_moving entry.event) (Some moved)
          (option_map told (cond own (says entry.event) None))) apart

  -- one that reads or moves it comes before all that was ahead
  turns : (turn : Turn) (replaced : Bool) → replaced ≡ is_replaced tag (entry ∷ newer) →
      ((A : Type 0) (says : PlainEvent → Option A) → mark_of whole tag says entry.event ≡ Some (turn_mark turn)) →
      IsAhead whole tag (entry ∷ newer) (turned turn replaced)
  turns turn replaced is marked = record {
    replaced = is;
    control = λ service. sym (next_with (reported service) (Some (turn_mark turn)) (marked _ (reported service)));
    value = λ name. sym (next_with (reported_value name) (Some (turn_mark turn)) (marked _ (reported_value name)));
  }

  -- so does one that reads it
  pub ahead_read : (replaced : Bool) → is_module tag (subject entry.event) ≡ false →
      reads whole tag entry.event ≡ true → replaced ≡ is_replaced tag newer →
      IsAhead whole tag (entry ∷ newer) (turned Read replaced)
  ahead_read replaced apart seen is =
      turns Read replaced
      (is ∙ sym (ap (λ own. (own && is_replacing entry.event) || is_replaced tag newer) apart))
      (λ A says. ap (λ seen. cond seen (Some read) (cond (moves tag entry.event) (Some moved)
      (option_map told (said_of tag says entry.event)))) seen)

-- ---- an event of the module

module _ (whole : History) (tag : List ℕ) (answer : Answer) (newer : List PlainEntry) (known : PlainAhead)
    (is : IsAhead whole tag newer known) where
  -- the event with its answer
  abbrev entry : PlainEvent → PlainEntry
  entry event = record { event = event; answer = answer }

  -- what it says is found first, and behind it what was
  says_it : {A : Type 0} (name other : List ℕ) (said : A) (before : List (List ℕ × A)) (mark : Option (Mark A)) →
      mark_ahead (lookup (bytes_eq other) before) known.turn ≡ mark →
      mark_ahead (lookup (bytes_eq other) (insert_entry bytes_eq before name said)) known.turn
      ≡ cond (bytes_eq name other) (Some (told said)) mark
  says_it {A = A} name other said before mark was =
      ap (λ found. mark_ahead found known.turn) (put_in nat_list_eq_equiv name other said before)
      ∙ go (bytes_eq name other)
    where
      go : (same : Bool) → mark_ahead (cond same (Some said) (lookup (bytes_eq other) before)) known.turn
          ≡ cond same (Some (told said)) mark
      go true = refl
      go false = was

  module _ (event : PlainEvent) (own : is_module tag (subject event) ≡ true) (unread : reads whole tag event ≡ false)
    where
      -- its mark is what it does to its module
      marked : {A : Type 0} (says : PlainEvent → Option A) →
          mark_of whole tag says event ≡ cond (is_moving event) (Some moved) (option_map told (says event))
      marked says =
          ap (λ seen. cond seen (Some read) (cond (moves tag event) (Some moved)
          (option_map told (said_of tag says event)))) unread
          ∙ ap (λ own. cond (own && is_moving event) (Some moved) (option_map told (cond own (says event) None))) own

      -- whether it replaces its module, or a later one does
      replaced_with : is_replaced tag (entry event ∷ newer) ≡ (is_replacing event || is_replaced tag newer)
      replaced_with = ap (λ own. (own && is_replacing event) || is_replaced tag newer) own

      -- it moves its module
      moves_it : (replaced : Bool) → is_moving event ≡ true → replaced ≡ (is_replacing event || is_replaced tag newer) →
          IsAhead whole tag (entry event ∷ newer) (turned Moved replaced)
      moves_it replaced moving same =
          turns whole tag (entry event) newer Moved replaced (same ∙ sym replaced_with)
          (λ A says. marked says ∙ ap (λ moving. cond moving (Some moved) (option_map told (says event))) moving)

      -- or tells something
      module _ (still : is_moving event ≡ false) (stays : is_replacing event ≡ false) where
        -- it replaces nothing
        replaced_then : known.replaced ≡ is_replaced tag (entry event ∷ newer)
        replaced_then = is.replaced
            ∙ sym (replaced_with ∙ ap (λ replacing. replacing || is_replaced tag newer) stays)

        -- the next mark is what it tells, or what was
        next_then : {A : Type 0} (says : PlainEvent → Option A) →
            next_of (marks_of whole tag says (entry event ∷ newer))
            ≡ next_of (cons_option (option_map told (says event)) (marks_of whole tag says newer))
        next_then says = next_with whole tag (entry event) newer says (option_map told (says event))
            (marked says ∙ ap (λ moving. cond moving (Some moved) (option_map told (says event))) still)

  -- so much lies ahead of its module then
  pub ahead_own : (event : PlainEvent) → is_module tag (subject event) ≡ true →
      IsAhead whole tag (entry event ∷ newer) (ahead_with event known)
  ahead_own (plug at other description) own = moves_it (plug at other description) own refl true refl refl
  ahead_own (unplug at other) own = moves_it (unplug at other) own refl true refl refl
  ahead_own (exchange_begin at other) own =
      moves_it (exchange_begin at other) own refl known.replaced refl is.replaced
  ahead_own (exchange_end at other ticket description) own =
      moves_it (exchange_end at other ticket description) own refl known.replaced refl is.replaced
  ahead_own (exchange_cancel at other ticket) own =
      moves_it (exchange_cancel at other ticket) own refl known.replaced refl is.replaced
  ahead_own (report at other service control) own = record {
    replaced = replaced_then event own refl refl refl;
    control = λ name. says_it service name control known.controls _ (is.control name)
        ∙ sym (next_then event own refl refl refl (reported name)
        ∙ first_or (bytes_eq service name) control (marks_of whole tag (reported name) newer));
    value = λ name. is.value name ∙ sym (next_then event own refl refl refl (reported_value name));
  }
    where
      event : PlainEvent
      event = report at other service control
  ahead_own (variable at other name value) own = record {
    replaced = replaced_then event own refl refl refl;
    control = λ service. is.control service ∙ sym (next_then event own refl refl refl (reported service));
    value = λ sought. says_it name sought value known.values _ (is.value sought)
        ∙ sym (next_then event own refl refl refl (reported_value sought)
        ∙ first_or (bytes_eq name sought) value (marks_of whole tag (reported_value sought) newer));
  }
    where
      event : PlainEvent
      event = variable at other name value
  ahead_own (desk at other service command) own = record {
    replaced = replaced_then event own refl refl refl;
    control = λ name. is.control name ∙ sym (next_then event own refl refl refl (reported name));
    value = λ name. is.value name ∙ sym (next_then event own refl refl refl (reported_value name));
  }
    where
      event : PlainEvent
      event = desk at other service command
  ahead_own (recipe at name chart) own = cc
  ahead_own (start at batch name binds) own = cc
  ahead_own (advance at batch) own = cc
  ahead_own (freeze at batch hold) own = cc
  ahead_own (thaw at batch) own = cc
  ahead_own (stop_batch at batch) own = cc
  ahead_own (abandon at batch) own = cc

-- ---- the fate of an event of a module

module _ (whole : History) (newer : List PlainEntry) (ahead : List ℕ → PlainAhead)
    (are : (tag : List ℕ) → IsAhead whole tag newer (ahead tag)) where
  -- an event's fate by what lies ahead of its module is its fate by what comes
  pub fate_own : (event : PlainEvent) (tag : List ℕ) → of_module tag ≡ subject event →
      fate_ahead (ahead tag) event ≡ event_fate whole newer event
  fate_own event tag is = go event tag is
    where
      -- the module is the one that the event names
      at_tag : (event : PlainEvent) (tag other : List ℕ) → of_module tag ≡ of_module other →
          fate_ahead (ahead other) event ≡ event_fate whole newer event →
          fate_ahead (ahead tag) event ≡ event_fate whole newer event
      at_tag event tag other is fate =
          let same : tag ≡ other = cc in
          ap (λ tag. fate_ahead (ahead tag) event) same ∙ fate

      go : (event : PlainEvent) (tag : List ℕ) → of_module tag ≡ subject event →
          fate_ahead (ahead tag) event ≡ event_fate whole newer event
      go (unplug at other) tag is = refl
      go (plug at other description) tag is =
          at_tag (plug at other description) tag other is
          (ap (λ replaced. unless_replaced replaced Stays) (are other).replaced)
      go (exchange_begin at other) tag is =
          at_tag (exchange_begin at other) tag other is
          (ap (λ replaced. unless_replaced replaced Stays) (are other).replaced)
      go (exchange_end at other ticket description) tag is =
          at_tag (exchange_end at other ticket description) tag other is
          (ap (λ replaced. unless_replaced replaced Stays) (are other).replaced)
      go (exchange_cancel at other ticket) tag is =
          at_tag (exchange_cancel at other ticket) tag other is
          (ap (λ replaced. unless_replaced replaced Stays) (are other).replaced)
      go (report at other service control) tag is =
          at_tag (report at other service control) tag other is
          (ap (λ replaced. unless_replaced replaced (report_fate control.state
          (mark_ahead (lookup (bytes_eq service) (ahead other).controls) (ahead other).turn))) (are other).replaced
          ∙ ap (λ mark. unless_replaced (is_replaced other newer) (report_fate control.state mark))
          ((are other).control service))
      go (variable at other name value) tag is =
          at_tag (variable at other name value) tag other is
          (ap (λ replaced. unless_replaced replaced (value_fate
          (mark_ahead (lookup (bytes_eq name) (ahead other).values) (ahead other).turn))) (are other).replaced
          ∙ ap (λ mark. unless_replaced (is_replaced other newer) (value_fate mark)) ((are other).value name))
      go (desk at other service command) tag is = refl
      go (recipe at name chart) tag is = refl
      go (start at batch name binds) tag is = refl
      go (advance at batch) tag is = refl
      go (freeze at batch hold) tag is = refl
      go (thaw at batch) tag is = refl
      go (stop_batch at batch) tag is = refl
      go (abandon at batch) tag is = refl

  -- an event that is of no module stays
  pub fate_other : (event : PlainEvent) → subject_tag (subject event) ≡ None →
      Stays ≡ event_fate whole newer event
  fate_other (plug at other description) none = cc
  fate_other (unplug at other) none = cc
  fate_other (exchange_begin at other) none = cc
  fate_other (exchange_end at other ticket description) none = cc
  fate_other (exchange_cancel at other ticket) none = cc
  fate_other (report at other service control) none = cc
  fate_other (variable at other name value) none = cc
  fate_other (desk at other service command) none = cc
  fate_other (recipe at name chart) none = refl
  fate_other (start at batch name binds) none = refl
  fate_other (advance at batch) none = refl
  fate_other (freeze at batch hold) none = refl
  fate_other (thaw at batch) none = refl
  fate_other (stop_batch at batch) none = refl
  fate_other (abandon at batch) none = refl
