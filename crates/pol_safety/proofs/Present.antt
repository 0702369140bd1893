-- The tags that are counted as present are those that are docked or away, each once; and each has a description.
use Rattle.std.proofs.Common.{◌≡◌, ℕ, Bool, true, false, cond, List, [], ◌∷◌, None, refl, ap, sym, ◌∙◌, subst}
use Rattle.std.specs.Prelude.{◌||◌, ◌&&◌, not, filter}
use Rattle.std.specs.List.{AllByRecursion, IsDistinct}
use Rattle.std.specs.Str.{bytes_eq}
use Rattle.std.proofs.lemmas.Bool.{and_right, false_from_ne_true}
use Rattle.std.proofs.lemmas.Map.Views.{any-filter_same}
use Rattle.mtp_codes.specs.Names.{is_among}
use Rattle.mtp_codes.proofs.Names.{same_true, same_refl}
use Rattle.pol_events.specs.Events.{PlainEvent, PlainEntry, plug, unplug, report, variable, desk, exchange_begin}
use Rattle.pol_events.specs.Events.{exchange_end, exchange_cancel}
use Rattle.pol_history.specs.Looking.{History, subject, is_module, is_accepted, past}
use Rattle.pol_history.specs.Modules.{Docking, absent, docked, away, docking_by, docking_of, tags_without}
use Rattle.pol_history.specs.Modules.{present_after, present_tags}
use Rattle.pol_history.specs.Rules.{no_module}
use Rattle.pol_history.specs.Answers.{rules, answer_of}
use Rattle.pol_history.proofs.Accepted.{NoneHolds, accepted_none}
use Rattle.pol_safety.specs.Known.{is_there, TagsAreCounted, TagsAreDescribed}
use Rattle.pol_safety.proofs.Covering.{described}

-- ---- lists of tags

-- what holds of all holds of those that a filter keeps
all_filtered : {X : Type 0} (P : X → Type 0) (keeps : X → Bool) (xs : List X) → AllByRecursion P xs →
    AllByRecursion P (filter keeps xs)
all_filtered P keeps [] all = tt
all_filtered {X} P keeps (x ∷ xs) all = go (keeps x) (all_filtered P keeps xs all.1)
  where
    go : (kept : Bool) → AllByRecursion P (filter keeps xs) →
        AllByRecursion P (cond kept (x ∷ filter keeps xs) (filter keeps xs))
    go true rest = (all.0, rest)
    go false rest = rest

-- a filter keeps names apart
distinct_filtered : (keeps : List ℕ → Bool) (names : List (List ℕ)) → IsDistinct bytes_eq names →
    IsDistinct bytes_eq (filter keeps names)
unfolding IsDistinct
distinct_filtered keeps [] apart = tt
distinct_filtered keeps (name ∷ names) apart = go (keeps name) (distinct_filtered keeps names apart.1)
  where
    go : (kept : Bool) → IsDistinct bytes_eq (filter keeps names) →
        IsDistinct bytes_eq (cond kept (name ∷ filter keeps names) (filter keeps names))
    go true rest = (all_filtered (λ other. bytes_eq name other ≡ false) keeps names apart.0, rest)
    go false rest = rest

-- none of the tags without this one is this one
apart_from : (tag : List ℕ) (tags : List (List ℕ)) → AllByRecursion (λ other. bytes_eq tag other ≡ false)
    (tags_without tag tags)
apart_from tag [] = tt
apart_from tag (each ∷ tags) = go (bytes_eq each tag) refl (apart_from tag tags)
  where
    other : bytes_eq each tag ≡ false → bytes_eq tag each ≡ false
    other is =
        false_from_ne_true (bytes_eq tag each)
        (λ same. let clash : false ≡ true = sym is ∙ ap (λ name. bytes_eq each name) (same_true tag each same)
        ∙ same_refl each in cc)

    go : (same : Bool) → bytes_eq each tag ≡ same → AllByRecursion (λ other. bytes_eq tag other ≡ false)
        (tags_without tag tags) →
        AllByRecursion (λ other. bytes_eq tag other ≡ false)
        (cond (not same) (each ∷ tags_without tag tags) (tags_without tag tags))
    go true is rest = rest
    go false is rest = (other is, rest)

-- the tags without another one have this one just where they had it
among_others : (other tag : List ℕ) (tags : List (List ℕ)) → bytes_eq other tag ≡ false →
    is_among (tags_without other tags) tag ≡ is_among tags tag
among_others other tag tags apart =
    any-filter_same (λ each. bytes_eq each tag) (λ each. not (bytes_eq each other)) true
    (λ each is. ap not (false_from_ne_true (bytes_eq each other)
    (λ same. let clash : false ≡ true = sym apart ∙ ap (λ name. bytes_eq name tag) (sym (same_true each other same))
    ∙ is in cc))) tags

-- and the tags without this one haven't
among_without : (tag : List ℕ) (tags : List (List ℕ)) → is_among (tags_without tag tags) tag ≡ false
among_without tag tags =
    any-filter_same (λ each. bytes_eq each tag) (λ each. not (bytes_eq each tag)) false (λ each is. ap not is) tags

-- ---- one more event

-- a tag among these just where its module is there
abbrev IsCounted : List ℕ → List (List ℕ) → History → Type 0
IsCounted tag tags past = is_among tags tag ≡ is_there (docking_by past)

-- a module that the rules find is there
found_there : (tag : List ℕ) (docking : Docking) → no_module tag docking ≡ None → is_there docking ≡ true
found_there tag absent none = cc
found_there tag (docked count) none = refl
found_there tag (away ticket) none = refl

-- an event of one module, by what it makes of its own tag and of the others
counted_at : (tag other : List ℕ) (tags after : List (List ℕ)) (entry : PlainEntry) (past : History) (kept : Bool) →
    kept ≡ true →
    IsCounted tag tags past → (bytes_eq other tag ≡ false → is_among after tag ≡ is_among tags tag) →
    (other ≡ tag → IsCounted tag after (entry ∷ past)) →
    IsCounted tag after (cond (bytes_eq other tag && kept) (entry ∷ past) past)
counted_at tag other tags after entry past kept accepted before apart own = go (bytes_eq other tag) refl
  where
    go : (same : Bool) → bytes_eq other tag ≡ same → IsCounted tag after (cond (same && kept) (entry ∷ past) past)
    go true is = rw accepted (own (same_true other tag is))
    go false is = apart is ∙ before

module _ (history : History) (tag : List ℕ) (before : IsCounted tag (present_tags history) (past tag history)) where
  -- a module whose exchange begins or ends is there before and after
  moved : (entry : PlainEntry) (other : List ℕ) (kept : Bool) → kept ≡ true →
      no_module other (docking_of history other) ≡ None →
      is_there (docking_by (entry ∷ past tag history)) ≡ true →
      IsCounted tag (present_tags history) (cond (bytes_eq other tag && kept) (entry ∷ past tag history)
      (past tag history))
  moved entry other kept accepted free there =
      counted_at tag other (present_tags history) (present_tags history) entry (past tag history) kept accepted before
      (λ apart. refl)
      (λ same. before ∙ found_there tag (docking_of history tag)
      (ap (λ name. no_module name (docking_of history name)) (sym same) ∙ free) ∙ sym there)

  -- an event that moves nothing
  stayed : (entry : PlainEntry) (other : List ℕ) (kept : Bool) → kept ≡ true →
      docking_by (entry ∷ past tag history) ≡ docking_by (past tag history) →
      IsCounted tag (present_tags history) (cond (bytes_eq other tag && kept) (entry ∷ past tag history)
      (past tag history))
  stayed entry other kept accepted same =
      counted_at tag other (present_tags history) (present_tags history) entry (past tag history) kept accepted before
      (λ apart. refl)
      (λ own. before ∙ ap is_there (sym same))

  -- after an accepted event, by its kind
  counted_one : (event : PlainEvent) (answer : _) → is_accepted answer ≡ true → NoneHolds (rules history event) →
      IsCounted tag (present_tags (record { event = event; answer = answer } ∷ history))
      (past tag (record { event = event; answer = answer } ∷ history))
  counted_one (plug at other description) answer accepted free =
      let entry : PlainEntry = record { event = plug at other description; answer = answer } in
      let tags = present_tags history in
      subst (λ kept. IsCounted tag (present_after (plug at other description) kept tags)
      (cond (bytes_eq other tag && kept) (entry ∷ past tag history) (past tag history)))
      (sym accepted)
      (counted_at tag other tags (other ∷ tags_without other tags) entry (past tag history) true refl before
      (λ apart. ap (λ same. same || is_among (tags_without other tags) tag) apart ∙ among_others other tag tags apart)
      (λ same. ap (λ same. same || is_among (tags_without other tags) tag)
      (ap (λ name. bytes_eq name tag) same ∙ same_refl tag)))
  counted_one (unplug at other) answer accepted free =
      let entry : PlainEntry = record { event = unplug at other; answer = answer } in
      let tags = present_tags history in
      subst (λ kept. IsCounted tag (present_after (unplug at other) kept tags)
      (cond (bytes_eq other tag && kept) (entry ∷ past tag history) (past tag history)))
      (sym accepted)
      (counted_at tag other tags (tags_without other tags) entry (past tag history) true refl before
      (λ apart. among_others other tag tags apart)
      (λ same. ap (λ name. is_among (tags_without name tags) tag) same ∙ among_without tag tags))
  counted_one (report at other service control) answer accepted free =
      stayed (record { event = report at other service control; answer = answer }) other
      (is_accepted answer) accepted refl
  counted_one (variable at other name value) answer accepted free =
      stayed (record { event = variable at other name value; answer = answer }) other (is_accepted answer) accepted refl
  counted_one (desk at other service command) answer accepted free =
      stayed (record { event = desk at other service command; answer = answer }) other
      (is_accepted answer) accepted refl
  counted_one (exchange_begin at other) answer accepted free =
      moved (record { event = exchange_begin at other; answer = answer }) other
      (is_accepted answer) accepted free.0 refl
  counted_one (exchange_end at other ticket description) answer accepted free =
      moved (record { event = exchange_end at other ticket description; answer = answer }) other
      (is_accepted answer) accepted free.0 refl
  counted_one (exchange_cancel at other ticket) answer accepted free =
      moved (record { event = exchange_cancel at other ticket; answer = answer }) other
      (is_accepted answer) accepted free.0 refl
  counted_one _ answer accepted free = before

-- the tags stay apart
once_after : (event : PlainEvent) (accepted : Bool) (tags : List (List ℕ)) → IsDistinct bytes_eq tags →
    IsDistinct bytes_eq (present_after event accepted tags)
unfolding IsDistinct
once_after (plug at tag description) true tags apart =
    (apart_from tag tags, distinct_filtered (λ other. not (bytes_eq other tag)) tags apart)
once_after (unplug at tag) true tags apart = distinct_filtered (λ other. not (bytes_eq other tag)) tags apart
once_after _ _ tags apart = apart

-- a refused event changes neither
refused_counted : (history : History) (tag : List ℕ) (entry : PlainEntry) → is_accepted entry.answer ≡ false →
    IsCounted tag (present_tags history) (past tag history) →
    IsCounted tag (present_tags (entry ∷ history)) (past tag (entry ∷ history))
refused_counted history tag entry refused before =
    let same_tags : present_tags (entry ∷ history) ≡ present_tags history
    = ap (λ accepted. present_after entry.event accepted (present_tags history)) refused ∙ silent entry.event in
    let same_past : past tag (entry ∷ history) ≡ past tag history
    = ap (λ kept. cond kept (entry ∷ past tag history) (past tag history))
    (and_right (is_module tag (subject entry.event)) (is_accepted entry.answer) refused) in
    rw (same_tags, same_past) before
  where
    silent : (event : PlainEvent) → present_after event false (present_tags history) ≡ present_tags history
    silent (plug at tag description) = refl
    silent (unplug at tag) = refl
    silent _ = refl

-- nor does the count differ after any event
counted_step : (history : History) (tag : List ℕ) (entry : PlainEntry) → entry.answer ≡ answer_of history entry.event →
    IsCounted tag (present_tags history) (past tag history) →
    IsCounted tag (present_tags (entry ∷ history)) (past tag (entry ∷ history))
counted_step history tag entry answered before = go (is_accepted entry.answer) refl
  where
    go : (accepted : Bool) → is_accepted entry.answer ≡ accepted →
        IsCounted tag (present_tags (entry ∷ history)) (past tag (entry ∷ history))
    go true is =
        counted_one history tag before entry.event entry.answer is
        (accepted_none history entry.event (ap is_accepted (sym answered) ∙ is))
    go false is = refused_counted history tag entry is before

-- the tags that are counted are those that are there
pub tags_counted : TagsAreCounted
unfolding IsDistinct
tags_counted [] legal = record { members = λ tag. refl; once = tt }
tags_counted (entry ∷ history) legal =
    let before = tags_counted history legal.2 in
    record {
      members = λ tag. counted_step history tag entry legal.0 (before.members tag);
      once = once_after entry.event (is_accepted entry.answer) (present_tags history) before.once;
    }

-- each of them has a description
pub tags_described : TagsAreDescribed
tags_described history tag legal orderly there =
    let found = described history legal orderly tag (λ is. let clash : false ≡ true = sym (ap is_there is) ∙ there in
    cc) in
    (found.description, found.described)
