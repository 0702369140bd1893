-- Looking back in a history: what a chain of iterators over its entries finds, and how many it counts.
use Rattle.std.proofs.Common.{◌≡◌, ◌<◌, ◌+◌, ℕ, suc, zero, ◌∷◌, [], ◌++◌, List, Bool, true, false, cond, filter, not}
use Rattle.std.proofs.Common.{Option, Some, None, refl, sym, ap, ◌∙◌, subst, arith, map, reverse, take}
use Rattle.std.specs.Fn.{Called}
use Rattle.std.specs.Iterator.{AlwaysYields, Yields}
use Rattle.std.specs.Iterator.Adapters.{rev_source, rev_steps}
use Rattle.std.specs.Iterator.Runs.{AllItemsGive, IsFirstToGive, SomeRun, YieldsRun}
use Rattle.std.specs.List.{prefix_len, slice_get}
use Rattle.std.specs.Option.{option_map, option_or, IfSome, IsSomeAnd, MatchOption}
use Rattle.std.specs.Prelude.{IsTrue}
use Rattle.std.specs.Slice.Iter.{iter_rest, iter_steps_back}
use Rattle.std.proofs.lemmas.Iterator.{YieldsList}
use Rattle.std.proofs.lemmas.Iterator.Adapters.{YieldsList-from_rev_slice}
use Rattle.std.proofs.lemmas.List.{map-append, reverse-append}
use Rattle.std.specs.Borrow.{Bor}
use denote.Param.Members.{Mut}
use Rattle.pol_events.specs.Events.{PlainEntry, PlainEvent, plug, plain_entry}
use Rattle.pol_events.specs.declared.event.Entry.{Entry}
use Rattle.pol_history.specs.Looking.{History, last_of, since, after_last}
use Rattle.pol_history.specs.Modules.{is_begin, is_plug}
use Rattle.pol_audit.specs.Listed.{listed}

-- ---- the entries of a history, the newest first

-- what yields some views yields the forms of these views
viewed : {State Item View Form : Type 0} (steps : State → Option Item → State → Type 0) (view : Item → View)
    (form : View → Form) (views : List View) (from : State) → AlwaysYields steps view from views
    → AlwaysYields steps (λ item. form (view item)) from (map form views)
viewed steps view form [] from none = none
viewed steps view form (_ ∷ views) from here = (
  here.0,
  λ item next step.
      let rest = here.1 item next step in (ap form rest.0, viewed steps view form views next rest.1),
)

-- a list that is turned round has its forms turned round
turned : {X : Type 0} (form : X → PlainEntry) (entries : List X) →
    map form (reverse entries) ≡ reverse (map form entries)
turned form [] = refl
turned form (entry ∷ later) =
    ap (map form) (reverse-append (entry ∷ []) later)
    ∙ map-append form (reverse later) (entry ∷ [])
    ∙ ap (λ front. front ++ form entry ∷ []) (turned form later)
    ∙ sym (reverse-append (form entry ∷ []) (map form later))

-- and so are listed entries
pub listed_back : {chain : _} (entries : List (Bor Entry)) → iter_rest (rev_source chain) ≡ entries
    → YieldsList (rev_steps iter_steps_back) (λ entry. plain_entry entry.now.now) chain (listed entries)
listed_back {chain} entries is =
    subst (YieldsList (rev_steps iter_steps_back) (λ entry. plain_entry entry.now.now) chain)
    (turned (λ entry. plain_entry entry.now) entries)
    (record {
      runs = viewed (rev_steps iter_steps_back) (λ entry. entry.now) (λ entry. plain_entry entry.now)
          (reverse entries) chain
          (YieldsList-from_rev_slice {s = chain} entries is).runs;
    })

-- one and a number together are the next number
one_more : (count : ℕ) → 1 + count ≡ suc count
one_more count = omega arith

-- the entries before the newest one that passes the test
pub entries_before : (test : PlainEntry → Bool) (history : History)
    → take (prefix_len (λ entry. not (test entry)) history) history ≡ after_last test history
entries_before test [] = refl
entries_before test (entry ∷ older) = go (test entry) (entries_before test older)
  where
    go : (passes : Bool)
        → take (prefix_len (λ entry. not (test entry)) older) older ≡ after_last test older
        → take (cond (not passes) (1 + prefix_len (λ entry. not (test entry)) older) 0) (entry ∷ older)
        ≡ cond passes [] (entry ∷ after_last test older)
    go true rest = refl
    go false rest =
        rw (one_more (prefix_len (λ entry. not (test entry)) older)) (ap (λ found. entry ∷ found) rest)

-- ---- what is found

module _ {State Item Found Form Call : Type 0} (steps : State → Option Item → State → Type 0)
    {view : Item → PlainEntry} {calls : Mut Call (Item × Unit {0}) (Option Found)}
    (plain : Found → Form) (says : PlainEntry → Option Form) (call : Call)
    (asks : (item : Item) (found : Option Found) (after : Call) → Called calls call (item, tt) found after →
    (after ≡ call) × (option_map plain found ≡ says (view item))) where
  nothing_said : (items : List Item) (entries : History) (from to last : State) →
      AlwaysYields steps view from entries → Yields steps from items to → steps to None last →
      ((place : ℕ) → IfSome (slice_get items place) (λ item. Called calls call (item, tt) None call)) →
      last_of says entries ≡ None
  nothing_said [] [] from to last yields gave ends silent = refl
  nothing_said [] (_ ∷ _) from to last yields gave ends silent =
      absurd (yields.0 last (subst (λ state. steps state None last) (sym gave) ends))
  nothing_said (item ∷ _) [] from to last yields gave ends silent = absurd (yields item gave.0 gave.1)
  nothing_said (item ∷ items) (entry ∷ older) from to last yields gave ends silent =
      let rest = yields.1 item gave.0 gave.1 in
      let nothing : says entry ≡ None = sym ((asks item None call (silent 0)).1 ∙ ap says rest.0) in
      ap (λ said. option_or said (last_of says older)) nothing
      ∙ nothing_said items older gave.0 to last rest.1 gave.2 ends (λ place. silent (suc place))

  something_said : (items : List Item) (entries : History) (from to : State) (place : ℕ) (found : Found) →
      AlwaysYields steps view from entries → Yields steps from items to →
      IsSomeAnd (slice_get items place) (λ item. Called calls call (item, tt) (Some found) call) →
      ((before : ℕ) → before < place →
      IsSomeAnd (slice_get items before) (λ item. Called calls call (item, tt) None call)) →
      last_of says entries ≡ Some (plain found)
  something_said [] entries from to place found yields gave here silent = absurd here
  something_said (item ∷ _) [] from to place found yields gave here silent = absurd (yields item gave.0 gave.1)
  something_said (item ∷ items) (entry ∷ older) from to zero found yields gave here silent =
      let rest = yields.1 item gave.0 gave.1 in
      ap (λ said. option_or said (last_of says older))
      (sym ((asks item (Some found) call here).1 ∙ ap says rest.0))
  something_said (item ∷ items) (entry ∷ older) from to (suc place) found yields gave here silent =
      let rest = yields.1 item gave.0 gave.1 in
      let nothing : says entry ≡ None = sym ((asks item None call (silent 0 (omega arith))).1 ∙ ap says rest.0) in
      ap (λ said. option_or said (last_of says older)) nothing
      ∙ something_said items older gave.0 to place found rest.1 gave.2 here
      (λ before below. silent (suc before) (omega (arith, below)))

-- `find_map` finds what the first entry says that says something
pub last_found : {State Item Found Form Call : Type 0} {steps : State → Option Item → State → Type 0}
    {view : Item → PlainEntry} {calls : Mut Call (Item × Unit {0}) (Option Found)} {call : Call} {from : State}
    {entries : History} (plain : Found → Form) (says : PlainEntry → Option Form) (found : Option Found) →
    SomeRun steps from (λ run. MatchOption found (IsTrue run.whole × AllItemsGive run calls call None)
    (λ value. (place : ℕ) × (place < run.len) × (run.len ≡ place + 1)
    × IsFirstToGive run calls call (Some value) None place)) →
    YieldsList steps view from entries →
    ((item : Item) (found : Option Found) (after : Call) → Called calls call (item, tt) found after →
    (after ≡ call) × (option_map plain found ≡ says (view item))) →
    option_map plain found ≡ last_of says entries
unfolding YieldsRun
last_found {steps = steps} {calls = calls} {call = call} {from = from} {entries = entries}
    plain says None ran yields asks =
    let run = ran.0 in
    let gave = subst (λ state. Yields steps state run.items run.gave.0.0) ran.1 run.gave.0.1 in
    let ends = run.gave.0.2 ran.2.0 in
    let silent = ran.2.1 (λ input found after called. (asks input.0 found after called).0) in
    sym (nothing_said steps plain says call asks run.items entries from run.gave.0.0 ends.0 yields.runs gave ends.1
    (λ place. subst (λ item. IfSome item (λ item. Called calls call (item, tt) None call)) (run.gave.1 place)
    (silent place)))
last_found {steps = steps} {calls = calls} {call = call} {from = from} {entries = entries}
    plain says (Some found) ran yields asks =
    let run = ran.0 in
    let gave = subst (λ state. Yields steps state run.items run.gave.0.0) ran.1 run.gave.0.1 in
    let first = ran.2.3 (λ input found after called. (asks input.0 found after called).0) in
    sym (something_said steps plain says call asks run.items entries from run.gave.0.0 ran.2.0 found yields.runs gave
    (subst (λ item. IsSomeAnd item (λ item. Called calls call (item, tt) (Some found) call)) (run.gave.1 ran.2.0)
    first.0)
    (λ before below. subst (λ item. IsSomeAnd item (λ item. Called calls call (item, tt) None call))
    (run.gave.1 before) (first.1 before below)))

-- ---- how many are counted

-- where what ends the search isn't counted, it makes no difference whether it is looked at
pub counted_since : (ends counts : PlainEntry → Bool) →
    ((entry : PlainEntry) → ends entry ≡ true → counts entry ≡ false) → (history : History) →
    filter counts (after_last ends history) ≡ filter counts (since ends history)
counted_since ends counts apart [] = refl
counted_since ends counts apart (entry ∷ older) =
    go (ends entry) (apart entry) (counted_since ends counts apart older)
  where
    go : (here : Bool) → (here ≡ true → counts entry ≡ false)
        → filter counts (after_last ends older) ≡ filter counts (since ends older)
        → filter counts (cond here [] (entry ∷ after_last ends older))
        ≡ filter counts (cond here (entry ∷ []) (entry ∷ since ends older))
    go true none rest = rw (none refl) refl
    go false none rest = ap (λ found. cond (counts entry) (entry ∷ found) found) rest

-- a plug begins no exchange
pub no_begin : (event : PlainEvent) → is_plug event ≡ true → is_begin event ≡ false
no_begin (plug at tag description) is = refl
no_begin _ is = absurd cc
