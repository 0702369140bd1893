-- Who watches a module after one more entry.
use Rattle.std.proofs.Common.{◌≡◌, ℕ, Bool, true, false, not, cond, List, [], ◌∷◌, ◌++◌, reverse, Option, Some, None}
use Rattle.std.proofs.Common.{is_none, refl, ap, sym, ◌∙◌, subst, ◌⊎◌}
use Rattle.std.specs.Prelude.{◌&&◌, filter, filter_map, if◌then◌else◌}
use Rattle.std.specs.List.{Contains, cons_option}
use Rattle.std.specs.Option.{option_or}
use Rattle.std.specs.Str.{bytes_eq}
use Rattle.std.proofs.Math.Path.{fun_ext}
use Rattle.std.proofs.lemmas.Bool.{and_parts}
use Rattle.std.proofs.lemmas.List.{reverse-append}
use Rattle.std.proofs.lemmas.List.Sorted.{Contains-permutation, IsPermutation-reverse, IsPermutation-sym}
use Rattle.mtp_codes.specs.Names.{is_among}
use Rattle.mtp_codes.proofs.Names.{same_true, same_refl, apart_back}
use Rattle.chart_core.specs.declared.next.Outcome.{Outcome}
use Rattle.pol_events.specs.Events.{PlainEvent, PlainEntry, start}
use Rattle.pol_events.specs.Bound.{PlainAllocation, tags_of}
use Rattle.pol_events.specs.declared.event.Bind.{Bind}
use Rattle.pol_events.proofs.Lists.{member_first, member_later, member_kept, kept_member, member_among, image_member}
use Rattle.pol_history.specs.Looking.{History, of_module, of_batch, of_recipe, subject, is_accepted, is_batch}
use Rattle.pol_history.specs.Looking.{is_accepted_of_batch, past_of_batch}
use Rattle.pol_history.specs.Batches.{Started, starting, start_by, start_of, watching, watches, closing, outcome_by}
use Rattle.pol_history.specs.Batches.{outcome_of, is_open, watchers_of}
use Rattle.pol_history.proofs.Filters.{filter_both, filter_reverse}
use Rattle.pol_history.proofs.Holders.{started, module_no_start, recipe_no_start}
use Rattle.pol_history.proofs.Pasts.{batch_past_own, batch_past_apart, batch_past_same, recipe_batch_past_same}

-- ---- an event that watches no module

-- what starts no batch watches nothing
no_watching : (tag : List ℕ) (event : PlainEvent) → starting event ≡ None → watching tag event ≡ None
no_watching tag (start at batch name binds) is = cc
no_watching tag _ is = refl

-- nor does its entry
pub watches_none : (tag : List ℕ) (entry : PlainEntry) → starting entry.event ≡ None → watches tag entry ≡ None
watches_none tag entry is = go (is_accepted entry.answer)
  where
    go : (kept : Bool) → (if kept then watching tag entry.event else None) ≡ None
    go true = no_watching tag entry.event is
    go false = refl

-- the watchers, by what the newest entry watches and by which batches are open
seen_by : (history : History) (entry : PlainEntry) (tag : List ℕ) (found : Option (List ℕ)) (open' : List ℕ → Bool) →
    watches tag entry ≡ found → ((batch : List ℕ) → is_open (entry ∷ history) batch ≡ open' batch) →
    watchers_of (entry ∷ history) tag ≡ reverse (filter open' (cons_option found (filter_map (watches tag) history)))
seen_by history entry tag found open' is same =
    ap (λ found. reverse (filter (is_open (entry ∷ history)) (cons_option found (filter_map (watches tag) history)))) is
    ∙ ap (λ test. reverse (filter test (cons_option found (filter_map (watches tag) history)))) (fun_ext same)

-- the watchers stay, where no batch's past changes and no module is watched anew
watchers_stay : (history : History) (entry : PlainEntry) (tag : List ℕ) → starting entry.event ≡ None →
    ((batch : List ℕ) → past_of_batch batch (entry ∷ history) ≡ past_of_batch batch history) →
    watchers_of (entry ∷ history) tag ≡ watchers_of history tag
watchers_stay history entry tag is same =
    seen_by history entry tag None (is_open history) (watches_none tag entry is)
    (λ batch. ap (λ past. is_none (outcome_by past)) (same batch))

-- an event of a module changes no watcher
pub watchers_same : (history : History) (entry : PlainEntry) (tag : List ℕ) → subject entry.event ≡ of_module tag →
    (other : List ℕ) → watchers_of (entry ∷ history) other ≡ watchers_of history other
watchers_same history entry tag is other =
    watchers_stay history entry other (module_no_start entry.event tag is)
    (λ batch. batch_past_same history entry tag batch is)

-- a recipe changes no watcher
pub recipe_watchers_same : (history : History) (entry : PlainEntry) (name : List ℕ) →
    subject entry.event ≡ of_recipe name →
    (tag : List ℕ) → watchers_of (entry ∷ history) tag ≡ watchers_of history tag
recipe_watchers_same history entry name is tag =
    watchers_stay history entry tag (recipe_no_start entry.event name is)
    (λ batch. recipe_batch_past_same history entry name batch is)

-- ---- an event of a batch that is no start

-- watchers, without the batch where that is closed
abbrev pub watchers_if : Option Outcome → List ℕ → List (List ℕ) → List (List ℕ)
watchers_if None batch watchers = watchers
watchers_if (Some outcome) batch watchers = filter (λ other. not (bytes_eq other batch)) watchers

-- a batch is open afterwards, where an answer may close one
abbrev open_if : Option Outcome → List ℕ → History → List ℕ → Bool
open_if None batch history other = is_open history other
open_if (Some outcome) batch history other = not (bytes_eq other batch) && is_open history other

-- a batch is open after an accepted event of an open one as before, or that answer has closed it
open_after : (history : History) (entry : PlainEntry) (batch : List ℕ) → subject entry.event ≡ of_batch batch →
    is_accepted entry.answer ≡ true → outcome_of history batch ≡ None → (other : List ℕ) →
    is_open (entry ∷ history) other ≡ open_if (closing entry.answer) batch history other
open_after history entry batch is accepted open' other = go (bytes_eq batch other) refl
  where
    closed : (closes : Option Outcome) → is_none (option_or closes None) ≡ open_if closes batch history batch
    closed None = ap is_none (sym open')
    closed (Some outcome) = ap (λ same. not same && is_open history batch) (sym (same_refl batch))

    kept : (closes : Option Outcome) → bytes_eq other batch ≡ false →
        is_open history other ≡ open_if closes batch history other
    kept None apart = refl
    kept (Some outcome) apart = ap (λ same. not same && is_open history other) (sym apart)

    go : (same : Bool) → bytes_eq batch other ≡ same →
        is_open (entry ∷ history) other ≡ open_if (closing entry.answer) batch history other
    go true same =
        subst (λ other. is_open (entry ∷ history) other ≡ open_if (closing entry.answer) batch history other)
        (same_true batch other same)
        (ap (λ past. is_none (outcome_by past)) (batch_past_own history entry batch is accepted)
        ∙ ap (λ found. is_none (option_or (closing entry.answer) found)) open'
        ∙ closed (closing entry.answer))
    go false apart =
        ap (λ past. is_none (outcome_by past)) (batch_past_apart history entry batch other is apart)
        ∙ kept (closing entry.answer) (apart_back batch other apart)

-- the watchers are those before, without the batch where the answer closes it
pub watchers_after : (history : History) (entry : PlainEntry) (batch : List ℕ) → subject entry.event ≡ of_batch batch →
    starting entry.event ≡ None → is_accepted entry.answer ≡ true → outcome_of history batch ≡ None → (tag : List ℕ) →
    watchers_of (entry ∷ history) tag ≡ watchers_if (closing entry.answer) batch (watchers_of history tag)
watchers_after history entry batch is no_start accepted open' tag =
    seen_by history entry tag None (open_if (closing entry.answer) batch history) (watches_none tag entry no_start)
    (open_after history entry batch is accepted open')
    ∙ go (closing entry.answer)
  where
    go : (closes : Option Outcome) →
        reverse (filter (open_if closes batch history) (filter_map (watches tag) history))
        ≡ watchers_if closes batch (watchers_of history tag)
    go None = refl
    go (Some outcome) =
        ap reverse (filter_both (λ other. not (bytes_eq other batch)) (is_open history)
        (filter_map (watches tag) history))
        ∙ filter_reverse (λ other. not (bytes_eq other batch))
        (filter (is_open history) (filter_map (watches tag) history))

-- ---- a start

-- the new batch watches the modules that it is to watch, behind all others
pub watchers_started : (history : History) (at : ℕ) (batch name : List ℕ) (binds : PlainAllocation) →
    past_of_batch batch history ≡ [] → (tag : List ℕ) →
    watchers_of (started at batch name binds ∷ history) tag ≡ (if is_among
    (tags_of binds.watched) tag then watchers_of history tag ++ batch ∷ [] else watchers_of history tag)
watchers_started history at batch name binds new tag =
    seen_by history entry tag (cond (is_among (tags_of binds.watched) tag) (Some batch) None) (is_open history) refl
    same
    ∙ go (is_among (tags_of binds.watched) tag)
  where
    entry : PlainEntry
    entry = started at batch name binds

    before : is_open history batch ≡ true
    before = ap (λ past. is_none (outcome_by past)) new

    same : (other : List ℕ) → is_open (entry ∷ history) other ≡ is_open history other
    same other = which (bytes_eq batch other) refl
      where
        which : (equal : Bool) → bytes_eq batch other ≡ equal →
            is_open (entry ∷ history) other ≡ is_open history other
        which true equal =
            subst (λ other. is_open (entry ∷ history) other ≡ is_open history other) (same_true batch other equal)
            (ap (λ past. is_none (outcome_by past))
            (batch_past_own history entry batch refl refl ∙ ap (λ past. entry ∷ past) new) ∙ sym before)
        which false apart = ap (λ past. is_none (outcome_by past))
            (batch_past_apart history entry batch other refl apart)

    go : (among : Bool) →
        reverse (filter (is_open history) (cons_option (cond among (Some batch) None)
        (filter_map (watches tag) history)))
        ≡ (if among then watchers_of history tag ++ batch ∷ [] else watchers_of history tag)
    go false = refl
    go true =
        ap (λ open'. reverse (cond open' (batch ∷ filter (is_open history) (filter_map (watches tag) history))
        (filter (is_open history) (filter_map (watches tag) history)))) before
        ∙ reverse-append (batch ∷ []) (filter (is_open history) (filter_map (watches tag) history))

-- ---- a batch that watches

-- what is in a list is in it turned round
pub reversed_member : {X : Type 0} (xs : List X) (x : X) → Contains xs x → Contains (reverse xs) x
reversed_member xs x inside = Contains-permutation xs (reverse xs) x (IsPermutation-reverse xs) inside

-- and the other way round
pub member_reversed : {X : Type 0} (xs : List X) (x : X) → Contains (reverse xs) x → Contains xs x
member_reversed xs x inside =
    Contains-permutation (reverse xs) xs x (IsPermutation-sym xs (reverse xs) (IsPermutation-reverse xs)) inside

-- one that watches a module isn't closed, and an accepted start of it watches the module
pub watcher_parts : (history : History) (tag batch : List ℕ) → Contains (watchers_of history tag) batch →
    Contains (filter_map (watches tag) history) batch × (outcome_of history batch ≡ None)
watcher_parts history tag batch inside =
    let kept = member_kept (is_open history) (filter_map (watches tag) history) batch
    (member_reversed (filter (is_open history) (filter_map (watches tag) history)) batch inside) in
    (kept.0, unclosed (outcome_of history batch) kept.1)
  where
    unclosed : (outcome : Option Outcome) → is_none outcome ≡ true → outcome ≡ None
    unclosed None is = refl
    unclosed (Some outcome) is = cc

-- what was found stays behind what is found first
later_found : {X : Type 0} (found : Option X) (xs : List X) (x : X) → Contains xs x → Contains (cons_option found xs) x
later_found None xs x inside = inside
later_found (Some first) xs x inside = member_later first x xs inside

-- the accepted start of a batch watches what it says
own_start : (entry : PlainEntry) (batch : List ℕ) (started : Started) (bind : Bind) →
    is_accepted_of_batch batch entry ≡ true → starting entry.event ≡ Some started →
    Contains started.binds.watched bind → watches bind.tag entry ≡ Some batch
own_start entry batch started bind of_it starts inside =
    let parts = and_parts (is_batch batch (subject entry.event)) (is_accepted entry.answer) of_it in
    ap (λ accepted. cond accepted (watching bind.tag entry.event) None) parts.1
    ∙ by_event entry.event parts.0 starts
  where
    by_event : (event : PlainEvent) → is_batch batch (subject event) ≡ true → starting event ≡ Some started →
        watching bind.tag event ≡ Some batch
    by_event (start at other name binds) same is =
        let own : record { recipe = name; binds = binds } ≡ started = cc in
        let within : Contains binds.watched bind =
        subst (λ started. Contains started.binds.watched bind) (sym own) inside in
        ap (λ among. cond among (Some other) None)
        (member_among (tags_of binds.watched) bind.tag (image_member (λ bind. bind.tag) binds.watched bind within))
        ∙ ap Some (same_true other batch same)
    by_event _ same is = cc

-- the start of a batch is the newest entry, or an earlier one
newest_watches : (history : History) (entry : PlainEntry) (batch : List ℕ) (own : Started) (bind : Bind) →
    (start_of history batch ≡ Some own → Contains (filter_map (watches bind.tag) history) batch) →
    Contains own.binds.watched bind → (of_it : Bool) → is_accepted_of_batch batch entry ≡ of_it →
    start_by (cond of_it (entry ∷ past_of_batch batch history) (past_of_batch batch history)) ≡ Some own →
    Contains (filter_map (watches bind.tag) (entry ∷ history)) batch
newest_watches history entry batch own bind earlier inside false of_it is =
    later_found (watches bind.tag entry) (filter_map (watches bind.tag) history) batch (earlier is)
newest_watches history entry batch own bind earlier inside true of_it is = first (starting entry.event) refl is
  where
    first : (found : Option Started) → starting entry.event ≡ found →
        option_or found (start_of history batch) ≡ Some own →
        Contains (filter_map (watches bind.tag) (entry ∷ history)) batch
    first None starts is =
        later_found (watches bind.tag entry) (filter_map (watches bind.tag) history) batch (earlier is)
    first (Some other) starts is =
        let same : other ≡ own = cc in
        subst (λ found. Contains (cons_option found (filter_map (watches bind.tag) history)) batch)
        (sym (own_start entry batch own bind of_it (starts ∙ ap Some same) inside))
        (member_first batch (filter_map (watches bind.tag) history))

-- a batch is among those whose accepted starts watch what its own does
started_watches : (history : History) (batch : List ℕ) (own : Started) (bind : Bind) →
    start_of history batch ≡ Some own → Contains own.binds.watched bind →
    Contains (filter_map (watches bind.tag) history) batch
started_watches [] batch own bind is inside = cc
started_watches (entry ∷ history) batch own bind is inside =
    newest_watches history entry batch own bind (λ before. started_watches history batch own bind before inside) inside
    (is_accepted_of_batch batch entry) refl is

-- an open batch watches each module that its start watches
pub open_watches : (history : History) (batch : List ℕ) (own : Started) (bind : Bind) →
    start_of history batch ≡ Some own → outcome_of history batch ≡ None →
    Contains own.binds.watched bind → Contains (watchers_of history bind.tag) batch
open_watches history batch own bind is open' inside =
    reversed_member (filter (is_open history) (filter_map (watches bind.tag) history)) batch
    (kept_member (is_open history) (filter_map (watches bind.tag) history) batch
    (started_watches history batch own bind is inside) (ap is_none open'))
