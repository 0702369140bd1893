-- The modules of open batches: what every event keeps of their descriptions.
use Rattle.std.proofs.Common.{◌≡◌, ℕ, true, List, ◌∷◌, Some, None, refl, ap, sym, ◌∙◌, subst, inl, inr, map}
use Rattle.mtp_codes.specs.Faults.{first_of}
use Rattle.std.specs.Prelude.{option_map, option_and_then}
use Rattle.std.specs.List.{Contains}
use Rattle.mtp_desc.specs.Plain.{PlainDescription}
use Rattle.chart_core.specs.Roles.{PlainChart, role_names}
use Rattle.mtp_procs.specs.Covers.{cover_fault, missing_by}
use Rattle.pol_events.specs.Events.{PlainEvent, plug, unplug, report, variable, start, desk, exchange_begin}
use Rattle.pol_events.specs.Events.{exchange_end, exchange_cancel}
use Rattle.pol_events.specs.Refusals.{cover_rule, in_exchange}
use Rattle.pol_events.specs.declared.answer.Rule.TheVariants.{Held, HeldBack, Watched}
use Rattle.pol_events.specs.declared.event.Bind.{Bind}
use Rattle.pol_events.specs.Bound.{PlainAllocation, bound_tag, given}
use Rattle.pol_history.proofs.Open.{open_before}
use Rattle.pol_history.specs.Looking.{History, past, past_of_batch, recipes}
use Rattle.pol_history.specs.Modules.{Docking, absent, docked, away, docking_by, docking_of, description_by}
use Rattle.pol_history.specs.Modules.{description_of, ticket_of}
use Rattle.pol_history.specs.Batches.{Started, starting, start_by, chart_named, outcome_by, holder_of, watchers_of}
use Rattle.pol_history.specs.Rules.{tag_taken, no_module, not_covered, module_rule, uncovered_by, uncovered_in}
use Rattle.pol_history.specs.Rules.{held_back, watched}
use Rattle.pol_history.specs.Runs.{IsLegal, IsOrderly}
use Rattle.pol_events.proofs.Options.{some_same, neither, no_image}
use Rattle.pol_events.proofs.Lists.{none_first}
use Rattle.pol_safety.specs.Kept.{IsCovered}
use Rattle.pol_safety.proofs.Sides.{Sides, sides, accepted, Comes, IsKeptBy, always, at_own}
use Rattle.pol_history.proofs.Binds.{IsFitting}
use Rattle.pol_safety.proofs.Starts.{MayStart, may_start, start_fits, StartCase, its_own, earlier, start_case}
use Rattle.pol_safety.proofs.Starts.{IsRunning, was_running, running_fits}
use Rattle.pol_safety.proofs.Holding.{IsUsed, uses}

-- ---- whether a module is there

-- a module that no rule finds missing is there
pub there_by_rule : (tag : List ℕ) (docking : Docking) → no_module tag docking ≡ None → docking ≡ absent → ⊥
there_by_rule tag absent none is = cc
there_by_rule tag (docked count) none is = cc
there_by_rule tag (away ticket) none is = cc

-- a tag that isn't taken has no module
pub is_absent : (docking : Docking) → tag_taken docking ≡ None → docking ≡ absent
is_absent absent none = refl
is_absent (docked count) none = cc
is_absent (away ticket) none = cc

-- ---- a module that is there has a description

pub record IsDescribed (past : History) : Type 0 where
  pub description : PlainDescription
  pub described : description_by past ≡ Some description

-- a module that is there has one
abbrev pub IfThere : History → Type 0
IfThere past = (docking_by past ≡ absent → ⊥) → IsDescribed past

-- each module that is docked or away has a description
abbrev pub Described : Sides → Type 0
Described side = (tag : List ℕ) → IfThere (side.modules tag)

-- what describes a module does so after more entries that change nothing of it
again : (past more : History) → description_by more ≡ description_by past → IsDescribed past → IsDescribed more
again past more same was = record { description = was.description; described = same ∙ was.described }

-- each event keeps the modules described
described_more : IsKeptBy Described
described_more history (plug at other description) comes described tag =
    at_own IfThere (past tag history) (accepted history (plug at other description)) true other tag (described tag)
    (λ same there. record { description = description; described = refl })
described_more history (unplug at other) comes described tag =
    at_own IfThere (past tag history) (accepted history (unplug at other)) true other tag (described tag)
    (λ same there. absurd (there refl))
described_more history (report at other service control) comes described tag =
    at_own IfThere (past tag history) (accepted history (report at other service control)) true other tag
    (described tag)
    (λ same there. again (past tag history) _ refl (described tag there))
described_more history (variable at other name value) comes described tag =
    at_own IfThere (past tag history) (accepted history (variable at other name value)) true other tag (described tag)
    (λ same there. again (past tag history) _ refl (described tag there))
described_more history (desk at other service command) comes described tag =
    at_own IfThere (past tag history) (accepted history (desk at other service command)) true other tag (described tag)
    (λ same there. again (past tag history) _ refl (described tag there))
described_more history (exchange_begin at other) comes described tag =
    at_own IfThere (past tag history) (accepted history (exchange_begin at other)) true other tag (described tag)
    (λ same there. again (past tag history) _ refl
    (described tag (λ is. there_by_rule other (docking_of history other) comes.free.0
    (ap (docking_of history) same ∙ is))))
described_more history (exchange_end at other ticket description) comes described tag =
    at_own IfThere (past tag history) (accepted history (exchange_end at other ticket description)) true other tag
    (described tag)
    (λ same there. record { description = description; described = refl })
described_more history (exchange_cancel at other ticket) comes described tag =
    at_own IfThere (past tag history) (accepted history (exchange_cancel at other ticket)) true other tag
    (described tag)
    (λ same there. again (past tag history) _ refl
    (described tag (λ is. there_by_rule other (docking_of history other) comes.free.0
    (ap (docking_of history) same ∙ is))))
described_more history _ comes described tag = described tag

-- so each module of a legal history is described
pub described : (history : History) → IsLegal history → IsOrderly history → Described (sides history)
described = always Described (λ tag there. absurd (there refl)) described_more

-- ---- a module that an open batch binds covers its role

-- each module that an open batch binds does
abbrev pub AllCover : Sides → Type 0
AllCover side =
    (batch : List ℕ) (started : Started) (chart : PlainChart) → start_by (side.batches batch) ≡ Some started →
    chart_named started.recipe side.recipes ≡ Some chart → outcome_by (side.batches batch) ≡ None →
    (bind : Bind) → Contains (given started.binds) bind → IsCovered chart bind.role (side.modules bind.tag)

-- a module that no rule of a start is against covers its role
start_covers : (history : History) (batch : List ℕ) (binds : PlainAllocation) (chart : PlainChart) (bind : Bind)
    → Described (sides history) →
    MayStart history batch binds chart → IsFitting chart (given binds) → Contains (given binds) bind
    → IsCovered chart bind.role (past bind.tag history)
start_covers history batch binds chart bind described may fits inside =
    let fit : module_rule history chart bind.role (Some bind.tag) ≡ None
    = ap (module_rule history chart bind.role) (sym (fits.paired.by_role bind inside))
    ∙ none_first (λ role. module_rule history chart role (bound_tag (given binds) role)) (role_names chart) bind.role
    may.fit (fits.known bind inside) in
    let there = neither (no_module bind.tag (docking_of history bind.tag)) _ fit in
    let home = neither (in_exchange bind.tag (ticket_of (docking_of history bind.tag))) _ there.1 in
    let covered = neither (not_covered chart bind.role (description_of history bind.tag)) _ home.1 in
    let found = described bind.tag (there_by_rule bind.tag (docking_of history bind.tag) there.0) in
    record {
      is_there = there_by_rule bind.tag (docking_of history bind.tag) there.0;
      description = found.description;
      described = found.described;
      covered = no_image (cover_rule bind.role) (cover_fault chart bind.role found.description)
          (ap (not_covered chart bind.role) (sym found.described) ∙ covered.0);
    }

-- a batch that uses a module isn't against its new description
uncovered_none : (history : History) (tag : List ℕ) (description : PlainDescription) (batch : List ℕ) →
    IsUsed history tag batch → held_back history tag description ≡ None →
    uncovered_in history tag description batch ≡ None
uncovered_none history tag description batch used free = go used
  where
    parts : (option_and_then (uncovered_in history tag description) (holder_of history tag) ≡ None)
        × (first_of (map (uncovered_in history tag description) (watchers_of history tag)) ≡ None)
    parts = neither (option_and_then (uncovered_in history tag description) (holder_of history tag))
        (first_of (map (uncovered_in history tag description) (watchers_of history tag))) free

    go : IsUsed history tag batch → uncovered_in history tag description batch ≡ None
    go (inl holder) = ap (option_and_then (uncovered_in history tag description)) (sym holder) ∙ parts.0
    go (inr watches) = none_first (uncovered_in history tag description) (watchers_of history tag) batch parts.1 watches

-- so the description covers its role
end_covers : (history : History) (batch : List ℕ) (started : Started) (chart : PlainChart) (bind : Bind)
    (description : PlainDescription) →
    IsRunning history batch started chart → IsFitting chart (given started.binds)
    → Contains (given started.binds) bind
    → IsUsed history bind.tag batch →
    held_back history bind.tag description ≡ None → cover_fault chart bind.role description ≡ None
end_covers history batch started chart bind description running fits inside used free =
    let by_batch : uncovered_by (recipes history) bind.tag description batch (past_of_batch batch history) ≡ None
    = uncovered_none history bind.tag description batch used free in
    let by_fault : option_map (λ fault. HeldBack batch (missing_by bind.role fault))
    (cover_fault chart bind.role description) ≡ None
    = rw (running.start_is, running.chart_is, fits.paired.by_tag bind inside) at by_batch in
    no_image (λ fault. HeldBack batch (missing_by bind.role fault)) (cover_fault chart bind.role description) by_fault

-- a module that a batch uses stays plugged
stays_plugged : {A : Type 0} (history : History) (tag batch : List ℕ) → IsUsed history tag batch →
    option_and_then (λ batch. Some (Held batch)) (holder_of history tag) ≡ None → watched history tag ≡ None → A
stays_plugged history tag batch (inl holder) unheld unwatched =
    let clash : Some (Held batch) ≡ None = ap (option_and_then (λ batch. Some (Held batch))) (sym holder) ∙ unheld in cc
stays_plugged history tag batch (inr watches) unheld unwatched =
    let clash : Some (Watched batch) ≡ None =
    none_first (λ batch. Some (Watched batch)) (watchers_of history tag) batch unwatched watches in cc

-- a module with the same description that is still there
still_covers : (chart : PlainChart) (role : List ℕ) (past more : History) → description_by more ≡ description_by past
    → (docking_by more ≡ absent → ⊥) →
    IsCovered chart role past → IsCovered chart role more
still_covers chart role past more same there was =
    record { is_there = there; description = was.description; described = same ∙ was.described; covered = was.covered }

-- what is known of a module of an open batch before an event that is no start
record Before (history : History) (batch : List ℕ) (started : Started) (chart : PlainChart) (bind : Bind) : Type 0 where
  running : IsRunning history batch started chart
  covers : IsCovered chart bind.role (past bind.tag history)
  used : IsUsed history bind.tag batch
  fits : IsFitting chart (given started.binds)

-- a bind of a batch that runs after the event was one before it
before : (history : History) (event : PlainEvent) (batch : List ℕ) (started : Started) (chart : PlainChart)
    (bind : Bind)
    → Comes history event →
    AllCover (sides history) → starting event ≡ None → IsRunning (accepted history event ∷ history) batch started chart
    → Contains (given started.binds) bind →
    Before history batch started chart bind
before history event batch started chart bind comes cover is now inside =
    let was = was_running history event batch started chart is comes now in
    record {
      running = was;
      covers = cover batch started chart was.start_is was.chart_is was.unclosed bind inside;
      used = uses history batch started comes.legal comes.orderly was.start_is was.unclosed bind inside;
      fits = running_fits history batch started chart comes.legal comes.orderly was;
    }

-- the module of that bind covers its role after the event too
module_covers : (history : History) (event : PlainEvent) (batch : List ℕ) (started : Started) (chart : PlainChart)
    (bind : Bind) → Comes history event →
    Contains (given started.binds) bind → Before history batch started chart bind
    → IsCovered chart bind.role (past bind.tag (accepted history event ∷ history))
module_covers history (plug at other description) batch started chart bind comes inside was =
    at_own (IsCovered chart bind.role) (past bind.tag history) (accepted history (plug at other description)) true other
    bind.tag was.covers
    (λ same. absurd (was.covers.is_there (ap (docking_of history) (sym same)
    ∙ is_absent (docking_of history other) comes.free.0)))
module_covers history (unplug at other) batch started chart bind comes inside was =
    at_own (IsCovered chart bind.role) (past bind.tag history) (accepted history (unplug at other)) true other
    bind.tag was.covers
    (λ same. stays_plugged history bind.tag batch was.used
    (ap (λ tag. option_and_then (λ batch. Some (Held batch)) (holder_of history tag)) (sym same) ∙ comes.free.1.1.0)
    (ap (watched history) (sym same) ∙ comes.free.1.1.1.0))
module_covers history (report at other service control) batch started chart bind comes inside was =
    at_own (IsCovered chart bind.role) (past bind.tag history) (accepted history (report at other service control)) true
    other bind.tag was.covers
    (λ same. still_covers chart bind.role (past bind.tag history) _ refl was.covers.is_there was.covers)
module_covers history (variable at other name value) batch started chart bind comes inside was =
    at_own (IsCovered chart bind.role) (past bind.tag history) (accepted history (variable at other name value)) true
    other bind.tag was.covers
    (λ same. still_covers chart bind.role (past bind.tag history) _ refl was.covers.is_there was.covers)
module_covers history (desk at other service command) batch started chart bind comes inside was =
    at_own (IsCovered chart bind.role) (past bind.tag history) (accepted history (desk at other service command)) true
    other bind.tag was.covers
    (λ same. still_covers chart bind.role (past bind.tag history) _ refl was.covers.is_there was.covers)
module_covers history (exchange_begin at other) batch started chart bind comes inside was =
    at_own (IsCovered chart bind.role) (past bind.tag history) (accepted history (exchange_begin at other)) true other
    bind.tag was.covers
    (λ same. still_covers chart bind.role (past bind.tag history) _ refl (λ is. cc) was.covers)
module_covers history (exchange_end at other ticket description) batch started chart bind comes inside was =
    at_own (IsCovered chart bind.role) (past bind.tag history) (accepted history
    (exchange_end at other ticket description)) true other bind.tag was.covers
    (λ same. record {
      is_there = λ is. cc;
      description = description;
      described = refl;
      covered =
          end_covers history batch started chart bind description was.running was.fits inside was.used
          (ap (λ tag. held_back history tag description) (sym same) ∙ comes.free.1.1.1.0);
    })
module_covers history (exchange_cancel at other ticket) batch started chart bind comes inside was =
    at_own (IsCovered chart bind.role) (past bind.tag history) (accepted history (exchange_cancel at other ticket)) true
    other bind.tag was.covers
    (λ same. still_covers chart bind.role (past bind.tag history) _ refl (λ is. cc) was.covers)
module_covers history _ batch started chart bind comes inside was = was.covers

-- an event that starts no batch keeps every bind covered
cover_by : (history : History) (event : PlainEvent) → starting event ≡ None → Comes history event
    → AllCover (sides history) → AllCover (sides (accepted history event ∷ history))
cover_by history event is comes cover batch started chart start_is chart_is unclosed bind inside =
    module_covers history event batch started chart bind comes inside
    (before history event batch started chart bind comes cover is
    (record { start_is = start_is; chart_is = chart_is; unclosed = unclosed }) inside)

-- and so does a start
cover_more : IsKeptBy AllCover
cover_more history (start at other name binds) comes cover batch started chart start_is chart_is unclosed bind inside =
    go (start_case history batch started at other name binds start_is)
  where
    go : StartCase history batch started other name binds → IsCovered chart bind.role (past bind.tag history)
    go (earlier is before) =
        cover batch started chart before chart_is (open_before history
        (accepted history (start at other name binds)) batch unclosed) bind inside
    go (its_own is same) =
        let may = may_start history other binds (chart_named name (recipes history)) comes.free in
        let named : chart_named name (recipes history) ≡ Some chart =
        ap (λ started. chart_named started.recipe (recipes history)) same ∙ chart_is in
        let one : may.0 ≡ chart = some_same (chart_named name (recipes history)) may.0 chart may.1 named in
        subst (λ chart. IsCovered chart bind.role (past bind.tag history)) one
        (start_covers history other binds may.0 bind (described history comes.legal comes.orderly) may.2
        (start_fits history other binds may.0 comes.is_formed may.2)
        (subst (λ started. Contains (given started.binds) bind) (sym same) inside))
cover_more history event comes cover batch started chart start_is chart_is unclosed bind inside =
    cover_by history event refl comes cover batch started chart start_is chart_is unclosed bind inside

-- so in a legal history every bound module covers its role
pub all_cover : (history : History) → IsLegal history → IsOrderly history → AllCover (sides history)
all_cover = always AllCover (λ batch started chart start_is chart_is unclosed bind inside. cc) cover_more
