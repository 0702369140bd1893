-- The candidates after a history: they are docked, in order, and few; those of the one pool are free.
use Rattle.std.proofs.Common.{◌≡◌, ◌<◌, ◌≤◌, ℕ, Bool, true, false, cond, not, ◌&&◌, Option, Some, None, List, []}
use Rattle.std.proofs.Common.{◌∷◌, map, length, refl, sym, ◌∙◌, ap, subst, arith}
use Rattle.std.specs.Prelude.{filter, filter_map, is_none, is_some, nat_le, option_map}
use Rattle.std.specs.List.{Contains, cons_option}
use Rattle.std.specs.List.Sorted.{IsStrictlySortedBy}
use Rattle.std.specs.Str.{bytes_eq}
use Rattle.std.proofs.lemmas.Bool.{leb-false}
use Rattle.std.proofs.lemmas.List.Kept.{IsStrictlySortedBy-filter}
use Rattle.mtp_codes.specs.declared.limits.TheConstants.{MOST_MODULES}
use Rattle.mtp_codes.proofs.Lists.{length_filter_map}
use Rattle.mtp_desc.specs.Plain.{PlainDescription}
use Rattle.mtp_machine.specs.States.{is_idle}
use Rattle.mtp_modes.specs.declared.view.ServiceView.{ServiceView}
use Rattle.pol_events.specs.Events.{PlainEvent, abandon, advance, desk, exchange_begin, exchange_cancel, exchange_end}
use Rattle.pol_events.specs.Events.{freeze, plug, recipe, report, start, stop_batch, thaw, unplug, variable}
use Rattle.pol_events.proofs.Lists.{member_kept, no_member}
use Rattle.pol_history.specs.Answers.{answer_of}
use Rattle.pol_history.specs.Batches.{holder_of}
use Rattle.pol_history.specs.Looking.{History, is_accepted}
use Rattle.pol_history.specs.Modules.{Docking, absent, docked, away, description_of, docking_of, present_after}
use Rattle.pol_history.specs.Modules.{present_tags, tags_without, view_of}
use Rattle.pol_history.specs.Runs.{IsLegal}
use Rattle.pol_history.proofs.Accepted.{accepted_none}
use Rattle.pol_history.proofs.Binds.{when_none}
use Rattle.pol_history.proofs.Filters.{length_filter}
use Rattle.pol_table.specs.ByteOrder.{in_byte_order}
use Rattle.pol_table.proofs.ByteOrder.{order_length, order_sorted}
use Rattle.pol_core.specs.Calls.{module_sight}
use Rattle.pol_match.specs.Bindings.{AreInOrder, name_cmp, tags_in}
use Rattle.pol_match.specs.Fits.{PlainCandidate}
use Rattle.pol_find.specs.Candidates.{candidate_in, candidate_of, candidate_with, candidates_by, candidates_of}
use Rattle.pol_find.specs.Candidates.{docked_candidates_of}
use Rattle.pol_find.specs.Candidates.{docked_candidate_of, docked_candidate_with, idle_services, is_docked, is_idle_at}
use Rattle.pol_find.specs.Candidates.{is_seen_idle}
use Rattle.pol_find.specs.declared.candidates.Pool.{Pool}
use Rattle.pol_find.specs.declared.candidates.Pool.TheVariants.{Free, Docked}
use Rattle.pol_find.proofs.Lists.{made_of}

-- ---- each is free

-- the service was reported last as idle
pub record IsIdle (history : History) (tag service : List ℕ) : Type 0 where
  pub view : ServiceView
  pub seen : view_of history tag service ≡ Some view
  pub idle : is_idle view.control.state ≡ true

-- the candidate is docked with its description, and each of its idle services was reported last as idle
pub record IsDocked (history : History) (candidate : PlainCandidate) : Type 0 where
  pub count : ℕ
  pub there : docking_of history candidate.tag ≡ docked count
  pub described : description_of history candidate.tag ≡ Some candidate.description
  pub idle : (service : List ℕ) → Contains candidate.idle service → IsIdle history candidate.tag service

-- it is, and no batch holds it
pub record IsFree (history : History) (candidate : PlainCandidate) : Type 0 where
  pub docked : IsDocked history candidate
  pub unheld : holder_of history candidate.tag ≡ None

-- it is docked, and no batch holds it where it has an idle service
pub record IsSpare (history : History) (candidate : PlainCandidate) : Type 0 where
  pub docked : IsDocked history candidate
  pub unheld : (service : List ℕ) → Contains candidate.idle service → holder_of history candidate.tag ≡ None

-- a service of a docked module that is seen idle was reported so
seen_idle : (history : History) (tag service : List ℕ) (count : ℕ) → docking_of history tag ≡ docked count →
    is_idle_at history tag service ≡ true → IsIdle history tag service
seen_idle history tag service count there idle =
    go (view_of history tag service) refl
    (sym (ap (λ docking. is_seen_idle (module_sight docking (view_of history tag service))) there) ∙ idle)
  where
    go : (view : Option ServiceView) → view_of history tag service ≡ view →
        is_seen_idle (module_sight (docked count) view) ≡ true → IsIdle history tag service
    go None seen idle = absurd cc
    go (Some view) seen idle = record { view = view; seen = seen; idle = idle }

-- a docked tag with its description and its idle services
docked_whole : (history : History) (tag : List ℕ) (description : PlainDescription) (count : ℕ) →
    docking_of history tag ≡ docked count → description_of history tag ≡ Some description →
    IsDocked history (candidate_with history tag description)
docked_whole history tag description count there described = record {
  count = count;
  there = there;
  described = described;
  idle = λ service inside. seen_idle history tag service count there
      (member_kept (is_idle_at history tag) (map (λ service. service.name) description.services) service inside).1;
}

-- a tag that is a candidate is free
tag_free : (history : History) (tag : List ℕ) (candidate : PlainCandidate) →
    candidate_of history tag ≡ Some candidate → (candidate.tag ≡ tag) × IsFree history candidate
tag_free history tag candidate is =
    go (docking_of history tag) refl (holder_of history tag) refl (description_of history tag) refl is
  where
    go : (docking : Docking) → docking_of history tag ≡ docking → (holder : Option (List ℕ)) →
        holder_of history tag ≡ holder → (description : Option PlainDescription) →
        description_of history tag ≡ description →
        cond (is_docked docking && is_none holder) (option_map (candidate_with history tag) description) None
        ≡ Some candidate →
        (candidate.tag ≡ tag) × IsFree history candidate
    go absent there holder unheld description described is = absurd cc
    go (away ticket) there holder unheld description described is = absurd cc
    go (docked count) there (Some batch) unheld description described is = absurd cc
    go (docked count) there None unheld None described is = absurd cc
    go (docked count) there None unheld (Some description) described is =
        let same : candidate_with history tag description ≡ candidate = cc in
        let free : IsFree history (candidate_with history tag description) =
        record { docked = docked_whole history tag description count there described; unheld = unheld } in
        (ap (λ (candidate : PlainCandidate). candidate.tag) (sym same), subst (IsFree history) same free)

-- so is each candidate
pub candidate_free : (history : History) (candidate : PlainCandidate) → Contains (candidates_of history) candidate →
    IsFree history candidate
candidate_free history candidate inside =
    let (tag, member, is) = made_of (candidate_of history) (in_byte_order (present_tags history)) candidate inside in
    (tag_free history tag candidate is).1

-- ---- those that are docked are spare

-- with the services of a tag that no batch holds, or with none
docked_spare : (history : History) (tag : List ℕ) (description : PlainDescription) (count : ℕ) →
    docking_of history tag ≡ docked count → description_of history tag ≡ Some description →
    IsSpare history (docked_candidate_with history tag description)
docked_spare history tag description count there described = go (holder_of history tag) refl
  where
    go : (holder : Option (List ℕ)) → holder_of history tag ≡ holder → IsSpare history
        (record {
          tag = tag;
          description = description;
          idle = cond (is_none holder) (idle_services history tag description) [];
        })
    go None unheld = record {
      docked = docked_whole history tag description count there described;
      unheld = λ service inside. unheld;
    }
    go (Some batch) held = record {
      docked = record {
        count = count;
        there = there;
        described = described;
        idle = λ service inside. no_member service inside;
      };
      unheld = λ service inside. no_member service inside;
    }

-- a tag that is a docked candidate is spare
tag_spare : (history : History) (tag : List ℕ) (candidate : PlainCandidate) →
    docked_candidate_of history tag ≡ Some candidate → (candidate.tag ≡ tag) × IsSpare history candidate
tag_spare history tag candidate is =
    go (docking_of history tag) refl (description_of history tag) refl is
  where
    go : (docking : Docking) → docking_of history tag ≡ docking → (description : Option PlainDescription) →
        description_of history tag ≡ description →
        cond (is_docked docking) (option_map (docked_candidate_with history tag) description) None ≡ Some candidate →
        (candidate.tag ≡ tag) × IsSpare history candidate
    go absent there description described is = absurd cc
    go (away ticket) there description described is = absurd cc
    go (docked count) there None described is = absurd cc
    go (docked count) there (Some description) described is =
        let same : docked_candidate_with history tag description ≡ candidate = cc in (
          ap (λ (candidate : PlainCandidate). candidate.tag) (sym same),
          subst (IsSpare history) same (docked_spare history tag description count there described),
        )

-- so is each docked candidate
pub candidate_spare : (history : History) (candidate : PlainCandidate) →
    Contains (docked_candidates_of history) candidate → IsSpare history candidate
candidate_spare history candidate inside =
    let (tag, member, is) = made_of (docked_candidate_of history) (in_byte_order (present_tags history)) candidate
    inside in
    (tag_spare history tag candidate is).1

-- ---- they are in order

-- each has the tag that it was made of
pool_tagged : (pool : Pool) (history : History) (tag : List ℕ) (candidate : PlainCandidate) →
    candidate_in pool history tag ≡ Some candidate → candidate.tag ≡ tag
pool_tagged Free history tag candidate is = (tag_free history tag candidate is).0
pool_tagged Docked history tag candidate is = (tag_spare history tag candidate is).0

-- their tags are those of these tags that are in the pool
tags_kept : (pool : Pool) (history : History) (tags : List (List ℕ)) →
    tags_in (filter_map (candidate_in pool history) tags)
    ≡ filter (λ tag. is_some (candidate_in pool history tag)) tags
tags_kept pool history [] = refl
tags_kept pool history (tag ∷ tags) = go (candidate_in pool history tag) refl (tags_kept pool history tags)
  where
    go : (found : Option PlainCandidate) → candidate_in pool history tag ≡ found →
        tags_in (filter_map (candidate_in pool history) tags)
        ≡ filter (λ tag. is_some (candidate_in pool history tag)) tags →
        tags_in (cons_option found (filter_map (candidate_in pool history) tags))
        ≡ cond (is_some found) (tag ∷ filter (λ tag. is_some (candidate_in pool history tag)) tags)
        (filter (λ tag. is_some (candidate_in pool history tag)) tags)
    go None is rest = rest
    go (Some candidate) is rest =
        ap (λ first. first ∷ tags_in (filter_map (candidate_in pool history) tags))
        (pool_tagged pool history tag candidate is)
        ∙ ap (λ later. tag ∷ later) rest

-- the tags stand in byte order, each once
pub candidates_in_order : (pool : Pool) (history : History) →
    AreInOrder (candidates_by (candidate_in pool history) history)
candidates_in_order pool history =
    let tags = in_byte_order (present_tags history) in
    subst (IsStrictlySortedBy name_cmp) (sym (tags_kept pool history tags))
    (IsStrictlySortedBy-filter name_cmp (λ tag. is_some (candidate_in pool history tag)) tags
    (order_sorted (present_tags history)))

-- ---- they are few

-- tags without one are no more
without_length : (tag : List ℕ) (tags : List (List ℕ)) → length (tags_without tag tags) ≤ length tags
without_length tag tags = length_filter (λ other. not (bytes_eq other tag)) tags

-- an accepted plug found fewer tags than a plant holds
plugged_few : (history : History) (at : ℕ) (tag : List ℕ) (description : PlainDescription) →
    is_accepted (answer_of history (plug at tag description)) ≡ true → length (present_tags history) < MOST_MODULES
plugged_few history at tag description accepted =
    leb-false MOST_MODULES (length (present_tags history))
    (when_none (nat_le MOST_MODULES (length (present_tags history))) _
    (accepted_none history (plug at tag description) accepted).1.0)

-- in a legal history no more tags are there than a plant holds
pub present_few : (history : History) → IsLegal history → length (present_tags history) ≤ MOST_MODULES
present_few [] legal = omega arith
present_few (entry ∷ history) legal =
    go entry.event refl (is_accepted entry.answer) refl (present_few history legal.2)
  where
    go : (event : PlainEvent) → entry.event ≡ event → (kept : Bool) → is_accepted entry.answer ≡ kept →
        length (present_tags history) ≤ MOST_MODULES →
        length (present_after event kept (present_tags history)) ≤ MOST_MODULES
    go (plug at tag description) event_is true accepted few =
        let fewer = plugged_few history at tag description
        (ap (λ event. is_accepted (answer_of history event)) (sym event_is)
        ∙ ap is_accepted (sym legal.0) ∙ accepted) in
        omega (arith, fewer, without_length tag (present_tags history))
    go (plug at tag description) event_is false accepted few = few
    go (unplug at tag) event_is true accepted few = omega (arith, few, without_length tag (present_tags history))
    go (unplug at tag) event_is false accepted few = few
    go (report at tag service control) event_is kept accepted few = few
    go (variable at tag name value) event_is kept accepted few = few
    go (recipe at name chart) event_is kept accepted few = few
    go (start at batch name binds) event_is kept accepted few = few
    go (advance at batch) event_is kept accepted few = few
    go (freeze at batch hold) event_is kept accepted few = few
    go (thaw at batch) event_is kept accepted few = few
    go (stop_batch at batch) event_is kept accepted few = few
    go (abandon at batch) event_is kept accepted few = few
    go (desk at tag service command) event_is kept accepted few = few
    go (exchange_begin at tag) event_is kept accepted few = few
    go (exchange_end at tag ticket description) event_is kept accepted few = few
    go (exchange_cancel at tag ticket) event_is kept accepted few = few

-- the candidates of a legal history are at most as many
pub candidates_few : (pool : Pool) (history : History) → IsLegal history →
    length (candidates_by (candidate_in pool history) history) ≤ MOST_MODULES
candidates_few pool history legal = omega (
  arith,
  length_filter_map (candidate_in pool history) (in_byte_order (present_tags history)),
  order_length (present_tags history),
  present_few history legal,
)
