-- What the tables say against a start is what looking back says.
use Rattle.std.proofs.Common.{◌≡◌, ℕ, Bool, true, false, cond, List, [], ◌∷◌, map, Option, Some, None, refl, ap, sym}
use Rattle.std.proofs.Common.{◌∙◌}
use Rattle.std.specs.Prelude.{filter, find, is_some, unwrap_or, option_map, option_and_then}
use Rattle.std.specs.Option.{option_or}
use Rattle.mtp_codes.specs.Faults.{first_of}
use Rattle.mtp_codes.specs.Names.{same_name}
use Rattle.mtp_codes.proofs.Options.{or_none}
use Rattle.mtp_modes.specs.declared.view.ServiceView.{ServiceView}
use Rattle.mtp_procs.specs.Covers.{cover_fault}
use Rattle.chart_core.specs.Roles.{PlainChart, role_names}
use Rattle.chart_core.specs.Trees.{PlainStep}
use Rattle.chart_core.proofs.Passing.{passing_is}
use Rattle.pol_events.specs.Bound.{PlainAllocation, given, bound_tag}
use Rattle.pol_events.specs.Refusals.{in_exchange, cover_rule}
use Rattle.pol_events.specs.declared.answer.Rule.{Rule}
use Rattle.pol_events.specs.declared.event.Bind.{Bind}
use Rattle.pol_history.specs.Batches.{holder_of, watchers_of}
use Rattle.pol_history.specs.Following.{sight_in}
use Rattle.pol_history.specs.Looking.{History, past}
use Rattle.pol_history.specs.Modules.{Docking, absent, docked, away, docking_by, ticket_of, description_by, view_by}
use Rattle.pol_history.specs.Rules.{steps_in, watched_step, no_module, not_covered, not_reported, not_idle, unready}
use Rattle.pol_history.specs.Rules.{not_ready, services_of, module_rules, module_rule, modules_unfit, busy_module}
use Rattle.pol_history.specs.Rules.{busy_role, busy, one_module_twice, role_unbound, role_unknown}
use Rattle.pol_slots.specs.Sights.{slot_sight}
use Rattle.pol_slots.specs.Slots.{slot_ticket, slot_description}
use Rattle.pol_slots.specs.declared.slot.Slot.{Slot}
use Rattle.pol_table.specs.Rows as tables
use Rattle.pol_table.specs.Rows.{Row, Rows, look}
use Rattle.pol_core.specs.Judging.{sight_unready, step_unready, first_unready, slot_rule, part_rule, role_rule}
use Rattle.pol_core.specs.Judging.{table_unfit, tag_busy, table_busy, bind_rule}
use Rattle.pol_core.specs.Seats.{Users, users_of, SlotKeeps, IsSeated, SeatsMirror}
use Rattle.pol_core.proofs.Judging.{there_is}
use Rattle.pol_core.proofs.Sights.{slot_sight_is}

-- ---- the services of a role

-- what is seen of a service of a docked module
docked_sight : (tag service : List ℕ) (docking : Docking) (view : Option ServiceView) → (docking ≡ absent → ⊥) →
    ticket_of docking ≡ None →
    sight_unready tag service (sight_in docking view) ≡ option_or (not_reported tag service view)
    (not_idle tag service view)
docked_sight tag service absent view there docked' = absurd (there refl)
docked_sight tag service (docked count) None there docked' = refl
docked_sight tag service (docked count) (Some view) there docked' = refl
docked_sight tag service (away ticket) view there docked' = cc

-- a service is unready by its slot exactly as by its past
service_same : (tag service : List ℕ) (slot : Slot) (past : History) → SlotKeeps tag slot past →
    slot_ticket slot ≡ None →
    sight_unready tag service (slot_sight slot service) ≡ unready tag past service
service_same tag service slot past keeps docked' =
    ap (sight_unready tag service) (slot_sight_is tag service slot past keeps)
    ∙ docked_sight tag service (docking_by past) (view_by service past) keeps.is_there (sym keeps.ticket ∙ docked')

-- so are the services of a role
services_same : (tag role : List ℕ) (slot : Slot) (past : History) →
    ((service : List ℕ) → sight_unready tag service (slot_sight slot service) ≡ unready tag past service) →
    (each : List PlainStep) → first_of (map (step_unready slot tag role) each)
    ≡ not_ready tag past (map (λ step. step.service) (filter (λ step. same_name step.role role) each))
services_same tag role slot past same [] = refl
services_same tag role slot past same (step ∷ others) =
    go (same_name step.role role) (services_same tag role slot past same others)
  where
    said : Option Rule
    said = first_of (map (step_unready slot tag role) others)

    rest : List PlainStep
    rest = filter (λ step. same_name step.role role) others

    go : (own : Bool) → said ≡ not_ready tag past (map (λ step. step.service) rest) →
        option_or (cond own (sight_unready tag step.service (slot_sight slot step.service)) None) said
        ≡ not_ready tag past (map (λ step. step.service) (cond own (step ∷ rest) rest))
    go true later =
        ap (λ found. option_or found said) (same step.service)
        ∙ ap (option_or (unready tag past step.service)) later
    go false later = later

-- what is said of the first of which something is said is said first
told_first : {X A : Type 0} (says : X → Option A) (xs : List X) →
    option_and_then says (find (λ x. is_some (says x)) xs) ≡ first_of (map says xs)
told_first says [] = refl
told_first {X} {A} says (x ∷ xs) = go (says x) refl (told_first says xs)
  where
    go : (said : Option A) → says x ≡ said →
        option_and_then says (find (λ x. is_some (says x)) xs) ≡ first_of (map says xs) →
        option_and_then says (cond (is_some said) (Some x) (find (λ x. is_some (says x)) xs))
        ≡ option_or said (first_of (map says xs))
    go None is later = later
    go (Some one) is later = is

-- ---- the rules of a module

-- a slot meets the rules that its module's past meets
slot_rule_same : (chart : PlainChart) (role tag : List ℕ) (slot : Slot) (past : History) → SlotKeeps tag slot past →
    slot_rule chart role tag slot ≡ first_of (module_rules chart role tag past)
slot_rule_same chart role tag slot past keeps = go (slot_ticket slot) refl
  where
    others : Option Rule
    others = option_or (not_covered chart role (description_by past))
        (option_or (not_ready tag past (services_of chart role)) None)

    looked : first_of (module_rules chart role tag past) ≡ option_or (in_exchange tag (slot_ticket slot)) others
    looked =
        ap (λ rule. option_or rule (option_or (in_exchange tag (ticket_of (docking_by past))) others))
        (there_is tag (docking_by past) keeps.is_there)
        ∙ ap (λ ticket. option_or (in_exchange tag ticket) others) (sym keeps.ticket)

    mine : Option Rule
    mine = option_or (option_map (cover_rule role) (cover_fault chart role (slot_description slot)))
        (first_unready slot tag role chart.root)

    go : (ticket : Option ℕ) → slot_ticket slot ≡ ticket → slot_rule chart role tag slot
        ≡ first_of (module_rules chart role tag past)
    go (Some ticket) is =
        ap (λ ticket. option_or (in_exchange tag ticket) mine) is
        ∙ sym (looked ∙ ap (λ ticket. option_or (in_exchange tag ticket) others) is)
    go None is =
        ap (λ ticket. option_or (in_exchange tag ticket) mine) is
        ∙ ap (option_or (option_map (cover_rule role) (cover_fault chart role (slot_description slot))))
        (ap (option_and_then (step_unready slot tag role))
        (passing_is (λ step. is_some (step_unready slot tag role step)) chart.root 0)
        ∙ told_first (step_unready slot tag role) (steps_in chart)
        ∙ services_same tag role slot past (λ service. service_same tag service slot past keeps is) (steps_in chart)
        ∙ sym (or_none (not_ready tag past (services_of chart role))))
        ∙ ap (λ description. option_or (not_covered chart role description)
        (option_or (not_ready tag past (services_of chart role)) None)) (sym keeps.description)
        ∙ sym (looked ∙ ap (λ ticket. option_or (in_exchange tag ticket) others) is)

-- so does a tag, whether it has a slot or not
part_same : (chart : PlainChart) (role tag : List ℕ) (found : Option (Row Slot)) (past : History)
    (users : Users) → IsSeated tag found past users →
    part_rule chart role tag (option_map (λ row. row.part) found) ≡ first_of (module_rules chart role tag past)
part_same chart role tag None past users seated =
    sym (ap (λ docking. option_or (no_module tag docking)
    (option_or (in_exchange tag (ticket_of (docking_by past)))
    (option_or (not_covered chart role (description_by past))
    (option_or (not_ready tag past (services_of chart role)) None)))) seated.is_absent)
part_same chart role tag (Some row) past users seated =
    slot_rule_same chart role tag row.part past seated.slot_keeps

-- so does a role, whether it has a tag or not
role_same : (rows : Rows Slot) (history : History) (chart : PlainChart) (role : List ℕ) →
    SeatsMirror rows history → (tag : Option (List ℕ)) →
    role_rule rows chart role tag ≡ module_rule history chart role tag
role_same rows history chart role mirror None = refl
role_same rows history chart role mirror (Some tag) =
    part_same chart role tag (look tag rows) (past tag history) (users_of history tag) (mirror tag)

-- two rules that say the same of each say the same of a list
first_same : {X : Type 0} (one other : X → Option Rule) → ((x : X) → one x ≡ other x) → (xs : List X) →
    first_of (map one xs) ≡ first_of (map other xs)
first_same one other same [] = refl
first_same one other same (x ∷ xs) =
    ap (λ found. option_or found (first_of (map one xs))) (same x)
    ∙ ap (option_or (other x)) (first_same one other same xs)

-- so do all roles
unfit_same : (rows : Rows Slot) (history : History) (chart : PlainChart) (binds : List Bind)
    (roles : List (List ℕ)) → SeatsMirror rows history →
    table_unfit rows chart binds roles ≡ modules_unfit history chart binds roles
unfit_same rows history chart binds roles mirror =
    first_same (λ role. role_rule rows chart role (bound_tag binds role))
    (λ role. module_rule history chart role (bound_tag binds role))
    (λ role. role_same rows history chart role mirror (bound_tag binds role)) roles

-- ---- who holds a module

-- a row is held by the holder
held_seated : (tag : List ℕ) (found : Option (Row Slot)) (past : History) (users : Users) →
    IsSeated tag found past users →
    option_and_then (λ row. row.holder) found ≡ users.holder
held_seated tag None past users seated = sym seated.free
held_seated tag (Some row) past users seated = seated.held_by

-- and watched by the watchers
watched_seated : (tag : List ℕ) (found : Option (Row Slot)) (past : History) (users : Users) →
    IsSeated tag found past users →
    unwrap_or (option_map (λ row. row.watchers) found) [] ≡ users.watchers
watched_seated tag None past users seated = sym seated.unwatched
watched_seated tag (Some row) past users seated = seated.watched_by

-- the holder by the table is the holder
pub holder_same : (rows : Rows Slot) (history : History) (tag : List ℕ) → SeatsMirror rows history →
    tables.holder_of tag rows ≡ holder_of history tag
holder_same rows history tag mirror =
    held_seated tag (look tag rows) (past tag history) (users_of history tag) (mirror tag)

-- the watchers by the table are the watchers
pub watchers_same : (rows : Rows Slot) (history : History) (tag : List ℕ) → SeatsMirror rows history →
    tables.watchers_of tag rows ≡ watchers_of history tag
watchers_same rows history tag mirror =
    watched_seated tag (look tag rows) (past tag history) (users_of history tag) (mirror tag)

-- a role is busy by the table exactly where it is
busy_one : (rows : Rows Slot) (history : History) → SeatsMirror rows history → (tag : Option (List ℕ)) →
    tag_busy rows tag ≡ busy_role history tag
busy_one rows history mirror None = refl
busy_one rows history mirror (Some tag) = ap (busy_module tag) (holder_same rows history tag mirror)

-- so are all roles
busy_same : (rows : Rows Slot) (history : History) (binds : List Bind) (roles : List (List ℕ)) →
    SeatsMirror rows history →
    table_busy rows binds roles ≡ busy history binds roles
busy_same rows history binds roles mirror =
    first_same (λ role. tag_busy rows (bound_tag binds role)) (λ role. busy_role history (bound_tag binds role))
    (λ role. busy_one rows history mirror (bound_tag binds role)) roles

-- ---- all together

-- the rules of the binds and modules of a start, as they are defined
abbrev pub defined_rule : History → PlainChart → PlainAllocation → Option Rule
defined_rule history chart binds =
    option_or (role_unbound (given binds) (role_names chart))
    (option_or (role_unknown binds (role_names chart))
    (option_or (one_module_twice (given binds) [] (role_names chart))
    (option_or (watched_step binds.watched (steps_in chart) (role_names chart))
    (option_or (modules_unfit history chart (given binds) (role_names chart))
    (busy history binds.held (role_names chart))))))

-- what the tables say of them is what looking back says
pub bind_rule_same : (rows : Rows Slot) (history : History) (chart : PlainChart) (binds : PlainAllocation) →
    SeatsMirror rows history →
    bind_rule rows chart binds ≡ defined_rule history chart binds
bind_rule_same rows history chart binds mirror =
    ap before (ap (λ found. option_or found (table_busy rows binds.held (role_names chart)))
    (unfit_same rows history chart (given binds) (role_names chart) mirror)
    ∙ ap (option_or (modules_unfit history chart (given binds) (role_names chart)))
    (busy_same rows history binds.held (role_names chart) mirror))
  where
    before : Option Rule → Option Rule
    before rule =
        option_or (role_unbound (given binds) (role_names chart))
        (option_or (role_unknown binds (role_names chart))
        (option_or (one_module_twice (given binds) [] (role_names chart))
        (option_or (watched_step binds.watched (steps_in chart) (role_names chart)) rule)))
