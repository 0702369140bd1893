-- No rule refuses a start with a binding to docked candidates of which it holds free ones, and watches others in roles
-- without a step.
use Rattle.std.proofs.Common.{◌≡◌, ◌≢◌, ◌<◌, ◌≤◌, ℕ, suc, Bool, true, false, not, ◌&&◌, ◌||◌, Option, Some, None, List}
use Rattle.std.proofs.Common.{[], ◌∷◌, map, filter, length, refl, sym, ◌∙◌, ap, subst, arith, cond}
use Rattle.std.specs.Prelude.{filter_map, is_none, is_some, nat_le, option_map}
use Rattle.std.specs.List.{AllPairs, Contains, cons_option, list_all}
use Rattle.std.specs.Option.{option_or}
use Rattle.std.specs.Str.{bytes_eq}
use Rattle.std.proofs.lemmas.Bool.{and_parts, le-leb, leb-true, lt-leb}
use Rattle.std.proofs.lemmas.Cmp.{nat_list_eq_equiv}
use Rattle.std.proofs.lemmas.List.{length-map}
use Rattle.mtp_codes.specs.Faults.{when}
use Rattle.mtp_codes.specs.Names.{is_among, same_name}
use Rattle.mtp_codes.specs.Numbers.{is_between}
use Rattle.mtp_codes.specs.declared.cover.CoverFault.{CoverFault}
use Rattle.mtp_codes.specs.declared.limits.TheConstants.{MOST_BATCHES, MOST_BINDS}
use Rattle.mtp_codes.proofs.Names.{same_true}
use Rattle.chart_core.specs.Form.{are_distinct, is_tree_formed}
use Rattle.chart_core.specs.Roles.{PlainChart, are_roles_formed, is_chart_form, role_names}
use Rattle.chart_core.specs.declared.limits.TheConstants.{LONGEST_WANTED, MOST_ROLES}
use Rattle.mtp_procs.specs.Covers.{cover_fault}
use Rattle.pol_events.specs.BindRules.{first_name, has_step, is_bound_before, one_module_twice, role_unbound}
use Rattle.pol_events.specs.BindRules.{role_unknown, twice, unknown_role, watched_step}
use Rattle.pol_events.specs.ByRole.{by_role}
use Rattle.pol_events.specs.Bound.{PlainAllocation, bound_tag, given, shares_a_role}
use Rattle.pol_events.specs.Orderly.{is_allocation, roles_once}
use Rattle.pol_events.specs.Refusals.{cover_rule, in_exchange}
use Rattle.pol_events.specs.declared.answer.Rule.TheVariants as rule
use Rattle.pol_events.specs.declared.event.Bind.{Bind}
use Rattle.pol_events.proofs.Lists.{among_member, found_append, image_member, member_among, member_first, member_image}
use Rattle.pol_events.proofs.Lists.{member_kept, member_later}
use Rattle.pol_events.proofs.Rising.{by_role_few, by_role_rises}
use Rattle.pol_history.specs.Answers.{start_rules}
use Rattle.pol_history.specs.Batches.{holder_of, is_start, start_of}
use Rattle.pol_history.specs.Looking.{History, past}
use Rattle.pol_history.specs.Modules.{ticket_of}
use Rattle.pol_history.specs.Rules.{batch_known, busy, busy_module, busy_role, module_rule, modules_unfit, no_module}
use Rattle.pol_history.specs.Rules.{not_covered, not_idle, not_reported, services_of, steps_in, unready}
use Rattle.pol_history.proofs.Accepted.{NoneHolds}
use Rattle.pol_history.proofs.Binds.{all_member, tags_by_role}
use Rattle.pol_history.proofs.Filters.{length_filter}
use Rattle.pol_match.specs.Bindings.{IsBinding, is_bound_well}
use Rattle.pol_match.specs.Fits.{PlainCandidate, fits_role, services_in, steps_of}
use Rattle.pol_find.proofs.ByRole.{by_role_member, first_bound, same_bound}
use Rattle.pol_find.proofs.Free.{IsDocked, IsIdle}
use Rattle.pol_find.proofs.Lists.{all_kept, no_first, none_any, none_passes, one_passes}

-- ---- binds by their roles

-- a role that isn't among those of the binds is another one than each of these
none_alike : (binds : List Bind) (role : List ℕ) → is_among (map (λ bind. bind.role) binds) role ≡ false →
    list_all (λ other. not (bytes_eq role other.role)) binds ≡ true
none_alike [] role out = refl
none_alike (bind ∷ binds) role out = go (bytes_eq bind.role role) refl out (none_alike binds role)
  where
    go : (same : Bool) → bytes_eq bind.role role ≡ same →
        same || is_among (map (λ bind. bind.role) binds) role ≡ false →
        (is_among (map (λ bind. bind.role) binds) role ≡ false →
        list_all (λ other. not (bytes_eq role other.role)) binds ≡ true) →
        (not (bytes_eq role bind.role) && list_all (λ other. not (bytes_eq role other.role)) binds) ≡ true
    go true is out rest = absurd cc
    go false is out rest = rw (nat_list_eq_equiv.symm role bind.role ∙ is, rest out) refl

-- where the roles are distinct, no bind has the role of an earlier one
distinct_once : (binds : List Bind) → are_distinct (map (λ bind. bind.role) binds) ≡ true → roles_once binds ≡ true
distinct_once [] distinct = refl
distinct_once (bind ∷ binds) distinct =
    let parts = and_parts (not (is_among (map (λ bind. bind.role) binds) bind.role))
    (are_distinct (map (λ bind. bind.role) binds)) distinct in
    rw (
      none_alike binds bind.role (out (is_among (map (λ bind. bind.role) binds) bind.role) parts.0),
      distinct_once binds parts.1,
    ) refl
  where
    out : (among : Bool) → not among ≡ true → among ≡ false
    out true is = sym is
    out false is = refl

-- some binds of those whose roles are once have roles once
once_kept : (test : Bind → Bool) (binds : List Bind) → roles_once binds ≡ true → roles_once (filter test binds) ≡ true
once_kept test [] once = refl
once_kept test (bind ∷ binds) once =
    let parts = and_parts (list_all (λ other. not (bytes_eq bind.role other.role)) binds) (roles_once binds) once in
    go (test bind) parts.0 (once_kept test binds parts.1)
  where
    go : (kept : Bool) → list_all (λ other. not (bytes_eq bind.role other.role)) binds ≡ true →
        roles_once (filter test binds) ≡ true →
        roles_once (cond kept (bind ∷ filter test binds) (filter test binds)) ≡ true
    go false apart rest = rest
    go true apart rest =
        rw (all_kept (λ other. not (bytes_eq bind.role other.role)) test binds apart, rest) refl

-- of the binds whose roles pass a test, a role has the tag that it has of all, where it passes
kept_tag : (test : List ℕ → Bool) (binds : List Bind) (role : List ℕ) →
    bound_tag (filter (λ bind. test bind.role) binds) role ≡ cond (test role) (bound_tag binds role) None
kept_tag test [] role = go (test role)
  where
    go : (passes : Bool) → bound_tag [] role ≡ cond passes (bound_tag [] role) None
    go true = refl
    go false = refl
kept_tag test (bind ∷ binds) role =
    go (test bind.role) refl (bytes_eq bind.role role) refl (kept_tag test binds role)
    ∙ ap (λ tag. cond (test role) tag None) (sym (first_bound bind binds role))
  where
    others : List Bind
    others = filter (λ bind. test bind.role) binds

    go : (kept : Bool) → test bind.role ≡ kept → (same : Bool) → bytes_eq bind.role role ≡ same →
        bound_tag others role ≡ cond (test role) (bound_tag binds role) None →
        bound_tag (cond kept (bind ∷ others) others) role
        ≡ cond (test role) (cond (bytes_eq bind.role role) (Some bind.tag) (bound_tag binds role)) None
    go true passes true same rest =
        first_bound bind others role
        ∙ rw (same, sym (ap test (same_true bind.role role same)) ∙ passes) refl
    go true passes false same rest = first_bound bind others role ∙ rw same rest
    go false fails true same rest =
        rest ∙ rw (sym (ap test (same_true bind.role role same)) ∙ fails) refl
    go false fails false same rest = rw same rest

-- ---- the module of one bind

-- one of the candidates, whose tag is the bind's and that fits its role
pub record IsFor (chart : PlainChart) (candidates : List PlainCandidate) (bind : Bind) : Type 0 where
  pub candidate : PlainCandidate
  pub inside : Contains candidates candidate
  pub tagged : candidate.tag ≡ bind.tag
  pub fit : fits_role chart bind.role candidate ≡ true

-- each bind of a binding has one
pub for_bind : (chart : PlainChart) (candidates : List PlainCandidate) (binds : List Bind) (bind : Bind) →
    IsBinding chart candidates binds → Contains binds bind → IsFor chart candidates bind
for_bind chart candidates binds bind binding (k, low, is) =
    let well : is_bound_well chart candidates bind ≡ true =
    subst (λ (bind : Bind). is_bound_well chart candidates bind ≡ true) is (binding.fit k bind low) in
    let (candidate, inside, passes) = one_passes
    (λ candidate. same_name candidate.tag bind.tag && fits_role chart bind.role candidate) candidates well in
    let parts = and_parts (same_name candidate.tag bind.tag) (fits_role chart bind.role candidate) passes in
    record {
      candidate = candidate;
      inside = inside;
      tagged = same_true candidate.tag bind.tag parts.0;
      fit = parts.1;
    }

-- a service that was reported last as idle is ready
idle_ready : (history : History) (tag service : List ℕ) → IsIdle history tag service →
    unready tag (past tag history) service ≡ None
idle_ready history tag service is =
    ap (λ view. option_or (not_reported tag service view) (not_idle tag service view)) is.seen
    ∙ ap (λ idle. when (not idle) (rule.NotIdle tag service is.view.control.state)) is.idle

-- a cover without a fault refuses nothing
no_fault : (role : List ℕ) (fault : Option CoverFault) → is_none fault ≡ true →
    option_map (cover_rule role) fault ≡ None
no_fault role None none = refl
no_fault role (Some fault) none = absurd cc

-- nothing is wrong with a docked candidate in a role that it fits
fit_module : (history : History) (chart : PlainChart) (role : List ℕ) (candidate : PlainCandidate) →
    fits_role chart role candidate ≡ true → IsDocked history candidate →
    module_rule history chart role (Some candidate.tag) ≡ None
fit_module history chart role candidate fit docked =
    let parts = and_parts (is_none (cover_fault chart role candidate.description))
    (list_all (is_among candidate.idle) (services_in role (steps_of chart))) fit in
    let own = past candidate.tag history in
    let there = ap (no_module candidate.tag) docked.there in
    let here = ap (λ docking. in_exchange candidate.tag (ticket_of docking)) docked.there in
    let covered = ap (not_covered chart role) docked.described
    ∙ no_fault role (cover_fault chart role candidate.description) parts.0 in
    let ready = no_first (unready candidate.tag own) (services_of chart role)
    (λ service inside. idle_ready history candidate.tag service (docked.idle service
    (among_member candidate.idle service
    (all_member (is_among candidate.idle) (services_in role (steps_of chart)) service parts.1 inside)))) in
    rw (there, here, covered, ready) refl

-- ---- all binds of a binding

-- no module plays two roles, where each bind is found by its role and no tag is there twice
none_twice : (all binds : List Bind) (earlier : List (List ℕ)) →
    ((bind : Bind) → Contains binds bind → bound_tag all bind.role ≡ Some bind.tag) →
    ((bind : Bind) → Contains binds bind → is_bound_before all earlier bind.tag ≡ false) →
    AllPairs (λ one other. one.tag ≢ other.tag) binds →
    one_module_twice all earlier (map (λ bind. bind.role) binds) ≡ None
none_twice all [] earlier found fresh once = refl
none_twice all (bind ∷ binds) earlier found fresh once =
    let here : twice all earlier (bound_tag all bind.role) ≡ None =
    ap (twice all earlier) (found bind (member_first bind binds))
    ∙ ap (λ before. when before (rule.OneModuleTwice bind.tag)) (fresh bind (member_first bind binds)) in
    ap (λ first. option_or first (one_module_twice all (bind.role ∷ earlier) (map (λ bind. bind.role) binds))) here
    ∙ none_twice all binds (bind.role ∷ earlier)
    (λ other inside. found other (member_later bind other binds inside))
    (λ other inside.
    ap (λ tag. is_among (cons_option tag (filter_map (bound_tag all) earlier)) other.tag)
    (found bind (member_first bind binds))
    ∙ ap (λ same. same || is_bound_before all earlier other.tag)
    (apart (bytes_eq bind.tag other.tag) refl (differs other inside))
    ∙ fresh other (member_later bind other binds inside))
    (λ i j d less low. once (suc i) (suc j) d (omega arith) (omega arith))
  where
    differs : (other : Bind) → Contains binds other → bind.tag ≡ other.tag → ⊥
    differs other (k, low, is) same =
        once 0 (suc k) other (omega arith) (omega arith) (same ∙ ap (λ (bind : Bind). bind.tag) (sym is))

    apart : {one other : List ℕ} (same : Bool) → bytes_eq one other ≡ same → (one ≡ other → ⊥) →
        bytes_eq one other ≡ false
    apart false is unlike = is
    apart {one} {other} true is unlike = absurd (unlike (same_true one other is))

-- a chart that is formed has distinct roles, at most 64
formed_roles : (chart : PlainChart) → is_chart_form chart ≡ true →
    (are_distinct (role_names chart) ≡ true) × (length (role_names chart) ≤ MOST_BINDS)
formed_roles chart formed =
    let roles = (and_parts (are_roles_formed chart) (is_tree_formed chart.root) formed).0 in
    let parts = and_parts (is_between 1 MOST_ROLES (length chart.roles))
    (are_distinct (role_names chart)
    && list_all (λ role. nat_le (length role.wants) LONGEST_WANTED) chart.roles) roles in
    let count = (and_parts (nat_le 1 (length chart.roles)) (nat_le (length chart.roles) MOST_ROLES) parts.0).1 in (
      (and_parts (are_distinct (role_names chart))
          (list_all (λ role. nat_le (length role.wants) LONGEST_WANTED) chart.roles) parts.1).0,
      omega (arith, leb-true (length chart.roles) MOST_ROLES count, length-map chart.roles (λ role. role.role)),
    )

-- what a start holds and watches of these binds, by whether a role's module is held
abbrev pub parted : (List ℕ → Bool) → List Bind → PlainAllocation
parted is_held binds =
    record {
      held = by_role (filter (λ bind. is_held bind.role) binds);
      watched = by_role (filter (λ bind. not (is_held bind.role)) binds);
    }

-- a binding to docked candidates, of which those that are held are free, and the others play roles without a step
pub record IsParted (history : History) (chart : PlainChart) (candidates : List PlainCandidate)
    (is_held : List ℕ → Bool) (binds : List Bind) : Type 0 where
  pub binding : IsBinding chart candidates binds
  pub docked : (candidate : PlainCandidate) → Contains candidates candidate → IsDocked history candidate
  pub free : (bind : Bind) → Contains binds bind → is_held bind.role ≡ true → holder_of history bind.tag ≡ None
  pub stepless : (role : List ℕ) → is_held role ≡ false → has_step (steps_in chart) role ≡ false

module _ (history : History) (chart : PlainChart) (candidates : List PlainCandidate) (is_held : List ℕ → Bool)
    (binds : List Bind) (is : IsParted history chart candidates is_held binds)
    (formed : is_chart_form chart ≡ true) where
  -- what a start with the binding holds and watches
  abbrev bound : PlainAllocation
  bound = parted is_held binds

  -- no role is bound twice
  once : roles_once binds ≡ true
  once = distinct_once binds (ap are_distinct is.binding.roles ∙ (formed_roles chart formed).0)

  -- of the binds whose roles pass a test, in byte order, a role has the tag that it has of all, where it passes
  part_tag : (test : List ℕ → Bool) (role : List ℕ) →
      bound_tag (by_role (filter (λ bind. test bind.role) binds)) role
      ≡ cond (test role) (bound_tag binds role) None
  part_tag test role =
      same_bound (filter (λ bind. test bind.role) binds) (once_kept (λ bind. test bind.role) binds once) role
      ∙ kept_tag test binds role

  -- so all that is given has each tag
  given_tag : (role : List ℕ) → bound_tag (given bound) role ≡ bound_tag binds role
  given_tag role =
      found_append (λ bind. bind.tag) (λ bind. bytes_eq bind.role role) bound.held bound.watched
      ∙ ap (λ tag. option_or tag (bound_tag bound.watched role)) (part_tag is_held role)
      ∙ ap (option_or (cond (is_held role) (bound_tag binds role) None)) (part_tag (λ role. not (is_held role)) role)
      ∙ go (is_held role) (bound_tag binds role)
    where
      go : (held : Bool) (tag : Option (List ℕ)) → option_or (cond held tag None) (cond (not held) tag None) ≡ tag
      go true None = refl
      go true (Some tag) = refl
      go false tag = refl

  -- and finds each bind by its role
  given_bound : (bind : Bind) → Contains binds bind → bound_tag (given bound) bind.role ≡ Some bind.tag
  given_bound bind inside = given_tag bind.role ∙ tags_by_role binds bind once inside

  -- each role of the chart is that of a bind
  role_bind : (role : List ℕ) → Contains (role_names chart) role →
      (bind : Bind) × Contains binds bind × (bind.role ≡ role)
  role_bind role inside =
      member_image (λ bind. bind.role) binds role
      (subst (λ roles. Contains roles role) (sym is.binding.roles) inside)

  -- so none is unbound
  none_unbound : role_unbound (given bound) (role_names chart) ≡ None
  none_unbound = ap (λ found. option_map rule.RoleUnbound found)
      (none_passes (λ role. is_none (bound_tag (given bound) role)) (role_names chart)
      (λ role inside.
      let (bind, member, same) = role_bind role inside in
      ap (λ role. is_none (bound_tag (given bound) role)) (sym same) ∙ ap is_none (given_bound bind member)))

  -- each bind of a part is of a role of the chart
  part_known : (test : Bind → Bool) → unknown_role (by_role (filter test binds)) (role_names chart) ≡ None
  part_known test = ap (λ found. option_map (λ (bind : Bind). bind.role) found)
      (none_passes (λ bind. not (is_among (role_names chart) bind.role)) (by_role (filter test binds))
      (λ bind inside. ap not (member_among (role_names chart) bind.role
      (subst (λ roles. Contains roles bind.role) is.binding.roles
      (image_member (λ bind. bind.role) binds bind
      (member_kept test binds bind (by_role_member (filter test binds) bind inside)).0)))))

  -- so none is unknown
  none_unknown : role_unknown bound (role_names chart) ≡ None
  none_unknown =
      ap (λ found. option_map rule.RoleUnknown (first_name found (unknown_role bound.watched (role_names chart))))
      (part_known (λ bind. is_held bind.role))
      ∙ ap (λ found. option_map rule.RoleUnknown (first_name None found)) (part_known (λ bind. not (is_held bind.role)))

  -- no module plays two roles
  none_double : one_module_twice (given bound) [] (role_names chart) ≡ None
  none_double =
      ap (one_module_twice (given bound) []) (sym is.binding.roles)
      ∙ none_twice (given bound) binds [] given_bound (λ bind inside. refl) is.binding.once

  -- no role with a step is watched
  none_watched : watched_step bound.watched (steps_in chart) (role_names chart) ≡ None
  none_watched = ap (λ found. option_map rule.WatchedStep found)
      (none_passes (λ role. is_some (bound_tag bound.watched role) && has_step (steps_in chart) role)
      (role_names chart)
      (λ role inside.
      ap (λ tag. is_some tag && has_step (steps_in chart) role) (part_tag (λ role. not (is_held role)) role)
      ∙ go role (is_held role) refl))
    where
      never : (one : Bool) → (one && false) ≡ false
      never true = refl
      never false = refl

      go : (role : List ℕ) (held : Bool) → is_held role ≡ held →
          (is_some (cond (not held) (bound_tag binds role) None) && has_step (steps_in chart) role) ≡ false
      go role true there = refl
      go role false there = ap (λ step. is_some (bound_tag binds role) && step) (is.stepless role there)
          ∙ never (is_some (bound_tag binds role))

  -- each module fits its role
  all_fit : modules_unfit history chart (given bound) (role_names chart) ≡ None
  all_fit =
      no_first (λ role. module_rule history chart role (bound_tag (given bound) role)) (role_names chart)
      (λ role inside.
      let (bind, member, same) = role_bind role inside in
      let for = for_bind chart candidates binds bind is.binding member in
      ap (λ role. module_rule history chart role (bound_tag (given bound) role)) (sym same)
      ∙ ap (module_rule history chart bind.role) (given_bound bind member ∙ ap Some (sym for.tagged))
      ∙ fit_module history chart bind.role for.candidate for.fit (is.docked for.candidate for.inside))

  -- and no batch holds one that is to be held
  none_busy : busy history bound.held (role_names chart) ≡ None
  none_busy =
      no_first (λ role. busy_role history (bound_tag bound.held role)) (role_names chart)
      (λ role inside.
      let (bind, member, same) = role_bind role inside in
      ap (busy_role history) (part_tag is_held role)
      ∙ ap (λ role. busy_role history (cond (is_held role) (bound_tag binds role) None)) (sym same)
      ∙ go bind member (is_held bind.role) refl)
    where
      go : (bind : Bind) → Contains binds bind → (held : Bool) → is_held bind.role ≡ held →
          busy_role history (cond held (bound_tag binds bind.role) None) ≡ None
      go bind member false watched = refl
      go bind member true held =
          ap (busy_role history) (tags_by_role binds bind once member)
          ∙ ap (busy_module bind.tag) (is.free bind member held)

  -- no rule of a start refuses it
  pub none_refuses : (batch : List ℕ) → start_of history batch ≡ None →
      length (filter is_start history) < MOST_BATCHES →
      NoneHolds (start_rules history batch bound (Some chart))
  none_refuses batch new room = (
    ap batch_known new,
    (
      none_unbound,
      (
        none_unknown,
        (
          none_double,
          (
            none_watched,
            (
              all_fit,
              (
                none_busy,
                (
                  ap (λ full. when full rule.BatchesFull)
                      (lt-leb MOST_BATCHES (length (filter is_start history)) room),
                  tt,
                ),
              ),
            ),
          ),
        ),
      ),
    ),
  )

  -- a line can say it: it holds and watches at most 64 modules each, in byte order of their roles, and no role stands
  -- twice
  pub listed : is_allocation bound ≡ true
  listed =
      rw (
        le-leb (length bound.held) MOST_BINDS (few (λ bind. is_held bind.role)),
        by_role_rises (filter (λ bind. is_held bind.role) binds),
        le-leb (length bound.watched) MOST_BINDS (few (λ bind. not (is_held bind.role))),
        by_role_rises (filter (λ bind. not (is_held bind.role)) binds),
        none_shared,
      ) refl
    where
      few : (test : Bind → Bool) → length (by_role (filter test binds)) ≤ MOST_BINDS
      few test = omega (
        arith,
        by_role_few (filter test binds),
        length_filter test binds,
        (formed_roles chart formed).1,
        ap length is.binding.roles,
        length-map binds (λ (bind : Bind). bind.role),
      )

      -- a role that is held isn't watched
      none_shared : shares_a_role bound ≡ false
      none_shared =
          none_any (λ bind. is_some (bound_tag bound.watched bind.role)) bound.held
          (λ bind inside.
          let kept = member_kept (λ bind. is_held bind.role) binds bind
          (by_role_member (filter (λ bind. is_held bind.role) binds) bind inside) in
          ap is_some (part_tag (λ role. not (is_held role)) bind.role)
          ∙ ap (λ held. is_some (cond (not held) (bound_tag binds bind.role) None)) kept.1)
