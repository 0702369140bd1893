-- The procedure that a step starts is one of its service's.
use Rattle.std.proofs.Common.{◌≡◌, ◌+◌, ℕ, Bool, true, false, List, Option, Some, None, refl, ap, sym, ◌∙◌}
use Rattle.std.specs.Prelude.{◌&&◌, ◌==◌, nat_le, is_some, find, if◌then◌else◌}
use Rattle.std.specs.List.{Contains}
use Rattle.std.proofs.lemmas.Bool.{and_parts, eqb-true}
use Rattle.mtp_codes.specs.Names.{same_name}
use Rattle.mtp_desc.specs.Plain.{PlainDescription, PlainProcedure}
use Rattle.mtp_desc.specs.Lookup.{procedure_at}
use Rattle.mtp_procs.specs.Covers.{role_fault, role_named, is_refused, is_refused_step, refused_step, refused_variable}
use Rattle.mtp_procs.specs.Covers.{cover_fault}
use Rattle.mtp_procs.specs.Demands.{procedure_fault, step_fault}
use Rattle.mtp_codes.specs.declared.cover.CoverFault.TheVariants.{NotCovered}
use Rattle.mtp_codes.proofs.Names.{same_refl}
use Rattle.mtp_sim.specs.Commands.{default_number, asked_procedure}
use Rattle.chart_core.specs.Form.{is_step_formed, is_tree_formed, are_trees_formed, are_arms_formed}
use Rattle.chart_core.specs.Roles.{PlainChart, role_names}
use Rattle.chart_core.specs.Trees.{Placed, Tree, Trees, Arms, leaf, seq, par, choice, loop, no_trees, more_trees}
use Rattle.chart_core.specs.Trees.{no_arms, more_arms, size, steps, all_steps, arm_steps}
use Rattle.chart_core.specs.declared.entry.LogEntry.TheVariants.{Start}
use Rattle.chart_core.proofs.Lawful.{each_member, roles_of_steps}
use Rattle.chart_core.proofs.Validity.{Each, each_append, form_tree}
use Rattle.chart_cursor.specs.Commands.{IsOfStep}
use Rattle.chart_cursor.specs.Sights.{Sights}
use Rattle.chart_cursor.proofs.Commanding.{steps_of_chart}
use Rattle.pol_events.specs.declared.event.Bind.{Bind}
use Rattle.pol_history.specs.Looking.{past}
use Rattle.pol_history.specs.Modules.{description_by}
use Rattle.pol_history.specs.Batches.{log_of}
use Rattle.pol_history.specs.Following.{sights_by}
use Rattle.pol_safety.specs.Kept.{IsCovered}
use Rattle.pol_safety.proofs.Covering.{all_cover}
use Rattle.pol_safety.proofs.Seen.{tag_of_bound}
use Rattle.pol_safety.proofs.Starts.{IsGoodChart, sound, running_fits}
use Rattle.pol_stillness.specs.Starting.{StartsExist}
use Rattle.pol_events.proofs.Options.{neither, no_image, not_some, some_same}
use Rattle.pol_events.proofs.Lists.{among_member, none_found}
use Rattle.pol_history.proofs.Binds.{IsFitting}
use Rattle.chart_cursor.specs.Logs.{chart_entries}
use Rattle.pol_events.specs.Bound.{bound_tag, given}
use Rattle.pol_events.proofs.Played.{bind_for}

-- a step is formed
abbrev Formed : Placed → Type 0
Formed placed = is_step_formed placed.step ≡ true

-- each step of a formed tree is formed
mutual
  -- the steps of a node in form are in form
  formed_steps : (t : Tree) (n : ℕ) → is_tree_formed t ≡ true → Each Formed (steps t n)
  formed_steps (leaf step) n is = (is, tt)
  formed_steps (seq each) n is = formed_all each (n + 1) (and_parts _ (are_trees_formed each) is).1
  formed_steps (par each) n is = formed_all each (n + 1) (and_parts _ (are_trees_formed each) is).1
  formed_steps (choice each) n is = formed_arms each (n + 1) (and_parts _ (are_arms_formed each) is).1
  formed_steps (loop body until) n is = formed_steps body (n + 1) (and_parts (is_tree_formed body) _ is).0

  -- and so are those of some nodes
  formed_all : (ts : Trees) (n : ℕ) → are_trees_formed ts ≡ true → Each Formed (all_steps ts n)
  formed_all no_trees n is = tt
  formed_all (more_trees each others) n is =
      let parts = and_parts (is_tree_formed each) (are_trees_formed others) is in
      each_append Formed (steps each n) (all_steps others (n + size each)) (formed_steps each n parts.0)
      (formed_all others (n + size each) parts.1)

  -- and of some arms
  formed_arms : (arms : Arms) (n : ℕ) → are_arms_formed arms ≡ true → Each Formed (arm_steps arms n)
  formed_arms no_arms n is = tt
  formed_arms (more_arms when each others) n is =
      let parts = and_parts (is_tree_formed each) _ is in
      let rest = and_parts _ (are_arms_formed others) parts.1 in
      each_append Formed (steps each n) (arm_steps others (n + size each)) (formed_steps each n parts.0)
      (formed_arms others (n + size each) rest.1)

-- a number from 1 on isn't 0
not_zero : (n : ℕ) → nat_le 1 n ≡ true → (n == 0) ≡ false
not_zero n is = go (n == 0) refl
  where
    go : (b : Bool) → (n == 0) ≡ b → b ≡ false
    go false e = refl
    go true e = let clash : nat_le 1 0 ≡ true = ap (nat_le 1) (sym (eqb-true n 0 e)) ∙ is in cc

-- a module that covers its role has the procedure of each step of it
covered_procedure : (chart : PlainChart) (role : List ℕ) (description : PlainDescription) (placed : Placed)
    → cover_fault chart role description ≡ None
    → Contains (steps chart.root 0) placed → placed.step.role ≡ role
    → is_some (procedure_at placed.step.service placed.step.procedure description) ≡ true
covered_procedure chart role description placed covered inside role_is =
    there (procedure_at placed.step.service placed.step.procedure description)
    (not_some (step_fault description placed.step.service placed.step.procedure placed.step.settings
    (is_some placed.step.finish)) fits)
  where
    parts : (refused_step chart role description ≡ None) × (refused_variable chart role description ≡ None)
    parts =
        neither (refused_step chart role description) (refused_variable chart role description)
        (no_image NotCovered _ (neither (role_fault description (role_named role chart)) _ covered).1)

    refused : (same_name placed.step.role role && is_refused description placed.step) ≡ false
    refused =
        none_found (λ (each : Placed). is_refused_step role description each.step) (steps chart.root 0) placed
        (no_image (λ (each : Placed). each.step.name)
        (find (λ (each : Placed). is_refused_step role description each.step) (steps chart.root 0)) parts.0) inside

    fits : is_refused description placed.step ≡ false
    fits = ap (λ b. b && is_refused description placed.step)
        (sym (ap (same_name placed.step.role) (sym role_is) ∙ same_refl placed.step.role)) ∙ refused

    there : (found : Option PlainProcedure) → procedure_fault placed.step.settings (is_some placed.step.finish) found
        ≡ None → is_some found ≡ true
    there None is = cc
    there (Some procedure) is = refl

-- the procedure of a start
pub starts_exist : StartsExist
starts_exist history batch begun chart step tag service procedure description legal orderly start_is chart_is unclosed
    next is_described =
    ap (λ n. asked_procedure n procedure description) of.2.2
    ∙ ap (λ p. asked_procedure of.0.step.service p description) of.2.3
    ∙ ap (λ b. if b then default_number of.0.step.service description
    else if is_some (procedure_at of.0.step.service of.0.step.procedure description) then Some of.0.step.procedure else
    None)
    (not_zero of.0.step.procedure (and_parts (nat_le 1 of.0.step.procedure) _ formed).0)
    ∙ ap (λ b. if b then Some of.0.step.procedure else None) has
    ∙ ap Some (sym of.2.3)
  where
    sights : Sights
    sights = sights_by (given begun.binds) (λ tag. past tag history)

    good : IsGoodChart chart
    good = sound history legal orderly begun.recipe chart chart_is

    of : (placed : Placed) × Contains (steps chart.root 0) placed × IsOfStep sights placed.step
        (Start step tag service procedure)
    of = steps_of_chart chart (chart_entries (log_of history batch)) sights (Start step tag service procedure) next refl

    formed : is_step_formed of.0.step ≡ true
    formed = each_member Formed (steps chart.root 0) of.0 (formed_steps chart.root 0 (form_tree chart good.is_formed))
        of.1

    fits : IsFitting chart (given begun.binds)
    fits = running_fits history batch begun chart legal orderly
        (record { start_is = start_is; chart_is = chart_is; unclosed = unclosed })

    own : (t : List ℕ) × (bound_tag (given begun.binds) of.0.step.role ≡ Some t)
    own = fits.bound of.0.step.role (among_member (role_names chart) of.0.step.role
        (roles_of_steps chart of.0 good.valid of.1))

    bind : (bind : Bind) × Contains (given begun.binds) bind × (bind.tag ≡ own.0) × (bind.role ≡ of.0.step.role)
    bind = bind_for (given begun.binds) of.0.step.role own.0 own.1

    tag_is : bind.0.tag ≡ tag
    tag_is = bind.2 ∙ sym (tag_of_bound history (given begun.binds) of.0.step.role own.0 own.1) ∙ sym of.2.1

    covers : IsCovered chart bind.0.role (past bind.0.tag history)
    covers = all_cover history legal orderly batch begun chart start_is chart_is unclosed bind.0 bind.1

    one : covers.description ≡ description
    one =
        some_same (description_by (past tag history)) covers.description description
        (ap (λ t. description_by (past t history)) (sym tag_is) ∙ covers.described) is_described

    has : is_some (procedure_at of.0.step.service of.0.step.procedure description) ≡ true
    has =
        ap (λ d. is_some (procedure_at of.0.step.service of.0.step.procedure d)) (sym one)
        ∙ covered_procedure chart bind.0.role covers.description of.0 covers.covered of.1 (sym bind.3)
