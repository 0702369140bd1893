-- A batch that is started: its answer, and the tables then.
use Rattle.std.proofs.Common.{◌≡◌, ℕ, ◌+◌, suc, Bool, true, false, cond, List, [], ◌∷◌, ◌++◌, map, length, Option, Some, None}
use Rattle.std.proofs.Common.{Ok, is_some, refl, ap, sym, ◌∙◌, subst, arith, not}
use Rattle.std.specs.Prelude.{IsSome, nat_le, filter, filter_map}
use Rattle.std.proofs.lemmas.List.{reverse-append}
use Rattle.std.specs.List.{AllByRecursion, Contains, IsDistinct, list_all}
use Rattle.std.proofs.lemmas.Bool.{and_parts, not-true}
use Rattle.std.proofs.lemmas.List.Elements.{Contains-append_left, Contains-append_right}
use Rattle.std.specs.Map.{lookup}
use Rattle.std.specs.Option.{option_map, option_or}
use Rattle.std.specs.Str.{bytes_eq}
use Rattle.std.specs.declared.sync.Arc.{Arc}
use Rattle.mtp_codes.specs.Faults.{when, first_of, done_unless}
use Rattle.mtp_codes.specs.Names.{is_among}
use Rattle.mtp_codes.specs.declared.limits.TheConstants.{MOST_BATCHES}
use Rattle.mtp_codes.proofs.Names.{same_true, same_refl}
use Rattle.chart_core.specs.Charts.{plain_chart}
use Rattle.chart_core.specs.Roles.{PlainChart, role_names}
use Rattle.chart_core.specs.declared.chart.Chart.{Chart}
use Rattle.pol_events.specs.Bound.{PlainAllocation, ArePaired, bound_tag, bound_role, given, tags_of}
use Rattle.pol_events.proofs.Given.{given_once, held_once, watched_once}
use Rattle.pol_events.specs.Events.{start}
use Rattle.pol_events.specs.Orderly.{is_allocation, roles_once}
use Rattle.pol_events.specs.declared.answer.Answer.TheVariants.{Done, Refused}
use Rattle.pol_events.specs.declared.answer.Rule.{Rule}
use Rattle.pol_events.specs.declared.answer.Rule.TheVariants.{NoRecipe, BatchKnown, BatchesFull}
use Rattle.pol_events.specs.declared.event.Bind.{Bind}
use Rattle.pol_events.proofs.Lists.{member_first, member_later, member_image, among_member, none_first}
use Rattle.pol_events.proofs.Options.{neither}
use Rattle.pol_history.specs.Answers.{start_rules, rules, answer_of, is_full}
use Rattle.pol_history.specs.Batches.{start_by, chart_named, is_start, started_batch}
use Rattle.pol_history.specs.Looking.{History, is_accepted, past_of_batch, recipes}
use Rattle.pol_history.specs.Rules.{batch_known, batches_full, busy_module, role_unbound, role_unknown}
use Rattle.pol_history.specs.Rules.{one_module_twice, watched_step, steps_in, modules_unfit, busy}
use Rattle.pol_history.proofs.Accepted.{paired}
use Rattle.pol_history.proofs.Binds.{IsFitting, fitting, binds_known, given_known, tags_by_role, unknown_parts}
use Rattle.pol_history.proofs.Holders.{started}
use Rattle.pol_slots.specs.declared.slot.Slot.{Slot}
use Rattle.pol_table.specs.Answers.{missing_at, busy_at, hold_answer}
use Rattle.pol_table.specs.Rows as tables
use Rattle.pol_table.specs.Rows.{Row, Rows, look, part_of, held_by}
use Rattle.pol_table.specs.declared.faults.HoldFault.{HoldFault}
use Rattle.pol_table.specs.declared.faults.HoldFault.TheVariants as fault
use Rattle.pol_runs.specs.Runs.{PlainRun}
use Rattle.pol_core.specs.Batches.{IsRun}
use Rattle.pol_core.specs.Judging.{part_rule, role_rule, table_unfit, tag_busy, table_busy, bind_rule, chart_rule}
use Rattle.pol_core.specs.Mirrors.{Mirrors, Answers}
use Rattle.pol_core.specs.Recipes.{RecipesMirror}
use Rattle.pol_core.specs.Starting.{Begins, watched_by}
use Rattle.pol_core.proofs.Judging.{ruled}
use Rattle.pol_core.proofs.Starts.{seats_started, runs_started}
use Rattle.pol_core.proofs.Together.{known_same, refused_all}
use Rattle.pol_core.proofs.Unfit.{defined_rule, bind_rule_same}

-- ---- the answer, as one rule after another

-- the eight rules of a start, those of its binds and modules as one
first_of_eight : (one two three four five six seven eight : Option Rule)
    → first_of (one ∷ two ∷ three ∷ four ∷ five ∷ six ∷ seven ∷ eight ∷ [])
    ≡ option_or one (option_or (option_or two (option_or three (option_or four (option_or five (option_or six seven)))))
    eight)
first_of_eight (Some rule) two three four five six seven eight = refl
first_of_eight None (Some rule) three four five six seven eight = refl
first_of_eight None None (Some rule) four five six seven eight = refl
first_of_eight None None None (Some rule) five six seven eight = refl
first_of_eight None None None None (Some rule) six seven eight = refl
first_of_eight None None None None None (Some rule) seven eight = refl
first_of_eight None None None None None None (Some rule) eight = refl
first_of_eight None None None None None None None (Some rule) = refl
first_of_eight None None None None None None None None = refl

-- a batch has a run exactly where it was started
run_known : (found : Option PlainRun) (history : History) (batch : List ℕ) →
    IsRun batch found (past_of_batch batch history) (recipes history) →
    is_some (start_by (past_of_batch batch history)) ≡ is_some found
run_known None history batch is = ap (λ past. is_some (start_by past)) is
run_known (Some run) history batch keeps = ap is_some keeps.started

-- a batch without a run has no past
no_past : (found : Option PlainRun) (history : History) (batch : List ℕ) →
    IsRun batch found (past_of_batch batch history) (recipes history) → found ≡ None →
    past_of_batch batch history ≡ []
no_past None history batch is none = is
no_past (Some run) history batch keeps none = cc

-- the chart that is kept is the recipe's
pub charted_is : {Z : Type 0} (history : History) (known : List (List ℕ × Arc Chart Z)) (name : List ℕ)
    (chart : Arc Chart Z) → RecipesMirror known history →
    lookup (bytes_eq name) known ≡ Some chart → chart_named name (recipes history) ≡ Some (plain_chart chart.value)
charted_is {Z} history known name chart mirror found =
    sym (mirror.named name) ∙ ap (option_map (λ (chart : Arc Chart Z). plain_chart chart.value)) found

-- what the tables say against the start of a known recipe is what its rules say
pub start_rules_are : {Z : Type 0} (history : History) (at : ℕ) (batch name : List ℕ) (binds : PlainAllocation)
    (chart : PlainChart) (rows : Rows Slot)
    (runs : List (List ℕ × PlainRun)) (known : List (List ℕ × Arc Chart Z)) → Mirrors rows runs known history →
    chart_named name (recipes history) ≡ Some chart → first_of (rules history (start at batch name binds))
    ≡ chart_rule rows runs batch binds chart
start_rules_are history at batch name binds chart rows runs known mirrors charted =
    ap (λ found. first_of (start_rules history batch binds found)) charted
    ∙ first_of_eight (batch_known (start_by (past_of_batch batch history)))
    (role_unbound (given binds) (role_names chart)) (role_unknown binds (role_names chart))
    (one_module_twice (given binds) [] (role_names chart))
    (watched_step binds.watched (steps_in chart) (role_names chart))
    (modules_unfit history chart (given binds) (role_names chart))
    (busy history binds.held (role_names chart)) (batches_full history)
    ∙ ap (λ there. option_or (when there BatchKnown) (option_or (defined_rule history chart binds)
    (batches_full history)))
    (run_known (lookup (bytes_eq batch) runs) history batch (mirrors.batches batch))
    ∙ ap (λ rule. option_or (when (is_some (lookup (bytes_eq batch) runs)) BatchKnown)
    (option_or rule (batches_full history)))
    (sym (bind_rule_same rows history chart binds mirrors.seats))
    ∙ ap (λ n. option_or (when (is_some (lookup (bytes_eq batch) runs)) BatchKnown)
    (option_or (bind_rule rows chart binds) (when (nat_le MOST_BATCHES n) BatchesFull)))
    (sym mirrors.starts)

-- there is no such recipe
pub no_recipe_rules : {Z : Type 0} (history : History) (at : ℕ) (batch name : List ℕ) (binds : PlainAllocation)
    (known : List (List ℕ × Arc Chart Z)) →
    RecipesMirror known history → lookup (bytes_eq name) known ≡ None →
    first_of (rules history (start at batch name binds)) ≡ Some NoRecipe
no_recipe_rules {Z} history at batch name binds known mirror none =
    ap (λ found. first_of (start_rules history batch binds found))
    (sym (mirror.named name) ∙ ap (option_map (λ (chart : Arc Chart Z). plain_chart chart.value)) none)

-- a rule is against the start
pub start_refused : {Z : Type 0} (history : History) (at : ℕ) (batch name : List ℕ) (binds : PlainAllocation)
    (rule : Rule) (rows : Rows Slot)
    (runs : List (List ℕ × PlainRun)) (known : List (List ℕ × Arc Chart Z)) → Mirrors rows runs known history →
    is_full history ≡ false →
    first_of (rules history (start at batch name binds)) ≡ Some rule →
    Answers history (start at batch name binds) (Refused rule) rows runs known
start_refused history at batch name binds rule rows runs known mirrors room is =
    refused_all history (start at batch name binds) (Refused rule) rows runs known
    (sym (ruled history (start at batch name binds) (Some rule) room is)) refl mirrors

-- ---- binds that no rule is against: they are paired, and their modules are there and free

-- what no rule of the binds and modules says
record Judged (rows : Rows Slot) (chart : PlainChart) (binds : PlainAllocation) : Type 0 where
  bound : role_unbound (given binds) (role_names chart) ≡ None
  known : role_unknown binds (role_names chart) ≡ None
  apart : one_module_twice (given binds) [] (role_names chart) ≡ None
  fit : table_unfit rows chart (given binds) (role_names chart) ≡ None
  free : table_busy rows binds.held (role_names chart) ≡ None

-- where no rule of them is there
judged : (rows : Rows Slot) (chart : PlainChart) (binds : PlainAllocation) → bind_rule rows chart binds ≡ None →
    Judged rows chart binds
judged rows chart binds none =
    let a = neither (role_unbound (given binds) (role_names chart)) _ none in
    let b = neither (role_unknown binds (role_names chart)) _ a.1 in
    let c = neither (one_module_twice (given binds) [] (role_names chart)) _ b.1 in
    let d = neither (watched_step binds.watched (steps_in chart) (role_names chart)) _ c.1 in
    let e = neither (table_unfit rows chart (given binds) (role_names chart))
    (table_busy rows binds.held (role_names chart)) d.1 in
    record { bound = a.0; known = b.0; apart = c.0; fit = e.0; free = e.1 }

-- the binds fit the roles of the chart
pub binds_fit : (rows : Rows Slot) (chart : PlainChart) (binds : PlainAllocation) → is_allocation binds ≡ true →
    bind_rule rows chart binds ≡ None → IsFitting chart (given binds)
binds_fit rows chart binds orderly none =
    let says = judged rows chart binds none in
    fitting chart (given binds) (given_once binds orderly) says.bound (given_known binds (role_names chart) says.known)
    says.apart

-- what says nothing of each bind says nothing of their tags
none_of_tags : {A : Type 0} (f : List ℕ → Option A) (binds : List Bind) →
    ((bind : Bind) → Contains binds bind → f bind.tag ≡ None) → first_of (map f (tags_of binds)) ≡ None
none_of_tags f [] none = refl
none_of_tags f (bind ∷ binds) none =
    ap (λ found. option_or found (first_of (map f (tags_of binds)))) (none bind (member_first bind binds))
    ∙ none_of_tags f binds (λ other inside. none other (member_later bind other binds inside))

-- a tag that has a part is there
part_there : {T : Type 0} (tag : List ℕ) (fault : HoldFault) (found : Option (Row T)) →
    (option_map (λ row. row.part) found ≡ None → ⊥) →
    cond (is_some found) None (Some fault) ≡ None
part_there tag fault None there = absurd (there refl)
part_there tag fault (Some row) there = refl

-- a module that isn't busy isn't held
unheld : (tag : List ℕ) (holder : Option (List ℕ)) → busy_module tag holder ≡ None → holder ≡ None
unheld tag None none = refl
unheld tag (Some batch) none = cc

-- a module of a role that no rule is against is there
bind_there : (rows : Rows Slot) (chart : PlainChart) (binds : PlainAllocation) (bind : Bind) →
    is_allocation binds ≡ true → bind_rule rows chart binds ≡ None → Contains (given binds) bind →
    part_of bind.tag rows ≡ None → ⊥
bind_there rows chart binds bind orderly none inside gone =
    let fits = binds_fit rows chart binds orderly none in
    let says = judged rows chart binds none in
    let rule : role_rule rows chart bind.role (Some bind.tag) ≡ None
    = ap (role_rule rows chart bind.role) (sym (fits.paired.by_role bind inside))
    ∙ none_first (λ role. role_rule rows chart role (bound_tag (given binds) role))
    (role_names chart) bind.role says.fit (fits.known bind inside) in
    let clash : part_rule chart bind.role bind.tag None ≡ None =
    ap (part_rule chart bind.role bind.tag) (sym gone) ∙ rule in cc

-- all modules that are to be held are there and free
pub tags_free : (rows : Rows Slot) (chart : PlainChart) (binds : PlainAllocation) → is_allocation binds ≡ true →
    bind_rule rows chart binds ≡ None →
    hold_answer (tags_of binds.held) rows ≡ Ok tt
tags_free rows chart binds orderly none =
    let says = judged rows chart binds none in
    let missing : first_of (map (missing_at rows) (tags_of binds.held)) ≡ None
    = none_of_tags (missing_at rows) binds.held (λ bind inside. part_there bind.tag (fault.NoModule bind.tag)
    (look bind.tag rows) (bind_there rows chart binds bind orderly none
    (Contains-append_left binds.held binds.watched bind inside))) in
    let free : first_of (map (busy_at rows) (tags_of binds.held)) ≡ None
    = none_of_tags (busy_at rows) binds.held (λ bind inside. ap (option_map (fault.Busy bind.tag))
    (unheld bind.tag (tables.holder_of bind.tag rows) (not_busy bind inside says.known says.free))) in
    ap (λ found. done_unless (option_or found (first_of (map (busy_at rows) (tags_of binds.held))))) missing
    ∙ ap done_unless free
  where
    not_busy : (bind : Bind) → Contains binds.held bind → role_unknown binds (role_names chart) ≡ None →
        table_busy rows binds.held (role_names chart) ≡ None →
        busy_module bind.tag (tables.holder_of bind.tag rows) ≡ None
    not_busy bind inside known free =
        ap (tag_busy rows) (sym (tags_by_role binds.held bind (held_once binds orderly) inside))
        ∙ none_first (λ role. tag_busy rows (bound_tag binds.held role)) (role_names chart) bind.role free
        (binds_known binds.held (role_names chart) bind (unknown_parts binds (role_names chart) known).0 inside)

-- all modules that are to be watched are there
pub watched_there : (rows : Rows Slot) (chart : PlainChart) (binds : PlainAllocation) → is_allocation binds ≡ true →
    bind_rule rows chart binds ≡ None →
    (tag : List ℕ) → is_among (tags_of binds.watched) tag ≡ true → IsSome (look tag rows)
watched_there rows chart binds orderly none tag among =
    let (bind, inside, same) = member_image (λ bind. bind.tag) binds.watched tag
    (among_member (tags_of binds.watched) tag among) in
    subst (λ tag. IsSome (look tag rows)) same
    (there (look bind.tag rows) (bind_there rows chart binds bind orderly none
    (Contains-append_right binds.held binds.watched bind inside)))
  where
    there : (found : Option (Row Slot)) → (option_map (λ row. row.part) found ≡ None → ⊥) → IsSome found
    there None is = absurd (is refl)
    there (Some row) is = refl

-- and no two of them are one
tags_distinct : (binds : List Bind) → ArePaired binds → (front back : List Bind) →
    ((bind : Bind) → Contains back bind → Contains binds bind) → roles_once back ≡ true →
    IsDistinct bytes_eq (tags_of back)
unfolding IsDistinct
tags_distinct binds paired front [] within once = tt
tags_distinct binds paired front (bind ∷ back) within once =
    let parts = and_parts (list_all (λ other. not (bytes_eq bind.role other.role)) back) (roles_once back) once in (
      apart back (λ other inside. within other (member_later bind other back inside)) parts.0,
      tags_distinct binds paired front back (λ other inside. within other (member_later bind other back inside))
          parts.1,
    )
  where
    differs : (other : Bind) → Contains binds other → not (bytes_eq bind.role other.role) ≡ true →
        bytes_eq bind.tag other.tag ≡ false
    differs other inside roles = go (bytes_eq bind.tag other.tag) refl
      where
        go : (same : Bool) → bytes_eq bind.tag other.tag ≡ same → bytes_eq bind.tag other.tag ≡ false
        go false is = is
        go true is =
            let one : Some bind.role ≡ Some other.role =
            sym (paired.by_tag bind (within bind (member_first bind back)))
            ∙ ap (bound_role binds) (same_true bind.tag other.tag is) ∙ paired.by_tag other inside in
            let role : bind.role ≡ other.role = cc in
            let clash : true ≡ false =
            sym (same_refl bind.role) ∙ ap (bytes_eq bind.role) role
            ∙ not-true (bytes_eq bind.role other.role) roles in cc

    apart : (others : List Bind) → ((other : Bind) → Contains others other → Contains binds other) →
        list_all (λ other. not (bytes_eq bind.role other.role)) others ≡ true →
        AllByRecursion (λ tag. bytes_eq bind.tag tag ≡ false) (tags_of others)
    apart [] inside all = tt
    apart (other ∷ others) inside all =
        let parts = and_parts (not (bytes_eq bind.role other.role))
        (list_all (λ other. not (bytes_eq bind.role other.role)) others) all in (
          differs other (inside other (member_first other others)) parts.0,
          apart others (λ next later. inside next (member_later other next others later)) parts.1,
        )

-- so the modules that are to be watched are distinct
pub watched_distinct : (rows : Rows Slot) (chart : PlainChart) (binds : PlainAllocation) →
    is_allocation binds ≡ true → bind_rule rows chart binds ≡ None → IsDistinct bytes_eq (tags_of binds.watched)
watched_distinct rows chart binds orderly none =
    tags_distinct (given binds) (binds_fit rows chart binds orderly none).paired [] binds.watched
    (λ bind inside. Contains-append_right binds.held binds.watched bind inside) (watched_once binds orderly)

-- ---- a start that comes about

-- who holds a row doesn't change whether there is one
held_some : (among : Bool) (batch : List ℕ) (found : Option (Row Slot)) →
    is_some (option_map (λ row. cond among (held_by batch row) row) found) ≡ is_some found
held_some among batch None = refl
held_some among batch (Some row) = refl

-- nor does who watches it
watched_some : (among : Bool) (batch : List ℕ) (found : Option (Row Slot)) →
    is_some (option_map (λ row. cond among (watched_by batch row) row) found) ≡ is_some found
watched_some among batch None = refl
watched_some among batch (Some row) = refl

-- where no rule is against it, the batch is new, and each bind is found by its role and by its tag
pub fresh_batch : (rows : Rows Slot) (runs : List (List ℕ × PlainRun)) (batch : List ℕ)
    (binds : PlainAllocation) (chart : PlainChart) →
    chart_rule rows runs batch binds chart ≡ None → (lookup (bytes_eq batch) runs ≡ None)
    × (bind_rule rows chart binds ≡ None)
fresh_batch rows runs batch binds chart none =
    let first = neither (when (is_some (lookup (bytes_eq batch) runs)) BatchKnown) _ none in
    let second = neither (bind_rule rows chart binds) _ first.1 in
    (unknown (lookup (bytes_eq batch) runs) first.0, second.0)
  where
    unknown : (found : Option PlainRun) → when (is_some found) BatchKnown ≡ None → found ≡ None
    unknown None none = refl
    unknown (Some run) none = cc

-- the batch is started
pub start_answered : {Z : Type 0} (history : History) (at : ℕ) (batch name : List ℕ) (binds : PlainAllocation)
    (chart : Arc Chart Z) (old new : Rows Slot)
    (runs after : List (List ℕ × PlainRun)) (known : List (List ℕ × Arc Chart Z)) → Mirrors old runs known history →
    is_full history ≡ false →
    lookup (bytes_eq name) known ≡ Some chart → chart_rule old runs batch binds (plain_chart chart.value) ≡ None →
    Begins batch name (plain_chart chart.value) binds old new runs after → length new ≡ length old →
    Answers history (start at batch name binds) Done new after known
start_answered history at batch name binds chart old new runs after known mirrors room found none begins count =
    let charted = charted_is history known name chart mirrors.recipes found in
    let answer : answer_of history (start at batch name binds) ≡ Done
    = ruled history (start at batch name binds) None room
    (start_rules_are history at batch name binds (plain_chart chart.value) old runs known mirrors charted ∙ none) in
    let fresh = (fresh_batch old runs batch binds (plain_chart chart.value) none).0 in
    let past_none = no_past (lookup (bytes_eq batch) runs) history batch (mirrors.batches batch) fresh in
    record {
      answer_is = sym answer;
      mirrors = subst (λ answer. Mirrors new after known (paired (start at batch name binds) answer ∷ history))
          (sym answer)
          (record {
            seats = seats_started history at batch name (plain_chart chart.value) binds old new runs
                after past_none begins mirrors.seats;
            batches = runs_started history at batch name (plain_chart chart.value) binds old new runs
                after past_none charted begins mirrors.batches;
            counted = record {
              members = λ tag. mirrors.counted.members tag ∙ sym (ap is_some (begins.holds.held tag)
                  ∙ held_some (is_among (tags_of binds.held) tag) batch (look tag begins.watched)
                  ∙ ap is_some (begins.watches tag)
                  ∙ watched_some (is_among (tags_of binds.watched) tag) batch (look tag old));
              once = mirrors.counted.once;
              count = count ∙ mirrors.counted.count;
            };
            recipes = known_same history (started at batch name binds) known refl mirrors.recipes;
            starts = begins.count ∙ ap (λ n. n + 1) mirrors.starts ∙ plus_one (length (filter is_start history));
            order = begins.order ∙ ap (λ batches. batches ++ batch ∷ []) mirrors.order
                ∙ sym (reverse-append (batch ∷ []) (filter_map (λ entry. cond (is_accepted entry.answer)
                (started_batch entry.event) None) history));
          });
    }
  where
    plus_one : (n : ℕ) → n + 1 ≡ suc n
    plus_one n = omega arith
