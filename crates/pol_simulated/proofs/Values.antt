-- The values that a simulated module reports are allowed.
use Rattle.std.proofs.Common.{◌≡◌, ◌<◌, ℕ, suc, zero, ℤ, pos, negsuc, ◌+ℤ◌, nat_abs, int_lt, int_le, Bool, true, false}
use Rattle.std.proofs.Common.{cond, not, List, [], ◌∷◌, length, Option, Some, None, refl, ap, sym, ◌∙◌, subst, arith}
use Rattle.std.specs.Prelude.{◌&&◌, ◌||◌, ◌-◌, map, is_none, option_map, option_and_then, slice_get, if◌then◌else◌}
use Rattle.std.specs.List.{AllByRecursion, Contains, list_all}
use Rattle.std.proofs.lemmas.Bool.{and_parts, not-true}
use Rattle.std.proofs.lemmas.Int.{ints}
use Rattle.std.proofs.lemmas.List.Elements.{Contains-get_or}
use Rattle.std.proofs.lemmas.Option.{same_Some, get_or_from_slice_get}
use Rattle.mtp_codes.specs.Numbers.{is_between, is_within, least_i32, greatest_i32}
use Rattle.mtp_codes.specs.declared.value.Value.{Value}
use Rattle.mtp_codes.specs.declared.value.Value.TheVariants.{Whole}
use Rattle.mtp_codes.proofs.Names.{same_refl}
use Rattle.mtp_assembly.specs.Fits.{view_fault}
use Rattle.mtp_assembly.specs.Plain.{PlainVariable}
use Rattle.mtp_assembly.specs.declared.variable.ViewKind.{ViewKind}
use Rattle.mtp_assembly.specs.declared.variable.ViewKind.TheVariants as kind
use Rattle.mtp_codes.specs.Repeats.{repeats_by}
use Rattle.mtp_codes.proofs.Repeats.{repeats_map}
use Rattle.mtp_desc.specs.Plain.{PlainDescription}
use Rattle.mtp_desc.specs.Lookup.{variable_named}
use Rattle.mtp_sim.specs.declared.plan.Drift.{Drift}
use Rattle.mtp_sim.specs.declared.drift.SimDrift.{SimDrift}
use Rattle.mtp_sim.specs.declared.service.SimService.{SimService}
use Rattle.mtp_sim.specs.declared.report.SimReport.TheVariants.{Variable}
use Rattle.mtp_sim.specs.Sims.{PlainSim, first_drift, drift_in}
use Rattle.mtp_sim.specs.Ticks.{next_value, at_most, service_here, drift_here, tick_report, report_by, drift_report}
use Rattle.mtp_sim.specs.Ticks.{report_of, ticked_service, is_reported, limit_of, value_told, is_executing}
use Rattle.mtp_sim.specs.Ticks.{variable_report, reported_at, drifts_after, ticked_at}
use Rattle.mtp_sim.specs.Commands.{took_at, place_of, after_command, with_service, service_took}
use Rattle.mtp_sim.proofs.Edges.{all_at, all_set}
use Rattle.pol_events.specs.Refusals.{value_misfit, no_variable}
use Rattle.pol_history.specs.Looking.{past}
use Rattle.pol_history.specs.Modules.{value_by}
use Rattle.pol_site.specs.declared.limits.TheConstants.{MOST_DRIFTS, MOST_TICKS}
use Rattle.pol_site.specs.Plans.{drifts_in, whole_in}
use Rattle.pol_site.specs.Rules.{can_drift, found_drifts, is_drift_sound, same_drift}
use Rattle.pol_site.specs.Sound.{is_drift_ranged}
use Rattle.pol_simulated.specs.Units.{IsDriftTold, is_same_drift}
use Rattle.pol_simulated.specs.Values.{has_risen, IsDriftKept, AreDriftsKept, PlansAreKept, FirstDriftsAreKept}
use Rattle.pol_simulated.specs.Values.{TicksKeepDrifts, CommandsKeepDrifts, ValuesAreAllowed}
use Rattle.pol_simulated.proofs.Called.{called_at}

-- ---- numbers

-- what isn't below is at least
at_least : (a b : ℤ) → int_lt b a ≡ false → int_le a b ≡ true
at_least a b low = grind (arith, ints, low)

-- one is at most itself
self_least : (a : ℤ) → int_le a a ≡ true
self_least a = grind (arith, ints)

-- what is at most another is at most each that this is at most
least_through : (one other third : ℤ) → int_le one other ≡ true → int_le other third ≡ true → int_le one third ≡ true
least_through one other third low high = grind (arith, ints, low, high)

-- a positive step keeps a number from falling below one
step_up : (a b by : ℤ) → int_lt by (pos 1) ≡ false → int_le a b ≡ true → int_le a (b +ℤ by) ≡ true
step_up a b by rises low = grind (arith, ints, rises, low)

-- the next value of a drift is from its first to its greatest
next_within : (drift : Drift) (last : Option ℤ) (value : ℤ) → int_lt drift.by (pos 1) ≡ false →
    int_lt drift.to drift.from ≡ false → has_risen drift.from last ≡ true → next_value drift last ≡ Some value →
    (int_le drift.from value ≡ true) × (int_le value drift.to ≡ true)
next_within drift None value rises wide risen is =
    let same : drift.from ≡ value = same_Some drift.from value is in
    subst (λ value. (int_le drift.from value ≡ true) × (int_le value drift.to ≡ true)) same
    (self_least drift.from, at_least drift.from drift.to wide)
next_within drift (Some last) value rises wide risen is = go (int_lt last drift.to) is
  where
    most : (over : Bool) → int_lt drift.to (last +ℤ drift.by) ≡ over →
        (int_le drift.from (cond over drift.to (last +ℤ drift.by)) ≡ true)
        × (int_le (cond over drift.to (last +ℤ drift.by)) drift.to ≡ true)
    most true over = (at_least drift.from drift.to wide, self_least drift.to)
    most false over = (
      step_up drift.from last drift.by rises risen,
      at_least (last +ℤ drift.by) drift.to over,
    )

    go : (left : Bool) → (if left then Some (at_most drift.to (last +ℤ drift.by)) else None) ≡ Some value →
        (int_le drift.from value ≡ true) × (int_le value drift.to ≡ true)
    go false is = cc
    go true is =
        subst (λ value. (int_le drift.from value ≡ true) × (int_le value drift.to ≡ true))
        (same_Some (at_most drift.to (last +ℤ drift.by)) value is) (most (int_lt drift.to (last +ℤ drift.by)) refl)

-- ---- one drift

-- what a sound drift's numbers keep
sound_numbers : (d : PlainDescription) (drift : Drift) → is_drift_sound d drift ≡ true →
    (found_drifts (variable_named drift.name d) ≡ true)
    × ((int_lt drift.by (pos 1) ≡ false) × (int_lt drift.to drift.from ≡ false))
sound_numbers d drift sound =
    let outer = and_parts (found_drifts (variable_named drift.name d))
    (not (int_lt drift.by (pos 1)) && not (int_lt drift.to drift.from)) sound in
    let inner = and_parts (not (int_lt drift.by (pos 1))) (not (int_lt drift.to drift.from)) outer.1 in
    (outer.0, (not-true (int_lt drift.by (pos 1)) inner.0, not-true (int_lt drift.to drift.from) inner.1))

-- the next value of a kept drift is from its first to its greatest
kept_within : (d : PlainDescription) (drift : SimDrift) (value : ℤ) → IsDriftKept d drift →
    next_value (drift_in drift) drift.last ≡ Some value →
    (int_le drift.from value ≡ true) × (int_le value drift.to ≡ true)
kept_within d drift value kept next =
    let numbers = sound_numbers d (drift_in drift) kept.sound in
    next_within (drift_in drift) drift.last value numbers.1.0 numbers.1.1 kept.risen next

-- so the drift is kept when it was reported with it
reported_kept : (d : PlainDescription) (drift : SimDrift) (value : ℤ) → IsDriftKept d drift →
    next_value (drift_in drift) drift.last ≡ Some value → IsDriftKept d (reported_at drift value)
reported_kept d drift value kept next =
    record { sound = kept.sound; ranged = kept.ranged; risen = (kept_within d drift value kept next).0 }

-- a value that is told is the next one
told_next : (executing : Bool) (drift : SimDrift) (value : ℤ) → value_told executing drift ≡ Some value →
    next_value (drift_in drift) drift.last ≡ Some value
told_next executing drift value is = go (executing || is_none drift.last) is
  where
    go : (tells : Bool) → (if tells then next_value (drift_in drift) drift.last else None) ≡ Some value →
        next_value (drift_in drift) drift.last ≡ Some value
    go true is = is
    go false is = cc

-- a value from the first to the greatest of a drift fits a variable that can drift
fits : (drift : Drift) (value : ℤ) (found : ViewKind) → can_drift found ≡ true → is_drift_ranged drift ≡ true →
    (int_le drift.from value ≡ true) × (int_le value drift.to ≡ true) → view_fault found (Whole value) ≡ None
fits drift value kind.Ana can ranged within = refl
fits drift value kind.DInt can ranged within =
    let outer = and_parts (is_within least_i32 greatest_i32 drift.from)
    (is_within least_i32 greatest_i32 drift.by && is_within least_i32 greatest_i32 drift.to) ranged in
    let inner = and_parts (is_within least_i32 greatest_i32 drift.by) (is_within least_i32 greatest_i32 drift.to)
    outer.1 in
    let low = and_parts (int_le least_i32 drift.from) (int_le drift.from greatest_i32) outer.0 in
    let high = and_parts (int_le least_i32 drift.to) (int_le drift.to greatest_i32) inner.1 in
    rw (
      least_through least_i32 drift.from value low.0 within.0,
      least_through value drift.to greatest_i32 within.1 high.1,
    ) refl
fits drift value kind.Bin can ranged within = cc
fits drift value kind.Text can ranged within = cc

-- ---- ticks and commands

-- a tick that looks at a drift keeps each
drift_ticked : (d : PlainDescription) (drifts : List SimDrift) (place : ℕ) (drift : SimDrift) (told : Option ℤ) →
    AllByRecursion (IsDriftKept d) drifts → slice_get drifts place ≡ Some drift →
    ((value : ℤ) → told ≡ Some value → next_value (drift_in drift) drift.last ≡ Some value) →
    AllByRecursion (IsDriftKept d) (drifts_after drifts place drift told)
drift_ticked d drifts place drift None kept here next = kept
drift_ticked d drifts place drift (Some value) kept here next =
    all_set (IsDriftKept d) drifts place (reported_at drift value) kept
    (reported_kept d drift value (all_at (IsDriftKept d) drifts place drift kept here) (next value refl))

-- a tick
pub drifts_ticked : TicksKeepDrifts
drifts_ticked sim kept = go (service_here sim) (drift_here sim) refl
  where
    go : (service : Option SimService) (drift : Option SimDrift) → drift_here sim ≡ drift →
        AreDriftsKept (ticked_at sim service)
    go (Some service) drift here = kept
    go None None here = rw here kept
    go None (Some drift) here = rw here
        (drift_ticked sim.description sim.drifts (sim.place - length sim.services) drift
        (value_told (is_executing sim.services) drift) kept here (told_next (is_executing sim.services) drift))

-- a command
pub drifts_commanded : CommandsKeepDrifts
drifts_commanded sim service command procedure kept = by_place (place_of service sim)
  where
    by_taken : (place : ℕ) (taken : Option SimService) →
        AreDriftsKept (after_command sim (option_map (with_service sim place) taken))
    by_taken place None = kept
    by_taken place (Some after) = kept

    by_service : (place : ℕ) (found : Option SimService) →
        AreDriftsKept (after_command sim (option_and_then
        (λ service. option_map (with_service sim place) (service_took sim.description service command procedure))
        found))
    by_service place None = kept
    by_service place (Some found) = by_taken place (service_took sim.description found command procedure)

    by_place : (place : Option ℕ) →
        AreDriftsKept (after_command sim (option_and_then (took_at sim command procedure) place))
    by_place None = kept
    by_place (Some place) = by_service place (slice_get sim.services place)

-- ---- new simulators

-- a positive number is its size
size_of : (by : ℤ) → int_lt by (pos 1) ≡ false → pos (nat_abs by) ≡ by
size_of (pos n) rises = refl
size_of (negsuc n) rises = let clash : int_lt (negsuc n) (pos 1) ≡ true = grind (arith, ints) in cc

-- the drifts of a sound plan are kept as they are
drifts_same : (d : PlainDescription) (drifts : List Drift) → list_all (is_drift_sound d) drifts ≡ true →
    map drift_in (map first_drift drifts) ≡ drifts
drifts_same d [] sound = refl
drifts_same d (drift ∷ others) sound =
    let parts = and_parts (is_drift_sound d drift) (list_all (is_drift_sound d) others) sound in
    let numbers = sound_numbers d drift parts.0 in
    rw (drifts_same d others parts.1, size_of drift.by numbers.1.0) refl

-- plans
pub plans_kept : PlansAreKept
plans_kept d plan sound unlike = (
  drifts_same d plan.drifts sound,
  repeats_map first_drift is_same_drift plan.drifts ∙ not-true (repeats_by same_drift plan.drifts) unlike,
)

-- the drifts of a plan that is sound and in its ranges are kept at first
firsts_kept : (d : PlainDescription) (drifts : List Drift) → list_all is_drift_ranged drifts ≡ true →
    list_all (is_drift_sound d) drifts ≡ true → AllByRecursion (IsDriftKept d) (map first_drift drifts)
firsts_kept d [] ranged sound = tt
firsts_kept d (drift ∷ others) ranged sound =
    let ranges = and_parts (is_drift_ranged drift) (list_all is_drift_ranged others) ranged in
    let sounds = and_parts (is_drift_sound d drift) (list_all (is_drift_sound d) others) sound in
    let same : drift_in (first_drift drift) ≡ drift =
    rw (size_of drift.by (sound_numbers d drift sounds.0).1.0) refl in (
      record {
        sound = ap (is_drift_sound d) same ∙ sounds.0;
        ranged = ap is_drift_ranged same ∙ ranges.0;
        risen = refl;
      },
      firsts_kept d others ranges.1 sounds.1,
    )

-- a new simulator
pub first_drifts_kept : FirstDriftsAreKept
first_drifts_kept d plan ranged sound =
    let one = and_parts (is_between 1 MOST_TICKS plan.ticks)
    (is_between 1 MOST_TICKS plan.run
    && (is_between 0 MOST_DRIFTS (length plan.drifts) && list_all is_drift_ranged plan.drifts))
    ranged in
    let two = and_parts (is_between 1 MOST_TICKS plan.run)
    (is_between 0 MOST_DRIFTS (length plan.drifts) && list_all is_drift_ranged plan.drifts) one.1 in
    let three = and_parts (is_between 0 MOST_DRIFTS (length plan.drifts))
    (list_all is_drift_ranged plan.drifts) two.1 in
    firsts_kept d plan.drifts three.1 sound

-- ---- values

-- a report of a value comes from a tick that looks at a drift
record FromDrift (sim : PlainSim) (name : List ℕ) (value : Value) : Type 0 where
  drift : SimDrift
  here : slice_get sim.drifts (sim.place - length sim.services) ≡ Some drift
  name_is : drift.name ≡ name
  number : ℤ
  value_is : Whole number ≡ value
  next : next_value (drift_in drift) drift.last ≡ Some number

-- every report of a value does
from_drift : (sim : PlainSim) (name : List ℕ) (value : Value) → tick_report sim ≡ Some (Variable name value) →
    FromDrift sim name value
from_drift sim name value is = go (service_here sim) is
  where
    names_of : (a b : List ℕ) (x y : Value) → Variable a x ≡ Variable b y → (a ≡ b) × (x ≡ y)
    names_of a b x y e = (cc, cc)

    by_value : (drift : SimDrift) → drift_here sim ≡ Some drift → (told : Option ℤ) →
        value_told (is_executing sim.services) drift ≡ told →
        option_map (variable_report drift.name) told ≡ Some (Variable name value) → FromDrift sim name value
    by_value drift here None tells is = cc
    by_value drift here (Some number) tells is =
        let parts = names_of drift.name name (Whole number) value
        (same_Some (variable_report drift.name number) (Variable name value) is) in
        record {
          drift = drift;
          here = here;
          name_is = parts.0;
          number = number;
          value_is = parts.1;
          next = told_next (is_executing sim.services) drift number tells;
        }

    by_drift : (drift : Option SimDrift) → drift_here sim ≡ drift →
        drift_report sim drift ≡ Some (Variable name value) → FromDrift sim name value
    by_drift None here is = cc
    by_drift (Some drift) here is = by_value drift here (value_told (is_executing sim.services) drift) refl is

    go : (service : Option SimService) → report_by sim service ≡ Some (Variable name value) → FromDrift sim name value
    go None is = by_drift (drift_here sim) refl is
    go (Some service) is = holds (is_reported sim.description (limit_of sim service) service) is
      where
        holds : (b : Bool) →
            (if b then Some (report_of sim.description (ticked_service sim service)) else None)
            ≡ Some (Variable name value) → FromDrift sim name value
        holds false is = cc
        holds true is = cc

-- the item at a place stands within the list
pub place_within : {A : Type 0} (xs : List A) (i : ℕ) (x : A) → slice_get xs i ≡ Some x → i < length xs
place_within [] i x at = cc
place_within (first ∷ others) zero x at = omega arith
place_within (first ∷ others) (suc i) x at = let within : i < length others = place_within others i x at in omega arith

-- so it is among its items
among : {A : Type 0} (xs : List A) (i : ℕ) (x : A) → slice_get xs i ≡ Some x → Contains xs x
among xs i x at = subst (Contains xs) (get_or_from_slice_get xs i x x at)
    (Contains-get_or xs i x (place_within xs i x at))

-- the image of an item stands in its place
image_at : {A B : Type 0} (image : A → B) (xs : List A) (place : ℕ) (item : A) → slice_get xs place ≡ Some item →
    slice_get (map image xs) place ≡ Some (image item)
image_at image [] place item at = cc
image_at image (first ∷ others) zero item at = ap (λ each. Some (image each)) (same_Some first item at)
image_at image (first ∷ others) (suc place) item at = image_at image others place item at

-- a number that fits whatever kind is found, where what is found can drift
fits_found : (drift : Drift) (value : ℤ) (d : PlainDescription) → found_drifts (variable_named drift.name d) ≡ true →
    is_drift_ranged drift ≡ true → (int_le drift.from value ≡ true) × (int_le value drift.to ≡ true) →
    (no_variable drift.name d ≡ None) × (value_misfit drift.name (Whole value) d ≡ None)
fits_found drift value d drifts ranged within = go (variable_named drift.name d) refl drifts
  where
    go : (found : Option PlainVariable) → variable_named drift.name d ≡ found → found_drifts found ≡ true →
        (no_variable drift.name d ≡ None) × (value_misfit drift.name (Whole value) d ≡ None)
    go None is drifts = cc
    go (Some found) is drifts = (rw is refl, rw (is, fits drift value found.kind drifts ranged within) refl)

-- the reports of values
pub values_allowed : ValuesAreAllowed
values_allowed site tag history sim at count name value docked_is space step kept gives =
    let from = from_drift sim name value gives in
    let drift = from.drift in
    let d = sim.description in
    let its = all_at (IsDriftKept d) sim.drifts (sim.place - length sim.services) drift kept from.here in
    let within = kept_within d drift from.number its from.next in
    let fit = fits_found (drift_in drift) from.number d (sound_numbers d (drift_in drift) its.sound).0
    its.ranged within in
    let last : whole_in (value_by drift.name (past tag history)) ≡ drift.last =
    subst (λ f. IsDriftTold f (whole_in (value_by drift.name (past tag history))))
    (called_at (λ (each : SimDrift). each.name) sim.drifts (sim.place - length sim.services) drift drift.name
    step.unlike_drifts from.here (same_refl drift.name)) (step.drifts drift.name) in
    let none : no_variable name d ≡ None = ap (λ n. no_variable n d) (sym from.name_is) ∙ fit.0 in
    let fitting : value_misfit name value d ≡ None =
    ap (λ n. value_misfit n value d) (sym from.name_is) ∙ ap (λ v. value_misfit drift.name v d) (sym from.value_is)
    ∙ fit.1 in
    record {
      accepted = rw (space, docked_is, step.described, none, fitting) refl;
      drift = drift_in drift;
      listed = subst (λ p. Contains (drifts_in p) (drift_in drift)) (sym step.planned)
          (among (map drift_in sim.drifts) (sim.place - length sim.services) (drift_in drift)
          (image_at drift_in sim.drifts (sim.place - length sim.services) drift from.here));
      name_is = from.name_is;
      next = ap (λ n. option_map Whole (next_value (drift_in drift) (whole_in (value_by n (past tag history)))))
          (sym from.name_is) ∙ ap (λ l. option_map Whole (next_value (drift_in drift) l)) last
          ∙ ap (option_map Whole) from.next ∙ ap Some from.value_is;
    }
