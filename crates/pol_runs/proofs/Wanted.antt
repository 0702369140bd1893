-- The first active step from a number on, and the first active step of a role.
use Rattle.std.proofs.Common.{◌≡◌, ℕ, ◌≤◌, Bool, true, false, cond, List, [], ◌∷◌, map, Option, Some, None, refl, ap}
use Rattle.std.proofs.Common.{sym, ◌∙◌, arith}
use Rattle.std.specs.Prelude.{◌&&◌, nat_le, filter}
use Rattle.std.specs.List.{Contains}
use Rattle.std.proofs.lemmas.Bool.{le-leb}
use Rattle.chart_core.specs.Trees.{Placed, PlainStep}
use Rattle.chart_cursor.specs.Running.{has_role, is_wanted, first_placed, running_step}
use Rattle.chart_cursor.specs.declared.running.RunningStep.{RunningStep}
use Rattle.pol_events.proofs.Lists.{member_first, member_later}

-- the first of these steps
abbrev pub first_step : List Placed → Option RunningStep
first_step [] = None
first_step (placed ∷ others) = Some (running_step placed.number placed.step)

-- the steps that pass the test, from a number on
abbrev pub late : ℕ → (Placed → Bool) → List Placed → List Placed
late from test each = filter (λ placed. nat_le from placed.number && test placed) each

-- every number is one from 0 on
pub from_zero : (n : ℕ) → nat_le 0 n ≡ true
from_zero n = let low : 0 ≤ n = omega arith in le-leb 0 n low

-- two tests that agree on each member keep the same
pub filter_same : {X : Type 0} (one other : X → Bool) (xs : List X) → ((x : X) → Contains xs x → one x ≡ other x) →
    filter one xs ≡ filter other xs
filter_same one other [] same = refl
filter_same one other (x ∷ xs) same =
    ap (λ kept. cond kept (x ∷ filter one xs) (filter one xs)) (same x (member_first x xs))
    ∙ ap (λ rest. cond (other x) (x ∷ rest) rest)
    (filter_same one other xs (λ y inside. same y (member_later x y xs inside)))

-- of what one test keeps, what another keeps is what both keep
pub filter_twice : {X : Type 0} (one other : X → Bool) (xs : List X) →
    filter other (filter one xs) ≡ filter (λ x. one x && other x) xs
filter_twice one other [] = refl
filter_twice {X} one other (x ∷ xs) = go (one x) (filter_twice one other xs)
  where
    go : (kept : Bool) → filter other (filter one xs) ≡ filter (λ x. one x && other x) xs →
        filter other (cond kept (x ∷ filter one xs) (filter one xs))
        ≡ cond (kept && other x) (x ∷ filter (λ x. one x && other x) xs) (filter (λ x. one x && other x) xs)
    go true rest = ap (λ rest. cond (other x) (x ∷ rest) rest) rest
    go false rest = rest

-- the steps that pass a test are the same whether the test looks at a step's number or, with the same result, doesn't
pub mapped_filter : (test : Placed → Bool) (says : PlainStep → Bool) (each : List Placed) →
    ((placed : Placed) → Contains each placed → test placed ≡ says placed.step) →
    map (λ placed. placed.step) (filter test each) ≡ filter says (map (λ placed. placed.step) each)
mapped_filter test says [] same = refl
mapped_filter test says (placed ∷ each) same =
    ap (λ kept. map (λ (placed : Placed). placed.step) (cond kept (placed ∷ filter test each) (filter test each)))
    (same placed (member_first placed each))
    ∙ go (says placed.step)
    (mapped_filter test says each (λ other inside. same other (member_later placed other each inside)))
  where
    go : (kept : Bool) →
        map (λ placed. placed.step) (filter test each) ≡ filter says (map (λ placed. placed.step) each) →
        map (λ (placed : Placed). placed.step) (cond kept (placed ∷ filter test each) (filter test each))
        ≡ cond kept (placed.step ∷ filter says (map (λ placed. placed.step) each))
        (filter says (map (λ placed. placed.step) each))
    go true rest = ap (λ rest. placed.step ∷ rest) rest
    go false rest = rest

-- the first wanted one, from a number on, of those that pass a test is the first wanted one of those that pass both
pub wanted_late : (from : ℕ) (role : Option (List ℕ)) (test : Placed → Bool) (each : List Placed) →
    first_placed (is_wanted from role) (filter test each) ≡ first_placed (is_wanted 0 role) (late from test each)
wanted_late from role test [] = refl
wanted_late from role test (placed ∷ each) =
    go (test placed) (nat_le from placed.number) refl (wanted_late from role test each)
  where
    own : Bool
    own = has_role role placed.step

    found : Option RunningStep
    found = Some (running_step placed.number placed.step)

    rest_late : List Placed
    rest_late = late from test each

    go : (passes high : Bool) → nat_le from placed.number ≡ high →
        first_placed (is_wanted from role) (filter test each) ≡ first_placed (is_wanted 0 role) (late from test each) →
        first_placed (is_wanted from role) (cond passes (placed ∷ filter test each) (filter test each))
        ≡ first_placed (is_wanted 0 role)
        (cond (nat_le from placed.number && passes) (placed ∷ late from test each) (late from test each))
    go true true is rest =
        ap (λ high. cond (high && own) found (first_placed (is_wanted from role) (filter test each)))
        (is ∙ sym (from_zero placed.number))
        ∙ ap (cond (nat_le 0 placed.number && own) found) rest
        ∙ ap (λ high. first_placed (is_wanted 0 role) (cond (high && true) (placed ∷ rest_late) rest_late)) (sym is)
    go true false is rest =
        ap (λ high. cond (high && own) found (first_placed (is_wanted from role) (filter test each))) is
        ∙ rest
        ∙ ap (λ high. first_placed (is_wanted 0 role) (cond (high && true) (placed ∷ rest_late) rest_late)) (sym is)
    go false high is rest = rest ∙ ap (first_placed (is_wanted 0 role)) (sym (none (nat_le from placed.number)))
      where
        none : (high : Bool) → cond (high && false) (placed ∷ rest_late) rest_late ≡ rest_late
        none true = refl
        none false = refl

-- every step is wanted from 0 on
all_wanted : (each : List Placed) → first_placed (is_wanted 0 None) each ≡ first_step each
all_wanted [] = refl
all_wanted (placed ∷ each) =
    ap (λ low.
    cond (low && true) (Some (running_step placed.number placed.step)) (first_placed (is_wanted 0 None) each))
    (from_zero placed.number)

-- the first of those that pass a test, from a number on
pub wanted_first : (from : ℕ) (test : Placed → Bool) (each : List Placed) →
    first_placed (is_wanted from None) (filter test each) ≡ first_step (late from test each)
wanted_first from test each = wanted_late from None test each ∙ all_wanted (late from test each)
