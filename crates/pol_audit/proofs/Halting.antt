-- Whether a batch is stopped is said by the entries after which it is.
use Rattle.std.proofs.Common.{◌≡◌, Bool, true, false, cond, List, [], ◌∷◌, refl, ap}
use Rattle.std.specs.Prelude.{◌||◌, filter}
use Rattle.std.specs.List.{list_any}
use Rattle.std.proofs.lemmas.Bool.{or_left, or_right}
use Rattle.chart_core.specs.declared.entry.LogEntry.{LogEntry}
use Rattle.chart_cursor.specs.Logs.{has_broken, is_broke, is_stop_asked, was_stopped}
use Rattle.pol_audit.specs.Halts.{is_halt}

-- what a test that keeps them all leaves of those that pass another
any_among : {X : Type 0} (keeps says : X → Bool) → ((x : X) → says x ≡ true → keeps x ≡ true) → (xs : List X) →
    list_any says (filter keeps xs) ≡ list_any says xs
any_among keeps says all [] = refl
any_among keeps says all (x ∷ xs) = go (keeps x) (says x) refl (all x) (any_among keeps says all xs)
  where
    go : (kept said : Bool) → says x ≡ said → (said ≡ true → kept ≡ true) →
        list_any says (filter keeps xs) ≡ list_any says xs →
        list_any says (cond kept (x ∷ filter keeps xs) (filter keeps xs)) ≡ (said || list_any says xs)
    go true said is keep rest = rw is (ap (λ found. said || found) rest)
    go false true is keep rest = let clash : false ≡ true = keep refl in cc
    go false false is keep rest = rest

-- whether it broke
pub broken_among : (log : List LogEntry) → has_broken (filter is_halt log) ≡ has_broken log
broken_among log =
    any_among is_halt is_broke (λ entry is. or_left (is_broke entry) (is_stop_asked entry) is) log

-- whether the operator had it stopped
pub stopped_among : (log : List LogEntry) → was_stopped (filter is_halt log) ≡ was_stopped log
stopped_among log =
    any_among is_halt is_stop_asked (λ entry is. or_right (is_broke entry) (is_stop_asked entry) is) log
