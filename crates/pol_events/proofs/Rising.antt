-- Binds in byte order of roles.
use Rattle.std.proofs.Common.{◌≡◌, ◌≤◌, List, [], ◌∷◌, length, Bool, true, false, ◌&&◌, Ordering, Less, Equal, Greater}
use Rattle.std.proofs.Common.{refl, sym, ap, ◌∙◌, true≢false, arith}
use Rattle.std.proofs.lemmas.Bool.{and_parts}
use Rattle.std.proofs.lemmas.Cmp.{nat_list_cmp_total}
use Rattle.std.proofs.lemmas.Map.Text.{is_eq-slice_cmp}
use Rattle.std.specs.Cmp.Lexicographic.{slice_cmp}
use Rattle.std.specs.List.{list_all}
use Rattle.std.specs.Ordering.{is_eq, is_lt, match_ordering, nat_cmp}
use Rattle.std.specs.Prelude.{not}
use Rattle.std.specs.Str.{bytes_eq}
use Rattle.pol_events.specs.ByRole.{with_bind, by_role}
use Rattle.pol_events.specs.Orderly.{rise, roles_once, stands_before}
use Rattle.pol_events.specs.declared.event.Bind.{Bind}

-- how the roles of two binds compare
abbrev pub compared : Bind → Bind → Ordering
compared bind other = slice_cmp nat_cmp bind.role other.role

-- only the order less is less
pub less : (order : Ordering) → is_lt order ≡ true → order ≡ Less
less Less is = refl
less Equal is = absurd (true≢false (sym is))
less Greater is = absurd (true≢false (sym is))

-- the bind comes before the first of the others, if there is one
abbrev pub leads : Bind → List Bind → Bool
leads bind [] = true
leads bind (next ∷ binds) = stands_before bind next

-- rising is asked of the first bind, and then of the others
pub rise_first : (bind : Bind) (binds : List Bind) → rise (bind ∷ binds) ≡ (leads bind binds && rise binds)
rise_first bind [] = refl
rise_first bind (next ∷ binds) = refl

-- where the binds rise, they are in byte order of roles already
pub by_role_rising : (binds : List Bind) → rise binds ≡ true → by_role binds ≡ binds
by_role_rising [] rising = refl
by_role_rising (bind ∷ []) rising = refl
by_role_rising (bind ∷ next ∷ binds) rising =
    let parts = and_parts (stands_before bind next) (rise (next ∷ binds)) rising in
    rw (by_role_rising (next ∷ binds) parts.1, less (compared bind next) parts.0) refl

-- what leads some binds leads them with one more, wherever that is placed
leads_placed : (bind other next : Bind) (binds : List Bind) (order : Ordering) → stands_before bind other ≡ true
    → stands_before bind next ≡ true
    → leads bind (match_ordering order (other ∷ next ∷ binds) (next ∷ binds) (next ∷ with_bind other binds)) ≡ true
leads_placed bind other next binds Less before leading = before
leads_placed bind other next binds Equal before leading = leading
leads_placed bind other next binds Greater before leading = leading

-- so it leads them with a bind that it comes before
leads_with : (bind other : Bind) (binds : List Bind) → stands_before bind other ≡ true → leads bind binds ≡ true
    → leads bind (with_bind other binds) ≡ true
leads_with bind other [] before leading = before
leads_with bind other (next ∷ binds) before leading = leads_placed bind other next binds
    (compared other next) before leading

-- what compares as greater comes behind
reversed : (bind next : Bind) → compared bind next ≡ Greater → stands_before next bind ≡ true
reversed bind next after = rw (nat_list_cmp_total.antisymm next.role bind.role, after) refl

-- binds that rise do so with one more, wherever that is placed
rise_placed : (bind next : Bind) (binds : List Bind) (order : Ordering) → compared bind next ≡ order
    → rise (next ∷ binds) ≡ true → (rise binds ≡ true → rise (with_bind bind binds) ≡ true)
    → rise (match_ordering order (bind ∷ next ∷ binds) (next ∷ binds) (next ∷ with_bind bind binds)) ≡ true
rise_placed bind next binds Less is rising rest = rw (is, rising) refl
rise_placed bind next binds Equal is rising rest = rising
rise_placed bind next binds Greater is rising rest =
    let parts = and_parts (leads next binds) (rise binds) (sym (rise_first next binds) ∙ rising) in
    rw (
      rise_first next (with_bind bind binds),
      leads_with next bind binds
          (reversed bind next is) parts.0,
      rest parts.1,
    ) refl

-- so they rise with any bind
rise_with : (bind : Bind) (binds : List Bind) → rise binds ≡ true → rise (with_bind bind binds) ≡ true
rise_with bind [] rising = refl
rise_with bind (next ∷ binds) rising = rise_placed bind next binds (compared bind next) refl rising
    (rise_with bind binds)

-- binds that were put in byte order of roles rise
pub by_role_rises : (binds : List Bind) → rise (by_role binds) ≡ true
by_role_rises [] = refl
by_role_rises (bind ∷ binds) = rise_with bind (by_role binds) (by_role_rises binds)

-- one more bind makes the list longer by one at most, wherever it is placed
length_placed : (bind next : Bind) (binds : List Bind) (order : Ordering)
    → length (with_bind bind binds) ≤ length (bind ∷ binds)
    → length (match_ordering order (bind ∷ next ∷ binds) (next ∷ binds) (next ∷ with_bind bind binds)) ≤ length
    (bind ∷ next ∷ binds)
length_placed bind next binds Less few = omega arith
length_placed bind next binds Equal few = omega arith
length_placed bind next binds Greater few = omega arith

-- and so with any bind
length_with : (bind : Bind) (binds : List Bind) → length (with_bind bind binds) ≤ length (bind ∷ binds)
length_with bind [] = omega arith
length_with bind (next ∷ binds) = length_placed bind next binds (compared bind next) (length_with bind binds)

-- putting binds in order makes them no more
pub by_role_few : (binds : List Bind) → length (by_role binds) ≤ length binds
by_role_few [] = omega arith
by_role_few (bind ∷ binds) = omega (arith, length_with bind (by_role binds), by_role_few binds)

-- what comes before the first of rising binds comes before each
before_each : (bind next : Bind) (binds : List Bind) → stands_before bind next ≡ true → rise (next ∷ binds) ≡ true
    → list_all (stands_before bind) (next ∷ binds) ≡ true
before_each bind next [] before rising = rw before refl
before_each bind next (other ∷ binds) before rising =
    let parts = and_parts (stands_before next other) (rise (other ∷ binds)) rising in
    let further : stands_before bind other ≡ true =
    ap is_lt (nat_list_cmp_total.trans bind.role next.role other.role (less (compared bind next) before)
    (less (compared next other) parts.0)) in
    rw (before, before_each bind other binds further parts.1) refl

-- the first of rising binds comes before each of the others
pub first_before : (bind : Bind) (binds : List Bind) → rise (bind ∷ binds) ≡ true
    → list_all (stands_before bind) binds ≡ true
first_before bind [] rising = refl
first_before bind (next ∷ binds) rising = let parts =
    and_parts (stands_before bind next) (rise (next ∷ binds)) rising in before_each bind next binds parts.0 parts.1

-- a bind that comes before another names another role
unlike : (bind other : Bind) → stands_before bind other ≡ true → bytes_eq bind.role other.role ≡ false
unlike bind other before = sym (is_eq-slice_cmp bind.role other.role) ∙ ap is_eq (less (compared bind other) before)

-- so it names another role than each behind it
unlike_each : (bind : Bind) (binds : List Bind) → list_all (stands_before bind) binds ≡ true
    → list_all (λ other. not (bytes_eq bind.role other.role)) binds ≡ true
unlike_each bind [] before = refl
unlike_each bind (other ∷ binds) before =
    let parts = and_parts (stands_before bind other) (list_all (stands_before bind) binds) before in
    rw (unlike bind other parts.0, unlike_each bind binds parts.1) refl

-- rising binds name no role twice
pub rising_distinct : (binds : List Bind) → rise binds ≡ true → roles_once binds ≡ true
rising_distinct [] rising = refl
rising_distinct (bind ∷ binds) rising =
    let parts = and_parts (leads bind binds) (rise binds) (sym (rise_first bind binds) ∙ rising) in
    rw (unlike_each bind binds (first_before bind binds rising), rising_distinct binds parts.1) refl
