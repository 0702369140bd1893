-- Binds that are put into an object one after another.
use Rattle.std.proofs.Common.{◌≡◌, ◌<◌, ℕ, suc, ◌+◌, List, [], ◌∷◌, ◌++◌, get_or, length, take, drop, true, Greater}
use Rattle.std.proofs.Common.{refl, sym, ap, ◌∙◌, arith, ◌&&◌, String, Global, string_bytes, string_cmp}
use Rattle.std.proofs.lemmas.Bool.{and_parts}
use Rattle.std.proofs.lemmas.Cmp.{nat_list_cmp_total}
use Rattle.std.proofs.lemmas.List.{take-append-drop}
use Rattle.std.proofs.lemmas.List.Folds.{list_all-append}
use Rattle.std.proofs.Math.Seq.{drop-cons, take-suc}
use Rattle.std.specs.BTreeMap.{insert_entry}
use Rattle.std.specs.List.{list_all}
use Rattle.std.specs.Ordering.{ordering_reverse}
use Rattle.serde_json.specs.Data.{string, put}
use Rattle.serde_json.specs.View.{members_view, view}
use Rattle.serde_json.specs.declared.value.Value.{Value}
use Rattle.serde_json.proofs.Views.{Entry, members_view-insert_entry}
use Rattle.pol_events.specs.declared.event.Bind.{Bind}
use Rattle.pol_events.specs.Orderly.{rise, stands_before}
use Rattle.pol_events.proofs.Rising.{compared, first_before, leads, less, rise_first}
use Rattle.event_json.specs.Ranges.{is_bind_in_range}
use Rattle.event_json.specs.Written.{bind_members}

-- the last of rising binds comes behind the first
last_behind : (bind last : Bind) (binds rest : List Bind) → rise (bind ∷ (binds ++ last ∷ rest)) ≡ true
    → compared last bind ≡ Greater
last_behind bind last binds rest rising =
    let each : (list_all (stands_before bind) binds && list_all (stands_before bind) (last ∷ rest)) ≡ true =
    sym (list_all-append (stands_before bind) binds (last ∷ rest))
    ∙ first_before bind (binds ++ last ∷ rest) rising in
    let later = and_parts (list_all (stands_before bind) binds) (list_all (stands_before bind) (last ∷ rest)) each in
    let here = and_parts (stands_before bind last) (list_all (stands_before bind) rest) later.1 in
    nat_list_cmp_total.antisymm last.role bind.role ∙ ap ordering_reverse (less (compared bind last) here.0)

-- a bind that comes behind all others goes last
put_last : (binds : List Bind) (bind : Bind) (rest : List Bind) → rise (binds ++ bind ∷ rest) ≡ true
    → put bind.role (string bind.tag) (bind_members binds) ≡ bind_members (binds ++ bind ∷ [])
put_last [] bind rest rising = refl
put_last (first ∷ binds) bind rest rising =
    let parts = and_parts (leads first (binds ++ bind ∷ rest)) (rise (binds ++ bind ∷ rest))
    (sym (rise_first first (binds ++ bind ∷ rest)) ∙ rising) in
    rw (last_behind first bind binds rest rising, put_last binds bind rest parts.1) refl

-- the first i binds, the i-th one and the others
cut : (binds : List Bind) (i : ℕ) (bind : Bind) → i < length binds → bind ≡ get_or binds i bind
    → take i binds ++ bind ∷ drop (suc i) binds ≡ binds
cut binds i bind inside is = let here : drop i binds ≡ bind ∷ drop (suc i) binds = drop-cons binds i bind inside
    ∙ ap (λ (x : Bind). x ∷ drop (suc i) binds) (sym is) in ap (λ xs. take i binds ++ xs) (sym here)
    ∙ take-append-drop i binds

-- one bind more
next : (binds : List Bind) (i : ℕ) (bind : Bind) → i < length binds → bind ≡ get_or binds i bind
    → take (i + 1) binds ≡ take i binds ++ bind ∷ []
next binds i bind inside is = let one : i + 1 ≡ suc i = omega arith in ap (λ k. take k binds) one
    ∙ (take-suc binds i bind inside ∙ ap (λ x. take i binds ++ x ∷ []) (sym is))

-- one more bind was put in
pub puts_next : (binds : List Bind) (i : ℕ) (bind : Bind) (old new : List Entry) (key : String Global) (value : Value)
    → rise binds ≡ true → i < length binds → bind ≡ get_or binds i bind
    → string_bytes key ≡ bind.role → view value ≡ string bind.tag → new ≡ insert_entry string_cmp old key value
    → members_view old ≡ bind_members (take i binds) → members_view new ≡ bind_members (take (i + 1) binds)
puts_next binds i bind old new key value rising inside is keyed valued put so_far =
    let whole : rise (take i binds ++ bind ∷ drop (suc i) binds) ≡ true = rw (cut binds i bind inside is) rising in
    rw (put, members_view-insert_entry old key value, keyed, valued, so_far, next binds i bind inside is)
    (put_last (take i binds) bind (drop (suc i) binds) whole)

-- one more bind holds names
pub holds_next : (binds : List Bind) (i : ℕ) (bind : Bind) → i < length binds → bind ≡ get_or binds i bind
    → is_bind_in_range bind ≡ true → list_all is_bind_in_range (take i binds) ≡ true
    → list_all is_bind_in_range (take (i + 1) binds) ≡ true
holds_next binds i bind inside is held so_far = rw (
  next binds i bind inside is,
  list_all-append is_bind_in_range
      (take i binds) (bind ∷ []),
  so_far,
  held,
) refl
