-- A line that a store met: from the clauses of `Kept::admit`.
use Rattle.std.proofs.Common.{ℕ, ◌≡◌, ◌+◌, inl, inr, Bool, true, false, List, [], ◌∷◌, refl, sym, ◌∙◌, ap}
use Rattle.std.proofs.Common.{arith, append-nil}
use Rattle.std.specs.Prelude.{if◌then◌else◌, IsTrue, OnOk, Result, Ok, Err}
use Rattle.std.specs.Result.{is_ok}
use Rattle.pol_kept.specs.Keeping.{KeptState, items_of}
use Rattle.pol_kept.specs.Refusals.{Refuses}
use Rattle.pol_kept.specs.Work.{ChronicleWork, IsLawful}
use Rattle.pol_kept.specs.declared.kept.KeptRefusal.{KeptRefusal}
use Rattle.pol_kept.specs.declared.kept.KeptRefusal.TheVariants as of_item
use Rattle.kept_jobs.specs.Keeping.{Adds, Admits}

-- what is false isn't true
pub no_both : (closed : Bool) → closed ≡ false → closed ≡ true → ⊥
no_both true isnt is = cc
no_both false isnt is = cc

-- what holds where a reply was made, holds where it was whole
pub when_whole : {A E P : Type 0} (made : Result A E) → OnOk made P → IsTrue (is_ok made) → P
when_whole (Ok done) holds whole = holds
when_whole (Err fault) holds whole = cc

-- the same items, of which as many wait
pub adds_none : {Item : Type 0} {old now due : List Item} {waiting waiting' : ℕ} → now ≡ old → waiting' ≡ waiting →
    Adds old waiting now waiting' due
adds_none {Item} {old} same many = record {
  more = [];
  are = same ∙ sym (append-nil old);
  many = omega (arith, many);
  all = inl refl;
}

module _ {State Item Answer : Type 0} (work : ChronicleWork State Item Answer) {C D : Type 0} (state : C → State) where
  -- a store that nothing was asked
  pub untouched : (store : KeptState C D) (due : List Item) → Admits work state store store due
  untouched store due = record {
    uncalled = refl;
    closed = refl;
    adds = adds_none refl refl;
  }

  module _ (before now : KeptState C D) (uncalled : now.disk ≡ before.disk) (closed : now.closed ≡ before.closed) where
    -- an item was admitted: where it is kept it waits behind the others
    pub admitted : IsLawful work → (item : Item) →
        state now.chronicle ≡ work.after (state before.chronicle) item →
        now.waiting ≡ (if work.keeps (work.answer_of (state before.chronicle) item) then before.waiting + 1
        else before.waiting) →
        Admits work state before now (work.items (work.after (state before.chronicle) item))
    admitted lawful item after count =
        record { uncalled = uncalled; closed = closed; adds = by_kept (work.keeps answer) refl }
      where
        answer : Answer
        answer = work.answer_of (state before.chronicle) item

        due : List Item
        due = work.items (work.after (state before.chronicle) item)

        counted : (is_kept : Bool) → work.keeps answer ≡ is_kept →
            now.waiting ≡ (if is_kept then before.waiting + 1 else before.waiting)
        counted is_kept is = count ∙ ap (λ (b : Bool). if b then before.waiting + 1 else before.waiting) is

        by_kept : (is_kept : Bool) → work.keeps answer ≡ is_kept →
            Adds (items_of work state before) before.waiting (items_of work state now) now.waiting due
        by_kept true is = record {
          more = item ∷ [];
          are = ap work.items after ∙ lawful.grows (state before.chronicle) item is;
          many = counted true is;
          all = inr (ap work.items after);
        }
        by_kept false is =
            adds_none (ap work.items (after ∙ lawful.stays (state before.chronicle) item is)) (counted false is)

    -- it wasn't: nothing happened, whatever was due
    pub refused : (faults : D → ℕ) (IsSame : C → C → Type 0) →
        ((old new : C) → IsSame old new → state new ≡ state old) → {T : Type 0} (item : T) (refusal : KeptRefusal T)
        (due : List Item) → Refuses faults IsSame before now item refusal → Admits work state before now due
    refused faults IsSame same item refusal due refuses = record {
      uncalled = uncalled;
      closed = closed;
      adds = by_refusal refusal refuses;
    }
      where
        by_refusal : (refusal : KeptRefusal _) → Refuses faults IsSame before now item refusal →
            Adds (items_of work state before) before.waiting (items_of work state now) now.waiting due
        by_refusal (of_item.Memory back) refuses =
            adds_none (ap work.items (same before.chronicle now.chronicle refuses.3)) refuses.4
        by_refusal of_item.Disk refuses = absurd (no_both now.closed (closed ∙ refuses.0) refuses.1)
        by_refusal (of_item.Closed back) refuses =
            adds_none (ap (items_of work state) refuses.2) (ap (λ (store : KeptState C D). store.waiting) refuses.2)
