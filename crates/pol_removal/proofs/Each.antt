-- What holds of each element of a list, and of what is found there.
use Rattle.std.proofs.Common.{◌≡◌, Bool, true, false, cond, List, [], ◌∷◌, refl, ◌∙◌, Option, Some, None}
use Rattle.std.specs.Prelude.{filter}
use Rattle.std.specs.List.{AllByRecursion}
use Rattle.std.specs.Option.{option_or}
use Rattle.pol_events.specs.Events.{PlainEntry}
use Rattle.pol_history.specs.Looking.{History, last_of}

-- what follows from a fact for each item follows for all of them
pub all_map : {X : Type 0} (P Q : X → Type 0) → ((x : X) → P x → Q x) → (xs : List X) → AllByRecursion P xs
    → AllByRecursion Q xs
all_map P Q next [] all = tt
all_map P Q next (x ∷ xs) all = (next x all.0, all_map P Q next xs all.1)

-- what holds of each element holds of those that are kept, and they pass the test
pub all_kept : {X : Type 0} (P : X → Type 0) (keeps : X → Bool) (xs : List X) → AllByRecursion P xs →
    AllByRecursion (λ x. P x × (keeps x ≡ true)) (filter keeps xs)
all_kept P keeps [] all = tt
all_kept {X} P keeps (x ∷ xs) all = go (keeps x) refl (all_kept P keeps xs all.1)
  where
    go : (kept : Bool) → keeps x ≡ kept → AllByRecursion (λ x. P x × (keeps x ≡ true)) (filter keeps xs) →
        AllByRecursion (λ x. P x × (keeps x ≡ true)) (cond kept (x ∷ filter keeps xs) (filter keeps xs))
    go true is rest = ((all.0, is), rest)
    go false is rest = rest

-- what the newest entry says that says something, an entry says of which P holds
pub last_of_all : {A : Type 0} (P : PlainEntry → Type 0) (says : PlainEntry → Option A) (history : History) (x : A) →
    AllByRecursion P history → last_of says history ≡ Some x → (entry : PlainEntry) × P entry × (says entry ≡ Some x)
last_of_all P says [] x all is = cc
last_of_all {A} P says (entry ∷ history) x all is = go (says entry) refl is (last_of_all P says history x all.1)
  where
    go : (said : Option A) → says entry ≡ said → option_or said (last_of says history) ≡ Some x →
        (last_of says history ≡ Some x → (entry : PlainEntry) × P entry × (says entry ≡ Some x)) →
        (entry : PlainEntry) × P entry × (says entry ≡ Some x)
    go (Some y) says_it is older = (entry, all.0, says_it ∙ is)
    go None says_it is older = older is
