-- What is read from the body of a record.
use Rattle.std.specs.Prelude.{ℕ, ◌≡◌, List, ◌∷◌, ◌++◌, IsTrue, Option, Some, None}
use Rattle.pol_ledger.specs.Builds.{is_build}
use Rattle.pol_ledger.specs.Items.{IsInForm, IsWho, PlainItem, body_of, plain_item, who_bytes}
use Rattle.pol_ledger.specs.declared.items.LedgerItem.{LedgerItem}

-- what a header's body has behind its kind: the version, and what names the build; None where it has not
abbrev pub NamesBuild : List ℕ → Option (List ℕ) → Type 0
NamesBuild rest (Some build) = (rest ≡ 1 ∷ build) × IsTrue (is_build build)
NamesBuild rest None = (build : List ℕ) → IsTrue (is_build build) → rest ≡ 1 ∷ build → ⊥

-- the bytes begin with those of who asked, and these follow
pub record BeginsWithWho (bytes : List ℕ) (by : Option (List ℕ)) (behind : List ℕ) : Type 0 where
  pub begins : bytes ≡ who_bytes by ++ behind
  pub form : IsWho by

-- the bytes don't begin with those of anybody
abbrev pub BeginsWithNobody : List ℕ → Type 0
BeginsWithNobody bytes = (by : Option (List ℕ)) (behind : List ℕ) → BeginsWithWho bytes by behind → ⊥

-- the item whose body this is; None where it is that of no item in form
abbrev pub NamesItem : List ℕ → Option LedgerItem → Type 0
NamesItem body (Some item) = (body ≡ body_of (plain_item item)) × IsInForm (plain_item item)
NamesItem body None = (item : PlainItem) → IsInForm item → body ≡ body_of item → ⊥
