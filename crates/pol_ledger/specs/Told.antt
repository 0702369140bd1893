-- What the sum of the last record determines.
use Rattle.std.specs.Prelude.{◌≡◌, ◌≢◌, ◌⊎◌, ℕ, List}
use Rattle.sha2.specs.Sha256.{sha256}
use Rattle.pol_kept.specs.Stands.{StandsFor}
use Rattle.pol_ledger.specs.Items.{PlainItem, sum_of}
use Rattle.pol_ledger.specs.Work.{IsTextOf, ledger_work}

-- two messages that differ have one SHA-256
pub record HasCollision : Type 0 where
  pub one : List ℕ
  pub other : List ℕ
  pub differ : one ≢ other
  pub same : sha256 one ≡ sha256 other

-- Where two images stand for ledgers with one sum, they stand for the same items, or two messages are at hand that have
-- one SHA-256.
abbrev pub SumsTellItems : Type 0
SumsTellItems =
    (image other : List ℕ) (items others : List PlainItem) → StandsFor ledger_work items image
    → StandsFor ledger_work others other → sum_of items ≡ sum_of others → (items ≡ others) ⊎ HasCollision

-- Where a text is that of a record behind the items of two images, these are the same, or two messages are at hand that
-- have one SHA-256: a record that is put behind others than its own doesn't follow.
abbrev pub RecordsFollowOne : Type 0
RecordsFollowOne =
    (image other : List ℕ) (items others : List PlainItem) → StandsFor ledger_work items image
    → StandsFor ledger_work others other → (one last : PlainItem) (text : List ℕ) → IsTextOf items one text
    → IsTextOf others last text → (items ≡ others) ⊎ HasCollision
