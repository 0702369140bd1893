-- Texts on a disk, all of which a crash leaves.
use Rattle.std.specs.Prelude.{◌≡◌, ◌<◌, ◌^◌, ℕ, List, ◌∷◌, [], ◌++◌, length, Option, Some, ⊤}
use Rattle.pol_disk.specs.Disks.{BothTell, Only}
use Rattle.pol_texts.specs.Stands.{Begins, body_of}

-- bytes are known before and after, or neither before nor after
abbrev pub AreAlike : Option (List ℕ) → Option (List ℕ) → Type 0
AreAlike old new = BothTell (λ (x y : List ℕ). ⊤) old new

-- the bytes of the disk are known to be these, and a crash leaves nothing else
pub record IsSynced (seen : Option (List ℕ)) (images : List ℕ → Type 0) (bytes : List ℕ) : Type 0 where
  pub told : seen ≡ Some bytes
  pub only : Only bytes images

-- the disk has records of these texts and then a closed gate at the end, and a crash leaves nothing else
pub record IsSettled (seen : Option (List ℕ)) (images : List ℕ →
    Type 0) (end : ℕ) (texts : List (List ℕ)) : Type 0 where
  pub bytes : List ℕ
  pub synced : IsSynced seen images bytes
  pub begins : Begins bytes texts
  pub ends : end ≡ length begins.records

-- what is written behind the closed gate: a record's body, and the next closed gate
abbrev pub behind_gate : List ℕ → List ℕ
behind_gate text = body_of text ++ 0 ∷ []

-- records of these texts, each behind a gate of 1
abbrev pub opened_records : List (List ℕ) → List ℕ
opened_records [] = []
opened_records (text ∷ texts) = 1 ∷ (body_of text ++ opened_records texts)

-- what comes behind the gate of the first of these records
abbrev pub group_body : List (List ℕ) → List ℕ
group_body [] = []
group_body (text ∷ texts) = body_of text ++ opened_records texts

-- each text's length fits into eight bytes
abbrev pub AreCounted : List (List ℕ) → Type 0
AreCounted [] = Unit {0}
AreCounted (text ∷ texts) = (length text < 2 ^ 64) × AreCounted texts

-- what is written behind the closed gate for a group of texts, of which there is one at least: the records but the
-- first one's gate, and the next closed gate
pub record IsGroup (group : List (List ℕ)) (behind : List ℕ) : Type 0 where
  pub some : 0 < length group
  pub counted : AreCounted group
  pub is : behind ≡ group_body group ++ 0 ∷ []

-- these bytes wait to be written for these texts: no bytes for no texts
abbrev pub IsStaged : List (List ℕ) → List ℕ → Type 0
IsStaged [] behind = behind ≡ []
IsStaged (text ∷ texts) behind = IsGroup (text ∷ texts) behind
