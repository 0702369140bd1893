-- Which item a text is that of, and what is found where a record should be.
use Rattle.std.specs.Prelude.{◌≡◌, ◌<◌, ◌^◌, ℕ, List, ◌∷◌, length, Option, Some, None}
use Rattle.pol_texts.specs.Stands.{BeginsWith}
use Rattle.pol_texts.specs.Settled.{behind_gate}
use Rattle.pol_kept.specs.Work.{ChronicleWork}
use Rattle.pol_kept.specs.Stands.{IsBroken}
use Rattle.pol_kept.specs.declared.records.Next.{Next}
use Rattle.pol_kept.specs.declared.records.Next.TheVariants.{Closed, Record, Broken}

-- what is asked of an item holds of this one, where there is one
abbrev pub SoundOption : {T Item : Type 0} → (Item → Type 0) → (T → Item) → Option T → Type 0
SoundOption IsSound plain (Some item) = IsSound (plain item)
SoundOption IsSound plain None = Unit {0}

module _ {State Item Answer : Type 0} (work : ChronicleWork State Item Answer) {T : Type 0} (plain : T → Item)
    (before : List Item) where
  -- the item of a text, if it is that of one
  abbrev pub Names : List ℕ → Option T → Type 0
  Names text (Some item) = work.IsTextOf before (plain item) text
  Names text None = (item : Item) → work.IsTextOf before item text → ⊥

  -- the bytes begin with a record of the text, which is that of the item
  pub record IsRecord (bytes : List ℕ) (item : Item) (text : List ℕ) : Type 0 where
    pub behind : List ℕ
    pub begins : BeginsWith text bytes behind
    pub names : work.IsTextOf before item text

  -- what comes next: a closed gate, a record, or neither; behind as many records as can be there is no further one
  abbrev pub IsNext : List ℕ → Next T → Type 0
  IsNext bytes Closed = (behind : List ℕ) × (bytes ≡ 0 ∷ behind)
  IsNext bytes (Record item text) = IsRecord bytes (plain item) text.now × (length before < work.most)
  IsNext bytes Broken = IsBroken work before bytes

-- what is asked of an item holds of the item of a record that was found
abbrev pub SoundNext : {T Item : Type 0} → (Item → Type 0) → (T → Item) → Next T → Type 0
SoundNext IsSound plain (Record item text) = IsSound (plain item)
SoundNext IsSound plain _ = Unit {0}

-- what is written behind the closed gate for a text
pub record WritesBehind (text behind : List ℕ) : Type 0 where
  pub counted : length text < 2 ^ 64
  pub is : behind ≡ behind_gate text
