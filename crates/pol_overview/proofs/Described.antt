-- What is told of a module and of a batch by whether it is there.
use Rattle.std.proofs.Common.{◌≡◌, ◌≢◌, ℕ, List, [], ◌∷◌, ◌++◌, Option, Some, None, refl, sym, ap, ◌∙◌}
use Rattle.json.specs.Token as token
use Rattle.json.specs.Token.{Token}
use Rattle.serde_json.specs.Data.{null}
use Rattle.mtp_desc.specs.Plain.{PlainDescription}
use Rattle.pol_history.specs.Batches.{Started, start_of}
use Rattle.pol_history.specs.Looking.{History}
use Rattle.pol_history.specs.Modules.{Docking, absent, docked, away, description_of, docking_of}
use Rattle.pol_core.specs.Calls.{standing_of}
use Rattle.pol_core.specs.declared.standing.Standing.{Standing}
use Rattle.pol_record.specs.Objects.{data_tokens}
use Rattle.pol_overview.specs.Batches.{batch_data, course_data, standing_data}
use Rattle.pol_overview.specs.May.{Allows}
use Rattle.pol_overview.specs.Modules.{described_data, described_or_null, module_data}

-- no module is told where none has the tag
pub told_absent : (old : List Token) (allows : Allows) (history : History) (tag : List ℕ)
    → docking_of history tag ≡ absent → old ++ token.null ∷ [] ≡ old ++ data_tokens (module_data allows history tag)
told_absent old allows history tag is =
    ap (λ docking. old ++ data_tokens (described_or_null allows history tag docking (description_of history tag)))
    (sym is)

-- a module that is there is told by its description
there : (allows : Allows) (history : History) (tag : List ℕ) (docking : Docking) (description : PlainDescription)
    → docking ≢ absent → described_data allows history tag description
    ≡ described_or_null allows history tag docking (Some description)
there allows history tag absent description isnt = absurd (isnt refl)
there allows history tag (docked count) description isnt = refl
there allows history tag (away ticket) description isnt = refl

-- the same of the tokens
pub told_there : (old : List Token) (allows : Allows) (history : History) (tag : List ℕ)
    (description : PlainDescription) → docking_of history tag ≢ absent
    → description_of history tag ≡ Some description
    → old ++ data_tokens (described_data allows history tag description)
    ≡ old ++ data_tokens (module_data allows history tag)
told_there old allows history tag description isnt is =
    ap (λ told. old ++ data_tokens told)
    (there allows history tag (docking_of history tag) description isnt
    ∙ ap (described_or_null allows history tag (docking_of history tag)) (sym is))

-- a batch that was started is told as it stands
pub told_batch : (old : List Token) (history : History) (batch : List ℕ) (started : Started) (standing : Standing)
    → Some started ≡ start_of history batch → Some standing ≡ standing_of history batch
    → old ++ data_tokens (course_data history batch started standing.outcome standing.hold standing.is_stopping)
    ≡ old ++ data_tokens (batch_data history batch)
told_batch old history batch started standing start stands =
    ap (λ found. old ++ data_tokens (standing_data history batch found (Some standing))) start
    ∙ ap (λ found. old ++ data_tokens (standing_data history batch (start_of history batch) found)) stands

-- one that wasn't isn't told
pub told_unstarted : (old : List Token) (history : History) (batch : List ℕ) → None ≡ start_of history batch
    → old ++ token.null ∷ [] ≡ old ++ data_tokens (batch_data history batch)
told_unstarted old history batch none =
    ap (λ found. old ++ data_tokens (standing_data history batch found (standing_of history batch))) none

-- nor one that doesn't stand
unstanding : (history : History) (batch : List ℕ) (started : Option Started) →
    null ≡ standing_data history batch started None
unstanding history batch None = refl
unstanding history batch (Some started) = refl

-- the same of the tokens
pub told_unstanding : (old : List Token) (history : History) (batch : List ℕ) → None ≡ standing_of history batch
    → old ++ token.null ∷ [] ≡ old ++ data_tokens (batch_data history batch)
told_unstanding old history batch none =
    ap (λ told. old ++ data_tokens told)
    (unstanding history batch (start_of history batch)
    ∙ ap (standing_data history batch (start_of history batch)) none)
