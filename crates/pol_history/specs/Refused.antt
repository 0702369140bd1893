-- A refused event changes nothing that is found by looking back.
use Rattle.std.specs.Prelude.{ℕ, ◌≡◌, List, ◌∷◌, false}
use Rattle.pol_events.specs.Events.{PlainEntry}
use Rattle.pol_history.specs.Looking.{History, past, past_of_batch, recipes, is_accepted}
use Rattle.pol_history.specs.Modules.{present_tags}
use Rattle.pol_history.specs.Batches.{holder_of, watchers_of, batches}

-- after a refused event each module, each batch and the recipes have the past that they had, and with it everything
-- that is found there; the holders, the watchers, the tags that are docked or away and the batches are as they were
pub record ChangesNothing (entry : PlainEntry) (history : History) : Type 0 where
  pub modules : (tag : List ℕ) → past tag (entry ∷ history) ≡ past tag history
  pub batch_pasts : (batch : List ℕ) → past_of_batch batch (entry ∷ history) ≡ past_of_batch batch history
  pub recipes : recipes (entry ∷ history) ≡ recipes history
  pub holders : (tag : List ℕ) → holder_of (entry ∷ history) tag ≡ holder_of history tag
  pub watchers : (tag : List ℕ) → watchers_of (entry ∷ history) tag ≡ watchers_of history tag
  pub present : present_tags (entry ∷ history) ≡ present_tags history
  pub batches : batches (entry ∷ history) ≡ batches history

-- No refused event changes anything that is found by looking back.
abbrev pub RefusedChangesNothing : Type 0
RefusedChangesNothing = (entry : PlainEntry) (history : History) → is_accepted entry.answer ≡ false
    → ChangesNothing entry history
