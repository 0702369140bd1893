-- No stamp matters.
use Rattle.std.proofs.Common.{◌≡◌, ℕ, true, false, List, ◌∷◌, refl, sym, ◌∙◌}
use Rattle.pol_events.specs.Events.{PlainEvent, PlainEntry, plug, unplug, report, variable, recipe, start, advance}
use Rattle.pol_events.specs.Events.{freeze, thaw, stop_batch, abandon, desk, exchange_begin, exchange_end}
use Rattle.pol_events.specs.Events.{exchange_cancel}
use Rattle.pol_events.specs.Orderly.{is_orderly}
use Rattle.pol_events.specs.declared.answer.Answer.{Answer}
use Rattle.mtp_sim.specs.declared.report.SimReport.{SimReport}
use Rattle.mtp_sim.specs.declared.report.SimReport.TheVariants.{Service, Variable}
use Rattle.pol_history.specs.Answers.{answer_of, is_full}
use Rattle.pol_history.specs.Looking.{History}
use Rattle.pol_history.specs.Runs.{IsLegal, IsOrderly}
use Rattle.pol_history.proofs.Accepted.{paired}
use Rattle.pol_history.proofs.Recording.{recorded_with_room}
use Rattle.pol_site.specs.Actors.{owner_of}
use Rattle.pol_site.specs.Following.{FollowsSite, IsAllowed}
use Rattle.pol_site.specs.Sites.{PlainSite}
use Rattle.pol_simulated.specs.Units.{report_event}
use Rattle.pol_actors.specs.Stamps.{stamped}

-- not for the answer
pub answer_stamped : (older : History) (at : ℕ) (event : PlainEvent) →
    answer_of older (stamped at event) ≡ answer_of older event
answer_stamped older at (plug old tag description) = refl
answer_stamped older at (unplug old tag) = refl
answer_stamped older at (report old tag service control) = refl
answer_stamped older at (variable old tag name value) = refl
answer_stamped older at (recipe old name chart) = refl
answer_stamped older at (start old batch name binds) = refl
answer_stamped older at (advance old batch) = refl
answer_stamped older at (freeze old batch hold) = refl
answer_stamped older at (thaw old batch) = refl
answer_stamped older at (stop_batch old batch) = refl
answer_stamped older at (abandon old batch) = refl
answer_stamped older at (desk old tag service command) = refl
answer_stamped older at (exchange_begin old tag) = refl
answer_stamped older at (exchange_end old tag ticket description) = refl
answer_stamped older at (exchange_cancel old tag ticket) = refl

-- nor for whether it is orderly
pub orderly_stamped : (at : ℕ) (event : PlainEvent) → is_orderly (stamped at event) ≡ is_orderly event
orderly_stamped at (plug old tag description) = refl
orderly_stamped at (unplug old tag) = refl
orderly_stamped at (report old tag service control) = refl
orderly_stamped at (variable old tag name value) = refl
orderly_stamped at (recipe old name chart) = refl
orderly_stamped at (start old batch name binds) = refl
orderly_stamped at (advance old batch) = refl
orderly_stamped at (freeze old batch hold) = refl
orderly_stamped at (thaw old batch) = refl
orderly_stamped at (stop_batch old batch) = refl
orderly_stamped at (abandon old batch) = refl
orderly_stamped at (desk old tag service command) = refl
orderly_stamped at (exchange_begin old tag) = refl
orderly_stamped at (exchange_end old tag ticket description) = refl
orderly_stamped at (exchange_cancel old tag ticket) = refl

-- nor for whose it is
pub owner_stamped : (site : PlainSite) (at : ℕ) (event : PlainEvent) →
    owner_of site (stamped at event) ≡ owner_of site event
owner_stamped site at (plug old tag description) = refl
owner_stamped site at (unplug old tag) = refl
owner_stamped site at (report old tag service control) = refl
owner_stamped site at (variable old tag name value) = refl
owner_stamped site at (recipe old name chart) = refl
owner_stamped site at (start old batch name binds) = refl
owner_stamped site at (advance old batch) = refl
owner_stamped site at (freeze old batch hold) = refl
owner_stamped site at (thaw old batch) = refl
owner_stamped site at (stop_batch old batch) = refl
owner_stamped site at (abandon old batch) = refl
owner_stamped site at (desk old tag service command) = refl
owner_stamped site at (exchange_begin old tag) = refl
owner_stamped site at (exchange_end old tag ticket description) = refl
owner_stamped site at (exchange_cancel old tag ticket) = refl

-- nor for whether the site allows it
pub allowed_stamped : (site : PlainSite) (older : History) (at : ℕ) (event : PlainEvent) (answer : Answer) →
    IsAllowed site older event answer → IsAllowed site older (stamped at event) answer
allowed_stamped site older at (plug old tag description) answer allowed = allowed
allowed_stamped site older at (unplug old tag) answer allowed = allowed
allowed_stamped site older at (report old tag service control) answer allowed = allowed
allowed_stamped site older at (variable old tag name value) answer allowed = allowed
allowed_stamped site older at (recipe old name chart) answer allowed = allowed
allowed_stamped site older at (start old batch name binds) answer allowed = allowed
allowed_stamped site older at (advance old batch) answer allowed = allowed
allowed_stamped site older at (freeze old batch hold) answer allowed = allowed
allowed_stamped site older at (thaw old batch) answer allowed = allowed
allowed_stamped site older at (stop_batch old batch) answer allowed = allowed
allowed_stamped site older at (abandon old batch) answer allowed = allowed
allowed_stamped site older at (desk old tag service command) answer allowed = allowed
allowed_stamped site older at (exchange_begin old tag) answer allowed = allowed
allowed_stamped site older at (exchange_end old tag ticket description) answer allowed = allowed
allowed_stamped site older at (exchange_cancel old tag ticket) answer allowed = allowed

-- a report with its stamp
pub report_stamped : (at : ℕ) (tag : List ℕ) (told : SimReport) →
    stamped at (report_event 0 tag told) ≡ report_event at tag told
report_stamped at tag (Service name control) = refl
report_stamped at tag (Variable name value) = refl

-- the entry of an event that comes now
abbrev pub entry_at : History → ℕ → PlainEvent → PlainEntry
entry_at older at event = paired (stamped at event) (answer_of older event)

-- an event that the site allows, where the history has room: the history stays legal and orderly, and follows its site
pub record IsNext (site : PlainSite) (history : History) : Type 0 where
  pub legal : IsLegal history
  pub orderly : IsOrderly history
  pub follows : FollowsSite site history

-- so it is with an orderly event that the site allows, where the history has room
pub next_kept : (site : PlainSite) (older : History) (at : ℕ) (event : PlainEvent) → is_full older ≡ false →
    is_orderly event ≡ true → IsAllowed site older event (answer_of older event) → IsLegal older → IsOrderly older →
    FollowsSite site older → IsNext site (entry_at older at event ∷ older)
next_kept site older at event room formed allowed legal orderly follows =
    record {
      legal = (sym (answer_stamped older at event), recorded_with_room older event room, legal);
      orderly = (orderly_stamped at event ∙ formed, orderly);
      follows = (allowed_stamped site older at event (answer_of older event) allowed, follows);
    }
