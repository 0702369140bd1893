-- The module, batch or recipe that an event is of.
use Rattle.std.specs.Prelude.{ℕ, List, Option, None, Some, if◌then◌else◌}
use Rattle.pol_events.specs.Accepted.{is_accepted}
use Rattle.pol_events.specs.Events.{PlainEntry, PlainEvent, plug, unplug, report, variable, recipe, start, advance}
use Rattle.pol_events.specs.Events.{freeze, thaw, stop_batch, abandon, desk, exchange_begin, exchange_end}
use Rattle.pol_events.specs.Events.{exchange_cancel}
use Rattle.pol_events.specs.declared.subject.Subject.{Subject as Told}
use Rattle.pol_events.specs.declared.subject.Subject.TheVariants.{Module, Batch, Recipe}

-- the subject of an event: a module, a batch or a recipe
pub data Subject : Type 0 where
  of_module : (tag : List ℕ) → Subject
  of_batch : (batch : List ℕ) → Subject
  of_recipe : (recipe : List ℕ) → Subject

-- the module, batch or recipe that an event is of
abbrev pub subject : PlainEvent → Subject
subject (plug at tag description) = of_module tag
subject (unplug at tag) = of_module tag
subject (report at tag service control) = of_module tag
subject (variable at tag name value) = of_module tag
subject (recipe at name chart) = of_recipe name
subject (start at batch name binds) = of_batch batch
subject (advance at batch) = of_batch batch
subject (freeze at batch hold) = of_batch batch
subject (thaw at batch) = of_batch batch
subject (stop_batch at batch) = of_batch batch
subject (abandon at batch) = of_batch batch
subject (desk at tag service command) = of_module tag
subject (exchange_begin at tag) = of_module tag
subject (exchange_end at tag ticket description) = of_module tag
subject (exchange_cancel at tag ticket) = of_module tag

-- what contracts see of a subject
abbrev pub plain_subject : Told → Subject
plain_subject (Module tag) = of_module tag
plain_subject (Batch batch) = of_batch batch
plain_subject (Recipe name) = of_recipe name

-- the tag of a module, or the name of a batch, that is a subject
abbrev pub subject_tag : Subject → Option (List ℕ)
subject_tag (of_module tag) = Some tag
subject_tag (of_batch batch) = None
subject_tag (of_recipe name) = None

abbrev pub subject_batch : Subject → Option (List ℕ)
subject_batch (of_module tag) = None
subject_batch (of_batch batch) = Some batch
subject_batch (of_recipe name) = None

-- the module of which an entry is an accepted event
abbrev pub accepted_tag : PlainEntry → Option (List ℕ)
accepted_tag entry = if is_accepted entry.answer then subject_tag (subject entry.event) else None

-- the batch of which an entry is an accepted event
abbrev pub accepted_batch : PlainEntry → Option (List ℕ)
accepted_batch entry = if is_accepted entry.answer then subject_batch (subject entry.event) else None
