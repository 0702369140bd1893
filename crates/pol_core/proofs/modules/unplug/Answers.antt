-- A module leaves, or a rule is against it.
use Rattle.std.proofs.Common.{◌∙◌, sym, ap, refl}
use Rattle.std.specs.Prelude.{is_ok}
use Rattle.std.specs.Option.{option_copied}
use Rattle.pol_core.proofs.Plugging.{missing_answered}
use Rattle.pol_core.proofs.Telling.{from_ok}
use Rattle.pol_core.proofs.Unplugging.{unplug_away, unplug_held, unplug_watched, free_leaves, unplug_answered}
use Rattle.pol_core.proofs.modules.unplug.Goals as goal

pub returns-in_default : goal.returns-in_default
returns-in_default c = record {
  answered = λ history at seats counted room.
      missing_answered history _ c.args.tag _ c.args.modules.now refl room seats counted
      (sym c.get.ensures ∙ ap option_copied c.in_default.is);
}

pub returns-in-Some-ticket : goal.returns-in-Some-ticket
returns-in-Some-ticket c = record {
  answered = λ history at seats counted room.
      unplug_away history at c.args.tag c.in-Some.slot.now c.in-Some-ticket.ticket c.args.modules.now
      room seats counted (sym c.in-Some.ensures)
      (sym c.ticket.ensures ∙ c.in-Some-ticket.is);
}

pub returns-in-Some-holder : goal.returns-in-Some-holder
returns-in-Some-holder c = record {
  answered = λ history at seats counted room.
      unplug_held history at c.args.tag c.in-Some.slot.now c.in-Some-holder.batch c.args.modules.now
      room seats counted (sym c.in-Some.ensures)
      (sym c.ticket.ensures ∙ c.in_default-ticket.is) (sym c.holder.ensures ∙ c.in-Some-holder.is);
}

pub returns-in-Some-watcher : goal.returns-in-Some-watcher
returns-in-Some-watcher c = record {
  answered = λ history at seats counted room.
      unplug_watched history at c.args.tag c.in-Some.slot.now c.in-Some-watcher.batch c.args.modules.now
      room seats counted (sym c.in-Some.ensures)
      (sym c.ticket.ensures ∙ c.in_default-ticket.is) (sym c.holder.ensures ∙ c.in_default-holder.is)
      (sym c.watcher.ensures ∙ c.in-Some-watcher.is);
}

pub returns : goal.returns
returns c = record {
  answered =
      λ history at seats counted room.
      let found = sym c.in-Some.ensures in
      let free = sym c.holder.ensures ∙ c.in_default-holder.is in
      let unwatched = sym c.watcher.ensures ∙ c.in_default-watcher.is in
      let left = ap is_ok c.leave.ensures.answer
      ∙ free_leaves c.args.tag c.in-Some.slot.now c.args.modules.now found free unwatched in
      unplug_answered history at c.args.tag c.in-Some.slot.now c.args.modules.now c.leave.new.self
      room seats counted found
      (sym c.ticket.ensures ∙ c.in_default-ticket.is) free unwatched (from_ok c.leave.result left c.leave.ensures.left)
      (from_ok c.leave.result left c.leave.ensures.count);
}
