-- The part leaves where no batch holds it and none watches it.
use Rattle.std.proofs.Common.{◌∙◌, sym, ap}
use Rattle.std.specs.Prelude.{slice_get}
use Rattle.std.proofs.lemmas.Result.{on_ok_weaker}
use Rattle.pol_table.specs.Watches.{watchers_in}
use Rattle.pol_table.proofs.Seen.{first_none_empty, leaving_free, leaving_held, leaving_watched, left_seen, there_after_leave}
use Rattle.pol_table.proofs.table.Table.leave.Goals as goal

pub returns-in-Some-clause-answer : goal.returns-in-Some-clause-answer
returns-in-Some-clause-answer g c = rw (← c.self.view_is)
    (sym (leaving_held c.self.inside.watches.items c.self.inside.holdings c.args.tag c.in-Some.batch
    (sym c.holder.ensures ∙ c.in-Some.is)))

pub returns-in-Some-watcher_at-clause-answer : goal.returns-in-Some-watcher_at-clause-answer
returns-in-Some-watcher_at-clause-answer g c = rw (← c.self.view_is)
    (sym (leaving_watched c.self.inside.watches.items c.self.inside.holdings c.args.tag c.in-Some-watcher_at.batch
    c.self.invariant (sym c.holder.ensures ∙ c.in_default.is)
    (ap (λ watches. slice_get (watchers_in c.args.tag watches) 0) (sym c.deref.ensures.value)
    ∙ sym c.watcher_at.ensures ∙ c.in-Some-watcher_at.is)))

pub invariant_of-self : goal.invariant_of-self
invariant_of-self g c =
    there_after_leave c.leave.result c.self.inside.watches.items c.args.tag c.self.inside.holdings c.leave.new.self
    c.self.invariant
    (first_none_empty (watchers_in c.args.tag c.self.inside.watches.items)
    (ap (λ watches. slice_get (watchers_in c.args.tag watches) 0) (sym c.deref.ensures.value)
    ∙ sym c.watcher_at.ensures ∙ c.in_default-watcher_at.is)) c.leave.ensures.left c.leave.ensures.unchanged

pub returns-clause-answer : goal.returns-clause-answer
returns-clause-answer g c = rw (← c.self.view_is)
    (c.leave.ensures.answer
    ∙ sym (leaving_free c.self.inside.watches.items c.self.inside.holdings c.args.tag
    (sym c.holder.ensures ∙ c.in_default.is)
    (first_none_empty (watchers_in c.args.tag c.self.inside.watches.items)
    (ap (λ watches. slice_get (watchers_in c.args.tag watches) 0) (sym c.deref.ensures.value)
    ∙ sym c.watcher_at.ensures ∙ c.in_default-watcher_at.is))))

pub returns-clause-left : goal.returns-clause-left
returns-clause-left g c = rw (← c.self.view_is)
    (on_ok_weaker c.leave.result
    (λ left other. left_seen c.self.inside.watches.items c.args.tag c.self.inside.holdings c.leave.new.self left other)
    c.leave.ensures.left)
