use Rattle.std.proofs.Common.{rules, ◌≡◌, ◌∙◌, [], ap, length, sym, subst}
use Rattle.std.proofs.lemmas.List.{length-map}
use Rattle.pol_events.specs.Events.{plain_history}
use Rattle.pol_site.specs.PlainSite.{plain_site}
use Rattle.pol_site.specs.Sound.{IsSite}
use Rattle.pol_site.specs.Views.{plain_batch, plain_module}
use Rattle.pol_actors.specs.Kept.{AreFirstStages, AreFirstUnits, IsKept}
use Rattle.pol_actors.proofs.First.{first_kept}
use Rattle.pol_live.proofs.cast.Cast.new.Goals as goal

pub invariant_of-result : goal.invariant_of-result
invariant_of-result g c =
    let site = g.J.Job.site in
    let one : c.len.result ≡ length c.deref.result.now.modules.items = search rules in
    let other : c.len-2.result ≡ length c.deref-2.result.now.batches.items = search rules in
    let modules = one ∙ sym (length-map c.deref.result.now.modules.items plain_module)
    ∙ ap (λ site. length site.modules) (ap plain_site c.deref.ensures ∙ c.requires.site) in
    let batches = other ∙ sym (length-map c.deref-2.result.now.batches.items plain_batch)
    ∙ ap (λ site. length site.batches) (ap plain_site c.deref-2.ensures ∙ c.requires.site) in
    let sound = subst IsSite c.requires.site c.args.site.value.kept in
    let units = subst (λ n. AreFirstUnits n c.in_ok-units.units.items) modules c.in_ok-units.ensures in
    let stages = subst (λ n. AreFirstStages n c.in_ok-stages.stages.items) batches c.in_ok-stages.ensures in
    let none : c.new-2.result.items ≡ [] = search rules in (
      c.requires.site,
      subst (λ by. IsKept site (plain_history c.new.result.entries) by c.first.result c.in_ok-units.units.items
          c.in_ok-stages.stages.items (record { ordered = 0 })) (sym none)
          (subst (λ entries. IsKept site (plain_history entries) [] c.first.result c.in_ok-units.units.items
          c.in_ok-stages.stages.items (record { ordered = 0 })) (sym c.new.ensures)
          (first_kept site c.first.result c.in_ok-units.units.items c.in_ok-stages.stages.items sound c.first.ensures
          units
          stages)),
    )

pub returns-clause-units : goal.returns-clause-units
returns-clause-units g c =
    let one : c.len.result ≡ length c.deref.result.now.modules.items = search rules in
    let modules = one ∙ sym (length-map c.deref.result.now.modules.items plain_module)
    ∙ ap (λ site. length site.modules) (ap plain_site c.deref.ensures ∙ c.requires.site) in
    subst (λ n. AreFirstUnits n c.in_ok-units.units.items) modules c.in_ok-units.ensures
