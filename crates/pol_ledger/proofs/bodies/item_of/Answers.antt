use Rattle.std.proofs.Common.{◌≡◌, ℕ, ◌∷◌, ap, subst, ◌∙◌}
use Rattle.pol_store.specs.Work.{NamesEvent}
use Rattle.pol_ledger.proofs.Reading.{no_event}
use Rattle.pol_ledger.proofs.bodies.item_of.Goals as goal

pub returns-in-None-clause-names : goal.returns-in-None-clause-names
returns-in-None-clause-names c =
    let rest = c.in-Some.rest.now in
    let text = c.in-Some-who_of.text.now in
    let kind : c.in-Some.kind.now ≡ 1 = c.if-kind-ne-ASKED.false in
    no_event c.args.body.now rest text c.in-Some-who_of.by
    (c.in-Some.ensures.cases.0 ∙ ap (λ (k : ℕ). k ∷ rest) kind) c.in-Some-who_of.ensures.some
    (subst (NamesEvent text) c.in-None.is c.in_ok-event.ensures.names)
