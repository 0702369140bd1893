use Rattle.std.proofs.Common.{◌∙◌, ap, subst, sym}
use Rattle.std.specs.Option.{IfSome, option_copied}
use Rattle.mtp_codes.proofs.Names.{same_true}
use Rattle.pol_history.specs.Batches.{chart_named}
use Rattle.pol_audit.specs.Followed.{GoesAlong}
use Rattle.pol_audit.proofs.cursors.Cursors.of.Goals as goal

pub returns-in-Some : goal.returns-in-Some
returns-in-Some c = λ recipes runs followed.
    let own = c.in-Some.followed.now in
    let along = subst (λ found. IfSome found
    (λ followed. GoesAlong recipes followed.recipe (runs c.args.batch) followed.cursor))
    (sym c.get.ensures.value ∙ ap option_copied c.in-Some.is) (followed c.args.batch) in (
      ap (λ name. chart_named name recipes)
          (sym (same_true own.recipe c.args.recipe (sym c.eq.ensures ∙ c.if-eq.true)))
          ∙ along.0,
      along.1,
    )
