use Rattle.std.proofs.Common.{◌<◌, ◌∙◌, ◌+◌, ◌*◌, refl, length, arith}
use Rattle.pol_events.specs.Events.{plain_entry, plain_history}
use Rattle.pol_site.specs.PlainSite.{plain_site}
use Rattle.pol_shown.proofs.Following.{follows_on, number_lower}
use Rattle.pol_events.proofs.Histories.{length_history}
use Rattle.pol_shown.proofs.display.Display.follow_module.Goals as goal

pub follow_word-requires-clause-number : goal.follow_word-requires-clause-number
follow_word-requires-clause-number c =
    let lower = number_lower (plain_site c.args.site.now) (plain_entry c.args.entry.now)
    (plain_history c.args.older.now)
    c.loop-word.self c.loop-word.word c.loop-word.invariant.3 in
    (omega (arith, c.requires.short), omega (arith, lower, length_history c.args.older.now))

pub loop-word-preserved : goal.loop-word-preserved
loop-word-preserved c =
    let kept = c.loop-word.invariant in
    let end : c.loop-word.word < 32 * (c.args.place + 1) = omega (arith, c.loop-word-test.true, kept.2) in (
      c.follow_word.ensures.board ∙ kept.0,
      omega (arith, kept.1),
      refl,
      follows_on (plain_site c.args.site.now) (plain_entry c.args.entry.now) (plain_history c.args.older.now)
          c.args.place
          c.loop-word.word (c.loop-word.word + 1) (length c.args.older.now + 1) c.loop-word.self c.follow_word.new.self
          c.requires.accepted kept.1 end (omega arith) (omega (arith, length_history c.args.older.now)) kept.3
          c.follow_word.ensures.board c.follow_word.ensures.words c.follow_word.ensures.names,
    )
