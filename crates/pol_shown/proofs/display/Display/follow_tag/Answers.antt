use Rattle.std.proofs.Common.{◌≤◌, ◌<◌, ◌∙◌, ◌*◌, length, sym, arith}
use Rattle.pol_events.specs.Events.{plain_entry, plain_history}
use Rattle.pol_site.specs.PlainSite.{plain_site}
use Rattle.pol_site.specs.Views.{plain_module}
use Rattle.pol_shown.proofs.Following.{accepted_at, other_module, shows_all}
use Rattle.pol_shown.proofs.Listed.{length_modules, module_at}
use Rattle.pol_shown.proofs.display.Display.follow_tag.Goals as goal
use Rattle.pol_shown.proofs.display.Display.follow_tag.Goals.{then-eq, else-eq}

pub follow_module-requires-clause-accepted : goal.follow_module-requires-clause-accepted
follow_module-requires-clause-accepted c =
    let site = c.args.site.now in
    let inside : c.loop-place.place < length site.modules.items =
    omega (arith, c.loop-place-test.true, c.loop-place.invariant.1) in
    accepted_at (plain_site site) (plain_entry c.args.entry.now) c.loop-place.place (plain_module c.index.result.now)
    c.args.tag (module_at site.modules.items c.loop-place.place c.index.result.now inside c.index.ensures)
    c.requires.tag
    (sym c.eq.ensures ∙ c.if-eq.true)

pub loop-place-preserved : goal.loop-place-preserved
loop-place-preserved c =
    let site = c.args.site.now in
    let kept = c.loop-place.invariant in
    let inside : c.loop-place.place < length site.modules.items = omega (arith, c.loop-place-test.true, kept.1) in
    let there = module_at site.modules.items c.loop-place.place c.index.result.now inside c.index.ensures in
    elim c.if-eq.branch [
      | then-eq w ↦
          rw w.self-is (w.follow_module.ensures.board ∙ kept.0, kept.1, w.follow_module.ensures.shown)
      | else-eq w ↦
          rw w.self-is (
            kept.0,
            kept.1,
            other_module (plain_site site) (plain_entry c.args.entry.now) (plain_history c.args.older.now)
                c.loop-place.self c.loop-place.place (plain_module c.index.result.now) c.args.tag there c.requires.tag
                (sym c.eq.ensures ∙ w.if-eq.false) kept.2,
          )
    ]

pub returns-clause-shown : goal.returns-clause-shown
returns-clause-shown c =
    let site = c.args.site.now in
    let count = length_modules site.modules.items in
    let all : 32 * length (plain_site site).modules ≤ 32 * c.loop-place.place =
    omega (arith, c.loop-place-test.false, c.loop-place.invariant.1, count) in
    shows_all (plain_site site) (plain_entry c.args.entry.now) (plain_history c.args.older.now) c.loop-place.self
    (32 * c.loop-place.place) all c.loop-place.invariant.2
