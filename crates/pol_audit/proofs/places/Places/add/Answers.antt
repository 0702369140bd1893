use Rattle.pol_audit.specs.Listed.{items_under}
use Rattle.pol_audit.proofs.Placing.{followed_more, placed_more}
use Rattle.pol_audit.proofs.places.Places.add.Goals as goal

pub returns : goal.returns
returns c = λ history placed.
    placed_more history c.args.entry c.args.self.now
    (record {
      modules = c.add_module.new.self;
      batches = c.add_batch.new.self;
      logs = c.add_log.new.self;
      standings = c.add_standing.new.self;
      cursors = c.begin.new.self;
      known = c.add_known.new.self;
    })
    c.in_ok-add_module.ensures.moves c.in_ok-add_module.ensures.controls c.in_ok-add_module.ensures.values
    c.in_ok-add_batch.ensures.starts c.in_ok-add_batch.ensures.closings c.in_ok-add_batch.ensures.freezings
    c.in_ok-add_batch.ensures.askings c.in_ok-add_log.ensures.logs c.in_ok-add_log.ensures.runs
    c.in_ok-add_log.ensures.halts c.in_ok-add_standing.ensures.running c.in_ok-add_standing.ensures.held
    (followed_more history c.args.entry c.args.self.now c.learn.new.self.followed.entries
    c.go_on.new.self.followed.entries c.end.new.self.followed.entries c.begin.new.self.followed.entries
    c.add_known.new.self.recipes.entries.items (items_under c.add_log.new.self.runs.named.entries) c.learn.ensures
    c.go_on.ensures c.end.ensures c.in_ok-begin.ensures c.in_ok-add_log.ensures.runs c.in_ok-add_known.ensures.recipes
    placed)
    c.in_ok-add_known.ensures.recipes c.in_ok-add_known.ensures.starts c.in_ok-add_known.ensures.present
    placed
