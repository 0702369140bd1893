-- A batch does what comes next.
use Rattle.std.proofs.Common.{◌≡◌, [], sym, refl, subst}
use Rattle.std.specs.Map.{lookup}
use Rattle.std.specs.Str.{bytes_eq}
use Rattle.pol_events.specs.Events.{advance}
use Rattle.pol_events.proofs.Options.{some_same}
use Rattle.pol_core.specs.Batches.{ComesNext, AnswersBatch}
use Rattle.pol_core.specs.Seen.{table_sights}
use Rattle.pol_core.proofs.Lasting.{not_open_answered}
use Rattle.pol_core.proofs.Stepping.{advance_answered}
use Rattle.pol_core.proofs.batches.advance.Goals as goal

pub returns-in-Err-clause-answered : goal.returns-in-Err-clause-answered
returns-in-Err-clause-answered c =
    λ history at seats counted batches room.
    not_open_answered history (advance at c.args.batch) c.args.batch [] c.in-Err.rule c.args.modules.now
    c.args.runs.now.entries
    refl room seats counted batches c.in-Err.ensures.rule

pub settle-requires : goal.settle-requires
settle-requires c =
    record {
      known = (c.in-Ok.run'.now, c.in-Ok.ensures.run.found);
      next = (
        table_sights c.args.modules.now c.in-Ok.run'.now.binds,
        λ run found.
            let is : c.in-Ok.run'.now ≡ run = some_same (lookup (bytes_eq c.args.batch) c.args.runs.now.entries)
            c.in-Ok.run'.now run c.in-Ok.ensures.run.found found in
            subst (ComesNext (table_sights c.args.modules.now c.in-Ok.run'.now.binds) c.next_of-next.result)
            is c.next_of-next.ensures,
      );
    }

pub returns-clause-answered : goal.returns-clause-answered
returns-clause-answered c =
    λ history at seats counted batches room.
    let open' = c.in-Ok.ensures.run in
    subst (λ answer. AnswersBatch history (advance at c.args.batch) answer c.release_closed.new.modules
    c.settle.new.runs.entries) (sym c.advanced.ensures)
    (advance_answered history at c.args.batch c.in-Ok.run'.now c.next_of-next.result c.args.modules.now
    c.release_closed.new.modules
    c.args.runs.now.entries c.settle.new.runs.entries seats counted batches room open' c.next_of-next.ensures
    (c.settle.ensures.settled c.in-Ok.run'.now open'.found) c.release_closed.ensures.looks
    c.release_closed.ensures.count)
