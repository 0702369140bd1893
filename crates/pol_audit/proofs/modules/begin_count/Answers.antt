use Rattle.std.proofs.Common.{rules, tests, ap, filter, length, not, subst, sym, ◌≤◌, ◌∙◌}
use Rattle.std.proofs.lemmas.Iterator.Consumers.{YieldsList-at, YieldsList-from_filter, count_from_yields_List}
use Rattle.std.proofs.lemmas.Iterator.Search.{YieldsList-from_take_while}
use Rattle.pol_events.specs.Events.{plain_history}
use Rattle.pol_history.specs.Looking.{after_last, past}
use Rattle.pol_history.specs.Modules.{is_begin, is_plug}
use Rattle.pol_audit.specs.Listed.{listed}
use Rattle.pol_audit.proofs.Among.{begun_among, few_begun}
use Rattle.pol_audit.proofs.LookingBack.{counted_since, entries_before, listed_back, no_begin}
use Rattle.pol_audit.proofs.modules.begin_count.Goals as goal

pub returns-clause-counted : goal.returns-clause-counted
returns-clause-counted c =
    let own = past c.args.tag (plain_history c.args.history.now) in
    count_from_yields_List _ _ c.count.ensures.ran
    (YieldsList-from_filter _ (λ entry. is_begin entry.event)
    (YieldsList-at c.filter.ensures.source
    (YieldsList-from_take_while _ (λ entry. not (is_plug entry.event))
    (YieldsList-at c.take_while.ensures.source (listed_back c.moves.result.now (cc)))
    c.take_while.ensures.closure c.take_while.ensures.done (λ item found after called. search (rules, tests))))
    c.filter.ensures.closure (λ item found after called. search (rules, tests)))
    ∙ ap (λ entries. length (filter (λ entry. is_begin entry.event) entries))
    (entries_before (λ entry. is_plug entry.event) (listed c.moves.result.now)
    ∙ ap (after_last (λ entry. is_plug entry.event)) c.moves.ensures)
    ∙ ap length (begun_among own
    ∙ counted_since (λ entry. is_plug entry.event) (λ entry. is_begin entry.event) (λ entry. no_begin entry.event) own)

pub returns-clause-few : goal.returns-clause-few
returns-clause-few c =
    subst (λ count. count ≤ length c.args.history.now) (sym (returns-clause-counted c))
    (few_begun c.args.tag c.args.history.now)
