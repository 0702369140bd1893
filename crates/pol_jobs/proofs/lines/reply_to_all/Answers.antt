use Rattle.std.proofs.Common.{◌++◌, [], refl, ◌∙◌, ap, rules}
use Rattle.std.specs.Prelude.{IsOk}
use Rattle.std.proofs.lemmas.Result.{err_from_is_err_and}
use Rattle.pol_jobs.specs.Moments.{moment}
use Rattle.pol_jobs.proofs.Deeds.{are_served, did_all, did_before, did_part, did_stop, did_stop_part, did_unheld, due_each, due_idle, served_due, served_last, served_none, served_on, served_settled}
use Rattle.pol_jobs.proofs.Serving.{moves_none, moves_on, served_all, served_idle, stopped_read, too_much_counted, unheld, unput, unput_before, unreplied}
use Rattle.pol_jobs.proofs.Refusing.{replied_due, replied_more, replied_none, replied_put, stop_refused}
use Rattle.pol_jobs.proofs.lines.reply_to_all.Goals as goal

pub loop-replies-init : goal.loop-replies-init
loop-replies-init g c =
    let first = moment (g.J.LineJob.state c.args.job.now) c.args.lines.now (g.S.Source.left c.args.source.now) in
    record {
      served = rw c.new-replies.ensures.items
          (served_none g.J.LineJob.work (g.J.LineJob.Did c.args.job.now c.args.job.now) first
          (g.K.Sink.held c.args.sink.now) (g.met.J.LineJob.did_nothing c.args.job.now) c.requires);
      replied = replied_none g.J.LineJob.work first.state (g.K.Sink.held c.args.sink.now) c.new-replies.result.items
          c.new-replies.ensures.items;
      moves = moves_none first c.requires;
      source_sound = refl;
      sink_sound = refl;
      empty = c.new-out.ensures.items;
      idle = λ asks. c.new-replies.ensures.items;
      each = λ settles. c.new-replies.ensures.items;
    }

pub loop-replies-preserved : goal.loop-replies-preserved
loop-replies-preserved g c =
    let invariant = c.loop-replies.invariant in
    let Did = g.J.LineJob.Did in
    let held = g.K.Sink.held in
    let first = moment (g.J.LineJob.state c.args.job.now) c.args.lines.now (g.S.Source.left c.args.source.now) in
    let now = moment (g.J.LineJob.state c.loop-replies.job) c.loop-replies.lines
    (g.S.Source.left c.loop-replies.source) in
    let next = moment (g.J.LineJob.state c.next_reply.new.job) c.next_reply.new.lines
    (g.S.Source.left c.next_reply.new.source) in
    let waits = c.extend_from_slice.new.self.items in
    let ok : IsOk c.in-Some.made = search rules in
    let has = served_on g.J.LineJob.work Did c.args.job.now first c.loop-replies.job c.next_reply.new.job now next
    (held c.args.sink.now) (held c.loop-replies.sink) c.loop-replies.replies.items waits c.in-Some.made
    c.next_reply.new.out.items
    (c.in_ok-extend_from_slice.ensures.items
    ∙ ap (λ reply. c.loop-replies.replies.items ++ reply) c.deref.ensures.value) ok invariant.served
    (rw c.in-Some.is at c.in_ok-made.ensures.next) in
    let is_next = rw c.in-Some.is at c.in_ok-made.ensures.next in
    let answered = replied_more g.J.LineJob.work first.state now.state (held c.args.sink.now)
    (held c.loop-replies.sink) c.loop-replies.replies.items invariant.replied next.state c.in-Some.made waits
    c.next_reply.new.out.items is_next.next
    (c.in_ok-extend_from_slice.ensures.items
    ∙ ap (λ reply. c.loop-replies.replies.items ++ reply) c.deref.ensures.value) ok is_next.met in
    let put = c.in_ok-put_due.ensures.put in
    let each = g.J.LineJob.SETTLES_EACH in
    rw c.in_ok-put_due.ensures.same (record {
      served = served_due g.J.LineJob.work Did c.args.job.now first each c.next_reply.new.lines c.next_reply.new.job
          c.put_due.new.job next (g.J.LineJob.state c.put_due.new.job) (held c.args.sink.now)
          (held c.loop-replies.sink) (held c.put_due.new.sink) waits c.put_due.new.replies.items has
          c.in_ok-put_due.ensures.kept put;
      replied = replied_due g.J.LineJob.work first.state next.state (held c.args.sink.now) (held c.loop-replies.sink)
          waits answered Did each c.next_reply.new.lines c.next_reply.new.job c.put_due.new.job
          (g.J.LineJob.state c.put_due.new.job) (held c.put_due.new.sink) c.put_due.new.replies.items
          c.in_ok-put_due.ensures.kept put;
      moves = rw c.in_ok-put_due.ensures.kept
          (moves_on first now next invariant.moves c.in_ok-made.ensures.next.moves);
      source_sound = c.in_ok-made.ensures.cause.done ∙ invariant.source_sound;
      sink_sound = c.in_ok-put_due.ensures.cause.done ∙ invariant.sink_sound;
      empty = c.clear.ensures.items;
      idle = due_idle Did each c.next_reply.new.lines c.next_reply.new.job c.put_due.new.job
          (held c.loop-replies.sink) (held c.put_due.new.sink) waits c.put_due.new.replies.items put;
      each = due_each Did each c.next_reply.new.lines c.next_reply.new.job c.put_due.new.job
          (held c.loop-replies.sink) (held c.put_due.new.sink) waits c.put_due.new.replies.items put;
    })

pub returns-in_err-made-clause-leaves : goal.returns-in_err-made-clause-leaves
returns-in_err-made-clause-leaves g c =
    let fault = err_from_is_err_and c.from_residual.result c.from_residual.ensures.1 in
    let invariant = c.loop-replies.invariant in
    let first = moment (g.J.LineJob.state c.args.job.now) c.args.lines.now (g.S.Source.left c.args.source.now) in
    let now = moment (g.J.LineJob.state c.loop-replies.job) c.loop-replies.lines
    (g.S.Source.left c.loop-replies.source) in
    let err = c.in_err-made.ensures in
    rw (fault.1, fault.2) (stopped_read g.J.LineJob.work first _ now (g.K.Sink.held c.args.sink.now)
    (g.K.Sink.held c.loop-replies.sink) (g.S.Source.left c.next_reply.new.source) _ c.requires
    (served_idle g.J.LineJob.work first now (g.K.Sink.held c.args.sink.now) (g.K.Sink.held c.loop-replies.sink)
    (g.S.Source.left c.next_reply.new.source) c.loop-replies.replies.items _
    (are_served g.J.LineJob.work (g.J.LineJob.Did c.args.job.now c.loop-replies.job) first now
    (g.K.Sink.held c.args.sink.now) (g.K.Sink.held c.loop-replies.sink) c.loop-replies.replies.items invariant.served)
    invariant.moves err.open_end err.fault (λ next. ap g.S.Source.left (err.unasked next)) invariant.idle)
    invariant.moves err.open_end err.fault)

pub returns-in_err-made-clause-too_much : goal.returns-in_err-made-clause-too_much
returns-in_err-made-clause-too_much g c =
    let fault = err_from_is_err_and c.from_residual.result c.from_residual.ensures.1 in
    rw (fault.1, fault.2) (too_much_counted _ _ _ _ c.requires c.loop-replies.invariant.moves
    c.in_err-made.ensures.fault)

pub returns-in_err-made-clause-did_some : goal.returns-in_err-made-clause-did_some
returns-in_err-made-clause-did_some g c =
    let fault = err_from_is_err_and c.from_residual.result c.from_residual.ensures.1 in
    rw fault.1 (did_before g.J.LineJob.work g.J.LineJob.Did c.args.job.now _ c.loop-replies.job c.next_reply.new.job
    _ _ _ _ c.loop-replies.invariant.served c.in_err-made.ensures.idle)

pub returns-in_err-put_before_stop-clause-leaves : goal.returns-in_err-put_before_stop-clause-leaves
returns-in_err-put_before_stop-clause-leaves g c =
    let fault = err_from_is_err_and c.from_residual-in_err-put_before_stop.result
    c.from_residual-in_err-put_before_stop.ensures.1 in
    let invariant = c.loop-replies.invariant in
    let next = rw c.in-Some.is at c.in_ok-made.ensures.next in
    rw (fault.1, fault.2) (unput_before g.J.LineJob.work _ g.J.LineJob.Did g.J.LineJob.SETTLES_EACH c.next_reply.new.job
    c.put_before_stop.new.job _ _ c.in_err-put_before_stop.ensures.fault _ _ _ _ _ c.loop-replies.replies.items
    next.next
    c.in-Some.made _ c.requires
    (are_served g.J.LineJob.work _ _ _ _ _ _ invariant.served) next.replies
    (moves_on _ _ _ invariant.moves c.in_ok-made.ensures.next.moves) c.in_err-put_before_stop.ensures.part.1)

pub returns-in_err-put_before_stop-clause-did_some : goal.returns-in_err-put_before_stop-clause-did_some
returns-in_err-put_before_stop-clause-did_some g c =
    let fault = err_from_is_err_and c.from_residual-in_err-put_before_stop.result
    c.from_residual-in_err-put_before_stop.ensures.1 in
    rw fault.1 (did_stop_part g.J.LineJob.work g.J.LineJob.Did c.args.job.now _ g.J.LineJob.SETTLES_EACH c.in-Err.stop
    c.loop-replies.job c.next_reply.new.job c.put_before_stop.new.job _ _ _ _ _ c.loop-replies.replies.items
    c.in-Some.made _ c.in-Err.is c.loop-replies.invariant.served (rw c.in-Some.is at c.in_ok-made.ensures.next)
    c.in_err-put_before_stop.ensures.part.0 c.in_err-put_before_stop.ensures.part.1)

pub returns-in-Err-clause-leaves : goal.returns-in-Err-clause-leaves
returns-in-Err-clause-leaves g c =
    let invariant = c.loop-replies.invariant in
    let next = rw c.in-Some.is at c.in_ok-made.ensures.next in
    rw c.into.ensures (unreplied g.J.LineJob.work _ g.J.LineJob.Did g.J.LineJob.SETTLES_EACH c.next_reply.new.job
    c.put_before_stop.new.job c.in-Err.stop _ _ _ _ _ c.loop-replies.replies.items next.next c.in-Some.made _
    c.in-Err.is c.requires (are_served g.J.LineJob.work _ _ _ _ _ _ invariant.served) next.replies
    (moves_on _ _ _ invariant.moves c.in_ok-made.ensures.next.moves) invariant.each
    c.in_ok-put_before_stop.ensures.put)

pub returns-in-Err-clause-did_some : goal.returns-in-Err-clause-did_some
returns-in-Err-clause-did_some g c =
    did_stop g.J.LineJob.work g.J.LineJob.Did c.args.job.now _ g.J.LineJob.SETTLES_EACH c.in-Err.stop c.loop-replies.job
    c.next_reply.new.job c.put_before_stop.new.job _ _ _ _ _ c.loop-replies.replies.items c.in-Some.made _ c.in-Err.is
    c.loop-replies.invariant.served (rw c.in-Some.is at c.in_ok-made.ensures.next)
    c.in_ok-put_before_stop.ensures.put

pub returns-in_err-extend_from_slice-clause-leaves : goal.returns-in_err-extend_from_slice-clause-leaves
returns-in_err-extend_from_slice-clause-leaves g c =
    let fault = err_from_is_err_and c.from_residual-in_err-extend_from_slice.result
    c.from_residual-in_err-extend_from_slice.ensures.1 in
    let invariant = c.loop-replies.invariant in
    let next = rw c.in-Some.is at c.in_ok-made.ensures.next in
    rw (fault.1, fault.2) (unheld g.J.LineJob.work _ _ _ _ _ c.loop-replies.replies.items next.next c.in-Some.made _
    c.requires (are_served g.J.LineJob.work _ _ _ _ _ _ invariant.served) next.replies
    (moves_on _ _ _ invariant.moves c.in_ok-made.ensures.next.moves))

pub returns-in_err-extend_from_slice-clause-did_some : goal.returns-in_err-extend_from_slice-clause-did_some
returns-in_err-extend_from_slice-clause-did_some g c =
    let fault = err_from_is_err_and c.from_residual-in_err-extend_from_slice.result
    c.from_residual-in_err-extend_from_slice.ensures.1 in
    rw fault.1 (did_unheld g.J.LineJob.work g.J.LineJob.Did c.args.job.now _ c.loop-replies.job c.next_reply.new.job
    _ _ _ _ c.loop-replies.replies.items c.in-Some.made _ c.loop-replies.invariant.served
    (rw c.in-Some.is at c.in_ok-made.ensures.next))

pub returns-in_err-put_due-clause-leaves : goal.returns-in_err-put_due-clause-leaves
returns-in_err-put_due-clause-leaves g c =
    let fault = err_from_is_err_and c.from_residual-in_err-put_due.result
    c.from_residual-in_err-put_due.ensures.1 in
    let invariant = c.loop-replies.invariant in
    let Did = g.J.LineJob.Did in
    let held = g.K.Sink.held in
    let first = moment (g.J.LineJob.state c.args.job.now) c.args.lines.now (g.S.Source.left c.args.source.now) in
    let now = moment (g.J.LineJob.state c.loop-replies.job) c.loop-replies.lines
    (g.S.Source.left c.loop-replies.source) in
    let next = moment (g.J.LineJob.state c.next_reply.new.job) c.next_reply.new.lines
    (g.S.Source.left c.next_reply.new.source) in
    let waits = c.extend_from_slice.new.self.items in
    let ok : IsOk c.in-Some.made = search rules in
    let has = served_on g.J.LineJob.work Did c.args.job.now first c.loop-replies.job c.next_reply.new.job now next
    (held c.args.sink.now) (held c.loop-replies.sink) c.loop-replies.replies.items waits c.in-Some.made
    c.next_reply.new.out.items
    (c.in_ok-extend_from_slice.ensures.items
    ∙ ap (λ reply. c.loop-replies.replies.items ++ reply) c.deref.ensures.value) ok invariant.served
    (rw c.in-Some.is at c.in_ok-made.ensures.next) in
    rw (fault.1, fault.2) (unput g.J.LineJob.work first Did g.J.LineJob.SETTLES_EACH c.next_reply.new.job
    c.put_due.new.job _ _ c.in_err-put_due.ensures.fault next (held c.args.sink.now) (held c.loop-replies.sink)
    (held c.put_due.new.sink) waits
    c.requires (are_served g.J.LineJob.work (Did c.args.job.now c.next_reply.new.job) first next
    (held c.args.sink.now) (held c.loop-replies.sink) waits has)
    (moves_on first now next invariant.moves c.in_ok-made.ensures.next.moves) c.in_err-put_due.ensures.part)

pub returns-in_err-put_due-clause-did_some : goal.returns-in_err-put_due-clause-did_some
returns-in_err-put_due-clause-did_some g c =
    let fault = err_from_is_err_and c.from_residual-in_err-put_due.result
    c.from_residual-in_err-put_due.ensures.1 in
    let invariant = c.loop-replies.invariant in
    let Did = g.J.LineJob.Did in
    let held = g.K.Sink.held in
    let first = moment (g.J.LineJob.state c.args.job.now) c.args.lines.now (g.S.Source.left c.args.source.now) in
    let now = moment (g.J.LineJob.state c.loop-replies.job) c.loop-replies.lines
    (g.S.Source.left c.loop-replies.source) in
    let next = moment (g.J.LineJob.state c.next_reply.new.job) c.next_reply.new.lines
    (g.S.Source.left c.next_reply.new.source) in
    let waits = c.extend_from_slice.new.self.items in
    let ok : IsOk c.in-Some.made = search rules in
    let has = served_on g.J.LineJob.work Did c.args.job.now first c.loop-replies.job c.next_reply.new.job now next
    (held c.args.sink.now) (held c.loop-replies.sink) c.loop-replies.replies.items waits c.in-Some.made
    c.next_reply.new.out.items
    (c.in_ok-extend_from_slice.ensures.items
    ∙ ap (λ reply. c.loop-replies.replies.items ++ reply) c.deref.ensures.value) ok invariant.served
    (rw c.in-Some.is at c.in_ok-made.ensures.next) in
    rw fault.1 (did_part g.J.LineJob.work Did c.args.job.now first g.J.LineJob.SETTLES_EACH c.next_reply.new.job
    c.put_due.new.job next (held c.args.sink.now) (held c.loop-replies.sink) (held c.put_due.new.sink) waits has
    c.in_err-put_due.ensures.part)

pub returns-in_err-put_replies-clause-leaves : goal.returns-in_err-put_replies-clause-leaves
returns-in_err-put_replies-clause-leaves g c =
    let fault = err_from_is_err_and c.from_residual-in_err-put_replies.result
    c.from_residual-in_err-put_replies.ensures.1 in
    let invariant = c.loop-replies.invariant in
    let Did = g.J.LineJob.Did in
    let held = g.K.Sink.held in
    let first = moment (g.J.LineJob.state c.args.job.now) c.args.lines.now (g.S.Source.left c.args.source.now) in
    let now = moment (g.J.LineJob.state c.loop-replies.job) c.loop-replies.lines
    (g.S.Source.left c.loop-replies.source) in
    let next = moment (g.J.LineJob.state c.next_reply.new.job) c.next_reply.new.lines
    (g.S.Source.left c.next_reply.new.source) in
    let waits = c.loop-replies.replies.items in
    let has = served_last g.J.LineJob.work Did c.args.job.now first c.loop-replies.job c.next_reply.new.job now next
    (held c.args.sink.now) (held c.loop-replies.sink) waits c.next_reply.new.out.items invariant.served
    (rw c.in_default.is at c.in_ok-made.ensures.next) in
    rw (fault.1, fault.2) (unput g.J.LineJob.work first Did g.J.LineJob.SETTLES_EACH c.next_reply.new.job
    c.put_replies.new.job _ _ c.in_err-put_replies.ensures.fault next (held c.args.sink.now) (held c.loop-replies.sink)
    (held c.put_replies.new.sink) waits
    c.requires (are_served g.J.LineJob.work (Did c.args.job.now c.next_reply.new.job) first next
    (held c.args.sink.now) (held c.loop-replies.sink) waits has)
    (moves_on first now next invariant.moves c.in_ok-made.ensures.next.moves) c.in_err-put_replies.ensures.part)

pub returns-in_err-put_replies-clause-did_some : goal.returns-in_err-put_replies-clause-did_some
returns-in_err-put_replies-clause-did_some g c =
    let fault = err_from_is_err_and c.from_residual-in_err-put_replies.result
    c.from_residual-in_err-put_replies.ensures.1 in
    let invariant = c.loop-replies.invariant in
    let Did = g.J.LineJob.Did in
    let held = g.K.Sink.held in
    let first = moment (g.J.LineJob.state c.args.job.now) c.args.lines.now (g.S.Source.left c.args.source.now) in
    let now = moment (g.J.LineJob.state c.loop-replies.job) c.loop-replies.lines
    (g.S.Source.left c.loop-replies.source) in
    let next = moment (g.J.LineJob.state c.next_reply.new.job) c.next_reply.new.lines
    (g.S.Source.left c.next_reply.new.source) in
    let waits = c.loop-replies.replies.items in
    let has = served_last g.J.LineJob.work Did c.args.job.now first c.loop-replies.job c.next_reply.new.job now next
    (held c.args.sink.now) (held c.loop-replies.sink) waits c.next_reply.new.out.items invariant.served
    (rw c.in_default.is at c.in_ok-made.ensures.next) in
    rw fault.1 (did_part g.J.LineJob.work Did c.args.job.now first g.J.LineJob.SETTLES_EACH c.next_reply.new.job
    c.put_replies.new.job next (held c.args.sink.now) (held c.loop-replies.sink) (held c.put_replies.new.sink) waits has
    c.in_err-put_replies.ensures.part)

pub returns-clause-replied : goal.returns-clause-replied
returns-clause-replied g c =
    let invariant = c.loop-replies.invariant in
    let Did = g.J.LineJob.Did in
    let held = g.K.Sink.held in
    let first = moment (g.J.LineJob.state c.args.job.now) c.args.lines.now (g.S.Source.left c.args.source.now) in
    let now = moment (g.J.LineJob.state c.loop-replies.job) c.loop-replies.lines
    (g.S.Source.left c.loop-replies.source) in
    let next = moment (g.J.LineJob.state c.next_reply.new.job) c.next_reply.new.lines
    (g.S.Source.left c.next_reply.new.source) in
    let waits = c.loop-replies.replies.items in
    let has = served_last g.J.LineJob.work Did c.args.job.now first c.loop-replies.job c.next_reply.new.job now next
    (held c.args.sink.now) (held c.loop-replies.sink) waits c.next_reply.new.out.items invariant.served
    (rw c.in_default.is at c.in_ok-made.ensures.next) in
    let state = g.J.LineJob.state c.put_replies.new.job in
    let kept = c.in_ok-put_replies.ensures.kept in
    let last = moment state next.lines next.left in
    served_all g.J.LineJob.work first last (held c.args.sink.now) (held c.put_replies.new.sink) c.requires
    (are_served g.J.LineJob.work (Did c.args.job.now c.put_replies.new.job) first last (held c.args.sink.now)
    (held c.put_replies.new.sink) []
    (served_settled g.J.LineJob.work Did c.args.job.now first g.J.LineJob.SETTLES_EACH c.next_reply.new.job
    c.put_replies.new.job next state (held c.args.sink.now) (held c.loop-replies.sink) (held c.put_replies.new.sink)
    waits has kept c.in_ok-put_replies.ensures.put))
    (rw kept (moves_on first now next invariant.moves c.in_ok-made.ensures.next.moves))
    (rw c.in_default.is at c.in_ok-made.ensures.next).ended

pub returns-clause-did_all : goal.returns-clause-did_all
returns-clause-did_all g c =
    let invariant = c.loop-replies.invariant in
    let Did = g.J.LineJob.Did in
    let held = g.K.Sink.held in
    let first = moment (g.J.LineJob.state c.args.job.now) c.args.lines.now (g.S.Source.left c.args.source.now) in
    let now = moment (g.J.LineJob.state c.loop-replies.job) c.loop-replies.lines
    (g.S.Source.left c.loop-replies.source) in
    let next = moment (g.J.LineJob.state c.next_reply.new.job) c.next_reply.new.lines
    (g.S.Source.left c.next_reply.new.source) in
    let waits = c.loop-replies.replies.items in
    let has = served_last g.J.LineJob.work Did c.args.job.now first c.loop-replies.job c.next_reply.new.job now next
    (held c.args.sink.now) (held c.loop-replies.sink) waits c.next_reply.new.out.items invariant.served
    (rw c.in_default.is at c.in_ok-made.ensures.next) in
    did_all g.J.LineJob.work Did c.args.job.now first g.J.LineJob.SETTLES_EACH c.next_reply.new.job
    c.put_replies.new.job next (held c.args.sink.now) (held c.loop-replies.sink) waits has
    (moves_on first now next invariant.moves c.in_ok-made.ensures.next.moves)
    (rw c.in_default.is at c.in_ok-made.ensures.next).ended c.in_ok-put_replies.ensures.put.settles

pub returns-in-Err-clause-refused : goal.returns-in-Err-clause-refused
returns-in-Err-clause-refused g c =
    let invariant = c.loop-replies.invariant in
    let next = rw c.in-Some.is at c.in_ok-made.ensures.next in
    rw c.into.ensures (stop_refused g.J.LineJob.work _ _ _ _ c.loop-replies.replies.items invariant.replied
    g.J.LineJob.Did g.J.LineJob.SETTLES_EACH c.next_reply.new.job c.put_before_stop.new.job c.in-Err.stop _ _
    c.in-Some.made c.next_reply.new.out.items next.next c.in-Err.is next.met invariant.each
    c.in_ok-put_before_stop.ensures.put)

pub returns-clause-replied_lines : goal.returns-clause-replied_lines
returns-clause-replied_lines g c =
    let invariant = c.loop-replies.invariant in
    let held = g.K.Sink.held in
    let next = rw c.in_default.is at c.in_ok-made.ensures.next in
    replied_put g.J.LineJob.work _ (g.J.LineJob.state c.loop-replies.job) (held c.args.sink.now)
    (held c.loop-replies.sink) c.loop-replies.replies.items invariant.replied _ (held c.put_replies.new.sink)
    (c.in_ok-put_replies.ensures.kept ∙ next.met) c.in_ok-put_replies.ensures.put.written
