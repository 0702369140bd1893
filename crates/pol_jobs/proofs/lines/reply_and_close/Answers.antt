use Rattle.std.proofs.lemmas.Result.{err_from_is_err_and}
use Rattle.pol_jobs.proofs.Deeds.{all_more, all_some, did_none}
use Rattle.pol_jobs.proofs.Serving.{end_stopped, nothing_leaves, unclosed}
use Rattle.pol_jobs.proofs.Refusing.{end_refused}
use Rattle.pol_jobs.proofs.lines.reply_and_close.Goals as goal

pub returns-in_err-lines-clause-leaves : goal.returns-in_err-lines-clause-leaves
returns-in_err-lines-clause-leaves g c =
    let fault = err_from_is_err_and c.from_residual.result c.from_residual.ensures.1 in
    rw (fault.1, fault.2) (nothing_leaves _ _ _)

pub returns-in_err-end-clause-leaves : goal.returns-in_err-end-clause-leaves
returns-in_err-end-clause-leaves g c =
    let fault = err_from_is_err_and c.from_residual-in_err-end.result c.from_residual-in_err-end.ensures.1 in
    rw (fault.1, fault.2) (end_stopped _ _ _ _ _ _ _ _ c.in_ok-reply_to_all.ensures.replied
    c.in_err-end.ensures.refused)

pub returns-in_err-close-clause-leaves : goal.returns-in_err-close-clause-leaves
returns-in_err-close-clause-leaves g c =
    let fault = err_from_is_err_and c.from_residual-in_err-close.result c.from_residual-in_err-close.ensures.1 in
    rw (fault.1, fault.2) (unclosed g.J.LineJob.work _ _ _ _ _ _ _ _ _
    (rw c.in_ok-end.ensures.kept c.in_ok-reply_to_all.ensures.replied) c.in_err-close.ensures.part)

pub returns-in_err-lines-clause-did_some : goal.returns-in_err-lines-clause-did_some
returns-in_err-lines-clause-did_some g c =
    let fault = err_from_is_err_and c.from_residual.result c.from_residual.ensures.1 in
    rw fault.1 (did_none g.J.LineJob.work _ _ _ _ (g.met.J.LineJob.did_nothing c.args.job.now))

pub returns-in_err-end-clause-did_some : goal.returns-in_err-end-clause-did_some
returns-in_err-end-clause-did_some g c =
    let fault = err_from_is_err_and c.from_residual-in_err-end.result c.from_residual-in_err-end.ensures.1 in
    let did = g.J.LineJob.Did c.args.job.now in
    rw fault.1 (all_some g.J.LineJob.work _ _ _ _ _
    (all_more (did c.reply_to_all.new.job) (did c.end.new.self) _ c.in_ok-reply_to_all.ensures.did_all
    (c.in_err-end.ensures.did c.args.job.now)))

pub returns-in_err-close-clause-did_some : goal.returns-in_err-close-clause-did_some
returns-in_err-close-clause-did_some g c =
    let fault = err_from_is_err_and c.from_residual-in_err-close.result c.from_residual-in_err-close.ensures.1 in
    let did = g.J.LineJob.Did c.args.job.now in
    rw fault.1 (all_some g.J.LineJob.work _ _ _ _ _
    (all_more (did c.end.new.self) (did c.close.new.self) _
    (all_more (did c.reply_to_all.new.job) (did c.end.new.self) _ c.in_ok-reply_to_all.ensures.did_all
    (c.in_ok-end.ensures.did c.args.job.now)) (c.in_err-close.ensures.did c.args.job.now)))

pub returns-clause-did_all : goal.returns-clause-did_all
returns-clause-did_all g c =
    let did = g.J.LineJob.Did c.args.job.now in
    all_more (did c.end.new.self) (did c.close.new.self) _
    (all_more (did c.reply_to_all.new.job) (did c.end.new.self) _ c.in_ok-reply_to_all.ensures.did_all
    (c.in_ok-end.ensures.did c.args.job.now)) (c.in_ok-close.ensures.did c.args.job.now)

pub returns-in_err-end-clause-refused : goal.returns-in_err-end-clause-refused
returns-in_err-end-clause-refused g c =
    let fault = err_from_is_err_and c.from_residual-in_err-end.result c.from_residual-in_err-end.ensures.1 in
    rw (fault.1, fault.2) (end_refused g.J.LineJob.work _ _ _ _ _ c.in_ok-reply_to_all.ensures.replied_lines
    c.in_err-end.ensures.refused)
