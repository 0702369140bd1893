-- A line is read and met.
use Rattle.pol_jobs.specs.Moments.{moment}
use Rattle.pol_jobs.proofs.Meeting.{text_next, long_next}
use Rattle.pol_jobs.proofs.lines.next_reply.Goals as goal

pub returns-in-Ok-Text-clause-next : goal.returns-in-Ok-Text-clause-next
returns-in-Ok-Text-clause-next g c =
    text_next g.J.LineJob.work g.J.LineJob.Did c.args.job.now c.reply.new.self
    (moment (g.J.LineJob.state c.args.job.now) c.args.lines.now (g.S.Source.left c.args.source.now))
    (moment (g.J.LineJob.state c.reply.new.self) c.next_line.follows.lender-at-none
    (g.S.Source.left c.next_line.new.source)) c.reply.result c.args.out.now.items c.reply.new.out.items
    c.requires.empty c.in-Ok-Text.text
    (rw (c.in-Ok-Text.is, c.in-Ok-Text.field-0-is) at c.next_line.follows.holds-at-none) c.reply.ensures.text
    c.reply.ensures.after c.reply.ensures.accepted c.reply.ensures.refused c.reply.ensures.did

pub returns-in-Ok-TooLong-clause-next : goal.returns-in-Ok-TooLong-clause-next
returns-in-Ok-TooLong-clause-next g c =
    long_next g.J.LineJob.work g.J.LineJob.Did c.args.job.now c.reply-in-Ok-TooLong.new.self
    (moment (g.J.LineJob.state c.args.job.now) c.args.lines.now (g.S.Source.left c.args.source.now))
    (moment (g.J.LineJob.state c.reply-in-Ok-TooLong.new.self) c.next_line.follows.lender-at-none
    (g.S.Source.left c.next_line.new.source)) c.reply-in-Ok-TooLong.result c.args.out.now.items
    c.reply-in-Ok-TooLong.new.out.items c.requires.empty
    (rw (c.in-Ok-TooLong.is, c.in-Ok-TooLong.field-0-is) at c.next_line.follows.holds-at-none)
    c.reply-in-Ok-TooLong.ensures.text c.reply-in-Ok-TooLong.ensures.after
    c.reply-in-Ok-TooLong.ensures.accepted c.reply-in-Ok-TooLong.ensures.refused
    c.reply-in-Ok-TooLong.ensures.did
