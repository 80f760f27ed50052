use Rattle.std.proofs.Common.{arith}
use Rattle.job_session.specs.{Desk.held_in, Submit.contents_from}
use Rattle.job_session.proofs.Texts.{job_text}
use Rattle.job_session.proofs.job_file.put_job.Goals as goal

pub returns : goal.returns
returns c =
    job_text c.args.file.now.items (contents_from (held_in c.args.session.now c.args.client) 0 64) c.args.parts.now
    c.extend_from_slice-2.new.self.items c.put_contents.new.file.items c.extend_from_slice-3.new.self.items (λ short. omega (arith, short, c.if-parts-lt-JOB_SIZE.false))
    c.in_ok-extend_from_slice-2.ensures.items c.in_ok-put_contents.ensures c.in_ok-extend_from_slice-3.ensures.items
