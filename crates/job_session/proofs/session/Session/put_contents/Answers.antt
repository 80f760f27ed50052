use Rattle.std.proofs.Common.{◌++◌, ℕ, Option}
use Rattle.job_session.specs.{Own.Held, Desk.held_in, Submit.contents_from}
use Rattle.job_session.proofs.Packed.{contents_more, contents_end}
use Rattle.job_session.proofs.session.Session.put_contents.Goals as goal

pub loop-id-preserved : goal.loop-id-preserved
loop-id-preserved c =
    let own : ℕ → Option Held = held_in c.args.self.now c.args.client in
    contents_more own c.loop-id.id c.loop-id.file.items c.put_content.new.file.items (c.args.file.now.items ++ contents_from own 0 64) c.loop-id-test.true
    c.in_ok-put_content.ensures c.loop-id.invariant

pub returns : goal.returns
returns c =
    let own : ℕ → Option Held = held_in c.args.self.now c.args.client in
    contents_end own c.loop-id.id c.loop-id.file.items (c.args.file.now.items ++ contents_from own 0 64) c.loop-id-test.false c.loop-id.invariant
