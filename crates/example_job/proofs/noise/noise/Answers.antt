use Rattle.example_job.specs.Noise.{noise}
use Rattle.example_job.proofs.Texts.{noise_end}
use Rattle.example_job.proofs.noise.noise.Goals as goal

pub returns : goal.returns
returns c = noise_end c.loop.bytes.items c.loop.state c.args.len c.loop.counter (noise c.args.seed c.args.len) c.loop-test.false c.loop.invariant
