use Rattle.std.proofs.Common.{◌≡◌, ◌≤◌, ◌++◌, ◌∷◌, [], length, refl, arith}
use Rattle.std.proofs.lemmas.Bool.Decides.{nat_tests}
use Rattle.job_queue.specs.Calls.{buffers_of}
use Rattle.job_queue.proofs.Words.{put_one, put_none, put_all}
use Rattle.job_queue.proofs.call.put_numbers.Goals.{in-Some+in_ok-push, in_default}
use Rattle.job_queue.proofs.call.put_numbers.Goals as goal

pub loop-rest-init : goal.loop-rest-init
unfolding buffers_of
loop-rest-init c = refl

pub loop-rest-preserved : goal.loop-rest-preserved
loop-rest-preserved c = elim c.match-read_number.branch [
  | in-Some+in_ok-push w ↦
      let items : w.push.new.self.items ≡ c.loop-rest.numbers.items ++ w.in-Some.number ∷ [] = w.in_ok-push.ensures.items in
      rw (w.numbers-is, items) (put_one c.loop-rest.numbers.items (c.args.numbers.now.items ++ buffers_of c.args.word.now) c.loop-rest.rest.now c.cut_at-cut.result.first.now c.cut_at-cut.result.rest.now
      w.in-Some.number c.read_number.result c.cut_at-cut.ensures.first c.cut_at-cut.ensures.rest c.read_number.ensures.number w.in-Some.is c.loop-rest.invariant)
  | in_default w ↦
      rw w.numbers-is (put_none c.loop-rest.numbers.items (c.args.numbers.now.items ++ buffers_of c.args.word.now) c.loop-rest.rest.now c.cut_at-cut.result.first.now c.cut_at-cut.result.rest.now
      c.read_number.result c.cut_at-cut.ensures.first c.cut_at-cut.ensures.rest c.read_number.ensures.number w.in_default.is c.loop-rest.invariant)
]

pub returns : goal.returns
returns c =
    let none : length c.loop-rest.rest.now ≤ 0 = grind (arith, nat_tests, c.is_empty.ensures, c.loop-rest-test.false) in
    put_all c.loop-rest.numbers.items (c.args.numbers.now.items ++ buffers_of c.args.word.now) c.loop-rest.rest.now none c.loop-rest.invariant
