-- Each read goes one on, and one below 0 is undefined.
use Rattle.std.proofs.Common.{◌∙◌, sym, ap, arith}
use Rattle.texture_layouts.specs.Setup.{tiling_at}
use Rattle.texture_layouts.specs.Fetch.{fetch_size_of}
use Rattle.qpu_machine.specs.Request.{chosen_length}
use Rattle.qpu_machine.proofs.Asking.{texture_more, texture_wild, texture_end}
use Rattle.qpu_machine.proofs.request.list_texels.Goals as goal

pub loop-m-preserved : goal.loop-m-preserved
unfolding chosen_length
loop-m-preserved g c = record {
  left = texture_more c.args.reader.now.who c.args.texture.now (g.C.Choices.listed c.args.words.now) c.args.reader.now.memory.now c.args.accesses.now.items c.loop-m.accesses.items c.list_access.new.accesses.items c.loop-m.m c.in-Some.place c.fetch_size-size.result
      c.loop-m-test.true (sym c.in-Some.is ∙ c.chosen_place.ensures) (c.fetch_size-size.ensures ∙ ap (λ level. fetch_size_of (tiling_at c.args.texture.now level) c.args.texture.now.cpp) c.chosen_level-level.ensures.value) c.list_access.ensures.items c.loop-m.invariant.left;
  long = omega (arith, c.list_access.ensures.len, c.loop-m.invariant.long);
}

pub returns-in-None : goal.returns-in-None
returns-in-None g c =
    texture_wild c.args.reader.now.who c.args.texture.now (g.C.Choices.listed c.args.words.now) c.args.reader.now.memory.now c.args.accesses.now.items c.loop-m.accesses.items c.list_access-in-None.new.accesses.items c.loop-m.m
    c.loop-m-test.true (sym c.in-None.is ∙ c.chosen_place.ensures) c.list_access-in-None.ensures.items c.loop-m.invariant.left

pub returns : goal.returns
returns g c = texture_end c.args.reader.now.who c.args.texture.now (g.C.Choices.listed c.args.words.now) c.args.reader.now.memory.now c.args.accesses.now.items c.loop-m.accesses.items c.loop-m.m c.loop-m-test.false c.loop-m.invariant.left
