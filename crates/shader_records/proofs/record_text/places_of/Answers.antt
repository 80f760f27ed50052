-- The streams stand one behind the other.
use Rattle.std.proofs.Common.{refl, arith}
use Rattle.shader_records.proofs.Steps.{given_parts, streams_each}
use Rattle.shader_records.proofs.record_text.places_of.Goals as goal

pub overflow_cast-result : goal.overflow_cast-result
overflow_cast-result c =
    let parts = given_parts c.args.inputs.now c.args.at in
    omega (arith, c.requires.room, parts.three, c.start_of-fragment.ensures.given)

pub overflow_add-result : goal.overflow_add-result
overflow_add-result c =
    let parts = given_parts c.args.inputs.now c.args.at in
    omega (arith, c.requires.room, parts.three, c.start_of-fragment.ensures.given)

pub overflow_cast-result-2 : goal.overflow_cast-result-2
overflow_cast-result-2 c =
    let parts = given_parts c.args.inputs.now c.args.at in
    omega (arith, c.requires.room, parts.three, c.start_of-fragment.ensures.given, c.start_of-vertex.ensures.given)

pub overflow_add-result-2 : goal.overflow_add-result-2
overflow_add-result-2 c =
    let parts = given_parts c.args.inputs.now c.args.at in
    omega (arith, c.requires.room, parts.three, c.start_of-fragment.ensures.given, c.start_of-vertex.ensures.given)

pub returns-clause-streams : goal.returns-clause-streams
returns-clause-streams c =
    record {
      three = refl;
      each = λ s below.
          streams_each c.args.inputs.now c.args.at c.args.first c.start_of-fragment.result.given c.start_of-vertex.result.given c.start_of-fragment.ensures.given c.start_of-vertex.ensures.given s below;
    }

pub returns-clause-given : goal.returns-clause-given
returns-clause-given c =
    let parts = given_parts c.args.inputs.now c.args.at in
    omega (arith, parts.three, c.start_of-fragment.ensures.given, c.start_of-vertex.ensures.given, c.start_of-coordinate.ensures.given)
