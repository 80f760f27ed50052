use Rattle.std.proofs.Common.{◌+◌, length, Some, arith, ap, sym, subst, ◌∙◌, refl, inl}
use Rattle.field_words.specs.{Questions.first_of, Writes.with_bytes}
use Rattle.bin_list.specs.{declared.check.Read.Read, Rules.packet_questions, Fine.IsPlain}
use Rattle.bin_list.proofs.Walk.{begins, stops_at, goes_on, meets, through, some_left, none_left, room_fits}
use Rattle.bin_list.proofs.Plain.{plain_none, plain_text, plain_seen, plain_states}
use Rattle.bin_list.proofs.check.read_packets.Goals as goal

pub loop-rest-init : goal.loop-rest-init
loop-rest-init c = begins c.requires.room c.nothing-seen.ensures refl c.new-states.ensures.done c.new-states.ensures.current

pub put-end-requires : goal.put-end-requires
put-end-requires c =
    record { room = room_fits c.loop-rest.invariant c.requires.room c.split_plain.result.0.now c.split_plain.result.1.now c.split_plain.ensures.fits }

pub go_past_plain-requires-clause-place : goal.go_past_plain-requires-clause-place
go_past_plain-requires-clause-place c = omega (arith, c.loop-rest.invariant.inside, c.split_plain.ensures.fits, c.requires.short)

-- A packet that is only copied: no rule of it is broken, and it is its own text.
pub loop-rest-preserved-in-Some : goal.loop-rest-preserved-in-Some
loop-rest-preserved-in-Some c =
    let given = c.args.given.now in
    let seen = c.loop-rest.seen in
    let packet = c.split_plain.result.0.now in
    let plain : IsPlain packet = subst IsPlain (sym c.split_plain.ensures.packet) c.in-Some.ensures.plain in
    let text = plain_text given c.args.layout.now seen packet plain in
    let some = some_left c.loop-rest.rest.now (sym c.is_empty.ensures ∙ c.loop-rest-test.true) in
    goes_on c.loop-rest.invariant some c.requires.room c.split_plain.ensures.packet (plain_none given seen packet plain)
    (c.go_past_plain.ensures.value ∙ plain_seen seen packet plain) c.go_past_plain.ensures.bounded
    (c.put-end.ensures.text ∙ ap (with_bytes c.loop-rest.out c.loop-rest.end) (sym text))
    (c.put-end.ensures.end ∙ ap (λ t. c.loop-rest.end + length t) (sym text)) (omega (arith, ap length text))
    (plain_states c.loop-rest.states.done.items c.loop-rest.states.current packet plain) (λ is. inl is) c.split_plain.ensures.rest

pub returns-in-Some-packet_fault-clause-answers : goal.returns-in-Some-packet_fault-clause-answers
returns-in-Some-packet_fault-clause-answers c =
    stops_at c.loop-rest.invariant (some_left c.loop-rest.rest.now (sym c.is_empty.ensures ∙ c.loop-rest-test.true)) c.in-Some-packet_fault.rule
    (ap (λ p. first_of (packet_questions c.args.given.now c.loop-rest.seen p)) (sym c.split_front.ensures.packet) ∙ sym c.in-Some-packet_fault.ensures.first)
    ∙ ap (λ n. Some (record { number = n; at = c.loop-rest.seen.at })) (sym c.number.ensures)

pub put_packet-end-requires-clause-room : goal.put_packet-end-requires-clause-room
put_packet-end-requires-clause-room c =
    room_fits c.loop-rest.invariant c.requires.room c.split_front.result.0.now c.split_front.result.1.now c.split_front.ensures.fits

pub returns-in_err-pass-clause-memory : goal.returns-in_err-pass-clause-memory
returns-in_err-pass-clause-memory c = λ error. meets c.loop-rest.invariant c.in_err-pass.ensures.memory

pub go_past-requires-clause-place : goal.go_past-requires-clause-place
go_past-requires-clause-place c = omega (arith, c.loop-rest.invariant.inside, c.split_front.ensures.fits, c.requires.short)

pub loop-rest-preserved : goal.loop-rest-preserved
loop-rest-preserved c =
    goes_on c.loop-rest.invariant (some_left c.loop-rest.rest.now (sym c.is_empty.ensures ∙ c.loop-rest-test.true)) c.requires.room
    c.split_front.ensures.packet (sym c.in_default-packet_fault.ensures.first) c.go_past.ensures.value c.go_past.ensures.bounded
    c.put_packet-end.ensures.text c.put_packet-end.ensures.end c.put_packet-end.ensures.long
    c.in_ok-pass.ensures.states c.pass.ensures.begun c.split_front.ensures.rest

pub returns : goal.returns
returns c =
    let none = none_left c.loop-rest.rest.now (sym c.is_empty.ensures ∙ c.loop-rest-test.false) in
    let read : Read = record { seen = c.loop-rest.seen; end = c.loop-rest.end; states = c.loop-rest.states } in
    let done = through read c.loop-rest.invariant none in
    record { answers = (done.0, done.1); put = done.2; memory = λ error. absurd (cc) }
