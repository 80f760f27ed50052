-- What a packet promises in which no rule is broken.
use Rattle.std.proofs.Common.{◌≡◌, ◌≢◌, ℕ, ◌+◌, ◌*◌, ◌<◌, ◌≤◌, ◌^◌, Bool, true, false, List, ◌++◌, None, length, is_some, refl, sym, ap, arith, ◌∙◌, nat_lt}
use Rattle.std.proofs.lemmas.Bool.{eqb-false, eqb-true}
use Rattle.std.specs.Prelude.{if◌then◌else◌, ◌==◌}
use Rattle.field_words.specs.{Words.u32_at, Questions.first_of}
use Rattle.field_words.proofs.{Questions.none_broken, Nones.front_none, Nones.rest_none}
use Rattle.buffer_table.specs.Handles.{IsData, data_of}
use Rattle.buffer_table.proofs.Named.{data_named}
use Rattle.packets.specs.Opcode.{flush, indexed_primitive_list, array_primitive_list, tile_binning_mode}
use Rattle.packets.specs.Length.{bin_length, bin_taken}
use Rattle.bin_list.specs.Rules.{GivenModel, cut_questions, kind_questions, flush_questions, primitive_questions, index_buffer, index_size, indexes_end, index_questions, array_questions, config_questions, packet_questions}
use Rattle.bin_list.specs.{declared.seen.Seen.Seen, Packets.opcode}
use Rattle.bin_list.proofs.Facts.{kind_none, kind_config}

pub cut_fine : (given : GivenModel) (seen : Seen) (p : List ℕ) → first_of (packet_questions given seen p) ≡ None
    → (bin_length (opcode p) ≢ 0) × (bin_length (opcode p) ≤ length p)
unfolding packet_questions cut_questions
cut_fine given seen p none =
    let asked = none_broken (cut_questions p) (front_none (cut_questions p) (kind_questions given seen p) none) in
    (eqb-false (bin_length (opcode p)) 0 asked.0, grind (arith, asked.1.0))

taken_if : (b : Bool) (n : ℕ) → (n == 0) ≡ b → n ≢ 0 → (if b then 1 else n) ≡ n
taken_if true n is some = absurd (some (eqb-true n 0 is))
taken_if false n is some = refl

pub taken_is : (o : ℕ) → bin_length o ≢ 0 → bin_taken o ≡ bin_length o
unfolding bin_taken
taken_is o some = taken_if (bin_length o == 0) (bin_length o) refl some

kind_flush : (given : GivenModel) (seen : Seen) (p : List ℕ) → opcode p ≡ flush → kind_questions given seen p ≡ flush_questions given seen
unfolding kind_questions
kind_flush given seen p is = rw is refl

kind_indexed : (given : GivenModel) (seen : Seen) (p : List ℕ) → opcode p ≡ indexed_primitive_list
    → kind_questions given seen p ≡ primitive_questions seen ++ index_questions given seen p
unfolding kind_questions
kind_indexed given seen p is = rw is refl

kind_array : (given : GivenModel) (seen : Seen) (p : List ℕ) → opcode p ≡ array_primitive_list
    → kind_questions given seen p ≡ primitive_questions seen ++ array_questions p
unfolding kind_questions
kind_array given seen p is = rw is refl

pub flush_fine : (given : GivenModel) (seen : Seen) (p : List ℕ) → first_of (packet_questions given seen p) ≡ None → opcode p ≡ flush → seen.at + 1 ≡ given.size
unfolding flush_questions
flush_fine given seen p none is =
    let asked = none_broken (flush_questions given seen) (sym (ap first_of (kind_flush given seen p is)) ∙ kind_none given seen p none) in
    let b : (seen.at + 1 == given.size) ≡ true = grind (arith, asked.0) in
    eqb-true (seen.at + 1) given.size b

pub record IsPrimitiveFine (seen : Seen) : Type 0 where
  pub states : 1 ≤ seen.states
  pub started : seen.started ≡ true

primitive_fine : (seen : Seen) → first_of (primitive_questions seen) ≡ None → IsPrimitiveFine seen
unfolding primitive_questions
primitive_fine seen none =
    let asked = none_broken (primitive_questions seen) none in
    let some : seen.states ≢ 0 = eqb-false seen.states 0 asked.0 in
    record { states = omega arith; started = grind (arith, asked.1.0) }

leb_of : (m n : ℕ) → nat_lt m n ≡ false → n ≤ m
leb_of m n is = grind (arith, is)

pub record IsIndexedFine (given : GivenModel) (seen : Seen) (p : List ℕ) : Type 0 where
  pub primitive : IsPrimitiveFine seen
  pub buffer : IsData given.table given.handles seen.index_handle
  pub inside : u32_at p 6 + u32_at p 2 * index_size p ≤ (index_buffer given seen).size

pub indexed_fine : (given : GivenModel) (seen : Seen) (p : List ℕ) → first_of (packet_questions given seen p) ≡ None → opcode p ≡ indexed_primitive_list
    → IsIndexedFine given seen p
unfolding index_questions indexes_end
indexed_fine given seen p none is =
    let all : first_of (primitive_questions seen ++ index_questions given seen p) ≡ None = sym (ap first_of (kind_indexed given seen p is)) ∙ kind_none given seen p none in
    let asked = none_broken (index_questions given seen p) (rest_none (primitive_questions seen) (index_questions given seen p) all) in
    let found : is_some (data_of given.table given.handles seen.index_handle) ≡ true = grind (arith, asked.0) in
    record {
      primitive = primitive_fine seen (front_none (primitive_questions seen) (index_questions given seen p) all);
      buffer = data_named given.table given.handles seen.index_handle found;
      inside = leb_of (index_buffer given seen).size (u32_at p 6 + u32_at p 2 * index_size p) asked.1.0;
    }

pub record IsArrayFine (seen : Seen) (p : List ℕ) : Type 0 where
  pub primitive : IsPrimitiveFine seen
  pub fits : u32_at p 6 + u32_at p 2 < 2 ^ 32

pub array_fine : (given : GivenModel) (seen : Seen) (p : List ℕ) → first_of (packet_questions given seen p) ≡ None → opcode p ≡ array_primitive_list → IsArrayFine seen p
unfolding array_questions
array_fine given seen p none is =
    let all : first_of (primitive_questions seen ++ array_questions p) ≡ None = sym (ap first_of (kind_array given seen p is)) ∙ kind_none given seen p none in
    let asked = none_broken (array_questions p) (rest_none (primitive_questions seen) (array_questions p) all) in
    record {
      primitive = primitive_fine seen (front_none (primitive_questions seen) (array_questions p) all);
      fits = grind (arith, asked.0);
    }

-- a configuration has none before it
pub config_first : (given : GivenModel) (seen : Seen) (p : List ℕ) → first_of (packet_questions given seen p) ≡ None → opcode p ≡ tile_binning_mode → seen.configured ≡ false
unfolding config_questions
config_first given seen p none is =
    let asked = none_broken (config_questions seen p) (sym (ap first_of (kind_config given seen p is)) ∙ kind_none given seen p none) in
    asked.0
