-- Bytes of a packet, read back from what it is emitted as.
use Rattle.std.proofs.Common.{◌≡◌, ℕ, ◌+◌, ◌-◌, ◌*◌, ◌%◌, ◌<◌, ◌≤◌, ◌^◌, List, [], ◌∷◌, ◌++◌, length, refl, sym, ap, arith, ◌∙◌}
use Rattle.std.proofs.lemmas.Nat.{from_le_bytes-to_le_bytes_4}
use Rattle.field_words.specs.{Sizes.slot_size, Words.u32_at, Writes.with_bytes}
use Rattle.std.specs.{Prelude.slice_index, Int.from_le_bytes, Int.to_le_bytes, Int.w32}
use Rattle.field_words.proofs.Numbers.{from_front_4}
use Rattle.relocation.specs.declared.layout.Layout.{Layout}
use Rattle.packets.specs.{Opcode.gl_shader_state, Opcode.tile_binning_mode, declared.config.Config.Config, Config.config_in}
use Rattle.tile_memory.specs.Slots.{alloc_offset}
use Rattle.bin_list.specs.{declared.seen.Seen.Seen, Packets.opcode, Rules.index_size, Emitted.state_text, Emitted.config_text}
use Rattle.bin_walks.specs.Emission.{config_of}
use Rattle.buffer_table.specs.Table.{most_place}

-- a number that was written reads as itself
pub read_word : (n : ℕ) (rest : List ℕ) → n < 2 ^ 32 → from_le_bytes w32 (to_le_bytes w32 n ++ rest) ≡ n
read_word n rest fits = sym (from_front_4 (to_le_bytes w32 n ++ rest)) ∙ from_le_bytes-to_le_bytes_4 n fits

-- what stays of an indexed primitive whose address was changed
pub record Addressed (p : List ℕ) (n : ℕ) : Type 0 where
  pub same_opcode : opcode (with_bytes p 6 (to_le_bytes w32 n)) ≡ opcode p
  pub long : length (with_bytes p 6 (to_le_bytes w32 n)) ≡ 14
  pub count : u32_at (with_bytes p 6 (to_le_bytes w32 n)) 2 ≡ u32_at p 2
  pub address : u32_at (with_bytes p 6 (to_le_bytes w32 n)) 6 ≡ n
  pub most : u32_at (with_bytes p 6 (to_le_bytes w32 n)) 10 ≡ u32_at p 10
  pub wide : index_size (with_bytes p 6 (to_le_bytes w32 n)) ≡ index_size p

pub addressed : (p : List ℕ) (n : ℕ) → length p ≡ 14 → n < 2 ^ 32 → Addressed p n
unfolding u32_at index_size
addressed [] n long fits = absurd (omega arith)
addressed (a0 ∷ []) n long fits = absurd (omega arith)
addressed (a0 ∷ (a1 ∷ [])) n long fits = absurd (omega arith)
addressed (a0 ∷ (a1 ∷ (a2 ∷ []))) n long fits = absurd (omega arith)
addressed (a0 ∷ (a1 ∷ (a2 ∷ (a3 ∷ [])))) n long fits = absurd (omega arith)
addressed (a0 ∷ (a1 ∷ (a2 ∷ (a3 ∷ (a4 ∷ []))))) n long fits = absurd (omega arith)
addressed (a0 ∷ (a1 ∷ (a2 ∷ (a3 ∷ (a4 ∷ (a5 ∷ [])))))) n long fits = absurd (omega arith)
addressed (a0 ∷ (a1 ∷ (a2 ∷ (a3 ∷ (a4 ∷ (a5 ∷ (a6 ∷ []))))))) n long fits = absurd (omega arith)
addressed (a0 ∷ (a1 ∷ (a2 ∷ (a3 ∷ (a4 ∷ (a5 ∷ (a6 ∷ (a7 ∷ [])))))))) n long fits = absurd (omega arith)
addressed (a0 ∷ (a1 ∷ (a2 ∷ (a3 ∷ (a4 ∷ (a5 ∷ (a6 ∷ (a7 ∷ (a8 ∷ []))))))))) n long fits = absurd (omega arith)
addressed (a0 ∷ (a1 ∷ (a2 ∷ (a3 ∷ (a4 ∷ (a5 ∷ (a6 ∷ (a7 ∷ (a8 ∷ (a9 ∷ [])))))))))) n long fits = absurd (omega arith)
addressed (a0 ∷ (a1 ∷ (a2 ∷ (a3 ∷ (a4 ∷ (a5 ∷ (a6 ∷ (a7 ∷ (a8 ∷ (a9 ∷ (a10 ∷ []))))))))))) n long fits = absurd (omega arith)
addressed (a0 ∷ (a1 ∷ (a2 ∷ (a3 ∷ (a4 ∷ (a5 ∷ (a6 ∷ (a7 ∷ (a8 ∷ (a9 ∷ (a10 ∷ (a11 ∷ [])))))))))))) n long fits = absurd (omega arith)
addressed (a0 ∷ (a1 ∷ (a2 ∷ (a3 ∷ (a4 ∷ (a5 ∷ (a6 ∷ (a7 ∷ (a8 ∷ (a9 ∷ (a10 ∷ (a11 ∷ (a12 ∷ []))))))))))))) n long fits = absurd (omega arith)
addressed (a0 ∷ (a1 ∷ (a2 ∷ (a3 ∷ (a4 ∷ (a5 ∷ (a6 ∷ (a7 ∷ (a8 ∷ (a9 ∷ (a10 ∷ (a11 ∷ (a12 ∷ (a13 ∷ [])))))))))))))) n long fits =
    record {
      same_opcode = refl;
      long = refl;
      count = refl;
      address = read_word n (a10 ∷ (a11 ∷ (a12 ∷ (a13 ∷ [])))) fits;
      most = refl;
      wide = refl;
    }
addressed (a0 ∷ (a1 ∷ (a2 ∷ (a3 ∷ (a4 ∷ (a5 ∷ (a6 ∷ (a7 ∷ (a8 ∷ (a9 ∷ (a10 ∷ (a11 ∷ (a12 ∷ (a13 ∷ (b ∷ more))))))))))))))) n long fits = absurd (omega arith)

pub state_opcode : (layout : Layout) (seen : Seen) (p : List ℕ) → opcode (state_text layout seen p) ≡ gl_shader_state
unfolding state_text
state_opcode layout seen p = refl

pub state_long : (layout : Layout) (seen : Seen) (p : List ℕ) → length (state_text layout seen p) ≡ 5
unfolding state_text
state_long layout seen p = refl

pub state_word : (layout : Layout) (seen : Seen) (p : List ℕ) → layout.place + layout.records + seen.records + u32_at p 1 % 16 < 2 ^ 32
    → u32_at (state_text layout seen p) 1 ≡ layout.place + layout.records + seen.records + u32_at p 1 % 16
unfolding state_text u32_at
state_word layout seen p fits = from_le_bytes-to_le_bytes_4 (layout.place + layout.records + seen.records + u32_at p 1 % 16) fits

pub config_opcode : (layout : Layout) (p : List ℕ) → opcode (config_text layout p) ≡ tile_binning_mode
unfolding config_text
config_opcode layout p = refl

pub config_long : (layout : Layout) (p : List ℕ) → length (config_text layout p) ≡ 16
unfolding config_text
config_long layout p = refl

same_config : (a b s t c d x y : ℕ) → a ≡ b → s ≡ t → c ≡ d
    → (let one : Config = record { address = a; size = s; states = c; tiles_x = x; tiles_y = y } in let two : Config = record { address = b; size = t; states = d; tiles_x = x; tiles_y = y } in one ≡ two)
same_config a b s t c d x y e f g =
    let make : ℕ → ℕ → ℕ → Config = λ u v w. record { address = u; size = v; states = w; tiles_x = x; tiles_y = y } in
    ap (λ u. make u s c) e ∙ ap (λ v. make b v c) f ∙ ap (λ w. make b t w) g

pub config_read : (layout : Layout) (p : List ℕ) → layout.slot ≤ most_place → alloc_offset (slice_index p 13 * slice_index p 14) ≤ slot_size
    → config_in (config_text layout p) ≡ config_of layout (slice_index p 13) (slice_index p 14)
unfolding config_text config_in u32_at
config_read layout p slot room =
    let start = alloc_offset (slice_index p 13 * slice_index p 14) in
    let tail : List ℕ = slice_index p 13 ∷ (slice_index p 14 ∷ ((slice_index p 15 % 2 + 68) ∷ [])) in
    same_config _ (layout.slot + start) _ (slot_size - start) _ layout.slot (slice_index p 13) (slice_index p 14)
    (read_word (layout.slot + start) (to_le_bytes w32 (slot_size - start) ++ (to_le_bytes w32 layout.slot ++ tail)) (omega arith))
    (read_word (slot_size - start) (to_le_bytes w32 layout.slot ++ tail) (omega arith))
    (read_word layout.slot tail (omega arith))
