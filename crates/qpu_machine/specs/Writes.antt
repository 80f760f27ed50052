-- What an instruction writes, field by field of the thread.
use Rattle.std.specs.Prelude.{ℕ, ◌+◌, ◌-◌, ◌%◌, ◌^◌, ◌==◌, ◌&&◌, ◌||◌, not, Bool, true, false, nat_lt, nat_le, if◌then◌else◌, List, [], ◌∷◌, ◌++◌, drop, length, Option, Some, None, slice_index, slice_index_or, slice_set, unwrap_or}
use Rattle.qpu_isa.specs.Word.{sig_of, ws_of, waddr_add_of, waddr_mul_of, cond_add_of, cond_mul_of, cond_of, imm_of}
use Rattle.qpu_isa.specs.{Terms.is_branch, Terms.is_switch, Terms.is_end, Terms.add_names, Terms.writes_s, Terms.s_address, Setups.setups_kept, Terms.loads}
use Rattle.machine_plan.specs.Choice.{word_at}
use Rattle.qpu_machine.specs.State.{Ask, Asked, Direct, Ends, Fate, GoesOn, Switches, Texture, Thread}
use Rattle.qpu_machine.specs.Row.{chosen_row, chosen_rows, has_lane, rows_merged, mask_of}

-- A fresh thread first takes r0 to r5 from the choice words.
unfoldable pub awake : List ℕ → Thread → Thread
awake words t = record t { acc = if t.fresh then chosen_rows words else t.acc; fresh = false }

-- the uniform pointer goes on by 4 modulo 2^32
unfoldable pub past_uniform : Thread → Thread
past_uniform t = record t { uniforms = (t.uniforms + 4) % 2 ^ 32 }

-- A branch is no instruction of the two units: as such it writes to 39, which is nothing.
unfoldable pub add_address : ℕ → ℕ
add_address word = if is_branch word then 39 else waddr_add_of word

unfoldable pub mul_address : ℕ → ℕ
mul_address word = if is_branch word then 39 else waddr_mul_of word

-- a file after a unit's write on that file's side: 0 to 31 are its registers
unfoldable pub file_after : Bool → ℕ → ℕ → List ℕ → List (List ℕ) → List (List ℕ)
file_after on_side address mask value file =
    if on_side && nat_lt address 32 then slice_set file address (rows_merged mask (slice_index_or file address []) value) else file

-- what 37 and 52 to 55 give r5 and r4 is free
unfoldable pub acc_after : ℕ → ℕ → List ℕ → List ℕ → List (List ℕ) → List (List ℕ)
acc_after address mask value words acc =
    if nat_le 32 address && nat_lt address 36 then slice_set acc (address - 32) (rows_merged mask (slice_index_or acc (address - 32) []) value)
    else (if address == 37 then slice_set acc 5 (rows_merged mask (slice_index_or acc 5 []) (chosen_row words 178))
    else (if nat_le 52 address && nat_lt address 56 then slice_set acc 4 (rows_merged mask (slice_index_or acc 4 []) (chosen_row words 65)) else acc))

-- 40 sets the uniform pointer to element 0, where that is written
unfoldable pub pointer_after : ℕ → ℕ → List ℕ → ℕ → ℕ
pointer_after address mask value uniforms = if address == 40 && has_lane mask 0 then slice_index value 0 % 2 ^ 32 else uniforms

-- a unit's write on the A side or the B side
unfoldable pub written_at : Bool → ℕ → ℕ → List ℕ → List ℕ → Thread → Thread
written_at on_a address mask value words t = record t {
  uniforms = pointer_after address mask value t.uniforms;
  a = file_after on_a address mask value t.a;
  b = file_after (not on_a) address mask value t.b;
  acc = acc_after address mask value words t.acc;
}

-- with ws clear the add unit writes the A side and the multiply unit the B side
unfoldable pub after_add : ℕ → List ℕ → List ℕ → Thread → Thread
after_add word value words t = written_at (not (ws_of word)) (add_address word) (mask_of (cond_add_of word) words 0) value words t

unfoldable pub after_multiply : ℕ → List ℕ → List ℕ → Thread → Thread
after_multiply word value words t = written_at (ws_of word) (mul_address word) (mask_of (cond_mul_of word) words 16) value words t

-- the add unit writes first
unfoldable pub after_writes : ℕ → List ℕ → List ℕ → List ℕ → Thread → Thread
after_writes word sum product words t = after_multiply word product words (after_add word sum words t)

-- A TMU write that isn't direct keeps the uniform as a setup word, and a send keeps none.
unfoldable pub after_setup : ℕ → ℕ → Thread → Thread
after_setup word uniform t = record t {
  setups0 = record { items = setups_kept word 0 uniform t.setups0.items };
  setups1 = record { items = setups_kept word 1 uniform t.setups1.items };
}

-- r4 after a load of the oldest of these results: a direct one's words, else free
unfoldable pub loaded_row : List (Option (List ℕ)) → List ℕ → List ℕ
loaded_row results words = unwrap_or (slice_index_or results 0 None) (chosen_row words 65)

-- signal 8 loads a colour, which is free
unfoldable pub r4_after : ℕ → List ℕ → List (Option (List ℕ)) → List (Option (List ℕ)) → List (List ℕ) → List (List ℕ)
r4_after word words results0 results1 acc =
    if loads word 0 then slice_set acc 4 (loaded_row results0 words)
    else (if loads word 1 then slice_set acc 4 (loaded_row results1 words)
    else (if sig_of word == 8 then slice_set acc 4 (chosen_row words 65) else acc))

unfoldable pub results_after : Bool → List (Option (List ℕ)) → List (Option (List ℕ))
results_after taken results = if taken then drop 1 results else results

-- a load signal takes the oldest result into r4
unfoldable pub after_load : ℕ → List ℕ → Thread → Thread
after_load word words t = record t {
  acc = r4_after word words t.results0.items t.results1.items t.acc;
  results0 = record { items = results_after (loads word 0) t.results0.items };
  results1 = record { items = results_after (loads word 1) t.results1.items };
}

-- where a branch at this place leads: condition 15 is always, and choice word 81 says what any other
-- finds
unfoldable pub led_to : ℕ → List ℕ → ℕ → Option ℕ
led_to word words place =
    if is_branch word && (cond_of word == 15 || word_at words 81 % 2 == 1) then Some ((place + 32 + imm_of word) % 2 ^ 32) else None

-- The thread goes on: to where the branch led whose third slot this was, else to the next
-- instruction.
unfoldable pub went_on : ℕ → List ℕ → Thread → Thread
went_on word words t = record t {
  place = unwrap_or t.last3.to (t.place + 8);
  last1 = record { word = word; to = led_to word words t.place };
  last2 = t.last1;
  last3 = t.last2;
}

-- what the thread keeps after the instruction, by what the two units came to
unfoldable pub after_work : ℕ → ℕ → List ℕ → List ℕ → List ℕ → Thread → Thread
after_work word uniform sum product words t = went_on word words (after_load word words (after_setup word uniform (after_writes word sum product words t)))

-- The second slot of an end or of a switch is where they act, and an end comes before a switch.
unfoldable pub fate_of : Thread → Fate
fate_of t = if is_end t.last2.word then Ends else (if is_switch t.last2.word then Switches else GoesOn)

abbrev pub switches : Fate → Bool
switches Switches = true
switches other = false

-- a thread that switches is fresh from then on
unfoldable pub after_rest : Fate → Thread → Thread
after_rest fate t = record t { fresh = switches fate || t.fresh }

-- four setup words; those that aren't there are 0
unfoldable pub four : List ℕ → List ℕ
four items = slice_index items 0 ∷ slice_index items 1 ∷ slice_index items 2 ∷ slice_index items 3 ∷ []

-- What a send asks this TMU for: where no setup words are kept, the words at the unit's 16 values as
-- addresses; else the texture of the setup words with the uniform as the last.
unfoldable pub ask_of : ℕ → ℕ → ℕ → List ℕ → List ℕ → List ℕ → Ask
ask_of word tmu uniform sum product items =
    if length items == 0 then Direct (if add_names word (s_address tmu) then sum else product)
    else Texture (four (items ++ (uniform ∷ [])))

unfoldable pub ask_made : ℕ → ℕ → List ℕ → List ℕ → Thread → Option Asked
ask_made word uniform sum product t =
    if writes_s word 0 then Some (record { tmu = 0; ask = ask_of word 0 uniform sum product t.setups0.items })
    else (if writes_s word 1 then Some (record { tmu = 1; ask = ask_of word 1 uniform sum product t.setups1.items }) else None)
