-- The rules of the format, in the order in which they are asked: part by part, and in a part
-- first whether the file ends before it does, then its fields by offset.
use Rattle.std.specs.Prelude.{ℕ, Bool, ◌+◌, ◌%◌, not, ◌&&◌, ◌||◌, nat_lt, ◌==◌, List, [], ◌∷◌, ◌++◌, length, slice_index, codes, if◌then◌else◌}
use Rattle.std.specs.Int.{from_le_bytes, w32}
use Rattle.field_words.specs.{Words.u32_at, Sizes.most_list, Sizes.most_code, Questions.Question, Questions.Ask, Questions.each}
use Rattle.job_format.specs.declared.rule.FormatRule.TheVariants.{NotAJobFile, EndsEarly, BytesFollow, OverLimit, WithoutMeaning, LacksSlots}
use Rattle.job_format.specs.declared.rule.Part.TheVariants.{File, Header, Entry, JobEntry, Contents, Handles, BinnerList, Records, Uniforms}
use Rattle.job_format.specs.Offsets.{header_size, entry_size, job_size, most_jobs, most_states, buffer_limit, handle_limit, version_in, slot_count, buffer_count, job_count, entry_offset, job_offset, content_size, content_offset, handles_offset, bin_offset, records_offset, uniforms_offset, end_offset}
use Rattle.job_format.specs.{declared.rule.FormatFault.FormatFault, declared.rule.FormatRule.FormatRule, declared.rule.Part.Part, Places.place_in, Rules.format_rule_number}

-- a fault by a rule, at this byte of the part of this number
abbrev pub fault : FormatRule → Part → (index at : ℕ) → FormatFault
fault rule part index at = record { number = format_rule_number rule; place = place_in part index at }

-- F2: the file ends before the end of a part
abbrev pub ends_before : List ℕ → (end : ℕ) → Part → (index : ℕ) → Question FormatFault
ends_before bytes end part index = Ask (nat_lt (length bytes) end) (fault EndsEarly part index 0)

-- the four letters "VC4J" as a number
abbrev pub magic : ℕ
magic = from_le_bytes w32 (codes "VC4J")

-- the versions that there are
unfoldable pub is_version : ℕ → Bool
is_version version = version == 1 || version == 2

-- version 1 has one job, version 2 one to eight
unfoldable pub is_miscounted : (version jobs : ℕ) → Bool
is_miscounted version jobs = if version == 1 then not (jobs == 1) else (jobs == 0 || nat_lt most_jobs jobs)

-- in version 2 each job has a tile slot, where there are slots at all
unfoldable pub lacks_slots : (version slots jobs : ℕ) → Bool
lacks_slots version slots jobs = version == 2 && (not (slots == 0) && nat_lt slots jobs)

-- The header's 36 bytes: F1 the magic and the version, F4 the counts of buffers and jobs, F7 the slots.
unfoldable pub header_questions : List ℕ → List (Question FormatFault)
header_questions bytes =
    ends_before bytes header_size Header 0
    ∷ (Ask (not (u32_at bytes 0 == magic)) (fault NotAJobFile Header 0 0)
    ∷ (Ask (not (is_version (version_in bytes))) (fault NotAJobFile Header 0 4)
    ∷ (Ask (nat_lt (buffer_limit (version_in bytes)) (buffer_count bytes)) (fault OverLimit Header 0 28)
    ∷ (Ask (is_miscounted (version_in bytes) (job_count bytes)) (fault OverLimit Header 0 32)
    ∷ (Ask (lacks_slots (version_in bytes) (slot_count bytes) (job_count bytes)) (fault LacksSlots Header 0 24) ∷ [])))))

-- The 20 bytes of the entry of buffer b, which begins at an offset: F5 a kind that is neither Plain nor Code, F4 a shader that is too long.
unfoldable pub entry_questions : List ℕ → (b at : ℕ) → List (Question FormatFault)
entry_questions bytes b at =
    ends_before bytes (at + entry_size) Entry b
    ∷ (Ask (nat_lt 1 (u32_at bytes (at + 12))) (fault WithoutMeaning Entry b 12)
    ∷ (Ask (u32_at bytes (at + 12) == 1 && nat_lt most_code (u32_at bytes (at + 16))) (fault OverLimit Entry b 16) ∷ []))

-- F4: a number in the entry of job j is over its limit
abbrev pub is_over : List ℕ → (j at k limit : ℕ) → Question FormatFault
is_over bytes j at k limit = Ask (nat_lt limit (u32_at bytes (at + k))) (fault OverLimit JobEntry j k)

-- F5: a byte of it that has to be zero
abbrev pub is_nonzero : List ℕ → (j at k : ℕ) → Question FormatFault
is_nonzero bytes j at k = Ask (not (slice_index bytes (at + k) == 0)) (fault WithoutMeaning JobEntry j k)

-- The 124 bytes of the entry of job j, which begins at an offset: F4 the sizes of its parts, F5 unknown flags, uniforms that are no
-- whole words, and the three reserved bytes.
unfoldable pub job_entry_questions : List ℕ → (j at : ℕ) → List (Question FormatFault)
job_entry_questions bytes j at =
    ends_before bytes (at + job_size) JobEntry j
    ∷ (Ask (nat_lt 1 (u32_at bytes (at + 4))) (fault WithoutMeaning JobEntry j 4)
    ∷ (is_over bytes j at 8 (handle_limit (version_in bytes))
    ∷ (is_over bytes j at 12 most_list
    ∷ (is_over bytes j at 16 most_list
    ∷ (is_over bytes j at 20 most_states
    ∷ (is_over bytes j at 24 most_list
    ∷ (Ask (not (u32_at bytes (at + 24) % 4 == 0)) (fault WithoutMeaning JobEntry j 24)
    ∷ (is_nonzero bytes j at 121
    ∷ (is_nonzero bytes j at 122
    ∷ (is_nonzero bytes j at 123 ∷ []))))))))))

-- the entry of buffer b, the entry of job j, and the contents of buffer b
unfoldable pub buffer_questions : List ℕ → ℕ → List (Question FormatFault)
buffer_questions bytes b = entry_questions bytes b (entry_offset b)

unfoldable pub job_questions : List ℕ → ℕ → List (Question FormatFault)
job_questions bytes j = job_entry_questions bytes j (job_offset bytes j)

unfoldable pub content_questions : List ℕ → ℕ → List (Question FormatFault)
content_questions bytes b = ends_before bytes (content_offset bytes b + content_size bytes b) Contents b ∷ []

-- the parts of job j, one after the other
unfoldable pub parts_questions : List ℕ → ℕ → List (Question FormatFault)
parts_questions bytes j =
    ends_before bytes (bin_offset bytes j) Handles j
    ∷ (ends_before bytes (records_offset bytes j) BinnerList j
    ∷ (ends_before bytes (uniforms_offset bytes j) Records j
    ∷ (ends_before bytes (end_offset bytes j) Uniforms j ∷ [])))

-- F3: bytes follow the last part
unfoldable pub end_questions : List ℕ → List (Question FormatFault)
end_questions bytes = Ask (nat_lt (handles_offset bytes (job_count bytes)) (length bytes)) (fault BytesFollow File 0 (handles_offset bytes (job_count bytes))) ∷ []

-- What is asked after the contents, after the jobs' entries and after the buffers'; and all after the header.
abbrev pub last_questions : List ℕ → List (Question FormatFault)
last_questions bytes = each (parts_questions bytes) 0 (job_count bytes) ++ end_questions bytes

abbrev pub rest_questions : List ℕ → List (Question FormatFault)
rest_questions bytes = each (content_questions bytes) 0 (buffer_count bytes) ++ last_questions bytes

abbrev pub jobs_and_rest_questions : List ℕ → List (Question FormatFault)
jobs_and_rest_questions bytes = each (job_questions bytes) 0 (job_count bytes) ++ rest_questions bytes

abbrev pub body_questions : List ℕ → List (Question FormatFault)
body_questions bytes = each (buffer_questions bytes) 0 (buffer_count bytes) ++ jobs_and_rest_questions bytes

-- All rules of the format.
unfoldable pub format_questions : List ℕ → List (Question FormatFault)
format_questions bytes = header_questions bytes ++ body_questions bytes
