-- The lines of a script, and the calls that they are.
use Rattle.std.specs.Prelude.{ℕ, ◌≤◌, ◌<◌, is_some, Bool, ◌&&◌, nat_lt, nat_le, bytes_eq, codes, List, [], length, Option, Some, None, Result, Ok, Err, if◌then◌else◌}
use Rattle.field_words.specs.Sizes.{most_code}
use Rattle.hex.specs.{Hex.decode_of, declared.error.FromHexError.FromHexError}
use Rattle.script.specs.{Lines.before, Lines.behind, Lines.first_malformed, Number.number_within}
use Rattle.job_session.specs.declared.call.Request.TheVariants.{Create as AsksCreate, Code as AsksCode, Write as AsksWrite, Read as AsksRead, Free as AsksFree, Submit as AsksSubmit}
use Rattle.job_session.specs.{declared.call.Line.Line, declared.call.Request.Request, Session.Call}
use Rattle.job_session.specs.Own.{Command, Create, Make, Write, Read, Free, Submit}

abbrev pub last_client : ℕ
last_client = 7

abbrev pub last_number : ℕ
last_number = 4294967295

abbrev pub bytes_decoded : Result (List ℕ) FromHexError → List ℕ
bytes_decoded (Ok bytes) = bytes
bytes_decoded (Err error) = []

-- the bytes that hex digits of either case write, two for each; none where a word is no such digits
unfoldable pub hex_bytes : List ℕ → List ℕ
hex_bytes word = bytes_decoded (decode_of word)

-- hex of one byte or more
unfoldable pub is_hex : List ℕ → Bool
is_hex word = nat_lt 0 (length (hex_bytes word))

unfoldable pub number_in : List ℕ → Option ℕ
number_in word = number_within last_number word

abbrev pub by_number : (ℕ → Command) → Option ℕ → Option Command
by_number command None = None
by_number command (Some number) = Some (command number)

-- hex of as many bytes as a shader may have
unfoldable pub is_code : List ℕ → Bool
is_code word = is_hex word && nat_le (length (hex_bytes word)) most_code

-- `code <client> <hex>`, where this is what stands behind the client
unfoldable pub code_of : List ℕ → Option Command
code_of word = if is_code word then Some (Make (hex_bytes word)) else None

-- `write <client> <id> <at> <hex>`
abbrev pub write_by : Option ℕ → Option ℕ → List ℕ → Option Command
write_by None at word = None
write_by (Some id) None word = None
write_by (Some id) (Some at) word = if is_hex word then Some (Write id at (hex_bytes word)) else None

unfoldable pub write_of : List ℕ → Option Command
write_of words = write_by (number_in (before 32 words)) (number_in (before 32 (behind 32 words))) (behind 32 (behind 32 words))

-- `read <client> <id> <at> <len>`
abbrev pub read_by : Option ℕ → Option ℕ → Option ℕ → Option Command
read_by None at len = None
read_by (Some id) None len = None
read_by (Some id) (Some at) None = None
read_by (Some id) (Some at) (Some len) = Some (Read id at len)

unfoldable pub read_of : List ℕ → Option Command
read_of words = read_by (number_in (before 32 words)) (number_in (before 32 (behind 32 words))) (number_in (behind 32 (behind 32 words)))

-- `submit <client> <hex>`
unfoldable pub submit_of : List ℕ → Option Command
submit_of word = if is_hex word then Some (Submit (hex_bytes word)) else None

-- `create <client> <pages>`, `free <client> <id>`, and those above
abbrev pub command_named : List ℕ → List ℕ → Option Command
command_named name words =
    if bytes_eq name (codes "create") then by_number Create (number_in words)
    else (if bytes_eq name (codes "code") then code_of words
    else (if bytes_eq name (codes "write") then write_of words
    else (if bytes_eq name (codes "read") then read_of words
    else (if bytes_eq name (codes "free") then by_number Free (number_in words)
    else (if bytes_eq name (codes "submit") then submit_of words else None)))))

abbrev pub call_by : Option ℕ → Option Command → Option Call
call_by None command = None
call_by (Some client) None = None
call_by (Some client) (Some command) = Some (record { client = client; command = command })

-- the call that a line is; words are parted by one space
unfoldable pub call_of : List ℕ → Option Call
call_of line =
    call_by (number_within last_client (before 32 (behind 32 line))) (command_named (before 32 line) (behind 32 (behind 32 line)))

unfoldable pub is_formed : List ℕ → Bool
is_formed line = is_some (call_of line)

-- the number of a script's first line that is no call
unfoldable pub fault_line : List ℕ → Option ℕ
fault_line text = first_malformed is_formed text

-- what the code keeps of a line: numbers, and hex as it stands there
abbrev pub command_of : Request → Command
command_of (AsksCreate pages) = Create pages
command_of (AsksCode hex) = Make (hex_bytes hex.now)
command_of (AsksWrite id at hex) = Write id at (hex_bytes hex.now)
command_of (AsksRead id at len) = Read id at len
command_of (AsksFree id) = Free id
command_of (AsksSubmit hex) = Submit (hex_bytes hex.now)

abbrev pub command_asked : Option Request → Option Command
command_asked None = None
command_asked (Some request) = Some (command_of request)

abbrev pub call_made : Option Line → Option Call
call_made None = None
call_made (Some line) = Some (record { client = line.client; command = command_of line.request })

-- a shader on a line is not too long, and its client is one of eight
abbrev pub Fits : Request → Type 0
Fits (AsksCreate pages) = Unit {0}
Fits (AsksCode hex) = length (hex_bytes hex.now) ≤ most_code
Fits (AsksWrite id at hex) = Unit {0}
Fits (AsksRead id at len) = Unit {0}
Fits (AsksFree id) = Unit {0}
Fits (AsksSubmit hex) = Unit {0}

abbrev pub LineFits : Line → Type 0
LineFits line = (line.client < 8) × Fits line.request
