-- The file in which a client's job is checked, with its buffers where they lie.
use Rattle.std.specs.Prelude.{◌≡◌, ◌<◌, ℕ, zero, suc, ◌+◌, List, [], ◌++◌, length, flat_map}
use Rattle.buffer_table.specs.declared.buffer.Buffer.{Buffer}
use Rattle.job_format.specs.Text.{buffer_text}
use Rattle.session_pages.specs.Map.{place_of}
use Rattle.job_session.specs.{Checked.file_refusal, Own.most_buffers, Session.Past, Desk.Desk, Desk.first_page, Desk.held_in, Desk.job_answer, Desk.submit_answer}
use Rattle.job_session.specs.Submit.{laid_at, contents_from, with_client, header_of, job_bytes}
use Rattle.session_law.specs.Agree.{client_count, Agrees}

-- the client's live buffers of n ids from one on, each at the place of its first page
unfoldable pub lying : Desk → ℕ → ℕ → ℕ → List Buffer
lying desk client id zero = []
lying desk client id (suc n) = laid_at client (place_of (first_page desk client id)) (held_in desk client id) ++ lying desk client (id + 1) n

-- the file of `submit` with them
unfoldable pub lying_file : Desk → ℕ → List ℕ → List ℕ
lying_file desk client parts =
    header_of (length (lying desk client 0 most_buffers))
    ++ (flat_map buffer_text (lying desk client 0 most_buffers)
    ++ job_bytes (contents_from (held_in desk client) 0 most_buffers) (with_client client parts))

-- A submit's answer is also that of the file with the client's buffers where they lie.
abbrev pub SubmitsAreOfPlaces : Type 0
SubmitsAreOfPlaces = (past : Past) (desk : Desk) (client : ℕ) (parts : List ℕ) → client < client_count → Agrees past desk
    → submit_answer desk client parts ≡ job_answer (file_refusal (lying_file desk client parts))
