-- The queue stands for the past, call by call.
use Rattle.std.proofs.Common.{◌≡◌, ℕ, zero, suc, ◌+◌, ◌%◌, ◌≤◌, ◌<◌, ◌==◌, Bool, true, false, max, nat_lt, List, [], ◌∷◌, ◌++◌, length, get_or, replicate, refl, sym, ◌∙◌, ap, arith, None, Ok, Err, eq-eqb, ne_eqb, get_or-set_other, get_or-set_same, length-append, if◌then◌else◌}
use Rattle.std.proofs.{lemmas.Bool.false≢true, lemmas.Bool.le-leb, lemmas.Bool.lt-leb, Math.Bool.or-false, lemmas.List.length-replicate}
use Rattle.std.proofs.lemmas.Bool.Decides.{nat_tests}
use Rattle.std.specs.Prelude.{slice_index, slice_set}
use Rattle.job_queue.specs.declared.queue.QueueFault.TheVariants.{Full, Binning, NoJob, Waits, NotBinning, NotBinned}
use Rattle.job_queue.specs.Past.{Job, Past, none_yet, is_in, meet, last_before, last_writer, first_unknown, submit_answer, start_answer, bin_answer, render_answer, after_submit, after_start, after_bin, after_render}
use Rattle.job_queue.specs.{declared.queue.QueueFault.QueueFault, Desk.Desk, Desk.Agrees, Desk.greatest, Desk.writers_after}
use Rattle.job_queue.specs.Past as past
use Rattle.job_queue.proofs.Writers.{greatest_is, all_before, with_last, writer_last, writer_old, written_at, written_size}

-- an item inside of a list is the same whatever stands for one outside
pub inside_same : (xs : List ℕ) (i other x : ℕ) → i < length xs → x ≡ get_or xs i other → slice_index xs i ≡ x
inside_same [] i other x inside is = absurd (omega (arith, inside))
inside_same (y ∷ ys) zero other x inside is = sym is
inside_same (y ∷ ys) (suc i) other x inside is = inside_same ys i other x (omega (arith, inside)) is

-- with other numbers of jobs that were started, binned and rendered
moved : (p : Past) (desk : Desk) (started binned rendered : ℕ) → desk.rendered ≤ rendered → Agrees p desk
    → Agrees (record { buffers = p.buffers; jobs = p.jobs; started = started; binned = binned; rendered = rendered })
    (record { writers = desk.writers; waits = desk.waits; submitted = desk.submitted; started = started; binned = binned; rendered = rendered })
moved p desk started binned rendered later agrees = record {
  buffers = agrees.buffers;
  submitted = agrees.submitted;
  started = refl;
  binned = refl;
  rendered = refl;
  writers = agrees.writers;
  waits = λ job low inside. agrees.waits job (omega (arith, low, later)) inside;
}

-- starting, as the desk tells it
pub start_is : (p : Past) (desk : Desk) → Agrees p desk
    → start_answer p ≡ (if nat_lt desk.binned desk.started then Err (Binning desk.started)
    else (if desk.started == desk.submitted then Err NoJob
    else (if nat_lt desk.rendered (last_writer p.jobs (desk.started + 1)) then Err (Waits (last_writer p.jobs (desk.started + 1))) else Ok (desk.started + 1))))
unfolding start_answer
start_is p desk agrees = rw (agrees.started, agrees.binned, agrees.rendered, agrees.submitted) refl

-- the next job waits for the one that is kept for it
pub kept : (p : Past) (desk : Desk) (writer : ℕ) → desk.rendered ≤ desk.started → desk.started < desk.submitted → slice_index desk.waits (desk.started % 4096) ≡ writer
    → Agrees p desk → last_writer p.jobs (desk.started + 1) ≡ writer
kept p desk writer low some is agrees = sym (agrees.waits desk.started low (omega (arith, some, agrees.submitted))) ∙ is

pub start_refused : (p : Past) (desk : Desk) (fault : QueueFault) → start_answer p ≡ Err fault → Agrees p desk
    → (Err fault ≡ start_answer p) × Agrees (after_start p) desk
unfolding after_start
start_refused p desk fault e agrees = (sym e, rw e agrees)

pub start_done : (p : Past) (desk : Desk) → start_answer p ≡ Ok (desk.started + 1) → Agrees p desk
    → (Ok (desk.started + 1) ≡ start_answer p)
    × Agrees (after_start p) (record { writers = desk.writers; waits = desk.waits; submitted = desk.submitted; started = desk.started + 1; binned = desk.binned; rendered = desk.rendered })
unfolding after_start
start_done p desk e agrees = (sym e, rw (e, ← agrees.binned, ← agrees.rendered) (moved p desk (desk.started + 1) desk.binned desk.rendered (omega arith) agrees))

-- the end of binning
pub bin_refused : (p : Past) (desk : Desk) → desk.started ≡ desk.binned → Agrees p desk → (Err NotBinning ≡ bin_answer p) × Agrees (after_bin p) desk
unfolding after_bin bin_answer
bin_refused p desk h agrees = rw (eq-eqb p.started p.binned (sym agrees.started ∙ h ∙ agrees.binned)) (refl, agrees)

pub bin_done : (p : Past) (desk : Desk) → (desk.started ≡ desk.binned → ⊥) → Agrees p desk
    → (Ok desk.started ≡ bin_answer p)
    × Agrees (after_bin p) (record { writers = desk.writers; waits = desk.waits; submitted = desk.submitted; started = desk.started; binned = desk.started; rendered = desk.rendered })
unfolding after_bin bin_answer
bin_done p desk h agrees =
    rw (ne_eqb p.started p.binned (λ e. h (agrees.started ∙ e ∙ sym agrees.binned)), ← agrees.started, ← agrees.rendered)
    (refl, moved p desk desk.started desk.started desk.rendered (omega arith) agrees)

-- the end of rendering
pub render_refused : (p : Past) (desk : Desk) → desk.rendered ≡ desk.binned → Agrees p desk → (Err NotBinned ≡ render_answer p) × Agrees (after_render p) desk
unfolding after_render render_answer
render_refused p desk h agrees = rw (eq-eqb p.rendered p.binned (sym agrees.rendered ∙ h ∙ agrees.binned)) (refl, agrees)

pub render_done : (p : Past) (desk : Desk) → (desk.rendered ≡ desk.binned → ⊥) → Agrees p desk
    → (Ok (desk.rendered + 1) ≡ render_answer p)
    × Agrees (after_render p) (record { writers = desk.writers; waits = desk.waits; submitted = desk.submitted; started = desk.started; binned = desk.binned; rendered = desk.rendered + 1 })
unfolding after_render render_answer
render_done p desk h agrees =
    rw (ne_eqb p.rendered p.binned (λ e. h (agrees.rendered ∙ e ∙ sym agrees.binned)), ← agrees.started, ← agrees.binned, ← agrees.rendered)
    (refl, moved p desk desk.started desk.binned (desk.rendered + 1) (omega arith) agrees)

-- submitting, by the first number that is no buffer's
pub submit_is : (p : Past) (desk : Desk) (reads writes : List ℕ) → Agrees p desk → submit_answer p reads writes ≡ past.submit_by p (first_unknown (length desk.writers) (reads ++ writes))
unfolding submit_answer
submit_is p desk reads writes agrees = rw agrees.buffers refl

pub submit_refused : (p : Past) (desk : Desk) (reads writes : List ℕ) (fault : QueueFault) → submit_answer p reads writes ≡ Err fault → Agrees p desk
    → (Err fault ≡ submit_answer p reads writes) × Agrees (after_submit p reads writes) desk
unfolding after_submit
submit_refused p desk reads writes fault e agrees = (sym e, rw e agrees)

pub submit_full : (p : Past) (desk : Desk) → desk.rendered + 4096 ≤ desk.submitted → Agrees p desk → past.submit_by p None ≡ Err Full
submit_full p desk full agrees = rw (le-leb (p.rendered + 4096) (length p.jobs) (omega (arith, full, agrees.rendered, agrees.submitted))) refl

submit_room : (p : Past) (desk : Desk) → desk.submitted < desk.rendered + 4096 → Agrees p desk → past.submit_by p None ≡ Ok (desk.submitted + 1)
submit_room p desk room agrees = rw (lt-leb (p.rendered + 4096) (length p.jobs) (omega (arith, room, agrees.rendered, agrees.submitted)), agrees.submitted) refl

abbrev jobs_with : Past → List ℕ → List ℕ → List Job
jobs_with p reads writes = p.jobs ++ record { reads = reads; writes = writes } ∷ []

size_more : (jobs : List Job) (job : Job) → length (jobs ++ job ∷ []) ≡ length jobs + 1
size_more jobs job = length-append jobs (job ∷ [])

-- what is kept for a buffer when a job has come
writers_more : (p : Past) (desk : Desk) (reads writes : List ℕ) → Agrees p desk → (buffer : ℕ) → buffer < p.buffers
    → slice_index (writers_after desk.writers writes (desk.submitted + 1)) buffer ≡ last_before (buffer ∷ []) (length (jobs_with p reads writes) + 1) (jobs_with p reads writes) 1 0
unfolding meet
writers_more p desk reads writes agrees buffer inside =
    let job : Job = record { reads = reads; writes = writes } in
    let size = size_more p.jobs job in
    let number : desk.submitted + 1 ≡ 1 + length p.jobs = omega (arith, agrees.submitted) in
    written_at desk.writers writes (desk.submitted + 1) buffer (omega (arith, inside, agrees.buffers))
    ∙ ap (λ w. if is_in buffer writes then desk.submitted + 1 else w) (agrees.writers buffer inside
    ∙ all_before (buffer ∷ []) (length p.jobs + 1) (length (jobs_with p reads writes) + 1) p.jobs 1 0 (omega arith) (omega (arith, size)))
    ∙ ap (λ n. if is_in buffer writes then n else last_before (buffer ∷ []) (length (jobs_with p reads writes) + 1) p.jobs 1 0) number
    ∙ ap (λ b. if b then 1 + length p.jobs else last_before (buffer ∷ []) (length (jobs_with p reads writes) + 1) p.jobs 1 0) (sym (or-false (is_in buffer writes)))
    ∙ sym (with_last (buffer ∷ []) (length (jobs_with p reads writes) + 1) p.jobs job 1 0 (omega (arith, size)))

-- jobs that haven't rendered have places of their own
own_place : (job next : ℕ) → job < next → next < job + 4096 → next % 4096 ≡ job % 4096 → ⊥
own_place job next less near is = omega (arith, less, near, is)

waits_more : (p : Past) (desk : Desk) (reads writes : List ℕ) → length desk.waits ≡ 4096 → first_unknown (length desk.writers) reads ≡ None → desk.submitted < desk.rendered + 4096
    → Agrees p desk → (job : ℕ) → desk.rendered ≤ job → job < length (jobs_with p reads writes) → (last : Bool) → (job == length p.jobs) ≡ last
    → slice_index (slice_set desk.waits (desk.submitted % 4096) (greatest desk.writers 0 reads)) (job % 4096) ≡ last_writer (jobs_with p reads writes) (job + 1)
waits_more p desk reads writes size none room agrees job low inside true is =
    let e : job ≡ length p.jobs = grind (arith, nat_tests) in
    let same : job ≡ desk.submitted = e ∙ sym agrees.submitted in
    ap (λ n. get_or (slice_set desk.waits (n % 4096) (greatest desk.writers 0 reads)) (job % 4096) 0) (sym same)
    ∙ get_or-set_same desk.waits (job % 4096) (greatest desk.writers 0 reads) 0 (omega (arith, size))
    ∙ greatest_is desk.writers p.jobs (length p.jobs + 1) p.buffers 0 reads (ap (λ n. first_unknown n reads) (sym agrees.buffers) ∙ none) agrees.writers
    ∙ zero_max (last_before reads (length p.jobs + 1) p.jobs 1 0)
    ∙ sym (writer_last p.jobs (record { reads = reads; writes = writes }))
    ∙ ap (λ n. last_writer (jobs_with p reads writes) (n + 1)) (sym e) where
      zero_max : (n : ℕ) → max 0 n ≡ n
      zero_max n = omega arith
waits_more p desk reads writes size none room agrees job low inside false is =
    let more = size_more p.jobs (record { reads = reads; writes = writes }) in
    let apart : job ≡ length p.jobs → ⊥ = λ e. absurd (false≢true (sym is ∙ eq-eqb job (length p.jobs) e)) in
    let before : job < length p.jobs = omega (arith, inside, more, apart) in
    get_or-set_other desk.waits (desk.submitted % 4096) (job % 4096) (greatest desk.writers 0 reads) 0
    (λ e. own_place job desk.submitted (omega (arith, before, agrees.submitted)) (omega (arith, room, low)) (sym e))
    ∙ agrees.waits job low before
    ∙ sym (writer_old p.jobs (record { reads = reads; writes = writes }) job before)

pub submit_done : (p : Past) (desk : Desk) (reads writes writers : List ℕ) (last : ℕ) → writers ≡ writers_after desk.writers writes (desk.submitted + 1) → last ≡ greatest desk.writers 0 reads
    → length desk.waits ≡ 4096 → first_unknown (length desk.writers) reads ≡ None → first_unknown (length desk.writers) (reads ++ writes) ≡ None
    → desk.submitted < desk.rendered + 4096 → Agrees p desk
    → (Ok (desk.submitted + 1) ≡ submit_answer p reads writes)
    × Agrees (after_submit p reads writes) (record {
      writers = writers;
      waits = slice_set desk.waits (desk.submitted % 4096) last;
      submitted = desk.submitted + 1;
      started = desk.started;
      binned = desk.binned;
      rendered = desk.rendered;
    })
unfolding after_submit
submit_done p desk reads writes writers last writers_are last_is size none none_at_all room agrees =
    let answer = submit_is p desk reads writes agrees ∙ ap (past.submit_by p) none_at_all ∙ submit_room p desk room agrees in (
      sym answer,
      rw (answer, writers_are, last_is) (record {
        buffers = written_size desk.writers writes (desk.submitted + 1) ∙ agrees.buffers;
        submitted = ap (λ n. n + 1) agrees.submitted ∙ sym (size_more p.jobs (record { reads = reads; writes = writes }));
        started = agrees.started;
        binned = agrees.binned;
        rendered = agrees.rendered;
        writers = writers_more p desk reads writes agrees;
        waits = λ job low inside. waits_more p desk reads writes size none room agrees job low inside (job == length p.jobs) refl;
      }),
    )

zeros : (n k : ℕ) → slice_index (replicate n 0) k ≡ 0
zeros zero k = refl
zeros (suc n) zero = refl
zeros (suc n) (suc k) = zeros n k

pub new_agrees : (buffers : ℕ) (waits : List ℕ) → Agrees (none_yet buffers) (record { writers = replicate buffers 0; waits = waits; submitted = 0; started = 0; binned = 0; rendered = 0 })
unfolding last_before
new_agrees buffers waits = record {
  buffers = length-replicate buffers 0;
  submitted = refl;
  started = refl;
  binned = refl;
  rendered = refl;
  writers = λ buffer inside. zeros buffers buffer;
  waits = λ job low inside. absurd (omega (arith, inside));
}
