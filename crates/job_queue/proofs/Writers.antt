-- The last writer of what a job reads, when a job comes.
use Rattle.std.proofs.Common.{◌≡◌, ℕ, zero, suc, ◌+◌, ◌-◌, ◌≤◌, ◌<◌, ◌==◌, Bool, true, false, ◌||◌, max, nat_lt, List, [], ◌∷◌, ◌++◌, length, get_or, set, refl, sym, ◌∙◌, ap, arith, None, get_or-set_other, get_or-set_same, length-set, if◌then◌else◌}
use Rattle.std.proofs.{lemmas.Bool.Decides.nat_tests, lemmas.Bool.lt-ltb, lemmas.Bool.le-ltb, lemmas.Bool.eqb-true, lemmas.Bool.eqb-false}
use Rattle.std.specs.Prelude.{slice_index, slice_set}
use Rattle.job_queue.specs.Past.{Job, is_in, meet, last_before, last_writer, reads_of, first_unknown}
use Rattle.job_queue.specs.Desk.{greatest, writers_after}
use Rattle.job_queue.proofs.Loops.{known_first}

-- what reads of nothing finds
pub nothing_read : (n : ℕ) (jobs : List Job) (number found : ℕ) → last_before [] n jobs number found ≡ found
unfolding last_before meet
nothing_read n [] number found = refl
nothing_read n (job ∷ jobs) number found = nothing_by (nat_lt number n) found (nothing_read n jobs (number + 1) found) where
  nothing_by : (b : Bool) (found : ℕ) {x : ℕ} → x ≡ found → (if b then x else found) ≡ found
  nothing_by true found e = e
  nothing_by false found e = refl

-- of two reads the later writer
pick : (p q : Bool) (number a b : ℕ) → a ≤ number → b ≤ number
    → (if p || q then number else max a b) ≡ max (if p || false then number else a) (if q then number else b)
pick true true number a b low high = grind (arith)
pick true false number a b low high = grind (arith)
pick false true number a b low high = grind (arith)
pick false false number a b low high = refl

pub low_by : (b : Bool) (number found : ℕ) → found ≤ number → (if b then number else found) ≤ number + 1
low_by true number found low = omega arith
low_by false number found low = omega arith

max_by : (t : Bool) (x y z a b : ℕ) → x ≡ max y z → (if t then x else max a b) ≡ max (if t then y else a) (if t then z else b)
max_by true x y z a b e = e
max_by false x y z a b e = refl

pub both_read : (buffer : ℕ) (reads : List ℕ) (n : ℕ) (jobs : List Job) (number a b : ℕ) → a ≤ number → b ≤ number
    → last_before (buffer ∷ reads) n jobs number (max a b) ≡ max (last_before (buffer ∷ []) n jobs number a) (last_before reads n jobs number b)
unfolding last_before meet
both_read buffer reads n [] number a b low high = refl
both_read buffer reads n (job ∷ jobs) number a b low high =
    max_by (nat_lt number n) _ _ _ a b (
    ap (λ f. last_before (buffer ∷ reads) n jobs (number + 1) f) (pick (is_in buffer job.writes) (meet reads job.writes) number a b low high)
    ∙ both_read buffer reads n jobs (number + 1) _ _ (low_by (is_in buffer job.writes || false) number a low) (low_by (meet reads job.writes) number b high))

-- what the code finds for a job's reads is the last job that writes one of them
pub greatest_is : (writers : List ℕ) (jobs : List Job) (n buffers found : ℕ) (reads : List ℕ) → first_unknown buffers reads ≡ None
    → ((buffer : ℕ) → buffer < buffers → slice_index writers buffer ≡ last_before (buffer ∷ []) n jobs 1 0)
    → greatest writers found reads ≡ max found (last_before reads n jobs 1 0)
unfolding greatest
greatest_is writers jobs n buffers found [] known kept = sym (ap (max found) (nothing_read n jobs 1 0) ∙ (omega arith))
greatest_is writers jobs n buffers found (buffer ∷ reads) known kept =
    let first = known_first buffers buffer reads known in
    greatest_is writers jobs n buffers (max found (slice_index writers buffer)) reads first.1 kept
    ∙ ap (λ w. max (max found w) (last_before reads n jobs 1 0)) (kept buffer first.0)
    ∙ assoc found (last_before (buffer ∷ []) n jobs 1 0) (last_before reads n jobs 1 0)
    ∙ ap (max found) (sym (both_read buffer reads n jobs 1 0 0 (omega arith) (omega arith))) where
      assoc : (a b c : ℕ) → max (max a b) c ≡ max a (max b c)
      assoc a b c = grind (arith)

-- a job at the end
later_by : (t : Bool) (x y found : ℕ) → x ≡ y → (if t then x else found) ≡ (if t then y else found)
later_by true x y found e = e
later_by false x y found e = refl

-- a later job changes nothing for one before it
pub same_before : (reads : List ℕ) (n : ℕ) (jobs : List Job) (job : Job) (number found : ℕ) → n ≤ number + length jobs
    → last_before reads n (jobs ++ job ∷ []) number found ≡ last_before reads n jobs number found
unfolding last_before
same_before reads n [] job number found past = rw (le-ltb number n (omega (arith, past))) refl
same_before reads n (one ∷ jobs) job number found past =
    later_by (nat_lt number n) _ _ found (same_before reads n jobs job (number + 1) (if meet reads one.writes then number else found) (omega (arith, past)))

pub with_last : (reads : List ℕ) (n : ℕ) (jobs : List Job) (job : Job) (number found : ℕ) → number + length jobs < n
    → last_before reads n (jobs ++ job ∷ []) number found ≡ (if meet reads job.writes then number + length jobs else last_before reads n jobs number found)
unfolding last_before
with_last reads n [] job number found below =
    let zero_more : number + 0 ≡ number = omega arith in
    rw (lt-ltb number n (omega (arith, below)), zero_more) refl
with_last reads n (one ∷ jobs) job number found below =
    let more : number + 1 + length jobs ≡ number + suc (length jobs) = omega arith in
    rw (lt-ltb number n (omega (arith, below)))
    (with_last reads n jobs job (number + 1) (if meet reads one.writes then number else found) (omega (arith, below))
    ∙ ap (λ k. if meet reads job.writes then k else last_before reads n jobs (number + 1) (if meet reads one.writes then number else found)) more)

-- all jobs are before it
pub all_before : (reads : List ℕ) (n m : ℕ) (jobs : List Job) (number found : ℕ) → number + length jobs ≤ n → number + length jobs ≤ m
    → last_before reads n jobs number found ≡ last_before reads m jobs number found
unfolding last_before
all_before reads n m [] number found low high = refl
all_before reads n m (one ∷ jobs) number found low high =
    rw (lt-ltb number n (omega (arith, low)), lt-ltb number m (omega (arith, high)))
    (all_before reads n m jobs (number + 1) (if meet reads one.writes then number else found) (omega (arith, low)) (omega (arith, high)))

-- what a job reads
pub reads_last : (jobs : List Job) (job : Job) → reads_of (jobs ++ job ∷ []) (length jobs + 1) ≡ job.reads
unfolding reads_of
reads_last [] job = refl
reads_last (one ∷ jobs) job =
    let later : (suc (length jobs) + 1 == 1) ≡ false = grind (arith, nat_tests) in
    let less : suc (length jobs) + 1 - 1 ≡ length jobs + 1 = omega arith in
    rw (later, less) (reads_last jobs job)

pub reads_old : (jobs : List Job) (job : Job) (places : ℕ) → places < length jobs → reads_of (jobs ++ job ∷ []) (places + 1) ≡ reads_of jobs (places + 1)
unfolding reads_of
reads_old [] job places inside = absurd (omega (arith, inside))
reads_old (one ∷ jobs) job zero inside = refl
reads_old (one ∷ jobs) job (suc places) inside =
    let later : (suc places + 1 == 1) ≡ false = grind (arith, nat_tests) in
    let less : suc places + 1 - 1 ≡ places + 1 = omega arith in
    rw (later, less) (reads_old jobs job places (omega (arith, inside)))

pub writer_last : (jobs : List Job) (job : Job) → last_writer (jobs ++ job ∷ []) (length jobs + 1) ≡ last_before job.reads (length jobs + 1) jobs 1 0
unfolding last_writer
writer_last jobs job =
    rw (reads_last jobs job) (same_before job.reads (length jobs + 1) jobs job 1 0 (omega arith))

pub writer_old : (jobs : List Job) (job : Job) (places : ℕ) → places < length jobs → last_writer (jobs ++ job ∷ []) (places + 1) ≡ last_writer jobs (places + 1)
unfolding last_writer
writer_old jobs job places inside =
    rw (reads_old jobs job places inside) (same_before (reads_of jobs (places + 1)) (places + 1) jobs job 1 0 (omega (arith, inside)))

-- what is kept for a buffer
kept_by : (writers : List ℕ) (one buffer job : ℕ) (b later : Bool) → (one == buffer) ≡ b → buffer < length writers
    → (if later then job else slice_index (slice_set writers one job) buffer) ≡ (if b || later then job else slice_index writers buffer)
kept_by writers one buffer job true true is inside = refl
kept_by writers one buffer job true false is inside =
    ap (λ n. get_or (set writers n job) buffer 0) (eqb-true one buffer is) ∙ get_or-set_same writers buffer job 0 inside
kept_by writers one buffer job false true is inside = refl
kept_by writers one buffer job false false is inside = get_or-set_other writers one buffer job 0 (λ e. eqb-false one buffer is (sym e))

pub written_size : (writers writes : List ℕ) (job : ℕ) → length (writers_after writers writes job) ≡ length writers
unfolding writers_after
written_size writers [] job = refl
written_size writers (one ∷ writes) job = written_size (slice_set writers one job) writes job ∙ length-set writers one job

pub written_at : (writers writes : List ℕ) (job buffer : ℕ) → buffer < length writers
    → slice_index (writers_after writers writes job) buffer ≡ (if is_in buffer writes then job else slice_index writers buffer)
unfolding writers_after is_in
written_at writers [] job buffer inside = refl
written_at writers (one ∷ writes) job buffer inside =
    written_at (slice_set writers one job) writes job buffer (omega (arith, length-set writers one job, inside))
    ∙ kept_by writers one buffer job (one == buffer) (is_in buffer writes) refl inside
