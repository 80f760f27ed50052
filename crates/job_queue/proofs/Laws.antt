-- Binning of a job starts only after each earlier writer of what it reads has rendered.
use Rattle.std.proofs.Common.{◌≡◌, ℕ, zero, suc, ◌+◌, ◌-◌, ◌≤◌, ◌<◌, ◌==◌, Bool, true, false, nat_lt, List, [], ◌∷◌, length, refl, sym, ◌∙◌, ap, subst, arith, Result, Ok, Err, if◌then◌else◌}
use Rattle.std.proofs.{lemmas.Bool.false≢true, lemmas.Bool.lt-ltb, lemmas.Bool.ltb-false, lemmas.Bool.Decides.nat_tests}
use Rattle.job_queue.specs.declared.queue.QueueFault.TheVariants.{Binning, NoJob, Waits}
use Rattle.job_queue.specs.Past.{Job, Past, is_in, meet, last_before, last_writer, reads_of, writes_of, start_answer}
use Rattle.job_queue.specs.{declared.queue.QueueFault.QueueFault, Laws.StartsLate}
use Rattle.job_queue.proofs.Writers.{low_by}

-- what was found is never lost for an earlier one
keeps_by : (reads : List ℕ) (n : ℕ) (job : Job) (jobs : List Job) (number found : ℕ) (below here : Bool) → nat_lt number n ≡ below → meet reads job.writes ≡ here
    → found ≤ number → ((f : ℕ) → f ≤ number + 1 → f ≤ last_before reads n jobs (number + 1) f) → found ≤ last_before reads n (job ∷ jobs) number found
unfolding last_before
keeps_by reads n job jobs number found false here is meets low more = rw is (omega arith)
keeps_by reads n job jobs number found true false is meets low more = rw (is, meets) (more found (omega (arith, low)))
keeps_by reads n job jobs number found true true is meets low more = rw (is, meets) (omega (arith, low, more number (omega arith)))

keeps : (reads : List ℕ) (n : ℕ) (jobs : List Job) (number found : ℕ) → found ≤ number → found ≤ last_before reads n jobs number found
unfolding last_before
keeps reads n [] number found low = omega arith
keeps reads n (job ∷ jobs) number found low =
    keeps_by reads n job jobs number found (nat_lt number n) (meet reads job.writes) refl refl low (λ f h. keeps reads n jobs (number + 1) f h)

meet_none : (reads : List ℕ) → meet reads [] ≡ false
unfolding meet is_in
meet_none [] = refl
meet_none (buffer ∷ reads) = meet_none reads

-- a job that writes what is read is at most the last
covers : (reads : List ℕ) (n : ℕ) (jobs : List Job) (number found places : ℕ) → found ≤ number → number + places < n
    → meet reads (writes_of jobs (places + 1)) ≡ true → number + places ≤ last_before reads n jobs number found
unfolding last_before writes_of
covers reads n [] number found places low below meets = absurd (false≢true (sym (meet_none reads) ∙ meets))
covers reads n (job ∷ jobs) number found zero low below meets =
    rw (lt-ltb number n (omega arith), meets) (omega (arith, keeps reads n jobs (number + 1) number (omega arith)))
covers reads n (job ∷ jobs) number found (suc places) low below meets =
    let first : (suc places + 1 == 1) ≡ false = grind (arith, nat_tests) in
    let less : suc places + 1 - 1 ≡ places + 1 = omega arith in
    let there : meet reads (writes_of jobs (places + 1)) ≡ true =
    sym (ap (λ b. meet reads (if b then job.writes else writes_of jobs (suc places + 1 - 1))) first ∙ ap (λ k. meet reads (writes_of jobs k)) less) ∙ meets in
    rw (lt-ltb number n (omega arith))
    (omega (arith, covers reads n jobs (number + 1) (if meet reads job.writes then number else found) places (low_by (meet reads job.writes) number found low) (omega arith) there))

unless_is : (b : Bool) (fault : QueueFault) (job : ℕ) (x : Result ℕ QueueFault) → (if b then Err fault else x) ≡ Ok job → (b ≡ false) × (x ≡ Ok job)
unless_is true fault job x e = let no : ⊥ = cc in absurd no
unless_is false fault job x e = (refl, e)

abbrev numbered : ℕ → Result ℕ QueueFault
numbered n = Ok n

ok_inj : (a b : ℕ) → numbered a ≡ numbered b → a ≡ b
ok_inj a b e = cc

started : (past : Past) (job : ℕ) → start_answer past ≡ Ok job → (last_writer past.jobs job ≤ past.rendered) × (job ≡ past.started + 1)
unfolding start_answer
started past job e =
    let first = unless_is (nat_lt past.binned past.started) (Binning past.started) job
    (if past.started == length past.jobs then Err NoJob else (if nat_lt past.rendered (last_writer past.jobs (past.started + 1)) then Err (Waits (last_writer past.jobs (past.started + 1))) else Ok (past.started + 1))) e in
    let second = unless_is (past.started == length past.jobs) NoJob job
    (if nat_lt past.rendered (last_writer past.jobs (past.started + 1)) then Err (Waits (last_writer past.jobs (past.started + 1))) else Ok (past.started + 1)) first.1 in
    let third = unless_is (nat_lt past.rendered (last_writer past.jobs (past.started + 1))) (Waits (last_writer past.jobs (past.started + 1))) job (Ok (past.started + 1)) second.1 in
    let same : past.started + 1 ≡ job = ok_inj (past.started + 1) job third.1 in
    (subst (λ n. last_writer past.jobs n ≤ past.rendered) same (ltb-false past.rendered (last_writer past.jobs (past.started + 1)) third.0), sym same)

pub starts_late : StartsLate
unfolding last_writer
starts_late = λ past job e writer before.
    let last = (started past job e).0 in
    let places : writer - 1 + 1 ≡ writer = omega (arith, before.counts) in
    let meets : meet (reads_of past.jobs job) (writes_of past.jobs (writer - 1 + 1)) ≡ true = ap (λ k. meet (reads_of past.jobs job) (writes_of past.jobs k)) places ∙ before.meets in
    omega (arith, last, before.counts, covers (reads_of past.jobs job) job past.jobs 1 0 (writer - 1) (omega arith) (omega (arith, before.earlier, before.counts)) meets)
