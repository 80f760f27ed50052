-- What is put behind a text.
use Rattle.std.proofs.Common.{◌≡◌, ℕ, List, ◌++◌, append_assoc}
use Rattle.job_text.specs.Names.{of_job}

pub three_parts : (out a b c : List ℕ) → ((out ++ a) ++ b) ++ c ≡ out ++ (a ++ (b ++ c))
three_parts out a b c = simp append_assoc

pub four_parts : (out a b c d : List ℕ) → (((out ++ a) ++ b) ++ c) ++ d ≡ out ++ (a ++ (b ++ (c ++ d)))
four_parts out a b c d = simp append_assoc

pub five_parts : (out a b c d e : List ℕ) → ((((out ++ a) ++ b) ++ c) ++ d) ++ e ≡ out ++ (a ++ (b ++ (c ++ (d ++ e))))
five_parts out a b c d e = simp append_assoc

pub of_job_more : (out : List ℕ) (job : ℕ) (text more end : List ℕ) → ((out ++ of_job job text) ++ more) ++ end ≡ out ++ of_job job (text ++ (more ++ end))
unfolding of_job
of_job_more out job text more end = simp append_assoc
