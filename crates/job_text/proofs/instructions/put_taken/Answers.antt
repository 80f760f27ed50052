use Rattle.std.proofs.Common.{◌≡◌, ◌++◌, List, ℕ, OnOk, codes, decimal, subst, append_assoc}
use Rattle.job_text.specs.Notes.{taken_text}
use Rattle.job_text.proofs.instructions.put_taken.Goals as goal

pub returns-in_ok-extend_from_slice-in-Some : goal.returns-in_ok-extend_from_slice-in-Some
returns-in_ok-extend_from_slice-in-Some c =
    let out = c.args.out.now.items in
    let uniform = c.in-Some.uniform in
    let front : c.extend_from_slice.new.self.items ++ decimal uniform ≡ out ++ taken_text c.args.uniform =
    rw (c.in_ok-extend_from_slice-in-Some.ensures.items, c.in-Some.is) (append_assoc out (codes "; takes uniform ") (decimal uniform)) in
    subst (λ (t : List ℕ). OnOk c.put_number.result (c.put_number.new.out.items ≡ t)) front c.put_number.ensures
