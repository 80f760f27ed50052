use Rattle.std.proofs.Common.{◌≡◌, ◌++◌, List, ℕ, OnOk, codes, subst}
use Rattle.job_text.specs.Meanings.{flag_text, face_flags}
use Rattle.job_text.proofs.Texts.{three_parts}
use Rattle.job_text.proofs.meanings.put_face_flags.Goals as goal

pub returns : goal.returns
unfolding face_flags
returns c =
    let n = c.args.number in
    let out = c.args.out.now.items in
    let front : c.put_flag-2.new.out.items ++ flag_text n 2 (codes ", clockwise is front") ≡ out ++ face_flags n =
    rw (c.in_ok-put_flag-2.ensures, c.in_ok-put_flag.ensures)
    (three_parts out (flag_text n 0 (codes ", front faces")) (flag_text n 1 (codes ", back faces")) (flag_text n 2 (codes ", clockwise is front"))) in
    subst (λ (t : List ℕ). OnOk c.put_flag-3.result (c.put_flag-3.new.out.items ≡ t)) front c.put_flag-3.ensures
