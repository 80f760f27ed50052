use Rattle.std.proofs.Common.{◌≡◌, ◌++◌, List, ℕ, OnOk, codes, subst}
use Rattle.job_text.specs.Meanings.{flag_text, depth_flags}
use Rattle.job_text.proofs.Texts.{three_parts}
use Rattle.job_text.proofs.meanings.put_depth_flags.Goals as goal

pub returns : goal.returns
unfolding depth_flags
returns c =
    let n = c.args.number in
    let out = c.args.out.now.items in
    let front : c.put_flag-2.new.out.items ++ flag_text n 17 (codes ", early depth written") ≡ out ++ depth_flags n =
    rw (c.in_ok-put_flag-2.ensures, c.in_ok-put_flag.ensures)
    (three_parts out (flag_text n 15 (codes ", depth written")) (flag_text n 16 (codes ", early depth test")) (flag_text n 17 (codes ", early depth written"))) in
    subst (λ (t : List ℕ). OnOk c.put_flag-3.result (c.put_flag-3.new.out.items ≡ t)) front c.put_flag-3.ensures
