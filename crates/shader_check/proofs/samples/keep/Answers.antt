use Rattle.std.proofs.Common.{◌++◌, [], ◌∷◌, map, sym, ap, ◌∙◌}
use Rattle.qpu_isa.specs.Terms.{writes_s, writes_tmu}
use Rattle.shader_flow.specs.Pending.{count_of}
use Rattle.shader_check.specs.Info.{setups_held}
use Rattle.shader_check.proofs.Positions.{held_sent, held_more, held_same}
use Rattle.shader_check.proofs.samples.keep.Goals as goal

pub returns-then-writes_s : goal.returns-then-writes_s
returns-then-writes_s c =
    c.clear.ensures.items
    ∙ sym (held_sent c.args.known.now.code (count_of c.args.known.now.code) c.args.tmu c.args.known.now.at c.requires.checked (sym (c.writes_s.ensures ∙ ap (λ w. writes_s w c.args.tmu) c.word.ensures) ∙ c.if-writes_s.true))

pub returns-in_ok-push : goal.returns-in_ok-push
returns-in_ok-push c =
    c.in_ok-push.ensures.items
    ∙ ap (λ xs. xs ++ (c.count.result ∷ [])) c.requires.before
    ∙ ap (λ n. map (count_of c.args.known.now.code) (setups_held c.args.known.now.code c.args.tmu c.args.known.now.at) ++ (n ∷ [])) c.count.ensures
    ∙ sym (held_more c.args.known.now.code (count_of c.args.known.now.code) c.args.tmu c.args.known.now.at c.requires.checked (sym (c.writes_s.ensures ∙ ap (λ w. writes_s w c.args.tmu) c.word.ensures) ∙ c.if-writes_s.false) (sym (c.writes_tmu.ensures ∙ ap (λ w. writes_tmu w c.args.tmu) c.word-2.ensures) ∙ c.if-writes_tmu.true))

pub returns-else-writes_tmu : goal.returns-else-writes_tmu
returns-else-writes_tmu c =
    c.requires.before
    ∙ sym (held_same c.args.known.now.code (count_of c.args.known.now.code) c.args.tmu c.args.known.now.at c.requires.checked (sym (c.writes_s.ensures ∙ ap (λ w. writes_s w c.args.tmu) c.word.ensures) ∙ c.if-writes_s.false) (sym (c.writes_tmu.ensures ∙ ap (λ w. writes_tmu w c.args.tmu) c.word-2.ensures) ∙ c.if-writes_tmu.false))
