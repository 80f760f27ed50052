use Rattle.std.proofs.Common.{◌++◌, [], ◌∷◌, map, sym, ap, ◌∙◌}
use Rattle.shader_flow.specs.{Bounded.indexes, Pending.count_of}
use Rattle.shader_flow.proofs.Bounded.{map_indexes_here, map_indexes_not}
use Rattle.uniform_stream.specs.Stream.{writes_address}
use Rattle.uniform_stream.proofs.walk.add_address.Goals as goal

pub returns-in_ok-push : goal.returns-in_ok-push
returns-in_ok-push c =
    c.in_ok-push.ensures.items
    ∙ ap (λ xs. xs ++ (c.args.count ∷ [])) c.requires.before
    ∙ ap (λ n. map (count_of c.args.site.now.code) (indexes c.args.site.now.at (writes_address c.args.site.now.code)) ++ (n ∷ [])) c.requires.taken
    ∙ sym (map_indexes_here (count_of c.args.site.now.code) c.args.site.now.at (writes_address c.args.site.now.code) (sym c.writes_address.ensures ∙ c.if-writes_address.true))

pub returns-else-writes_address : goal.returns-else-writes_address
returns-else-writes_address c =
    c.requires.before
    ∙ sym (map_indexes_not (count_of c.args.site.now.code) c.args.site.now.at (writes_address c.args.site.now.code) (sym c.writes_address.ensures ∙ c.if-writes_address.false))
