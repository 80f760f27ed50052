use Rattle.std.proofs.{Common.sym, Common.◌∙◌, Common.ap, Common.option_copied, Common.arith, lemmas.Bool.Decides.nat_tests, lemmas.Map.Text.btree_map_updates_str}
use Rattle.std.specs.{BTreeMap.get_by, Cmp.Lexicographic.slice_cmp, Ordering.nat_cmp}
use Rattle.script.specs.Lines.{lines_of}
use Rattle.job_make.specs.{Made.text_sections, Seen.sections_in, declared.sections.Sections.TheVariants.Of}
use Rattle.job_make.proofs.SectionSteps.{section_step, section_skip, sections_end}
use Rattle.job_make.proofs.reading.sections_of.Goals.{in-Some+in_ok-size+in_ok-insert, in_default}
use Rattle.job_make.proofs.reading.sections_of.Goals as goal

pub loop-rest-preserved : goal.loop-rest-preserved
loop-rest-preserved c =
    let first = c.next_line-cut.result.first.now in
    let rest = c.loop-rest.rest.now in
    let lines = lines_of c.next_line-cut.result.rest.now in
    record {
      line = omega (arith, c.loop-rest.invariant.line, c.next_line-cut.ensures.shorter);
      named = λ name. elim c.match-name_on.branch [
        | in-Some+in_ok-size+in_ok-insert w ↦
            rw (w.by_name-is, c.stays_inside-inside.ensures)
            (section_step c.loop-rest.line w.in_ok-size.size c.loop-rest.inside name w.in-Some.name.now first rest lines
            (get_by (λ key. slice_cmp nat_cmp name key.now) c.loop-rest.by_name) (get_by (λ key. slice_cmp nat_cmp name key.now) w.insert.new.self)
            c.next_line-cut.ensures.lines (sym c.name_on.ensures ∙ ap option_copied w.in-Some.is) w.in_ok-size.ensures
            (btree_map_updates_str w.in-Some.name.now c.loop-rest.by_name w.insert.new.self _ w.in_ok-insert.ensures.updates name)
            ∙ c.loop-rest.invariant.named name)
        | in_default w ↦
            rw (w.by_name-is, c.stays_inside-inside.ensures)
            (section_skip c.loop-rest.line c.loop-rest.inside name first rest lines (get_by (λ key. slice_cmp nat_cmp name key.now) c.loop-rest.by_name)
            c.next_line-cut.ensures.lines (sym c.name_on.ensures ∙ ap option_copied w.in_default.is)
            ∙ c.loop-rest.invariant.named name)
      ];
    }

pub returns : goal.returns
returns c =
    sections_end c.loop-rest.line c.loop-rest.inside c.loop-rest.rest.now (sections_in (Of c.loop-rest.by_name)) (text_sections c.args.text.now)
    (grind (arith, nat_tests, c.is_empty.ensures, c.loop-rest-test.false)) c.loop-rest.invariant.named
