-- What `check` answers of an accepted file is safe to run.
use Rattle.std.proofs.Common.{◌≡◌, true, Some, Ok, IfSome, sym, ap, subst, arith, rules, ◌∙◌}
use Rattle.std.specs.Result.{result_ok}
use Rattle.commands.specs.declared.command.{Command.Command, Command.TheVariants.Check, Task.TheVariants.Read}
use Rattle.commands.specs.{Cause.IsCause, Cause.is_reported, Line.texts, Run.IsServed, Words.task_or_fault}
use Rattle.commands.proofs.{Headline.safely_accepted, Promised.promises}
use Rattle.commands.proofs.runs.run_with_cause.Goals as goal

same_command : (one other : Command) → Some (Read one) ≡ Some (Read other) → one ≡ other
same_command one other same = cc

pub returns-in-Ok-Read : goal.returns-in-Ok-Read
returns-in-Ok-Read g c =
    let left = g.S.Source.left c.args.source.now in
    let rest = g.S.Source.left c.serve.new.source in
    let before = g.K.Sink.held c.args.sink.now in
    let now = g.K.Sink.held c.serve.new.sink in
    let status = c.serve.result.status in
    let own = c.in-Ok-Read.command in
    let same =
    sym (c.in-Ok-Read.is ∙ ap Ok c.in-Ok-Read.field-0-is)
    ∙ c.task_of.ensures.value
    ∙ ap (λ words. task_or_fault (texts words)) c.deref.ensures.value in
    record {
      run = record {
        ends = search rules;
        served = λ command asked.
            let read : Some (Read own) ≡ Some (Read command) = ap result_ok same ∙ asked in
            subst (λ k. IsServed k left rest before now status) (same_command own command read)
            (record {
              all = c.serve.ensures.all;
              long = c.serve.ensures.long;
              within = c.serve.ensures.within;
              answered = c.serve.ensures.answered;
              cut = c.serve.ensures.cut;
            });
        made = search rules;
        said = search rules;
        safe = λ strict asked zero.
            let read : Some (Read own) ≡ Some (Read (Check strict)) = ap result_ok same ∙ asked in
            safely_accepted left own strict status before now (same_command own (Check strict) read) zero (c.serve.ensures.answered (omega (arith, zero)));
        promises = promises;
      };
      cause = λ command asked.
          let read : Some (Read own) ≡ Some (Read command) = ap result_ok same ∙ asked in
          subst (λ k. is_reported k status ≡ true → IfSome left (λ bytes. IsCause k bytes c.serve.result.cause)) (same_command own command read)
          c.serve.ensures.cause;
      wrong = search rules;
      quiet = search rules;
    }
