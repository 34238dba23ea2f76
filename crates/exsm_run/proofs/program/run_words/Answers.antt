use Rattle.std.proofs.Common.{◌∙◌, inr, sym, subst}
use Rattle.command_words.specs.Wishes.{texts}
use Rattle.command_line.specs.declared.status.Status.{Status}
use Rattle.exsm_run.specs.Program.{Answers}
use Rattle.exsm_run.proofs.program.run_words.Goals as goal

pub returns-in-Ok-clause-usage : goal.returns-in-Ok-clause-usage
returns-in-Ok-clause-usage g c is = c.run-status.ensures.usage (sym c.ending.ensures.status ∙ is)

pub returns-in-Ok-clause-ran : goal.returns-in-Ok-clause-ran
returns-in-Ok-clause-ran g c =
    let promise = c.run-status.ensures in
    let answered : Answers g.S.Over.World.outside (texts c.args.words.now) c.in-Ok.host c.run-status.new.host c.run-status.result = record {
      usage = promise.usage;
      no_words = promise.outside;
      untouched = promise.untouched;
      script_fault = promise.script_fault;
      output_fault = promise.output_fault;
      disk_fault = promise.disk_fault;
      damaged = promise.damaged;
      refused = promise.refused;
      does = promise.does;
      told = promise.told;
    } in
    inr (record {
      before = c.in-Ok.host;
      after = c.run-status.new.host;
      opened = c.in-Ok.ensures;
      answers = subst (λ (s : Status). Answers g.S.Over.World.outside (texts c.args.words.now) c.in-Ok.host c.run-status.new.host s) (sym c.ending.ensures.status) answered;
      told = c.ending.ensures.told;
    })
