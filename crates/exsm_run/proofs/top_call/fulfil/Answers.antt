use Rattle.std.proofs.Common.{sym, subst}
use Rattle.command_words.specs.declared.wish.Wish.{Wish}
use Rattle.exsm_run.specs.Format.{FormatAnswers, IsFormatStatus}
use Rattle.exsm_run.specs.Promises.{FormatPromise, Promise}
use Rattle.exsm_run.proofs.Begun.{begins_source}
use Rattle.exsm_run.proofs.Ending.{no_usage, made_or_memory}
use Rattle.exsm_run.proofs.Running.{clients_promise, run_promise}
use Rattle.exsm_run.proofs.top_call.fulfil.Goals as goal

pub returns-in-Format-clause-promise : goal.returns-in-Format-clause-promise
returns-in-Format-clause-promise g c =
    let promise = c.format.ensures in
    let answers : FormatAnswers c.in-Format.geometry c.format.result (g.H.World.outside c.args.host.now) = record {
      one_of = promise.one_of;
      small = promise.small;
      too_small = promise.too_small;
      volume = promise.volume;
      large = promise.large;
      magic = promise.magic;
    } in
    let whole : FormatPromise c.in-Format.geometry (g.H.World.outside c.args.host.now) (g.H.World.outside c.format.new.host) c.format.result = record {
      answers = answers;
      sends = record { line = promise.line; front = promise.front; nothing = promise.nothing; left = promise.left };
      keeps = promise.keeps;
      writes = promise.writes;
      makes = promise.formatted;
      moments = promise.any_moment;
      succeeds = λ may. made_or_memory c.in-Format.geometry (g.H.World.outside c.args.host.now) (g.H.World.outside c.format.new.host) c.format.result may answers promise.disk promise.output;
    } in
    subst (λ (w : Wish). Promise g.H.World.outside w (g.H.World.outside c.args.host.now) (g.H.World.outside c.format.new.host) c.format.result) (sym c.in-Format.is) whole

pub returns-in-Format-clause-never : goal.returns-in-Format-clause-never
returns-in-Format-clause-never g c is = subst IsFormatStatus is c.format.ensures.one_of

pub returns-in-Run-clause-never : goal.returns-in-Run-clause-never
returns-in-Run-clause-never g c is = no_usage c.run_script.result c.run_script.ensures.never is

pub returns-in-Run-clause-refused : goal.returns-in-Run-clause-refused
returns-in-Run-clause-refused g c refused = absurd (c.run_script.ensures.never refused)

pub returns-in-Run-clause-promise : goal.returns-in-Run-clause-promise
returns-in-Run-clause-promise g c =
    subst (λ (w : Wish). Promise g.H.World.outside w (g.H.World.outside c.args.host.now) (g.H.World.outside c.run_script.new.host) c.run_script.result) (sym c.in-Run.is)
    (run_promise (g.H.World.is_world c.args.host.now) c.run_script.ensures.ran (begins_source c.run_script.ensures.opened))

pub returns-in-Clients-clause-never : goal.returns-in-Clients-clause-never
returns-in-Clients-clause-never g c is = no_usage c.run_script-in-Clients.result c.run_script-in-Clients.ensures.never is

pub returns-in-Clients-clause-refused : goal.returns-in-Clients-clause-refused
returns-in-Clients-clause-refused g c refused = absurd (c.run_script-in-Clients.ensures.never refused)

pub returns-in-Clients-clause-promise : goal.returns-in-Clients-clause-promise
returns-in-Clients-clause-promise g c =
    subst (λ (w : Wish). Promise g.H.World.outside w (g.H.World.outside c.args.host.now) (g.H.World.outside c.run_script-in-Clients.new.host) c.run_script-in-Clients.result) (sym c.in-Clients.is)
    (clients_promise (g.H.World.is_world c.args.host.now) c.run_script-in-Clients.ensures.ran (begins_source c.run_script-in-Clients.ensures.opened))
