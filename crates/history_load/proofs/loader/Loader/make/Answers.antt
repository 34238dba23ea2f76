use Rattle.std.proofs.Common.{ℕ, List, sym, ap, subst, arith}
use Rattle.history_items.specs.Heads.{stream_head}
use Rattle.history_items.specs.declared.head.Head.{Head}
use Rattle.history_reads.specs.Reads.{IsRead}
use Rattle.history_load.proofs.Making.{begun_is, made_loaded, made_of}
use Rattle.history_load.proofs.loader.Loader.make.Goals as goal

pub returns-clause-is : goal.returns-clause-is
returns-clause-is c = λ bytes are e.
    let read = subst (λ (held : List ℕ). IsRead c.args.geometry.now bytes c.in_ok-begin.field-0 held) (sym c.in_ok-make.ensures.none) (c.in_ok-begin.ensures.read bytes are e) in
    let nodes = ap (λ (h : Head). h.nodes) c.in_ok-begin.ensures.head in
    let begins = begun_is c.args.geometry.now (stream_head c.args.head.now) bytes c.in_ok-make.field-0.held c.in_ok-begin.field-0 c.requires.head are e c.in_ok-make.ensures.none read in
    record {
      joined = bytes;
      read = read;
      of = made_of c.args.geometry.now (stream_head c.args.head.now) _ read.front (record {
        head_is = ap stream_head c.in_ok-begin.ensures.head;
        held = c.in_ok-make.ensures.none;
        room = c.in_ok-make.ensures.room;
        ready = c.in_ok-no_files.ensures.ready;
        none = c.in_ok-no_files.ensures.none;
        next = omega (arith, c.in_ok-no_files.ensures.next, c.node_page.ensures, nodes);
        count = c.in_ok-no_files.ensures.count;
      }) c.requires.room begins;
    }

pub returns-clause-loaded : goal.returns-clause-loaded
returns-clause-loaded c = λ image bytes are e.
    let read = subst (λ (held : List ℕ). IsRead c.args.geometry.now bytes c.in_ok-begin.field-0 held) (sym c.in_ok-make.ensures.none) (c.in_ok-begin.ensures.read bytes are e) in
    let nodes = ap (λ (h : Head). h.nodes) c.in_ok-begin.ensures.head in
    made_loaded c.args.geometry.now image (stream_head c.args.head.now) bytes _ (record {
      head_is = ap stream_head c.in_ok-begin.ensures.head;
      held = c.in_ok-make.ensures.none;
      room = c.in_ok-make.ensures.room;
      ready = c.in_ok-no_files.ensures.ready;
      none = c.in_ok-no_files.ensures.none;
      next = omega (arith, c.in_ok-no_files.ensures.next, c.node_page.ensures, nodes);
      count = c.in_ok-no_files.ensures.count;
    }) c.requires.head are e read
