use Rattle.std.proofs.Common.{◌≡◌, ◌≤◌, ℕ, List, length, sym, ap, subst, ◌∙◌, arith}
use Rattle.object_records.specs.Record.{Content, Record, BodyOf}
use Rattle.object_records.specs.Reads.{content_of}
use Rattle.version_tree.specs.Bodies.{with_head}
use Rattle.version_tree.specs.Copies.{content_len}
use Rattle.version_tree.proofs.HeadLaws.{head_fits, record_long, slice_back, some_body}
use Rattle.versions.proofs.Records.{one_record}
use Rattle.version_tree.proofs.heads.body_with.Goals as goal

pub write_record-requires-clause-fits : goal.write_record-requires-clause-fits
write_record-requires-clause-fits c =
    head_fits c.args.head.now (content_of c.payload.result) c.in-Some.view c.payload.ensures (c.is_head.ensures.yes c.in_ok-check.ensures.holds) c.in-Some.ensures.found.fits

pub write_record-requires-clause-room : goal.write_record-requires-clause-room
write_record-requires-clause-room c =
    omega (arith, c.deref_mut.ensures.len, c.in_ok-body.ensures.len, c.len.ensures, ap (λ (t : List ℕ). length t) c.deref.ensures.value, record_long c.deref.result.now c.in-Some.view.head c.in-Some.view.content c.in-Some.ensures.found, ap content_len c.payload.ensures)

pub returns-clause-body : goal.returns-clause-body
returns-clause-body c = λ is spelled.
    let long = record_long c.write_record.new.out c.args.head.now (content_of c.payload.result) c.write_record.ensures in
    let read = record_long c.deref.result.now c.in-Some.view.head c.in-Some.view.content c.in-Some.ensures.found in
    let items : length c.in_ok-body.body.items ≡ c.in_ok-body.body.len = omega (arith, c.in_ok-body.body.ok) in
    let back = slice_back c.in_ok-body.body.items c.write_record.new.out c.in_ok-body.body.len
    (omega (arith, long, read, ap content_len c.payload.ensures, items, c.in_ok-body.ensures.len, c.len.ensures, ap (λ (t : List ℕ). length t) c.deref.ensures.value)) items in
    let same : content_of c.payload.result ≡ is.content =
    c.payload.ensures ∙ ap (λ (r : Record). r.content) (one_record c.args.stored.now.body.items c.in-Some.view is (subst (λ (t : List ℕ). BodyOf t c.in-Some.view) c.deref.ensures.value c.in-Some.ensures.found) spelled) in
    subst (λ (t : List ℕ). BodyOf t (with_head c.args.head.now is)) (sym back)
    (subst (λ (t : Content). BodyOf c.write_record.new.out (record { head = c.args.head.now; content = t })) same c.write_record.ensures)

pub returns-clause-some : goal.returns-clause-some
returns-clause-some c =
    let long = record_long c.write_record.new.out c.args.head.now (content_of c.payload.result) c.write_record.ensures in
    let read = record_long c.deref.result.now c.in-Some.view.head c.in-Some.view.content c.in-Some.ensures.found in
    let items : length c.in_ok-body.body.items ≡ c.in_ok-body.body.len = omega (arith, c.in_ok-body.body.ok) in
    let back = slice_back c.in_ok-body.body.items c.write_record.new.out c.in_ok-body.body.len
    (omega (arith, long, read, ap content_len c.payload.ensures, items, c.in_ok-body.ensures.len, c.len.ensures, ap (λ (t : List ℕ). length t) c.deref.ensures.value)) items in
    subst (λ (t : List ℕ). 36 ≤ length t) (sym back) (some_body c.write_record.new.out _ c.write_record.ensures)

pub returns-clause-len : goal.returns-clause-len
returns-clause-len c =
    let long = record_long c.write_record.new.out c.args.head.now (content_of c.payload.result) c.write_record.ensures in
    let read = record_long c.deref.result.now c.in-Some.view.head c.in-Some.view.content c.in-Some.ensures.found in
    let items : length c.in_ok-body.body.items ≡ c.in_ok-body.body.len = omega (arith, c.in_ok-body.body.ok) in
    let same : length c.write_record.new.out ≡ length c.args.stored.now.body.items = omega (arith, long, read, ap content_len c.payload.ensures, ap (λ (t : List ℕ). length t) c.deref.ensures.value) in
    let back = slice_back c.in_ok-body.body.items c.write_record.new.out c.in_ok-body.body.len
    (omega (arith, same, items, c.in_ok-body.ensures.len, c.len.ensures)) items in
    ap length back ∙ same
