use Rattle.std.proofs.Common.{◌≡◌, ℕ, Bool, Option, length, take, refl, sym, subst, ap, ◌∙◌, arith}
use Rattle.std.proofs.Math.Seq.{take-append_seam}
use Rattle.object_records.specs.Record.{Content, Record}
use Rattle.object_records.specs.declared.Head.{Head}
use Rattle.volume_model.specs.Volume.{is_frozen}
use Rattle.object_records.specs.Reads.{content_of}
use Rattle.history_model.specs.History.{HistoryVersion}
use Rattle.history_model.specs.Stream.{version_item}
use Rattle.history_dump.specs.Items.{IsNumberedContent}
use Rattle.history_dump.proofs.Contents.{item_short, one_content, one_record}
use Rattle.history_dump.proofs.version.put_record.Goals as goal

abbrev version_of : ℕ → Bool → Option ℕ → Content → HistoryVersion
version_of unique frozen older content = record { unique = unique; frozen = frozen; older = older; content = content }

pub returns-in_default-content_numbered-clause-sound : goal.returns-in_default-content_numbered-clause-sound
returns-in_default-content_numbered-clause-sound c = λ is v spelled short version.
    let same = one_record c.args.body.now c.in-Some.record is c.in-Some.ensures.found spelled in
    c.in_default-content_numbered.ensures.none refl v.content
    (subst (λ (x : Content). IsNumberedContent c.args.plan.now x v.content) (sym (c.payload.ensures ∙ ap (λ (r : Record). r.content) same)) version.content)

pub write_version-requires-clause-room : goal.write_version-requires-clause-room
write_version-requires-clause-room c =
    let numbered = subst (λ (x : Content). IsNumberedContent c.args.plan.now x (content_of c.in-Some-content_numbered.content)) c.payload.ensures c.in-Some-content_numbered.ensures.some in
    omega (arith, item_short c.args.plan.now c.args.body.now c.in-Some.record (content_of c.in-Some-content_numbered.content) (version_of c.head-head.result.unique c.is_frozen.result c.args.older (content_of c.in-Some-content_numbered.content)) c.in-Some.ensures.found numbered refl, c.if-body-out.false)

pub returns-clause-item : goal.returns-clause-item
returns-clause-item c = λ is v spelled version.
    let same = one_record c.args.body.now c.in-Some.record is c.in-Some.ensures.found spelled in
    let numbered = subst (λ (x : Content). IsNumberedContent c.args.plan.now x (content_of c.in-Some-content_numbered.content)) (c.payload.ensures ∙ ap (λ (r : Record). r.content) same) c.in-Some-content_numbered.ensures.some in
    let content : content_of c.in-Some-content_numbered.content ≡ v.content = one_content c.args.plan.now is.content _ v.content numbered version.content in
    let unique : c.head-head.result.unique ≡ v.unique = ap (λ (h : Head). h.unique) c.head-head.ensures ∙ ap (λ (r : Record). r.head.unique) same ∙ sym version.unique in
    let frozen : c.is_frozen.result ≡ v.frozen =
    c.is_frozen.ensures ∙ ap (λ (h : Head). is_frozen h.state) c.head-head.ensures ∙ ap (λ (r : Record). is_frozen r.head.state) same ∙ sym version.state in
    let content_is = content_of c.in-Some-content_numbered.content in
    let made : version_of c.head-head.result.unique c.is_frozen.result c.args.older content_is ≡ v =
    ap (λ (n : ℕ). version_of n c.is_frozen.result c.args.older content_is) unique ∙ ap (λ (b : Bool). version_of v.unique b c.args.older content_is) frozen
    ∙ ap (λ (o : Option ℕ). version_of v.unique v.frozen o content_is) (sym version.older_is) ∙ ap (version_of v.unique v.frozen v.older) content in
    let item = version_item (version_of c.head-head.result.unique c.is_frozen.result c.args.older content_is) in
    ap (λ (k : ℕ). take k c.write_version.new.out) c.write_version.ensures.len ∙ ap (take (length item)) c.write_version.ensures.written ∙ take-append_seam item _ ∙ ap version_item made
