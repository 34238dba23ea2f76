use Rattle.std.proofs.Common.{◌∙◌, ◌+◌, ◌-◌, length, drop, ap, subst, arith}
use Rattle.std.specs.List.{AllByRecursion}
use Rattle.std.proofs.lemmas.List.{length-take}
use Rattle.file_index.specs.IndexPage.{HasEntryFields, index_page}
use Rattle.file_index.specs.Nodes.{first_key}
use Rattle.even_indexes.proofs.Places.{first_key_at, share_is, share_sizes}
use Rattle.even_indexes.proofs.shares.write_share.Goals as goal

pub write_index-requires-clause-room : goal.write_index-requires-clause-room
write_index-requires-clause-room c =
    let sizes = share_sizes (length c.args.out.now) (length c.args.below.now) c.args.index c.requires.size.0 c.requires.index in
    let len = rw c.pages_over-parts.ensures.count at c.share_of-share.ensures.len in
    omega (arith, sizes.1, len, c.requires.size.0, length-take (c.share_of-share.result.from + c.share_of-share.result.len - c.share_of-share.result.from) (drop c.share_of-share.result.from c.args.below.now))

pub returns-clause-page : goal.returns-clause-page
returns-clause-page c =
    let from = rw c.pages_over-parts.ensures.count at c.share_of-share.ensures.from in
    let len = rw c.pages_over-parts.ensures.count at c.share_of-share.ensures.len in
    c.write_index.ensures.written ∙ ap (index_page (length c.args.out.now) c.args.level c.args.file_no) (share_is (length c.args.out.now) c.args.below.now c.args.index c.share_of-share.result.from c.share_of-share.result.len c.requires.index from len)

pub returns-clause-key : goal.returns-clause-key
returns-clause-key c =
    let from = rw c.pages_over-parts.ensures.count at c.share_of-share.ensures.from in
    let len = rw c.pages_over-parts.ensures.count at c.share_of-share.ensures.len in
    let sizes = share_sizes (length c.args.out.now) (length c.args.below.now) c.args.index c.requires.size.0 c.requires.index in
    first_key_at (c.share_of-share.result.from + c.share_of-share.result.len - c.share_of-share.result.from) c.share_of-share.result.from c.args.below.now _ (omega (arith, sizes.0, len)) c.share_of-share.ensures.fits.0
    ∙ ap first_key (share_is (length c.args.out.now) c.args.below.now c.args.index c.share_of-share.result.from c.share_of-share.result.len c.requires.index from len)

pub returns-clause-fields : goal.returns-clause-fields
returns-clause-fields c =
    let from = rw c.pages_over-parts.ensures.count at c.share_of-share.ensures.from in
    let len = rw c.pages_over-parts.ensures.count at c.share_of-share.ensures.len in
    subst (AllByRecursion HasEntryFields) (share_is (length c.args.out.now) c.args.below.now c.args.index c.share_of-share.result.from c.share_of-share.result.len c.requires.index from len) c.write_index.ensures.fields
