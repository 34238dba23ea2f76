use Rattle.std.proofs.Common.{List, ℕ, [], ◌∷◌, ◌++◌, refl, ap, ◌∙◌, arith, append_assoc}
use Rattle.std.proofs.lemmas.List.{length-append}
use Rattle.ex_base.specs.Bytes.{written}
use Rattle.ex_base.specs.Fields.{eight_bytes, page_field}
use Rattle.ex_base.proofs.FieldLaws.{eight_is}
use Rattle.ex_base.proofs.Reading.{length-page_field}
use Rattle.ex_base.proofs.Writing.{written_twice}
use Rattle.history_items.proofs.versions.write_large.Goals as goal

pub returns : goal.returns
returns c =
    let out = c.args.out.now in
    let root = c.args.root in
    let size = eight_is.len root.size in
    let page = length-page_field root.page in
    let front = length-append (eight_bytes root.size) (root.height ∷ []) in
    let one = c.put_u64.ensures ∙ ap (λ (t : List ℕ). written t 18 (eight_bytes root.size)) c.put_u8.ensures ∙ written_twice out (2 ∷ []) (eight_bytes root.size) 17 18 refl (omega (arith, size, c.requires)) in
    let two = c.put_u8-2.ensures ∙ ap (λ (t : List ℕ). written t 26 (root.height ∷ [])) one ∙ written_twice out (2 ∷ eight_bytes root.size) (root.height ∷ []) 17 26 (omega (arith, size)) (omega (arith, size, c.requires)) in
    c.put_page.ensures ∙ ap (λ (t : List ℕ). written t 27 (page_field root.page)) two
    ∙ written_twice out (2 ∷ (eight_bytes root.size ++ (root.height ∷ []))) (page_field root.page) 17 27 (omega (arith, size, front)) (omega (arith, size, front, page, c.requires))
    ∙ ap (λ (t : List ℕ). written out 17 (2 ∷ t)) (append_assoc (eight_bytes root.size) (root.height ∷ []) (page_field root.page))
