use Rattle.std.proofs.Common.{◌≡◌, ◌∙◌, ap, ℕ, ◌-◌, List, ◌++◌, drop, replicate, arith, refl}
use Rattle.std.proofs.lemmas.List.{drop-replicate}
use Rattle.ex_base.specs.Fields.{field_bytes, put_next}
use Rattle.ex_base.specs.Superblock.{magic, super_page, super_rest}
use Rattle.ex_base.proofs.superblock.write_super.Goals as goal

pub returns : goal.returns
unfolding super_page super_rest field_bytes
returns c =
    let g = c.args.geometry.now in
    let page = g.page_size in
    let zeros : c.fill.new.self ≡ replicate page 0 = c.fill.ensures.after (λ y is. is) ∙ ap (λ (n : ℕ). replicate n 0) c.requires in
    let start : c.copy_from_slice.new.self ++ drop 8 c.fill.new.self ≡ magic ++ replicate (page - 8) 0 =
    ap (λ (l : List ℕ). l ++ drop 8 c.fill.new.self) c.copy_from_slice.ensures.after
    ∙ ap (λ (l : List ℕ). magic ++ drop 8 l) zeros
    ∙ ap (λ (l : List ℕ). magic ++ l) (drop-replicate 8 page 0) in
    let b1 = magic ++ field_bytes 4 page in
    let b2 = b1 ++ field_bytes 4 g.pages in
    let b3 = b2 ++ field_bytes 4 g.segs in
    let b4 = b3 ++ field_bytes 4 g.seg_len in
    let b5 = b4 ++ field_bytes 4 g.fan in
    let b6 = b5 ++ field_bytes 4 2 in
    let one : c.put_u32.new.bytes ≡ b1 ++ replicate (page - 8 - 4) 0 = c.put_u32.ensures ∙ put_next _ magic 8 4 (page - 8) page start refl in
    let two : c.put_u32-2.new.bytes ≡ b2 ++ replicate (page - 8 - 4 - 4) 0 = c.put_u32-2.ensures ∙ put_next _ b1 12 4 _ g.pages one refl in
    let three : c.put_u32-3.new.bytes ≡ b3 ++ replicate (page - 8 - 4 - 4 - 4) 0 = c.put_u32-3.ensures ∙ put_next _ b2 16 4 _ g.segs two refl in
    let four : c.put_u32-4.new.bytes ≡ b4 ++ replicate (page - 8 - 4 - 4 - 4 - 4) 0 = c.put_u32-4.ensures ∙ put_next _ b3 20 4 _ g.seg_len three refl in
    let five : c.put_u32-5.new.bytes ≡ b5 ++ replicate (page - 8 - 4 - 4 - 4 - 4 - 4) 0 = c.put_u32-5.ensures ∙ put_next _ b4 24 4 _ g.fan four refl in
    let six : c.put_u32-6.new.bytes ≡ b6 ++ replicate (page - 8 - 4 - 4 - 4 - 4 - 4 - 4) 0 = c.put_u32-6.ensures ∙ put_next _ b5 28 4 _ 2 five refl in
    let rest : page - 8 - 4 - 4 - 4 - 4 - 4 - 4 ≡ page - 32 = omega arith in
    six ∙ ap (λ (k : ℕ). b6 ++ replicate k 0) rest
