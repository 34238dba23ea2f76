-- A page that is written whole: its head, and entries that are spelled.
use Rattle.std.proofs.Common.{◌≡◌, ℕ, ◌+◌, ◌-◌, ◌≤◌, List, [], ◌∷◌, ◌++◌, length, refl, sym, ap, ◌∙◌, arith, append_assoc}
use Rattle.std.proofs.lemmas.List.{length-append, length-replicate}
use Rattle.ex_base.specs.Bytes.{written}
use Rattle.ex_base.specs.Fields.{two_bytes, eight_bytes, zeros}
use Rattle.ex_base.proofs.FieldLaws.{two_is, eight_is}
use Rattle.ex_base.proofs.Lists.{zeros_split}
use Rattle.ex_base.proofs.Writing.{written_at}
use Rattle.object_files.specs.Catalog.{fresh_catalog, CatalogOf}
use Rattle.object_files.proofs.CatalogLaws.{headed, page_headed}
use Rattle.object_files.proofs.EditLaws.{both_written}
use Rattle.object_files.proofs.SpliceLaws.{headed-append, length-headed, count_written}

numbers_put : (n next last : ℕ) (x : List ℕ) → written (written (headed n 1 0 x) 8 (eight_bytes next)) 16 (eight_bytes last) ≡ headed n next last x
numbers_put n next last x =
    let start : List ℕ = 1 ∷ 0 ∷ (two_bytes n ++ zeros 4) in
    let len : length start ≡ 8 = omega (arith, length-append (two_bytes n) (zeros 4), two_is.len n) in
    ap (λ (t : List ℕ). written (written (1 ∷ 0 ∷ t) 8 (eight_bytes next)) 16 (eight_bytes last)) (sym (append_assoc (two_bytes n) (zeros 4) (eight_bytes 1 ++ (eight_bytes 0 ++ (zeros 8 ++ x)))))
    ∙ both_written start (eight_bytes 1) (eight_bytes 0) (zeros 8 ++ x) next last len (eight_is.len 1) (eight_is.len 0)
    ∙ ap (λ (t : List ℕ). 1 ∷ 0 ∷ t) (append_assoc (two_bytes n) (zeros 4) (eight_bytes next ++ (eight_bytes last ++ (zeros 8 ++ x))))

entries_put : (n next last size : ℕ) (entries : List ℕ) → 32 + length entries ≤ size → written (headed n next last (zeros (size - 32))) 32 entries ≡ headed n next last (entries ++ zeros (size - (32 + length entries)))
entries_put n next last size entries room =
    let count : size - 32 ≡ length entries + (size - (32 + length entries)) = omega arith in
    let split : zeros (size - 32) ≡ zeros (length entries) ++ zeros (size - (32 + length entries)) = ap zeros count ∙ zeros_split (length entries) (size - (32 + length entries)) in
    ap (λ (t : List ℕ). written t 32 entries) (ap (headed n next last) split ∙ sym (headed-append n next last [] (zeros (length entries) ++ zeros (size - (32 + length entries)))))
    ∙ written_at (headed n next last []) (zeros (length entries)) entries (zeros (size - (32 + length entries))) 32 (length-headed n next last []) (length-replicate {A = ℕ} (length entries) 0)
    ∙ headed-append n next last [] (entries ++ zeros (size - (32 + length entries)))

pub page_written : (a entries : List ℕ) (n next last : ℕ) → CatalogOf a fresh_catalog → 32 + length entries ≤ length a → written (written (written (written a 2 (two_bytes n)) 8 (eight_bytes next)) 16 (eight_bytes last)) 32 entries ≡ headed n next last (entries ++ zeros (length a - (32 + length entries)))
page_written a entries n next last h room =
    let is : a ≡ headed 0 1 0 (zeros (length a - 32)) = h.spelled ∙ page_headed a fresh_catalog tt in
    ap (λ (t : List ℕ). written (written (written (written t 2 (two_bytes n)) 8 (eight_bytes next)) 16 (eight_bytes last)) 32 entries) is
    ∙ ap (λ (t : List ℕ). written (written (written t 8 (eight_bytes next)) 16 (eight_bytes last)) 32 entries) (count_written 0 n 1 0 (zeros (length a - 32)))
    ∙ ap (λ (t : List ℕ). written t 32 entries) (numbers_put n next last (zeros (length a - 32)))
    ∙ entries_put n next last (length a) entries room
