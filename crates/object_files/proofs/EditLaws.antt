-- The catalog's numbers while they are written.
use Rattle.std.proofs.Common.{◌≡◌, ℕ, ◌+◌, ◌-◌, ◌*◌, ◌^◌, ◌<◌, ◌≤◌, List, ◌∷◌, ◌++◌, length, take, drop, set, refl, sym, ap, ◌∙◌, arith, append_assoc}
use Rattle.std.specs.List.{flat_map}
use Rattle.std.proofs.lemmas.List.{length-append, length-replicate, take_at, drop_at, replicate-append-replicate}
use Rattle.ex_base.specs.Bytes.{written}
use Rattle.ex_base.specs.Fields.{field_bytes, two_bytes, eight_bytes, zeros}
use Rattle.ex_base.proofs.FieldLaws.{two_is, eight_is}
use Rattle.ex_base.proofs.Writing.{written_at}
use Rattle.object_files.specs.Catalog.{Catalog, entry_bytes, fresh_catalog, CatalogOf}
use Rattle.object_files.specs.Reads.{with_numbers}
use Rattle.object_files.proofs.CatalogLaws.{headed, page_headed}

pub both_written : (start x y b : List ℕ) (next last : ℕ) → length start ≡ 8 → length x ≡ 8 → length y ≡ 8 → written (written (start ++ (x ++ (y ++ b))) 8 (eight_bytes next)) 16 (eight_bytes last) ≡ start ++ (eight_bytes next ++ (eight_bytes last ++ b))
both_written start x y b next last ls lx ly =
    ap (λ (t : List ℕ). written t 16 (eight_bytes last)) (written_at start x (eight_bytes next) (y ++ b) 8 ls (lx ∙ sym (eight_is.len next)) ∙ sym (append_assoc start (eight_bytes next) (y ++ b)))
    ∙ written_at (start ++ eight_bytes next) y (eight_bytes last) b 16 (omega (arith, length-append start (eight_bytes next), ls, eight_is.len next)) (ly ∙ sym (eight_is.len last))
    ∙ append_assoc start (eight_bytes next) (eight_bytes last ++ b)

length-written : (start x y b : List ℕ) (next last : ℕ) → length start ≡ 8 → length x ≡ 8 → length y ≡ 8 → length (start ++ (eight_bytes next ++ (eight_bytes last ++ b))) ≡ length (start ++ (x ++ (y ++ b)))
length-written start x y b next last ls lx ly =
    omega (arith, length-append start (eight_bytes next ++ (eight_bytes last ++ b)), length-append (eight_bytes next) (eight_bytes last ++ b), length-append (eight_bytes last) b, length-append start (x ++ (y ++ b)), length-append x (y ++ b), length-append y b, eight_is.len next, eight_is.len last)

pub numbers_changed : (image : List ℕ) (c : Catalog) (next last : ℕ) → CatalogOf image c → 1 ≤ next → next < 2 ^ 64 → last < 2 ^ 64 → CatalogOf (written (written image 8 (eight_bytes next)) 16 (eight_bytes last)) (with_numbers c next last)
numbers_changed image c next last h some ln ll =
    let rest : List ℕ = zeros 8 ++ (flat_map entry_bytes c.entries ++ zeros (length image - (32 + 48 * length c.entries))) in
    let start : List ℕ = 1 ∷ 0 ∷ (two_bytes (length c.entries) ++ zeros 4) in
    let ls : length start ≡ 8 = omega (arith, length-append (two_bytes (length c.entries)) (zeros 4), two_is.len (length c.entries)) in
    let image_is : image ≡ start ++ (eight_bytes c.next_unique ++ (eight_bytes c.last ++ rest)) = h.spelled ∙ page_headed image c h.fits.entries ∙ ap (λ (t : List ℕ). 1 ∷ 0 ∷ t) (sym (append_assoc (two_bytes (length c.entries)) (zeros 4) (eight_bytes c.next_unique ++ (eight_bytes c.last ++ rest)))) in
    let is : written (written image 8 (eight_bytes next)) 16 (eight_bytes last) ≡ start ++ (eight_bytes next ++ (eight_bytes last ++ rest)) =
    ap (λ (t : List ℕ). written (written t 8 (eight_bytes next)) 16 (eight_bytes last)) image_is ∙ both_written start (eight_bytes c.next_unique) (eight_bytes c.last) rest next last ls (eight_is.len c.next_unique) (eight_is.len c.last) in
    let same : length (written (written image 8 (eight_bytes next)) 16 (eight_bytes last)) ≡ length image = ap length is ∙ length-written start (eight_bytes c.next_unique) (eight_bytes c.last) rest next last ls (eight_is.len c.next_unique) (eight_is.len c.last) ∙ sym (ap length image_is) in
    record {
      fits = record {
        some_next = some;
        next_unique = ln;
        last = ll;
        entries = h.fits.entries;
        sorted = h.fits.sorted;
        numbers = h.fits.numbers;
        room = omega (arith, same, h.fits.room);
        page = omega (arith, same, h.fits.page);
      };
      spelled = is ∙ ap (λ (t : List ℕ). 1 ∷ 0 ∷ t) (append_assoc (two_bytes (length c.entries)) (zeros 4) (eight_bytes next ++ (eight_bytes last ++ rest)))
          ∙ ap (λ (k : ℕ). headed (length c.entries) next last (flat_map entry_bytes c.entries ++ zeros (k - (32 + 48 * length c.entries)))) (sym same)
          ∙ sym (page_headed (written (written image 8 (eight_bytes next)) 16 (eight_bytes last)) (with_numbers c next last) h.fits.entries);
    }

fresh : (x : List ℕ) → (1 ∷ zeros 7) ++ (eight_bytes 1 ++ (zeros 8 ++ (zeros 8 ++ x))) ≡ headed 0 1 0 x
unfolding field_bytes
fresh x = refl

pub emptied : (size : ℕ) → 32 ≤ size → size ≤ 8192 → CatalogOf (written (set (zeros size) 0 1) 8 (eight_bytes 1)) fresh_catalog
emptied size le small =
    let start : List ℕ = 1 ∷ zeros 7 in
    let behind : List ℕ = zeros 8 ++ (zeros 8 ++ zeros (size - 32)) in
    let page : List ℕ = written (set (zeros size) 0 1) 8 (eight_bytes 1) in
    let split : zeros size ≡ zeros 32 ++ zeros (size - 32) = ap zeros (let e : size ≡ 32 + (size - 32) = omega arith in e) ∙ sym (replicate-append-replicate 32 (size - 32) 0) in
    let first : set (zeros size) 0 1 ≡ start ++ (zeros 8 ++ behind) = ap (λ (t : List ℕ). set t 0 1) split in
    let is : page ≡ start ++ (eight_bytes 1 ++ behind) = ap (λ (t : List ℕ). written t 8 (eight_bytes 1)) first ∙ written_at start (zeros 8) (eight_bytes 1) behind 8 refl (sym (eight_is.len 1)) in
    let rest : length (zeros (size - 32)) ≡ size - 32 = length-replicate {A = ℕ} (size - 32) 0 in
    let same : length page ≡ size = omega (arith, ap length is, length-append (eight_bytes 1) behind, eight_is.len 1, rest) in
    record {
      fits = record {
        some_next = omega arith;
        next_unique = omega arith;
        last = omega arith;
        entries = tt;
        sorted = tt;
        numbers = tt;
        room = omega (arith, same);
        page = omega (arith, same);
      };
      spelled = is ∙ fresh (zeros (size - 32)) ∙ ap (λ (k : ℕ). headed 0 1 0 (zeros (k - (32 + 48 * 0)))) (sym same) ∙ sym (page_headed page fresh_catalog tt);
    }
