-- What a port for reading alone shows of a disk: each page after the log.
use Rattle.std.proofs.Common.{◌≡◌, ◌∷◌, ◌*◌, ℕ, List, [], All, Option, Some, IsSome, unwrap_or, refl, sym, ap, subst, ◌∙◌}
use Rattle.ex_base.specs.declared.geometry.Geometry.{Geometry}
use Rattle.ex_base.specs.Area.{page_at}
use Rattle.ex_base.specs.Bytes.{part}
use Rattle.std.proofs.lemmas.List.Elements.{All-cons, All-nil}
use Rattle.buffer_groups.specs.Frames.{Frames, Lends, page_of}
use Rattle.commits.proofs.Places.{unit_page}
use Rattle.disk_model.specs.Outside.{Outside}
use Rattle.meta_pages.specs.Overlays.{Overlays, image_at}
use Rattle.node_walk.specs.TreesNamed.{ShowsPages}
use Rattle.op_log.specs.AfterLog.{after_log, logged}
use Rattle.op_log.specs.declared.record.LogRecord.{LogRecord}
use Rattle.tree_store.proofs.Places.{page_len}
use Rattle.tree_store.specs.Stored.{unit_bytes}
use Rattle.volume_port.proofs.WorkingRows.{in_area}
use Rattle.volume_model.specs.Volume.{units_after}
use Rattle.volume_port.specs.Ported.{image_over}
use Rattle.volume_port.specs.Reading.{TellsBytes}
use Rattle.restart.specs.Opening.{empty_main}

pub shows_after_log : (g : Geometry) (meta : Overlays) (held : Option (List ℕ)) (image : List ℕ) (records : List LogRecord) → held ≡ Some image → ((page : ℕ) → image_at meta page ≡ logged records page)
    → ShowsPages g (image_over g meta (unit_bytes g held)) (units_after g records image)
shows_after_log g meta held image records holds just page inside =
    let home : unit_bytes g held page ≡ page_at g image page =
    ap (λ (n : ℕ). part (unwrap_or held []) (page * g.page_size) n) (page_len g page inside) ∙ ap (λ (h : Option (List ℕ)). part (unwrap_or h []) (page * g.page_size) g.page_size) holds in
    let here : image_over g meta (unit_bytes g held) page ≡ unwrap_or (image_at meta page) (unit_bytes g held page) = rw (in_area g page inside) refl in
    sym (here ∙ ap (unwrap_or (image_at meta page)) home ∙ ap (λ (o : Option (List ℕ)). unwrap_or o (page_at g image page)) (just page) ∙ sym (unit_page g (after_log g records image) image page inside.1))

-- groups without a frame lend what any disk holds
pub fresh_tells : (g : Geometry) (o : Outside) (groups : List Frames) (image : List ℕ) → groups ≡ empty_main g ∷ [] → o.disk ≡ Some image → TellsBytes o groups
fresh_tells g o groups image fresh holds = (
  subst (λ (held : Option (List ℕ)). IsSome held) (sym holds) refl,
  subst (All (Lends o.disk)) (sym fresh) (All-cons (Lends o.disk) (empty_main g) [] (λ held is. All-nil (λ (e : ℕ × List ℕ). e.1 ≡ page_of held g.page_size e.0)) (All-nil (Lends o.disk))),
)
