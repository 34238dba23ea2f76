-- A volume that was just opened is at rest.
use Rattle.std.proofs.Common.{◌≡◌, ◌<◌, ◌≤◌, ◌∙◌, ℕ, List, [], length, All, None, IsTrue, nat_eq, refl, sym, ap, subst, arith}
use Rattle.std.specs.Map.{lookup}
use Rattle.std.proofs.lemmas.List.Elements.{All-cons, All-nil}
use Rattle.std.proofs.lemmas.Option.{none-some}
use Rattle.ex_base.specs.Area.{catalog_no}
use Rattle.ex_base.specs.Sizes.{volume_bytes}
use Rattle.buffer_groups.specs.Frames.{Frames}
use Rattle.disk_model.specs.Outside.{Outside}
use Rattle.page_alloc.specs.UnitSet.{refs_at, used_at}
use Rattle.tree_store.specs.Stored.{AreFromCatalog}
use Rattle.volume_model.specs.Committed.{with_records}
use Rattle.volume_model.specs.Shown.{WorkingRow}
use Rattle.volume_port.specs.declared.state.VolumeState.{VolumeState}
use Rattle.volume_port.specs.Logged.{is_held}
use Rattle.volume_port.specs.State.{AreReady}
use Rattle.restart.proofs.PortShows.{fresh_tells}
use Rattle.restart.specs.Opening.{AreFresh, AreOpened, OpenedOn, RestsAs, empty_main}

-- no row stands for a page where none was touched
untouched : (rows : List WorkingRow) (page : ℕ) → rows ≡ [] → lookup (nat_eq page) rows ≡ None
untouched rows page none = ap (λ (ws : List WorkingRow). lookup (nat_eq page) ws) none

pub fresh_ready : (size : ℕ) (p : VolumeState) → AreFresh p → volume_bytes p.geometry ≤ size → AreReady size p
fresh_ready size p fresh room = record {
  fits = record {
    group = subst (λ (groups : List Frames). 0 < length groups) (sym fresh.groups) (omega arith);
    disk = room;
    frames = subst (All (λ (f : Frames). f.page_size ≡ p.geometry.page_size)) (sym fresh.groups)
        (All-cons (λ (f : Frames). f.page_size ≡ p.geometry.page_size) (empty_main p.geometry) [] refl (All-nil (λ (f : Frames). f.page_size ≡ p.geometry.page_size)));
    behind = subst AreFromCatalog (sym fresh.groups)
        (All-cons (λ (f : Frames). All (λ (e : ℕ × List ℕ). catalog_no ≤ e.0) f.entries) (empty_main p.geometry) [] (All-nil (λ (e : ℕ × List ℕ). catalog_no ≤ e.0)) (All-nil (λ (f : Frames). All (λ (e : ℕ × List ℕ). catalog_no ≤ e.0) f.entries)));
    counted = fresh.reached.counted;
  };
  overlay = fresh.meta;
  held_len = fresh.reached.held_len;
  kept_len = ap length fresh.kept ∙ fresh.reached.held_len;
  catalog = fresh.reached.home;
  in_use = fresh.reached.in_use;
  images = λ page image is. absurd (none-some _ (sym (untouched p.meta.working page fresh.working) ∙ is));
  gone = λ page is. absurd (none-some _ (sym (untouched p.meta.working page fresh.working) ∙ is));
}

pub rests_as : {w : Outside} (image : List ℕ) (p : VolumeState) → AreOpened p → IsTrue w.honest → volume_bytes p.geometry ≤ w.size
    → OpenedOn image p.geometry w p.log p.meta.committed (used_at p.units) (refs_at p.units) (is_held p.pages) → RestsAs image w p
rests_as {w} image p opened honest room on =
    let told = fresh_tells p.geometry w p.groups on.disk opened.fresh.groups on.holds in
    record {
      decoded = on.decoded;
      parts = on.was;
      disk = on.disk;
      rests = record {
        told = (honest, told.0, told.1);
        ready = fresh_ready w.size p opened.fresh room;
        holds = on.holds;
        none = refl;
        geometry = on.geometry;
        committed = on.committed;
        images = opened.images;
        working = opened.fresh.working;
        knows = on.knows;
        owned = on.owned;
        kept = opened.fresh.kept;
      };
      same = on.same;
    }
