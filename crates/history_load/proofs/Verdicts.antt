-- A dump that has room isn't refused.
use Rattle.std.proofs.Common.{◌≡◌, ◌∙◌, ◌-◌, ℕ, List, [], ◌++◌, Option, Some, None, sym, ap}
use Rattle.std.specs.Prelude.{take}
use Rattle.std.specs.List.{flat_map}
use Rattle.std.proofs.lemmas.List.{take_at}
use Rattle.ex_base.specs.declared.geometry.Geometry.{Geometry}
use Rattle.table_model.specs.declared.table.Table.{Table}
use Rattle.history_model.specs.Dumps.{IsDump}
use Rattle.history_model.specs.Stream.{HasHead, StreamHead, head_bytes, head_of, lack_of, misfit_of}
use Rattle.history_model.proofs.ItemReadings.{one_head}
use Rattle.history_model.proofs.Lengths.{length-head}
use Rattle.history_fronts.specs.Fronts.{items_of, spelled}
use Rattle.history_fronts.proofs.Begins.{stream_spelled}
use Rattle.history_fronts.proofs.Dumped.{dumps_lead}
use Rattle.history_reads.specs.declared.heads.HeadFault.{HeadFault}
use Rattle.history_reads.specs.declared.heads.HeadFault.TheVariants.{Bad, Misfit, NoRoom}
use Rattle.history_load.specs.Streams.{StreamRefused}

pub one_head_on : (stream : List ℕ) (a b : StreamHead) → HasHead stream a → HasHead stream b → a ≡ b
one_head_on stream a b p q = (one_head a b [] [] p.fits q.fits (ap (λ (bytes : List ℕ). bytes ++ []) (sym p.spelled ∙ q.spelled))).0

-- the head of a dump
pub dump_head : (g : Geometry) (stream : List ℕ) (t : Table) (dump : IsDump stream g t) → HasHead stream (head_of g dump.history)
dump_head g stream t dump = record {
  fits = (dumps_lead g dump.history t dump.of).0.fits;
  spelled =
      ap (take 52) (dump.spelled ∙ stream_spelled g dump.history)
      ∙ take_at (head_bytes (head_of g dump.history)) (flat_map spelled (items_of dump.history)) 52 (length-head (head_of g dump.history));
}

some_none : {A : Type 0} (o : Option A) (x : A) → o ≡ Some x → o ≡ None → ⊥
some_none o x some none = cc

pub dump_is_taken : (g : Geometry) (stream : List ℕ) (t : Table) (fault : HeadFault) → IsDump stream g t
    → ((head : StreamHead) → HasHead stream head → lack_of (g.pages - 1) g.segs head ≡ None) → StreamRefused g stream fault → ⊥
dump_is_taken g stream t Bad dump room refused = refused.1 t dump
dump_is_taken g stream t (Misfit m) dump room refused =
    let own = one_head_on stream refused.0 (head_of g dump.history) refused.1 (dump_head g stream t dump) in
    some_none (misfit_of g refused.0) (m.field, (m.dump, m.volume)) refused.2 (ap (misfit_of g) own ∙ (dumps_lead g dump.history t dump.of).0.sizes)
dump_is_taken g stream t (NoRoom l) dump room refused = some_none (lack_of (g.pages - 1) g.segs refused.0) (l.area, (l.need, l.free)) refused.3 (room refused.0 refused.1)
