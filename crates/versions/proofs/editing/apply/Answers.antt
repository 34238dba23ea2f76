use Rattle.std.proofs.lemmas.Bool.{false≢true}
use Rattle.std.proofs.Common.{◌≡◌, ◌≢◌, ℕ, List, None, true, false, length, subst, sym, ap, ◌∙◌, arith, inl, inr}
use Rattle.ex_base.specs.declared.geometry.Geometry.{Geometry}
use Rattle.ex_base.specs.declared.names.Area.{Area}
use Rattle.object_records.specs.Record.{Content, Small, Large}
use Rattle.ex_base.specs.Ports.{IsDamage}
use Rattle.ex_base.specs.declared.names.Index.{Index}
use Rattle.object_records.specs.declared.State.TheVariants.{Current}
use Rattle.object_records.specs.Reads.{large_record}
use Rattle.object_records.specs.declared.Head.{Head}
use Rattle.std.proofs.lemmas.Result.{on_ok_weaker, IfOk-weaker, IfErr-weaker}
use Rattle.ex_base.proofs.Options.{at_some}
use Rattle.file_bodies.proofs.Belonging.{file_of_body}
use Rattle.versions.specs.declared.editing.Edited.{Edited}
use Rattle.versions.specs.declared.finding.Found.{Found}
use Rattle.versions.specs.Versions.{AreInUse, HasRecord, HasVersion, StaysSmall, root_of, InRange, changed, count_of, place_of}
use Rattle.ex_base.specs.Needs.{growth_need}
use Rattle.ex_base.proofs.Results.{if_err_handed, on_ok_both}
use Rattle.versions.specs.Needs.{most_need, height_in}
use Rattle.versions.specs.Edited.{HasNeed, change_of, held_in, TurnsVersion}
use Rattle.versions.specs.Damage.{record_fault, looking, not_asked, in_file, small, large}
use Rattle.versions.proofs.Faults.{root_at, bytes_as, bytes_kept, small_kept}
use Rattle.versions.proofs.There.{as_large, has_small, held_size, small_at}
use Rattle.versions.proofs.Results.{if_err_both, none_some, same_some, ok_of}
use Rattle.versions.proofs.Standing.{version_readable, holds_of, head_told, kept_record, kept_version, small_content, large_content}
use Rattle.versions.proofs.Needed.{same_length, grows, edit_need_is, enough_kept, takes_kept}
use Rattle.versions.proofs.Becoming.{kept_turned, kept_in_use, kept_stays, less_stays}
use Rattle.ex_base.proofs.Handed.{no_value, not_given, cause_here, any_value, cause_of}
use Rattle.trees.specs.Roots.{IsRootFor}
use Rattle.versions.proofs.editing.apply.Goals as goal

pub returns-in_err-found-clause-sound : goal.returns-in_err-found-clause-sound
returns-in_err-found-clause-sound g c = if_err_handed c.from_residual-in_err-found.result _ _ c.from_residual-in_err-found.ensures.1 (λ damage told in_use index head content bytes has current range need. none_some c.in_ok-told.told _ c.in_err-found.ensures.fault.0 (c.in_ok-told.ensures.told told index _ has.stored))

pub returns-in_err-told-clause-sound : goal.returns-in_err-told-clause-sound
returns-in_err-told-clause-sound g c = if_err_handed c.from_residual.result _ _ c.from_residual.ensures.1 (λ damage told in_use index head content bytes has current range need.
    c.in_err-told.ensures.sound damage told (file_of_body g.V.Ground c.args.volume.now index (place_of c.args.oid.now) has.stored.body has.stored.stands)
    (version_readable g.V.Ground c.args.volume.now index c.args.oid.now head content bytes (holds_of g.V.Ground c.args.volume.now index c.args.oid.now head content bytes has)))

pub returns-in_err-check-clause-sound : goal.returns-in_err-check-clause-sound
returns-in_err-check-clause-sound g c = if_err_handed c.from_residual-in_err-check.result _ _ c.from_residual-in_err-check.ensures.1 (λ damage told in_use index head content bytes has current range need.
    let size : c.in_ok-found.found.size ≡ length bytes = at_some c.in_ok-told.told c.in_ok-found.found _ c.in_ok-found.ensures.some (c.in_ok-told.ensures.size told index head content bytes (holds_of g.V.Ground c.args.volume.now index c.args.oid.now head content bytes has)) in
    let f_is = same_some c.in_ok-told.told c.in_ok-found.found _ c.in_ok-found.ensures.some (c.in_ok-told.ensures.told told index _ has.stored) in
    let yes : c.is_editable.result ≡ true = c.is_editable.ensures.1 (ap (λ (f : Found). f.head.state) f_is ∙ current, subst (InRange (change_of c.args.edit.now)) (sym size) range) in
    let isnt : c.is_editable.result ≡ false = c.in_err-check.ensures.fault.0 in
    false≢true (sym isnt ∙ yes))

pub returns-then-count-eq0-clause-size : goal.returns-then-count-eq0-clause-size
returns-then-count-eq0-clause-size g c = λ told index head content bytes has.
    let kept = c.find.ensures.kept in
    let told_n = g.V.Ground.leads_told c.args.volume.now c.find.new.volume kept.leads told in
    let size : c.in_ok-found.found.size ≡ length bytes = at_some c.in_ok-told.told c.in_ok-found.found _ c.in_ok-found.ensures.some (c.in_ok-told.ensures.size told index head content bytes (holds_of g.V.Ground c.args.volume.now index c.args.oid.now head content bytes has)) in
    let range = subst (InRange (change_of c.args.edit.now)) size ((c.is_editable.ensures.0 c.in_ok-check.ensures.holds).1) in
    let f_is = same_some c.in_ok-told.told c.in_ok-found.found _ c.in_ok-found.ensures.some (c.in_ok-told.ensures.told told index _ has.stored) in
    (range, ap (λ (e : Edited). e.size) c.stayed.ensures ∙ size ∙ sym (same_length (change_of c.args.edit.now) bytes range (sym c.count.ensures ∙ c.if-count-eq0.true)))

pub returns-in-None-clause-size : goal.returns-in-None-clause-size
returns-in-None-clause-size g c = IfOk-weaker c.edit_small.result _ _ (λ n is told index head content bytes has.
    let kept = c.find.ensures.kept in
    let told_n = g.V.Ground.leads_told c.args.volume.now c.find.new.volume kept.leads told in
    let size : c.in_ok-found.found.size ≡ length bytes = at_some c.in_ok-told.told c.in_ok-found.found _ c.in_ok-found.ensures.some (c.in_ok-told.ensures.size told index head content bytes (holds_of g.V.Ground c.args.volume.now index c.args.oid.now head content bytes has)) in
    let range = subst (InRange (change_of c.args.edit.now)) size ((c.is_editable.ensures.0 c.in_ok-check.ensures.holds).1) in
    let f_is = same_some c.in_ok-told.told c.in_ok-found.found _ c.in_ok-found.ensures.some (c.in_ok-told.ensures.told told index _ has.stored) in
    let is_small : content ≡ Small bytes = small_content (g.V.Ground.geometry c.args.volume.now) (g.V.Ground.unit c.args.volume.now) content bytes (sym (ap (λ (f : Found). f.root) f_is) ∙ c.in-None.is) has.spells in
    let has_n = kept_version g.V.Ground c.args.volume.now c.find.new.volume index c.args.oid.now c.in_ok-found.found.head (Small bytes) bytes kept
    (head_told g.V.Ground c.args.volume.now index c.args.oid.now head c.in_ok-found.found.head (Small bytes) bytes (ap (λ (f : Found). f.head) f_is) (subst (λ (t : Content). HasVersion g.V.Ground c.args.volume.now index c.args.oid.now head t bytes) is_small has)) in
    (range, is told_n index bytes has_n (sym size))) c.edit_small.ensures.size

pub returns-in-None-clause-edited : goal.returns-in-None-clause-edited
returns-in-None-clause-edited g c = IfOk-weaker c.edit_small.result _ _ (λ done edits many told in_use index head content bytes has.
    let kept = c.find.ensures.kept in
    let told_n = g.V.Ground.leads_told c.args.volume.now c.find.new.volume kept.leads told in
    let size : c.in_ok-found.found.size ≡ length bytes = at_some c.in_ok-told.told c.in_ok-found.found _ c.in_ok-found.ensures.some (c.in_ok-told.ensures.size told index head content bytes (holds_of g.V.Ground c.args.volume.now index c.args.oid.now head content bytes has)) in
    let range = subst (InRange (change_of c.args.edit.now)) size ((c.is_editable.ensures.0 c.in_ok-check.ensures.holds).1) in
    let f_is = same_some c.in_ok-told.told c.in_ok-found.found _ c.in_ok-found.ensures.some (c.in_ok-told.ensures.told told index _ has.stored) in
    let is_small : content ≡ Small bytes = small_content (g.V.Ground.geometry c.args.volume.now) (g.V.Ground.unit c.args.volume.now) content bytes (sym (ap (λ (f : Found). f.root) f_is) ∙ c.in-None.is) has.spells in
    let has_n = kept_version g.V.Ground c.args.volume.now c.find.new.volume index c.args.oid.now c.in_ok-found.found.head (Small bytes) bytes kept
    (head_told g.V.Ground c.args.volume.now index c.args.oid.now head c.in_ok-found.found.head (Small bytes) bytes (ap (λ (f : Found). f.head) f_is) (subst (λ (t : Content). HasVersion g.V.Ground c.args.volume.now index c.args.oid.now head t bytes) is_small has)) in
    let in_use_n = kept_in_use g.V.Ground c.args.volume.now c.find.new.volume kept in_use in
    kept_turned g.V.Ground c.args.volume.now c.find.new.volume c.edit_small.new.volume index c.args.oid.now head content (change_of c.args.edit.now) (changed (change_of c.args.edit.now) bytes) done.gone done.come kept
    (subst (λ (h : Head). TurnsVersion g.V.Ground c.find.new.volume c.edit_small.new.volume index c.args.oid.now h content (change_of c.args.edit.now) (changed (change_of c.args.edit.now) bytes) done.gone done.come) (ap (λ (f : Found). f.head) f_is)
    (subst (λ (t : Content). TurnsVersion g.V.Ground c.find.new.volume c.edit_small.new.volume index c.args.oid.now c.in_ok-found.found.head t (change_of c.args.edit.now) (changed (change_of c.args.edit.now) bytes) done.gone done.come) (sym is_small) (edits told_n in_use_n index bytes has_n (sym size))))) c.edit_small.ensures.edited

pub returns-in-None-clause-small : goal.returns-in-None-clause-small
returns-in-None-clause-small g c = on_ok_weaker c.edit_small.result (λ stay told index head content bytes has stays.
    let kept = c.find.ensures.kept in
    let told_n = g.V.Ground.leads_told c.args.volume.now c.find.new.volume kept.leads told in
    let size : c.in_ok-found.found.size ≡ length bytes = at_some c.in_ok-told.told c.in_ok-found.found _ c.in_ok-found.ensures.some (c.in_ok-told.ensures.size told index head content bytes (holds_of g.V.Ground c.args.volume.now index c.args.oid.now head content bytes has)) in
    let range = subst (InRange (change_of c.args.edit.now)) size ((c.is_editable.ensures.0 c.in_ok-check.ensures.holds).1) in
    let f_is = same_some c.in_ok-told.told c.in_ok-found.found _ c.in_ok-found.ensures.some (c.in_ok-told.ensures.told told index _ has.stored) in
    let is_small : content ≡ Small bytes = small_content (g.V.Ground.geometry c.args.volume.now) (g.V.Ground.unit c.args.volume.now) content bytes (sym (ap (λ (f : Found). f.root) f_is) ∙ c.in-None.is) has.spells in
    let has_n = kept_version g.V.Ground c.args.volume.now c.find.new.volume index c.args.oid.now c.in_ok-found.found.head (Small bytes) bytes kept
    (head_told g.V.Ground c.args.volume.now index c.args.oid.now head c.in_ok-found.found.head (Small bytes) bytes (ap (λ (f : Found). f.head) f_is) (subst (λ (t : Content). HasVersion g.V.Ground c.args.volume.now index c.args.oid.now head t bytes) is_small has)) in
    stay told_n index bytes has_n (sym size)
    (kept_stays g.V.Ground c.args.volume.now c.find.new.volume (place_of c.args.oid.now) (Small bytes) (length (changed (change_of c.args.edit.now) bytes)) kept (subst (λ (t : Content). StaysSmall g.V.Ground c.args.volume.now (place_of c.args.oid.now) t (length (changed (change_of c.args.edit.now) bytes))) is_small stays)) ∙ kept.free) c.edit_small.ensures.small

pub returns-in-None-clause-free : goal.returns-in-None-clause-free
returns-in-None-clause-free g c = on_ok_both c.edit_small.result _ _ _ (λ stay free told index head content bytes has area.
    let kept = c.find.ensures.kept in
    let told_n = g.V.Ground.leads_told c.args.volume.now c.find.new.volume kept.leads told in
    let size : c.in_ok-found.found.size ≡ length bytes = at_some c.in_ok-told.told c.in_ok-found.found _ c.in_ok-found.ensures.some (c.in_ok-told.ensures.size told index head content bytes (holds_of g.V.Ground c.args.volume.now index c.args.oid.now head content bytes has)) in
    let range = subst (InRange (change_of c.args.edit.now)) size ((c.is_editable.ensures.0 c.in_ok-check.ensures.holds).1) in
    let f_is = same_some c.in_ok-told.told c.in_ok-found.found _ c.in_ok-found.ensures.some (c.in_ok-told.ensures.told told index _ has.stored) in
    let is_small : content ≡ Small bytes = small_content (g.V.Ground.geometry c.args.volume.now) (g.V.Ground.unit c.args.volume.now) content bytes (sym (ap (λ (f : Found). f.root) f_is) ∙ c.in-None.is) has.spells in
    let has_n = kept_version g.V.Ground c.args.volume.now c.find.new.volume index c.args.oid.now c.in_ok-found.found.head (Small bytes) bytes kept
    (head_told g.V.Ground c.args.volume.now index c.args.oid.now head c.in_ok-found.found.head (Small bytes) bytes (ap (λ (f : Found). f.head) f_is) (subst (λ (t : Content). HasVersion g.V.Ground c.args.volume.now index c.args.oid.now head t bytes) is_small has)) in
    let some : count_of (change_of c.args.edit.now) ≢ 0 = λ none. absurd (omega (arith, none, c.count.ensures, c.if-count-eq0.false)) in
    let geo = g.V.Ground.leads_geometry c.args.volume.now c.find.new.volume kept.leads in
    let asked = edit_need_is (g.V.Ground.geometry c.args.volume.now) (change_of c.args.edit.now) content area some ∙ ap (λ (t : Content). most_need (g.V.Ground.geometry c.args.volume.now) (change_of c.args.edit.now) (height_in t) area) is_small in
    elim (grows (change_of c.args.edit.now) bytes range) [
      | inl same ↦ takes_kept _ _ _ _ _ _ (free area) (ap (λ (f : Area → ℕ). f area) kept.free) (ap (λ (y : Geometry). growth_need y (count_of (change_of c.args.edit.now)) 0 area) geo) (asked ∙ same (g.V.Ground.geometry c.args.volume.now) area)
      | inr few ↦ omega (arith, ap (λ (f : Area → ℕ). f area) (stay told_n index bytes has_n (sym size) (less_stays g.V.Ground c.find.new.volume index c.args.oid.now c.in_ok-found.found.head bytes (length (changed (change_of c.args.edit.now) bytes)) has_n few)), ap (λ (f : Area → ℕ). f area) kept.free)
    ]) c.edit_small.ensures.small c.edit_small.ensures.free

pub returns-in-None-clause-touches : goal.returns-in-None-clause-touches
returns-in-None-clause-touches g c = on_ok_weaker c.edit_small.result (λ t. omega (arith, t, c.find.ensures.kept.touched)) c.edit_small.ensures.touches

pub returns-in-None-clause-sound : goal.returns-in-None-clause-sound
returns-in-None-clause-sound g c = IfErr-weaker c.edit_small.result _ _ (λ fault sound damage told in_use index head content bytes has current inside need.
    let kept = c.find.ensures.kept in
    let told_n = g.V.Ground.leads_told c.args.volume.now c.find.new.volume kept.leads told in
    let size : c.in_ok-found.found.size ≡ length bytes = at_some c.in_ok-told.told c.in_ok-found.found _ c.in_ok-found.ensures.some (c.in_ok-told.ensures.size told index head content bytes (holds_of g.V.Ground c.args.volume.now index c.args.oid.now head content bytes has)) in
    let range = subst (InRange (change_of c.args.edit.now)) size ((c.is_editable.ensures.0 c.in_ok-check.ensures.holds).1) in
    let f_is = same_some c.in_ok-told.told c.in_ok-found.found _ c.in_ok-found.ensures.some (c.in_ok-told.ensures.told told index _ has.stored) in
    let is_small : content ≡ Small bytes = small_content (g.V.Ground.geometry c.args.volume.now) (g.V.Ground.unit c.args.volume.now) content bytes (sym (ap (λ (f : Found). f.root) f_is) ∙ c.in-None.is) has.spells in
    let has_n = kept_version g.V.Ground c.args.volume.now c.find.new.volume index c.args.oid.now c.in_ok-found.found.head (Small bytes) bytes kept
    (head_told g.V.Ground c.args.volume.now index c.args.oid.now head c.in_ok-found.found.head (Small bytes) bytes (ap (λ (f : Found). f.head) f_is) (subst (λ (t : Content). HasVersion g.V.Ground c.args.volume.now index c.args.oid.now head t bytes) is_small has)) in
    let in_use_n = kept_in_use g.V.Ground c.args.volume.now c.find.new.volume kept in_use in
    let some : count_of (change_of c.args.edit.now) ≢ 0 = λ none. absurd (omega (arith, none, c.count.ensures, c.if-count-eq0.false)) in
    let geo = g.V.Ground.leads_geometry c.args.volume.now c.find.new.volume kept.leads in
    sound damage told_n in_use_n index bytes has_n (sym size) (λ never area.
    let enough = need (λ stays. never (kept_stays g.V.Ground c.args.volume.now c.find.new.volume (place_of c.args.oid.now) (Small bytes) (length (changed (change_of c.args.edit.now) bytes)) kept (subst (λ (t : Content). StaysSmall g.V.Ground c.args.volume.now (place_of c.args.oid.now) t (length (changed (change_of c.args.edit.now) bytes))) is_small stays))) area in
    let asked = edit_need_is (g.V.Ground.geometry c.args.volume.now) (change_of c.args.edit.now) content area some ∙ ap (λ (t : Content). most_need (g.V.Ground.geometry c.args.volume.now) (change_of c.args.edit.now) (height_in t) area) is_small in
    elim (grows (change_of c.args.edit.now) bytes range) [
      | inl same ↦ enough_kept _ _ _ _ _ enough (ap (λ (f : Area → ℕ). f area) kept.free) (ap (λ (y : Geometry). growth_need y (count_of (change_of c.args.edit.now)) 0 area) geo) (asked ∙ same (g.V.Ground.geometry c.args.volume.now) area)
      | inr few ↦ absurd (never (less_stays g.V.Ground c.find.new.volume index c.args.oid.now c.in_ok-found.found.head bytes (length (changed (change_of c.args.edit.now) bytes)) has_n few))
    ])) c.edit_small.ensures.sound

pub returns-in-Some-clause-size : goal.returns-in-Some-clause-size
returns-in-Some-clause-size g c = IfOk-weaker c.edit_large.result _ _ (λ n is told index head content bytes has.
    let kept = c.find.ensures.kept in
    let told_n = g.V.Ground.leads_told c.args.volume.now c.find.new.volume kept.leads told in
    let size : c.in_ok-found.found.size ≡ length bytes = at_some c.in_ok-told.told c.in_ok-found.found _ c.in_ok-found.ensures.some (c.in_ok-told.ensures.size told index head content bytes (holds_of g.V.Ground c.args.volume.now index c.args.oid.now head content bytes has)) in
    let range = subst (InRange (change_of c.args.edit.now)) size ((c.is_editable.ensures.0 c.in_ok-check.ensures.holds).1) in
    let f_is = same_some c.in_ok-told.told c.in_ok-found.found _ c.in_ok-found.ensures.some (c.in_ok-told.ensures.told told index _ has.stored) in
    let is_large : content ≡ Large c.in-Some.root = large_content content c.in-Some.root (sym (ap (λ (f : Found). f.root) f_is) ∙ c.in-Some.is) in
    let has_n = kept_version g.V.Ground c.args.volume.now c.find.new.volume index c.args.oid.now c.in_ok-found.found.head (Large c.in-Some.root) bytes kept
    (head_told g.V.Ground c.args.volume.now index c.args.oid.now head c.in_ok-found.found.head (Large c.in-Some.root) bytes (ap (λ (f : Found). f.head) f_is) (subst (λ (t : Content). HasVersion g.V.Ground c.args.volume.now index c.args.oid.now head t bytes) is_large has)) in
    (range, is told_n index bytes has_n)) c.edit_large.ensures.size

pub returns-in-Some-clause-edited : goal.returns-in-Some-clause-edited
returns-in-Some-clause-edited g c = IfOk-weaker c.edit_large.result _ _ (λ done edits many told in_use index head content bytes has.
    let kept = c.find.ensures.kept in
    let told_n = g.V.Ground.leads_told c.args.volume.now c.find.new.volume kept.leads told in
    let size : c.in_ok-found.found.size ≡ length bytes = at_some c.in_ok-told.told c.in_ok-found.found _ c.in_ok-found.ensures.some (c.in_ok-told.ensures.size told index head content bytes (holds_of g.V.Ground c.args.volume.now index c.args.oid.now head content bytes has)) in
    let range = subst (InRange (change_of c.args.edit.now)) size ((c.is_editable.ensures.0 c.in_ok-check.ensures.holds).1) in
    let f_is = same_some c.in_ok-told.told c.in_ok-found.found _ c.in_ok-found.ensures.some (c.in_ok-told.ensures.told told index _ has.stored) in
    let is_large : content ≡ Large c.in-Some.root = large_content content c.in-Some.root (sym (ap (λ (f : Found). f.root) f_is) ∙ c.in-Some.is) in
    let has_n = kept_version g.V.Ground c.args.volume.now c.find.new.volume index c.args.oid.now c.in_ok-found.found.head (Large c.in-Some.root) bytes kept
    (head_told g.V.Ground c.args.volume.now index c.args.oid.now head c.in_ok-found.found.head (Large c.in-Some.root) bytes (ap (λ (f : Found). f.head) f_is) (subst (λ (t : Content). HasVersion g.V.Ground c.args.volume.now index c.args.oid.now head t bytes) is_large has)) in
    let in_use_n = kept_in_use g.V.Ground c.args.volume.now c.find.new.volume kept in_use in
    kept_turned g.V.Ground c.args.volume.now c.find.new.volume c.edit_large.new.volume index c.args.oid.now head content (change_of c.args.edit.now) (changed (change_of c.args.edit.now) bytes) done.gone done.come kept
    (subst (λ (h : Head). TurnsVersion g.V.Ground c.find.new.volume c.edit_large.new.volume index c.args.oid.now h content (change_of c.args.edit.now) (changed (change_of c.args.edit.now) bytes) done.gone done.come) (ap (λ (f : Found). f.head) f_is)
    (subst (λ (t : Content). TurnsVersion g.V.Ground c.find.new.volume c.edit_large.new.volume index c.args.oid.now c.in_ok-found.found.head t (change_of c.args.edit.now) (changed (change_of c.args.edit.now) bytes) done.gone done.come) (sym is_large) (edits told_n in_use_n index bytes has_n)))) c.edit_large.ensures.edited

pub returns-in-Some-clause-small : goal.returns-in-Some-clause-small
returns-in-Some-clause-small g c = ok_of c.edit_large.result _ (λ told index head content bytes has stays.
    let kept = c.find.ensures.kept in
    let told_n = g.V.Ground.leads_told c.args.volume.now c.find.new.volume kept.leads told in
    let size : c.in_ok-found.found.size ≡ length bytes = at_some c.in_ok-told.told c.in_ok-found.found _ c.in_ok-found.ensures.some (c.in_ok-told.ensures.size told index head content bytes (holds_of g.V.Ground c.args.volume.now index c.args.oid.now head content bytes has)) in
    let range = subst (InRange (change_of c.args.edit.now)) size ((c.is_editable.ensures.0 c.in_ok-check.ensures.holds).1) in
    let f_is = same_some c.in_ok-told.told c.in_ok-found.found _ c.in_ok-found.ensures.some (c.in_ok-told.ensures.told told index _ has.stored) in
    let is_large : content ≡ Large c.in-Some.root = large_content content c.in-Some.root (sym (ap (λ (f : Found). f.root) f_is) ∙ c.in-Some.is) in
    let has_n = kept_version g.V.Ground c.args.volume.now c.find.new.volume index c.args.oid.now c.in_ok-found.found.head (Large c.in-Some.root) bytes kept
    (head_told g.V.Ground c.args.volume.now index c.args.oid.now head c.in_ok-found.found.head (Large c.in-Some.root) bytes (ap (λ (f : Found). f.head) f_is) (subst (λ (t : Content). HasVersion g.V.Ground c.args.volume.now index c.args.oid.now head t bytes) is_large has)) in
    absurd (subst (λ (t : Content). StaysSmall g.V.Ground c.args.volume.now (place_of c.args.oid.now) t (length (changed (change_of c.args.edit.now) bytes))) is_large stays))

pub returns-in-Some-clause-free : goal.returns-in-Some-clause-free
returns-in-Some-clause-free g c = on_ok_weaker c.edit_large.result (λ free told index head content bytes has area.
    let kept = c.find.ensures.kept in
    let told_n = g.V.Ground.leads_told c.args.volume.now c.find.new.volume kept.leads told in
    let size : c.in_ok-found.found.size ≡ length bytes = at_some c.in_ok-told.told c.in_ok-found.found _ c.in_ok-found.ensures.some (c.in_ok-told.ensures.size told index head content bytes (holds_of g.V.Ground c.args.volume.now index c.args.oid.now head content bytes has)) in
    let range = subst (InRange (change_of c.args.edit.now)) size ((c.is_editable.ensures.0 c.in_ok-check.ensures.holds).1) in
    let f_is = same_some c.in_ok-told.told c.in_ok-found.found _ c.in_ok-found.ensures.some (c.in_ok-told.ensures.told told index _ has.stored) in
    let is_large : content ≡ Large c.in-Some.root = large_content content c.in-Some.root (sym (ap (λ (f : Found). f.root) f_is) ∙ c.in-Some.is) in
    let has_n = kept_version g.V.Ground c.args.volume.now c.find.new.volume index c.args.oid.now c.in_ok-found.found.head (Large c.in-Some.root) bytes kept
    (head_told g.V.Ground c.args.volume.now index c.args.oid.now head c.in_ok-found.found.head (Large c.in-Some.root) bytes (ap (λ (f : Found). f.head) f_is) (subst (λ (t : Content). HasVersion g.V.Ground c.args.volume.now index c.args.oid.now head t bytes) is_large has)) in
    let some : count_of (change_of c.args.edit.now) ≢ 0 = λ none. absurd (omega (arith, none, c.count.ensures, c.if-count-eq0.false)) in
    let geo = g.V.Ground.leads_geometry c.args.volume.now c.find.new.volume kept.leads in
    let asked = edit_need_is (g.V.Ground.geometry c.args.volume.now) (change_of c.args.edit.now) content area some ∙ ap (λ (t : Content). most_need (g.V.Ground.geometry c.args.volume.now) (change_of c.args.edit.now) (height_in t) area) is_large in
    takes_kept _ _ _ _ _ _ (free area) (ap (λ (f : Area → ℕ). f area) kept.free) (ap (λ (y : Geometry). most_need y (change_of c.args.edit.now) c.in-Some.root.height area) geo) asked) c.edit_large.ensures.free

pub returns-in-Some-clause-touches : goal.returns-in-Some-clause-touches
returns-in-Some-clause-touches g c = on_ok_weaker c.edit_large.result (λ t. omega (arith, t, c.find.ensures.kept.touched)) c.edit_large.ensures.touches

pub returns-in-Some-clause-sound : goal.returns-in-Some-clause-sound
returns-in-Some-clause-sound g c = IfErr-weaker c.edit_large.result _ _ (λ fault sound damage told in_use index head content bytes has current inside need.
    let kept = c.find.ensures.kept in
    let told_n = g.V.Ground.leads_told c.args.volume.now c.find.new.volume kept.leads told in
    let size : c.in_ok-found.found.size ≡ length bytes = at_some c.in_ok-told.told c.in_ok-found.found _ c.in_ok-found.ensures.some (c.in_ok-told.ensures.size told index head content bytes (holds_of g.V.Ground c.args.volume.now index c.args.oid.now head content bytes has)) in
    let range = subst (InRange (change_of c.args.edit.now)) size ((c.is_editable.ensures.0 c.in_ok-check.ensures.holds).1) in
    let f_is = same_some c.in_ok-told.told c.in_ok-found.found _ c.in_ok-found.ensures.some (c.in_ok-told.ensures.told told index _ has.stored) in
    let is_large : content ≡ Large c.in-Some.root = large_content content c.in-Some.root (sym (ap (λ (f : Found). f.root) f_is) ∙ c.in-Some.is) in
    let has_n = kept_version g.V.Ground c.args.volume.now c.find.new.volume index c.args.oid.now c.in_ok-found.found.head (Large c.in-Some.root) bytes kept
    (head_told g.V.Ground c.args.volume.now index c.args.oid.now head c.in_ok-found.found.head (Large c.in-Some.root) bytes (ap (λ (f : Found). f.head) f_is) (subst (λ (t : Content). HasVersion g.V.Ground c.args.volume.now index c.args.oid.now head t bytes) is_large has)) in
    let in_use_n = kept_in_use g.V.Ground c.args.volume.now c.find.new.volume kept in_use in
    let some : count_of (change_of c.args.edit.now) ≢ 0 = λ none. absurd (omega (arith, none, c.count.ensures, c.if-count-eq0.false)) in
    let geo = g.V.Ground.leads_geometry c.args.volume.now c.find.new.volume kept.leads in
    sound damage told_n in_use_n index bytes has_n (λ area.
    let enough = need (λ stays. subst (λ (t : Content). StaysSmall g.V.Ground c.args.volume.now (place_of c.args.oid.now) t (length (changed (change_of c.args.edit.now) bytes))) is_large stays) area in
    let asked = edit_need_is (g.V.Ground.geometry c.args.volume.now) (change_of c.args.edit.now) content area some ∙ ap (λ (t : Content). most_need (g.V.Ground.geometry c.args.volume.now) (change_of c.args.edit.now) (height_in t) area) is_large in
    enough_kept _ _ _ _ _ enough (ap (λ (f : Area → ℕ). f area) kept.free) (ap (λ (y : Geometry). most_need y (change_of c.args.edit.now) c.in-Some.root.height area) geo) asked)) c.edit_large.ensures.sound

-- ---- what is asked

pub returns-then-count-eq0-clause-asked : goal.returns-then-count-eq0-clause-asked
returns-then-count-eq0-clause-asked g c = λ told index is has.
    let f_is = same_some c.in_ok-told.told c.in_ok-found.found _ c.in_ok-found.ensures.some (c.in_ok-told.ensures.told told index is has) in
    sym (ap (λ (f : Found). f.head.state) f_is) ∙ (c.is_editable.ensures.0 c.in_ok-check.ensures.holds).0

pub returns-in-None-clause-asked : goal.returns-in-None-clause-asked
returns-in-None-clause-asked g c = ok_of c.edit_small.result _ (λ told index is has.
    let f_is = same_some c.in_ok-told.told c.in_ok-found.found _ c.in_ok-found.ensures.some (c.in_ok-told.ensures.told told index is has) in
    sym (ap (λ (f : Found). f.head.state) f_is) ∙ (c.is_editable.ensures.0 c.in_ok-check.ensures.holds).0)

pub returns-in-Some-clause-asked : goal.returns-in-Some-clause-asked
returns-in-Some-clause-asked g c = ok_of c.edit_large.result _ (λ told index is has.
    let f_is = same_some c.in_ok-told.told c.in_ok-found.found _ c.in_ok-found.ensures.some (c.in_ok-told.ensures.told told index is has) in
    sym (ap (λ (f : Found). f.head.state) f_is) ∙ (c.is_editable.ensures.0 c.in_ok-check.ensures.holds).0)

-- ---- what was read

pub returns-then-count-eq0-clause-reads : goal.returns-then-count-eq0-clause-reads
returns-then-count-eq0-clause-reads g c = λ told. record {
  found = c.in_ok-found.found;
  at = at_some c.in_ok-told.told c.in_ok-found.found _ c.in_ok-found.ensures.some c.in_ok-told.ensures.reads told;
  holds = c.is_editable.ensures.0 c.in_ok-check.ensures.holds;
}

pub returns-in-None-clause-reads : goal.returns-in-None-clause-reads
returns-in-None-clause-reads g c = ok_of c.edit_small.result _ (λ told. record {
  found = c.in_ok-found.found;
  at = at_some c.in_ok-told.told c.in_ok-found.found _ c.in_ok-found.ensures.some c.in_ok-told.ensures.reads told;
  holds = c.is_editable.ensures.0 c.in_ok-check.ensures.holds;
})

pub returns-in-Some-clause-reads : goal.returns-in-Some-clause-reads
returns-in-Some-clause-reads g c = ok_of c.edit_large.result _ (λ told. record {
  found = c.in_ok-found.found;
  at = at_some c.in_ok-told.told c.in_ok-found.found _ c.in_ok-found.ensures.some c.in_ok-told.ensures.reads told;
  holds = c.is_editable.ensures.0 c.in_ok-check.ensures.holds;
})

-- ---- what is told

pub returns-in_err-told-clause-fault : goal.returns-in_err-told-clause-fault
returns-in_err-told-clause-fault g c = if_err_handed c.from_residual.result _ _ c.from_residual.ensures.1 (λ told. looking (c.in_err-told.ensures.fault told))

pub returns-in_err-found-clause-fault : goal.returns-in_err-found-clause-fault
returns-in_err-found-clause-fault g c = if_err_handed c.from_residual-in_err-found.result _ _ c.from_residual-in_err-found.ensures.1 (λ told. not_asked
    (λ e. none_some c.in_ok-told.told _ c.in_err-found.ensures.fault.0 (c.in_ok-told.ensures.told told e.index _ e.has)) (c.in_err-found.ensures.fault.1 ∙ ap record_fault c.place_of-place.ensures))

pub returns-in_err-check-clause-fault : goal.returns-in_err-check-clause-fault
returns-in_err-check-clause-fault g c = if_err_handed c.from_residual-in_err-check.result _ _ c.from_residual-in_err-check.ensures.1 (λ told. not_asked
    (λ e.
    let f_is = same_some c.in_ok-told.told c.in_ok-found.found _ c.in_ok-found.ensures.some (c.in_ok-told.ensures.told told e.index _ e.has) in
    let yes : c.is_editable.result ≡ true = c.is_editable.ensures.1 (ap (λ (f : Found). f.head.state) f_is ∙ e.current, subst (InRange (change_of c.args.edit.now)) (sym (ap (λ (f : Found). f.size) f_is)) e.range) in
    let isnt : c.is_editable.result ≡ false = c.in_err-check.ensures.fault.0 in
    false≢true (sym isnt ∙ yes)) (c.in_err-check.ensures.fault.1 ∙ ap record_fault c.place_of-place.ensures))

pub returns-in-None-clause-fault : goal.returns-in-None-clause-fault
returns-in-None-clause-fault g c = if_err_both c.edit_small.result _
    (λ fault. IsDamage fault → g.V.Ground.tells c.args.volume.now → AreInUse g.V.Ground c.args.volume.now → (index : Index) (head : Head) (content : Content) (bytes : List ℕ)
    → HasVersion g.V.Ground c.args.volume.now index c.args.oid.now head content bytes → head.state ≡ Current → InRange (change_of c.args.edit.now) (length bytes)
    → HasNeed g.V.Ground c.args.volume.now (place_of c.args.oid.now) content (change_of c.args.edit.now) (length (changed (change_of c.args.edit.now) bytes)) → ⊥) _ (λ fault h never told.
    let at = at_some c.in_ok-told.told c.in_ok-found.found _ c.in_ok-found.ensures.some c.in_ok-told.ensures.reads told in
    elim (small_kept g.V.Ground c.args.volume.now c.find.new.volume c.find.ensures.kept c.args.oid.now fault h told) [
      | inl is ↦ looking (in_file is)
      | inr is ↦ small (small_at _ _ _ _ at c.in-None.is) (bytes_as _ _ _ _ _ _ fault (λ damage any e.
          let f_is = same_some c.in_ok-told.told c.in_ok-found.found _ c.in_ok-found.ensures.some (c.in_ok-told.ensures.told told e.index _ e.has) in
          let none : root_of e.is.content ≡ None = sym (ap (λ (f : Found). f.root) f_is) ∙ c.in-None.is in
          never damage told e.in_use e.index e.is.head e.is.content (held_in e.is.content) (has_small g.V.Ground c.args.volume.now e.index c.args.oid.now e.is.head e.is.content none e.has) e.current
          (subst (InRange (change_of c.args.edit.now)) (held_size e.is.content none) e.range) e.need) is)
    ]) c.edit_small.ensures.fault (returns-in-None-clause-sound g c)

pub returns-in-Some-clause-fault : goal.returns-in-Some-clause-fault
returns-in-Some-clause-fault g c = IfErr-weaker c.edit_large.result _ _ (λ fault h told.
    let at = at_some c.in_ok-told.told c.in_ok-found.found _ c.in_ok-found.ensures.some c.in_ok-told.ensures.reads told in
    large c.in-Some.root (root_at (g.V.Ground.geometry c.args.volume.now) (g.V.Ground.image c.args.volume.now) c.args.oid.now c.in_ok-found.found c.in-Some.root at c.in-Some.is)
    (bytes_as _ _ _ _ _ _ fault (λ damage never e.
    let kept = c.find.ensures.kept in
    let f_is = same_some c.in_ok-told.told c.in_ok-found.found _ c.in_ok-found.ensures.some (c.in_ok-told.ensures.told told e.index _ e.has) in
    let is_large : e.is.content ≡ Large c.in-Some.root = large_content e.is.content c.in-Some.root (sym (ap (λ (f : Found). f.root) f_is) ∙ c.in-Some.is) in
    let same : e.is ≡ large_record c.in_ok-found.found.head c.in-Some.root = as_large e.is c.in_ok-found.found.head c.in-Some.root (ap (λ (f : Found). f.head) f_is) is_large in
    let some : count_of (change_of c.args.edit.now) ≢ 0 = λ none. absurd (omega (arith, none, c.count.ensures, c.if-count-eq0.false)) in
    let geo = g.V.Ground.leads_geometry c.args.volume.now c.find.new.volume kept.leads in
    never (kept_in_use g.V.Ground c.args.volume.now c.find.new.volume kept e.in_use) e.index
    (kept_record g.V.Ground c.args.volume.now c.find.new.volume e.index c.args.oid.now _ kept (subst (HasRecord g.V.Ground c.args.volume.now e.index c.args.oid.now) same e.has)) (λ area.
    let enough = e.need (λ stays. subst (λ (t : Content). StaysSmall g.V.Ground c.args.volume.now (place_of c.args.oid.now) t (length (changed (change_of c.args.edit.now) (held_in e.is.content)))) is_large stays) area in
    let asked = edit_need_is (g.V.Ground.geometry c.args.volume.now) (change_of c.args.edit.now) e.is.content area some ∙ ap (λ (t : Content). most_need (g.V.Ground.geometry c.args.volume.now) (change_of c.args.edit.now) (height_in t) area) is_large in
    enough_kept _ _ _ _ _ enough (ap (λ (f : Area → ℕ). f area) kept.free) (ap (λ (y : Geometry). most_need y (change_of c.args.edit.now) c.in-Some.root.height area) geo) asked))
    (bytes_kept g.V.Ground c.args.volume.now c.find.new.volume c.find.ensures.kept c.args.oid.now c.in-Some.root _ fault h told))) c.edit_large.ensures.fault

pub returns-in_err-told-clause-stands : goal.returns-in_err-told-clause-stands
returns-in_err-told-clause-stands g c = not_given c.from_residual.result _ c.in_err-told.field-0.0 c.from_residual.ensures.1

pub returns-in_err-told-clause-asked : goal.returns-in_err-told-clause-asked
returns-in_err-told-clause-asked g c = not_given c.from_residual.result _ c.in_err-told.field-0.0 c.from_residual.ensures.1

pub returns-in_err-told-clause-reads : goal.returns-in_err-told-clause-reads
returns-in_err-told-clause-reads g c = not_given c.from_residual.result _ c.in_err-told.field-0.0 c.from_residual.ensures.1

pub returns-in_err-told-clause-nothing : goal.returns-in_err-told-clause-nothing
returns-in_err-told-clause-nothing g c = not_given c.from_residual.result _ c.in_err-told.field-0.0 c.from_residual.ensures.1

pub returns-in_err-told-clause-small : goal.returns-in_err-told-clause-small
returns-in_err-told-clause-small g c = not_given c.from_residual.result _ c.in_err-told.field-0.0 c.from_residual.ensures.1

pub returns-in_err-told-clause-free : goal.returns-in_err-told-clause-free
returns-in_err-told-clause-free g c = not_given c.from_residual.result _ c.in_err-told.field-0.0 c.from_residual.ensures.1

pub returns-in_err-told-clause-touches : goal.returns-in_err-told-clause-touches
returns-in_err-told-clause-touches g c = not_given c.from_residual.result _ c.in_err-told.field-0.0 c.from_residual.ensures.1

pub returns-in_err-told-clause-size : goal.returns-in_err-told-clause-size
returns-in_err-told-clause-size g c = no_value c.from_residual.result _ c.in_err-told.field-0.0 c.from_residual.ensures.1

pub returns-in_err-told-clause-no_root : goal.returns-in_err-told-clause-no_root
returns-in_err-told-clause-no_root g c = no_value c.from_residual.result _ c.in_err-told.field-0.0 c.from_residual.ensures.1

pub returns-in_err-told-clause-edited : goal.returns-in_err-told-clause-edited
returns-in_err-told-clause-edited g c = no_value c.from_residual.result _ c.in_err-told.field-0.0 c.from_residual.ensures.1

pub returns-in_err-told-clause-leads : goal.returns-in_err-told-clause-leads
returns-in_err-told-clause-leads g c = c.find.ensures.kept.leads

pub returns-in_err-told-clause-cause : goal.returns-in_err-told-clause-cause
returns-in_err-told-clause-cause g c = cause_here (g.V.Ground.faults c.args.volume.now) (g.V.Ground.faults c.find.new.volume) c.from_residual.result c.in_err-told.field-0.0 c.from_residual.ensures.1 c.in_err-told.ensures.cause

pub returns-in_err-found-clause-stands : goal.returns-in_err-found-clause-stands
returns-in_err-found-clause-stands g c = not_given c.from_residual-in_err-found.result _ c.in_err-found.field-0.0 c.from_residual-in_err-found.ensures.1

pub returns-in_err-found-clause-asked : goal.returns-in_err-found-clause-asked
returns-in_err-found-clause-asked g c = not_given c.from_residual-in_err-found.result _ c.in_err-found.field-0.0 c.from_residual-in_err-found.ensures.1

pub returns-in_err-found-clause-reads : goal.returns-in_err-found-clause-reads
returns-in_err-found-clause-reads g c = not_given c.from_residual-in_err-found.result _ c.in_err-found.field-0.0 c.from_residual-in_err-found.ensures.1

pub returns-in_err-found-clause-nothing : goal.returns-in_err-found-clause-nothing
returns-in_err-found-clause-nothing g c = not_given c.from_residual-in_err-found.result _ c.in_err-found.field-0.0 c.from_residual-in_err-found.ensures.1

pub returns-in_err-found-clause-small : goal.returns-in_err-found-clause-small
returns-in_err-found-clause-small g c = not_given c.from_residual-in_err-found.result _ c.in_err-found.field-0.0 c.from_residual-in_err-found.ensures.1

pub returns-in_err-found-clause-free : goal.returns-in_err-found-clause-free
returns-in_err-found-clause-free g c = not_given c.from_residual-in_err-found.result _ c.in_err-found.field-0.0 c.from_residual-in_err-found.ensures.1

pub returns-in_err-found-clause-touches : goal.returns-in_err-found-clause-touches
returns-in_err-found-clause-touches g c = not_given c.from_residual-in_err-found.result _ c.in_err-found.field-0.0 c.from_residual-in_err-found.ensures.1

pub returns-in_err-found-clause-size : goal.returns-in_err-found-clause-size
returns-in_err-found-clause-size g c = no_value c.from_residual-in_err-found.result _ c.in_err-found.field-0.0 c.from_residual-in_err-found.ensures.1

pub returns-in_err-found-clause-no_root : goal.returns-in_err-found-clause-no_root
returns-in_err-found-clause-no_root g c = no_value c.from_residual-in_err-found.result _ c.in_err-found.field-0.0 c.from_residual-in_err-found.ensures.1

pub returns-in_err-found-clause-edited : goal.returns-in_err-found-clause-edited
returns-in_err-found-clause-edited g c = no_value c.from_residual-in_err-found.result _ c.in_err-found.field-0.0 c.from_residual-in_err-found.ensures.1

pub returns-in_err-found-clause-leads : goal.returns-in_err-found-clause-leads
returns-in_err-found-clause-leads g c = c.find.ensures.kept.leads

pub returns-in_err-found-clause-cause : goal.returns-in_err-found-clause-cause
returns-in_err-found-clause-cause g c = cause_here (g.V.Ground.faults c.args.volume.now) (g.V.Ground.faults c.find.new.volume) c.from_residual-in_err-found.result c.in_err-found.field-0.0 c.from_residual-in_err-found.ensures.1 (c.in_err-found.ensures.cause (g.V.Ground.faults c.args.volume.now) (g.V.Ground.faults c.find.new.volume))

pub returns-in_err-check-clause-stands : goal.returns-in_err-check-clause-stands
returns-in_err-check-clause-stands g c = not_given c.from_residual-in_err-check.result _ c.in_err-check.field-0.0 c.from_residual-in_err-check.ensures.1

pub returns-in_err-check-clause-asked : goal.returns-in_err-check-clause-asked
returns-in_err-check-clause-asked g c = not_given c.from_residual-in_err-check.result _ c.in_err-check.field-0.0 c.from_residual-in_err-check.ensures.1

pub returns-in_err-check-clause-reads : goal.returns-in_err-check-clause-reads
returns-in_err-check-clause-reads g c = not_given c.from_residual-in_err-check.result _ c.in_err-check.field-0.0 c.from_residual-in_err-check.ensures.1

pub returns-in_err-check-clause-nothing : goal.returns-in_err-check-clause-nothing
returns-in_err-check-clause-nothing g c = not_given c.from_residual-in_err-check.result _ c.in_err-check.field-0.0 c.from_residual-in_err-check.ensures.1

pub returns-in_err-check-clause-small : goal.returns-in_err-check-clause-small
returns-in_err-check-clause-small g c = not_given c.from_residual-in_err-check.result _ c.in_err-check.field-0.0 c.from_residual-in_err-check.ensures.1

pub returns-in_err-check-clause-free : goal.returns-in_err-check-clause-free
returns-in_err-check-clause-free g c = not_given c.from_residual-in_err-check.result _ c.in_err-check.field-0.0 c.from_residual-in_err-check.ensures.1

pub returns-in_err-check-clause-touches : goal.returns-in_err-check-clause-touches
returns-in_err-check-clause-touches g c = not_given c.from_residual-in_err-check.result _ c.in_err-check.field-0.0 c.from_residual-in_err-check.ensures.1

pub returns-in_err-check-clause-size : goal.returns-in_err-check-clause-size
returns-in_err-check-clause-size g c = no_value c.from_residual-in_err-check.result _ c.in_err-check.field-0.0 c.from_residual-in_err-check.ensures.1

pub returns-in_err-check-clause-no_root : goal.returns-in_err-check-clause-no_root
returns-in_err-check-clause-no_root g c = no_value c.from_residual-in_err-check.result _ c.in_err-check.field-0.0 c.from_residual-in_err-check.ensures.1

pub returns-in_err-check-clause-edited : goal.returns-in_err-check-clause-edited
returns-in_err-check-clause-edited g c = no_value c.from_residual-in_err-check.result _ c.in_err-check.field-0.0 c.from_residual-in_err-check.ensures.1

pub returns-in_err-check-clause-leads : goal.returns-in_err-check-clause-leads
returns-in_err-check-clause-leads g c = c.find.ensures.kept.leads

pub returns-in_err-check-clause-cause : goal.returns-in_err-check-clause-cause
returns-in_err-check-clause-cause g c = cause_here (g.V.Ground.faults c.args.volume.now) (g.V.Ground.faults c.find.new.volume) c.from_residual-in_err-check.result c.in_err-check.field-0.0 c.from_residual-in_err-check.ensures.1 (c.in_err-check.ensures.cause (g.V.Ground.faults c.args.volume.now) (g.V.Ground.faults c.find.new.volume))

pub returns-then-count-eq0-clause-stands : goal.returns-then-count-eq0-clause-stands
returns-then-count-eq0-clause-stands g c = at_some c.in_ok-told.told c.in_ok-found.found _ c.in_ok-found.ensures.some c.in_ok-told.ensures.stands

pub returns-then-count-eq0-clause-nothing : goal.returns-then-count-eq0-clause-nothing
returns-then-count-eq0-clause-nothing g c = λ none. c.find.ensures.kept

pub returns-then-count-eq0-clause-no_root : goal.returns-then-count-eq0-clause-no_root
returns-then-count-eq0-clause-no_root g c = λ none. (ap (λ (e : Edited). e.gone) c.stayed.ensures, ap (λ (e : Edited). e.come) c.stayed.ensures)

pub returns-then-count-eq0-clause-edited : goal.returns-then-count-eq0-clause-edited
returns-then-count-eq0-clause-edited g c = λ many. absurd (omega (arith, many, c.count.ensures, c.if-count-eq0.true))

pub returns-then-count-eq0-clause-small : goal.returns-then-count-eq0-clause-small
returns-then-count-eq0-clause-small g c = λ told index head content bytes has stays. c.find.ensures.kept.free

pub returns-then-count-eq0-clause-free : goal.returns-then-count-eq0-clause-free
returns-then-count-eq0-clause-free g c = λ told index head content bytes has area. omega (arith, ap (λ (f : Area → ℕ). f area) c.find.ensures.kept.free)

pub returns-then-count-eq0-clause-sound : goal.returns-then-count-eq0-clause-sound
returns-then-count-eq0-clause-sound g c = tt

pub returns-then-count-eq0-clause-fault : goal.returns-then-count-eq0-clause-fault
returns-then-count-eq0-clause-fault g c = tt

pub returns-then-count-eq0-clause-touches : goal.returns-then-count-eq0-clause-touches
returns-then-count-eq0-clause-touches g c = omega (arith, c.find.ensures.kept.touched)

pub returns-then-count-eq0-clause-leads : goal.returns-then-count-eq0-clause-leads
returns-then-count-eq0-clause-leads g c = c.find.ensures.kept.leads

pub returns-then-count-eq0-clause-cause : goal.returns-then-count-eq0-clause-cause
returns-then-count-eq0-clause-cause g c = tt

pub returns-in-None-clause-stands : goal.returns-in-None-clause-stands
returns-in-None-clause-stands g c = ok_of c.edit_small.result _ (at_some c.in_ok-told.told c.in_ok-found.found _ c.in_ok-found.ensures.some c.in_ok-told.ensures.stands)

pub returns-in-None-clause-nothing : goal.returns-in-None-clause-nothing
returns-in-None-clause-nothing g c = ok_of c.edit_small.result _ (λ none. absurd (omega (arith, none, c.count.ensures, c.if-count-eq0.false)))

pub returns-in-None-clause-no_root : goal.returns-in-None-clause-no_root
returns-in-None-clause-no_root g c = any_value c.edit_small.result _ (λ done none. absurd (omega (arith, none, c.count.ensures, c.if-count-eq0.false)))

pub returns-in-None-clause-leads : goal.returns-in-None-clause-leads
returns-in-None-clause-leads g c = g.V.Ground.leads_trans c.args.volume.now c.find.new.volume c.edit_small.new.volume c.find.ensures.kept.leads c.edit_small.ensures.leads

pub returns-in-None-clause-cause : goal.returns-in-None-clause-cause
returns-in-None-clause-cause g c = cause_of g.V.Ground c.args.volume.now c.find.new.volume c.find.ensures.kept.leads c.edit_small.new.volume c.edit_small.result c.edit_small.ensures.cause

pub returns-in-Some-clause-stands : goal.returns-in-Some-clause-stands
returns-in-Some-clause-stands g c = ok_of c.edit_large.result _ (at_some c.in_ok-told.told c.in_ok-found.found _ c.in_ok-found.ensures.some c.in_ok-told.ensures.stands)

pub returns-in-Some-clause-nothing : goal.returns-in-Some-clause-nothing
returns-in-Some-clause-nothing g c = ok_of c.edit_large.result _ (λ none. absurd (omega (arith, none, c.count.ensures, c.if-count-eq0.false)))

pub returns-in-Some-clause-no_root : goal.returns-in-Some-clause-no_root
returns-in-Some-clause-no_root g c = any_value c.edit_large.result _ (λ done none. absurd (omega (arith, none, c.count.ensures, c.if-count-eq0.false)))

pub returns-in-Some-clause-leads : goal.returns-in-Some-clause-leads
returns-in-Some-clause-leads g c = g.V.Ground.leads_trans c.args.volume.now c.find.new.volume c.edit_large.new.volume c.find.ensures.kept.leads c.edit_large.ensures.leads

pub returns-in-Some-clause-cause : goal.returns-in-Some-clause-cause
returns-in-Some-clause-cause g c = cause_of g.V.Ground c.args.volume.now c.find.new.volume c.find.ensures.kept.leads c.edit_large.new.volume c.edit_large.result c.edit_large.ensures.cause

pub edit_small-requires-clause-ready : goal.edit_small-requires-clause-ready
edit_small-requires-clause-ready g c = g.V.Ground.leads_ready c.args.volume.now c.find.new.volume c.find.ensures.kept.leads c.requires

pub edit_small-requires-clause-head : goal.edit_small-requires-clause-head
edit_small-requires-clause-head g c = at_some c.in_ok-told.told c.in_ok-found.found _ c.in_ok-found.ensures.some c.in_ok-told.ensures.head

pub edit_large-requires-clause-ready : goal.edit_large-requires-clause-ready
edit_large-requires-clause-ready g c = g.V.Ground.leads_ready c.args.volume.now c.find.new.volume c.find.ensures.kept.leads c.requires

pub edit_large-requires-clause-head : goal.edit_large-requires-clause-head
edit_large-requires-clause-head g c = at_some c.in_ok-told.told c.in_ok-found.found _ c.in_ok-found.ensures.some c.in_ok-told.ensures.head

pub edit_small-requires-clause-range : goal.edit_small-requires-clause-range
edit_small-requires-clause-range g c = (c.is_editable.ensures.0 c.in_ok-check.ensures.holds).1

pub edit_small-requires-clause-short : goal.edit_small-requires-clause-short
edit_small-requires-clause-short g c = at_some c.in_ok-told.told c.in_ok-found.found _ c.in_ok-found.ensures.some c.in_ok-told.ensures.small c.in-None.is

pub edit_large-requires-clause-root : goal.edit_large-requires-clause-root
edit_large-requires-clause-root g c =
    subst (λ (y : Geometry). IsRootFor y c.in-Some.root) (sym (g.V.Ground.leads_geometry c.args.volume.now c.find.new.volume c.find.ensures.kept.leads)) (at_some c.in_ok-found.found.root c.in-Some.root _ c.in-Some.is (at_some c.in_ok-told.told c.in_ok-found.found _ c.in_ok-found.ensures.some c.in_ok-told.ensures.root))

pub edit_large-requires-clause-range : goal.edit_large-requires-clause-range
edit_large-requires-clause-range g c =
    subst (InRange (change_of c.args.edit.now)) (at_some c.in_ok-found.found.root c.in-Some.root _ c.in-Some.is (at_some c.in_ok-told.told c.in_ok-found.found _ c.in_ok-found.ensures.some c.in_ok-told.ensures.large)) (c.is_editable.ensures.0 c.in_ok-check.ensures.holds).1

pub find-requires : goal.find-requires
find-requires g c = c.requires
