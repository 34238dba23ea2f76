-- The head that was taken of a stream.
use Rattle.std.proofs.Common.{◌≡◌, ◌≤◌, ◌<◌, ◌-◌, ◌∙◌, ℕ, List, [], ◌++◌, append-nil, drop, length, take, refl, sym, ap, arith}
use Rattle.std.proofs.lemmas.List.{length-take, take-append-drop, take_all}
use Rattle.ex_base.specs.declared.geometry.Geometry.{Geometry}
use Rattle.history_model.specs.Stream.{HasHead, StreamHead}
use Rattle.history_model.proofs.Lengths.{length-head}
use Rattle.history_reads.specs.Heads.{HeadRefused}
use Rattle.history_reads.specs.Reads.{CantBeRead}
use Rattle.history_reads.specs.declared.heads.HeadFault.{HeadFault}
use Rattle.history_reads.specs.declared.heads.HeadFault.TheVariants.{Bad, Misfit, NoRoom}
use Rattle.history_load.specs.Streams.{StreamRefused}
use Rattle.history_load.proofs.Verdicts.{dump_head}

-- a stream that is shorter than a head has none
headless : (was : List ℕ) (h : StreamHead) → length was < 52 → HasHead was h → ⊥
headless was h short has = omega (arith, short, ap length has.spelled, length-head h, length-take 52 was)

pub short_refused : (g : Geometry) (was : List ℕ) → length was < 52 → StreamRefused g was Bad
short_refused g was short = ((λ h has. absurd (headless was h short has)), (λ t dump. headless was _ short (dump_head g was t dump)))

module _ (bytes was : List ℕ) (n : ℕ) (long : length bytes ≡ 52) (whole : n ≡ 52) (came : take n bytes ≡ take 52 was) where
  front : bytes ≡ take 52 was
  front = sym (take_all 52 bytes (omega (arith, long))) ∙ ap (λ (k : ℕ). take k bytes) (sym whole) ∙ came

  pub long_enough : 52 ≤ length was
  long_enough = omega (arith, ap length front, length-take 52 was, long)

  pub head_on : (h : StreamHead) → HasHead bytes h → HasHead was h
  head_on h has = record { fits = has.fits; spelled = sym front ∙ sym (take_all 52 bytes (omega (arith, long))) ∙ has.spelled }

  head_back : (h : StreamHead) → HasHead was h → HasHead bytes h
  head_back h has = record { fits = has.fits; spelled = take_all 52 bytes (omega (arith, long)) ∙ front ∙ has.spelled }

  pub refused_on : (g : Geometry) (fault : HeadFault) → HeadRefused g (g.pages - 1) g.segs bytes fault → (fault ≡ Bad → CantBeRead g bytes) → StreamRefused g was fault
  refused_on g Bad refused bad = (
    (λ h has. let r = refused h (head_back h has) in (r.0, r.1)),
    (λ t dump. (bad refl).none (drop 52 was) was ([], (sym (take-append-drop 52 was) ∙ ap (λ (l : List ℕ). l ++ drop 52 was) (sym front)) ∙ sym (append-nil (bytes ++ drop 52 was))) t dump),
  )
  refused_on g (Misfit m) refused bad = (refused.0, head_on refused.0 refused.1, refused.2)
  refused_on g (NoRoom l) refused bad = (refused.0, head_on refused.0 refused.1, refused.2, refused.3)
