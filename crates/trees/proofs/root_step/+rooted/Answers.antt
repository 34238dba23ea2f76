use Rattle.std.proofs.Common.{rules, arith, length, ap, suc, ◌+◌, ◌-◌, ◌*◌, ◌<◌, ◌≤◌, ◌^◌, ◌≡◌, ◌∷◌, [], List, sym, subst, ◌∙◌, get_or, Result, Ok, Err, IfOk, OnOk}
use Rattle.ex_base.specs.declared.geometry.Geometry.{Geometry}
use Rattle.ex_base.specs.declared.names.Area.TheVariants.{Page}
use Rattle.ex_base.specs.Sizes.{object_most}
use Rattle.ex_base.proofs.Results.{on_ok_both, if_err_handed, on_ok_from}
use Rattle.trees.specs.Split.{nodes_for}
use Rattle.trees.specs.declared.rows.Part.{Part}
use Rattle.trees.specs.Rows.{row_size}
use Rattle.trees.specs.Made.{Holds}
use Rattle.trees.specs.Built.{AreSome, even_lens}
use Rattle.trees.specs.Grown.{IsRooted}
use Rattle.trees.proofs.Reading.{no_part}
use Rattle.trees.proofs.Paid.{some_node, half_as_many, rise_on, root_free, roots_free, roots_paid}
use Rattle.trees.proofs.RootSteps.{root_here, root_above, built_holds}
use Rattle.std.proofs.lemmas.Result.{on_ok_weaker, IfOk-weaker}
use Rattle.ex_base.proofs.Handed.{no_value, not_given, cause_here, cause_of}
use Rattle.trees.proofs.Laid.{extends_refl, extends_on}
use Rattle.trees.proofs.root_step.+rooted.Goals as goal

if_ok_with : {X E : Type 0} (r : Result X E) (A : Type 0) (P Q : X → Type 0) → ((x : X) → A → P x → Q x) → OnOk r A → IfOk r P → IfOk r Q
if_ok_with (Ok x) A P Q f a p = f x a p
if_ok_with (Err e) A P Q f a p = tt

alone : (row : List Part) → length row ≡ 1 → row ≡ get_or row 0 no_part ∷ []
alone [] one = absurd (omega arith)
alone (part ∷ []) one = ap (λ (n : List Part). part ∷ n) (let e : [] ≡ [] = search rules in e)
alone (part ∷ next ∷ row) one = absurd (omega arith)

pub returns-then-row-eq1-clause-rooted : goal.returns-then-row-eq1-clause-rooted
returns-then-row-eq1-clause-rooted g t c = λ told l same holds.
    root_here g.B.Ground c.args.blocks.now c.args.level l c.args.row.now (get_or c.args.row.now 0 no_part) same (alone c.args.row.now c.if-row-eq1.true) holds

pub overflow_add-level : goal.overflow_add-level
overflow_add-level g t c =
    let two : 2 ≤ length c.args.row.now = omega (arith, c.requires.some, c.if-row-eq1.false) in
    let up = (rise_on c.args.level (length c.args.row.now) 0 two (omega arith) c.requires.rise).0 in
    search rules

pub nodes_over-requires-clause-free : goal.nodes_over-requires-clause-free
nodes_over-requires-clause-free g t c =
    let two : 2 ≤ length c.args.row.now = omega (arith, c.requires.some, c.if-row-eq1.false) in
    root_free (g.B.Ground.geometry c.args.blocks.now).fan (length c.args.row.now) (g.B.Ground.free c.args.blocks.now Page) (omega (arith, (g.B.Ground.geometry c.args.blocks.now).two)) two (c.requires.free two)

pub returns-clause-rooted : goal.returns-clause-rooted
returns-clause-rooted g t c =
    if_ok_with c.rooted.result _ _ _ (λ root extends rest told l same holds.
    let made = c.in_ok-above.ensures in
    let b = g.B.Ground in
    let two : 2 ≤ length c.args.row.now = omega (arith, c.requires.some, c.if-row-eq1.false) in
    let up : c.args.level + 1 ≡ suc l = omega arith in
    let built = made.built told l up holds in
    let held = built_holds b c.args.blocks.now c.nodes_over.new.blocks l (even_lens (g.B.Ground.geometry c.args.blocks.now).fan (length c.args.row.now)) c.args.row.now c.in_ok-above.above.items made.extends holds made.took built in
    let items = c.deref.ensures.value in
    let above : IsRooted b c.nodes_over.new.blocks c.rooted.new.blocks (suc l) c.in_ok-above.above.items root =
    subst (λ r. IsRooted b c.nodes_over.new.blocks c.rooted.new.blocks (suc l) r root) items
    (rest (b.leads_told c.args.blocks.now c.nodes_over.new.blocks made.extends.leads told) (suc l) up (subst (Holds b c.nodes_over.new.blocks (suc l)) (sym items) held)) in
    let fewer : length c.in_ok-above.above.items < length c.args.row.now = omega (arith, made.count, half_as_many (g.B.Ground.geometry c.args.blocks.now).fan (length c.args.row.now) (omega (arith, (g.B.Ground.geometry c.args.blocks.now).two)) two) in
    root_above b c.args.blocks.now c.nodes_over.new.blocks c.rooted.new.blocks l c.args.row.now c.in_ok-above.above.items root two made.extends extends made.took fewer holds built (made.counts told l up holds) above) c.rooted.ensures.extends c.rooted.ensures.rooted

pub overflow_add-level-2 : goal.overflow_add-level-2
overflow_add-level-2 g t c =
    let two : 2 ≤ length c.args.row.now = omega (arith, c.requires.some, c.if-row-eq1.false) in
    let up = (rise_on c.args.level (length c.args.row.now) 0 two (omega arith) c.requires.rise).0 in
    search rules

pub rooted-requires : goal.rooted-requires
rooted-requires g t c =
    let made = c.in_ok-above.ensures in
    let items = c.deref.ensures.value in
    let wide : 2 ≤ (g.B.Ground.geometry c.args.blocks.now).fan = omega (arith, (g.B.Ground.geometry c.args.blocks.now).two) in
    let two : 2 ≤ length c.args.row.now = omega (arith, c.requires.some, c.if-row-eq1.false) in
    let count : length c.deref.result.now ≡ nodes_for (g.B.Ground.geometry c.args.blocks.now).fan (length c.args.row.now) = ap length items ∙ made.count in
    let half : 2 * nodes_for (g.B.Ground.geometry c.args.blocks.now).fan (length c.args.row.now) ≤ length c.args.row.now = half_as_many (g.B.Ground.geometry c.args.blocks.now).fan (length c.args.row.now) wide two in
    let fewer : length c.deref.result.now < length c.args.row.now = omega arith in
    let some : 1 ≤ length c.deref.result.now = omega (arith, count, some_node (g.B.Ground.geometry c.args.blocks.now).fan (length c.args.row.now) (omega arith)) in
    let somes : AreSome c.deref.result.now = subst AreSome (sym items) made.sizes in
    let few : length c.deref.result.now < 2 ^ 32 = omega (arith, c.requires.count) in
    let limit : row_size c.deref.result.now ≤ object_most = omega (arith, ap row_size items, made.sum, c.requires.limit) in
    let rise : length c.deref.result.now ≤ 2 ^ (255 - (c.args.level + 1)) = (rise_on c.args.level (length c.args.row.now) (length c.deref.result.now) two (omega (arith, count)) c.requires.rise).1 in
    let geo = g.B.Ground.leads_geometry c.args.blocks.now c.nodes_over.new.blocks made.extends.leads in
    let free : 2 ≤ length c.deref.result.now → length c.deref.result.now + (g.B.Ground.geometry c.nodes_over.new.blocks).fan ≤ (g.B.Ground.geometry c.nodes_over.new.blocks).fan * g.B.Ground.free c.nodes_over.new.blocks Page + 2 =
    subst (λ (k : Geometry). 2 ≤ length c.deref.result.now → length c.deref.result.now + k.fan ≤ k.fan * g.B.Ground.free c.nodes_over.new.blocks Page + 2) (sym geo)
    (subst (λ n. 2 ≤ n → n + (g.B.Ground.geometry c.args.blocks.now).fan ≤ (g.B.Ground.geometry c.args.blocks.now).fan * g.B.Ground.free c.nodes_over.new.blocks Page + 2) (sym count)
    (roots_free (g.B.Ground.geometry c.args.blocks.now).fan (length c.args.row.now) (g.B.Ground.free c.args.blocks.now Page) (g.B.Ground.free c.nodes_over.new.blocks Page) wide two (c.requires.free two) made.spent.of_pages)) in
    search rules

pub returns-clause-pages : goal.returns-clause-pages
returns-clause-pages g t c =
    let made = c.in_ok-above.ensures in
    let items = c.deref.ensures.value in
    let two : 2 ≤ length c.args.row.now = omega (arith, c.requires.some, c.if-row-eq1.false) in
    let wide : 2 ≤ (g.B.Ground.geometry c.args.blocks.now).fan = omega (arith, (g.B.Ground.geometry c.args.blocks.now).two) in
    let count : length c.deref.result.now ≡ nodes_for (g.B.Ground.geometry c.args.blocks.now).fan (length c.args.row.now) = ap length items ∙ made.count in
    let geo = g.B.Ground.leads_geometry c.args.blocks.now c.nodes_over.new.blocks made.extends.leads in
    let paid = λ (lone : length c.deref.result.now ≡ 1 → g.B.Ground.free c.rooted.new.blocks Page ≡ g.B.Ground.free c.nodes_over.new.blocks Page)
    (rest : 2 ≤ length c.deref.result.now → (g.B.Ground.geometry c.nodes_over.new.blocks).fan * g.B.Ground.free c.nodes_over.new.blocks Page + 2 ≤ length c.deref.result.now + (g.B.Ground.geometry c.nodes_over.new.blocks).fan + (g.B.Ground.geometry c.nodes_over.new.blocks).fan * g.B.Ground.free c.rooted.new.blocks Page).
    roots_paid (g.B.Ground.geometry c.args.blocks.now).fan (length c.args.row.now) (g.B.Ground.free c.args.blocks.now Page) (g.B.Ground.free c.nodes_over.new.blocks Page) (g.B.Ground.free c.rooted.new.blocks Page) wide two made.spent.of_pages
    (subst (λ n. n ≡ 1 → g.B.Ground.free c.rooted.new.blocks Page ≡ g.B.Ground.free c.nodes_over.new.blocks Page) count lone)
    (subst (λ n. 2 ≤ n → (g.B.Ground.geometry c.args.blocks.now).fan * g.B.Ground.free c.nodes_over.new.blocks Page + 2 ≤ n + (g.B.Ground.geometry c.args.blocks.now).fan + (g.B.Ground.geometry c.args.blocks.now).fan * g.B.Ground.free c.rooted.new.blocks Page) count
    (subst (λ (k : Geometry). 2 ≤ length c.deref.result.now → k.fan * g.B.Ground.free c.nodes_over.new.blocks Page + 2 ≤ length c.deref.result.now + k.fan + k.fan * g.B.Ground.free c.rooted.new.blocks Page) geo rest)) in
    on_ok_both c.rooted.result _ _ _ (λ lone rest again. paid lone rest) c.rooted.ensures.lone c.rooted.ensures.pages

pub returns-clause-extends : goal.returns-clause-extends
returns-clause-extends g t c = on_ok_weaker c.rooted.result (extends_on g.B.Ground c.args.blocks.now c.nodes_over.new.blocks c.rooted.new.blocks c.in_ok-above.ensures.extends) c.rooted.ensures.extends

pub returns-clause-leads : goal.returns-clause-leads
returns-clause-leads g t c = g.B.Ground.leads_trans c.args.blocks.now c.nodes_over.new.blocks c.rooted.new.blocks c.in_ok-above.ensures.leads c.rooted.ensures.leads

pub returns-clause-cause : goal.returns-clause-cause
returns-clause-cause g t c = cause_of g.B.Ground c.args.blocks.now c.nodes_over.new.blocks c.in_ok-above.ensures.leads c.rooted.new.blocks c.rooted.result c.rooted.ensures.cause

pub returns-clause-leaves : goal.returns-clause-leaves
returns-clause-leaves g t c = on_ok_weaker c.rooted.result (λ same. omega (arith, same, c.in_ok-above.ensures.spent.of_leaves)) c.rooted.ensures.leaves

pub returns-clause-size : goal.returns-clause-size
returns-clause-size g t c = IfOk-weaker c.rooted.result _ _ (λ root is. is ∙ ap row_size c.deref.ensures.value ∙ c.in_ok-above.ensures.sum) c.rooted.ensures.size

pub returns-clause-lone : goal.returns-clause-lone
returns-clause-lone g t c = on_ok_from c.rooted.result _ (λ root is one. absurd (c.if-row-eq1.false one))

pub returns-clause-no_damage : goal.returns-clause-no_damage
returns-clause-no_damage g t c = c.rooted.ensures.no_damage

pub returns-then-row-eq1-clause-extends : goal.returns-then-row-eq1-clause-extends
returns-then-row-eq1-clause-extends g t c = extends_refl g.B.Ground c.args.blocks.now

pub returns-then-row-eq1-clause-leads : goal.returns-then-row-eq1-clause-leads
returns-then-row-eq1-clause-leads g t c = g.B.Ground.leads_refl c.args.blocks.now

pub returns-then-row-eq1-clause-size : goal.returns-then-row-eq1-clause-size
returns-then-row-eq1-clause-size g t c = omega (arith, ap row_size (alone c.args.row.now c.if-row-eq1.true))

pub returns-in_err-above-clause-extends : goal.returns-in_err-above-clause-extends
returns-in_err-above-clause-extends g t c = not_given c.from_residual.result _ c.in_err-above.field-0.0 c.from_residual.ensures.1

pub returns-in_err-above-clause-size : goal.returns-in_err-above-clause-size
returns-in_err-above-clause-size g t c = no_value c.from_residual.result _ c.in_err-above.field-0.0 c.from_residual.ensures.1

pub returns-in_err-above-clause-rooted : goal.returns-in_err-above-clause-rooted
returns-in_err-above-clause-rooted g t c = no_value c.from_residual.result _ c.in_err-above.field-0.0 c.from_residual.ensures.1

pub returns-in_err-above-clause-leaves : goal.returns-in_err-above-clause-leaves
returns-in_err-above-clause-leaves g t c = not_given c.from_residual.result _ c.in_err-above.field-0.0 c.from_residual.ensures.1

pub returns-in_err-above-clause-lone : goal.returns-in_err-above-clause-lone
returns-in_err-above-clause-lone g t c = not_given c.from_residual.result _ c.in_err-above.field-0.0 c.from_residual.ensures.1

pub returns-in_err-above-clause-pages : goal.returns-in_err-above-clause-pages
returns-in_err-above-clause-pages g t c = not_given c.from_residual.result _ c.in_err-above.field-0.0 c.from_residual.ensures.1

pub returns-in_err-above-clause-no_damage : goal.returns-in_err-above-clause-no_damage
returns-in_err-above-clause-no_damage g t c = if_err_handed c.from_residual.result _ c.in_err-above.field-0.0 c.from_residual.ensures.1 c.in_err-above.ensures.no_damage

pub returns-in_err-above-clause-leads : goal.returns-in_err-above-clause-leads
returns-in_err-above-clause-leads g t c = c.in_err-above.ensures.leads

pub returns-in_err-above-clause-cause : goal.returns-in_err-above-clause-cause
returns-in_err-above-clause-cause g t c = cause_here (g.B.Ground.faults c.args.blocks.now) (g.B.Ground.faults c.nodes_over.new.blocks) c.from_residual.result c.in_err-above.field-0.0 c.from_residual.ensures.1 c.in_err-above.ensures.cause
