-- Counts of owners, one unit and one walk after the other.
use Rattle.std.proofs.Common.{◌≡◌, ◌≢◌, ◌⊎◌, ◌≤◌, ◌+◌, ℕ, zero, suc, Bool, true, false, List, [], ◌∷◌, ◌++◌, map, min, eqb, eq-eqb, inl, inr, refl, sym, ap, subst, ◌∙◌, true≢false, arith}
use Rattle.std.proofs.lemmas.Grind.{flat_map-append}
use Rattle.ex_base.specs.declared.geometry.Geometry.{Geometry}
use Rattle.ex_base.specs.Area.{InPageArea}
use Rattle.ex_base.specs.Ports.{times, refs_most}
use Rattle.ex_base.proofs.Counts.{none_or_some, same_or_not, not_equal, times-append, times_here, times_apart}
use Rattle.trees.specs.declared.Pair.{Pair}
use Rattle.trees.specs.Names.{page_of_pair}
use Rattle.trees.specs.Node.{pairs_on}
use Rattle.trees.specs.Owners.{StandsAt, named_on, all_named}
use Rattle.trees.specs.Trees.{Units}
use Rattle.trees.specs.declared.rows.Part.{Part}
use Rattle.trees.specs.Rows.{parts_of}
use Rattle.node_walk.specs.declared.nodes.Met.{Met}
use Rattle.node_walk.specs.Counts.{Came, Counts, CountsMet, counted_at}
use Rattle.node_walk.specs.Walk.{Notes, IsKnown, MetAgain, MetFirst, Meets, row_at}
use Rattle.node_walk.proofs.Levels.{page_or_leaf}

-- the names of the roots of trees side by side
abbrev pub row_pages : List Part → List ℕ
row_pages row = map (λ (part : Part). part.page.0) row

pub row_pages-append : (xs ys : List Part) → row_pages (xs ++ ys) ≡ row_pages xs ++ row_pages ys
row_pages-append [] ys = refl
row_pages-append (x ∷ xs) ys = ap (λ rest. x.page.0 ∷ rest) (row_pages-append xs ys)

both : (b : Bool) → b ≡ true → b ≡ false → ⊥
both b is not = true≢false (sym is ∙ not)

-- ---- one unit

-- a count with one more, in its limit
pub added : (refs : ℕ → ℕ) (page unit : ℕ) → refs unit ≤ refs_most → counted_at refs page unit ≡ min (refs unit + times unit (page ∷ [])) refs_most
added refs page unit few = elim (same_or_not unit page) [
  | inl same ↦
      let test : eqb unit page ≡ true = eq-eqb unit page same in
      rw test (omega (arith, times_here unit page [] same, ap refs same))
  | inr differ ↦
      let test : eqb unit page ≡ false = not_equal unit page differ in
      rw test (omega (arith, times_apart unit page [] differ, few))
]

pub counted_here : (refs : ℕ → ℕ) (page : ℕ) → 1 ≤ counted_at refs page page
counted_here refs page = let test : eqb page page ≡ true = eq-eqb page page refl in rw test (omega arith)

pub counted_else : (refs : ℕ → ℕ) (page unit : ℕ) → unit ≢ page → counted_at refs page unit ≡ refs unit
counted_else refs page unit differ = let test : eqb unit page ≡ false = not_equal unit page differ in rw test refl

module _ (g : Geometry) (u : Units) where
  pub named_more : (unit : ℕ) (xs ys : List ℕ) → times unit (all_named u (xs ++ ys)) ≡ times unit (all_named u xs) + times unit (all_named u ys)
  named_more unit xs ys = ap (times unit) (flat_map-append (named_on u) xs ys) ∙ times-append unit (all_named u xs) (all_named u ys)

  -- ---- walks that follow on one another

  unfoldable pub counts_none : (used : ℕ → Bool) (refs : ℕ → ℕ) → ((unit : ℕ) → refs unit ≤ refs_most) → Counts g u [] used refs used refs
  counts_none used refs few = record {
    nodes = [];
    still = λ unit is. is;
    once = λ page. omega arith;
    came = λ page some. absurd (omega (arith, some));
    listed = λ page area is. inl is;
    counted = λ unit is. inl is;
    owners = λ unit. omega (arith, few unit);
  }

  module _ (names more : List ℕ) (used mid after : ℕ → Bool) (refs between later : ℕ → ℕ) (one : Counts g u names used refs mid between) (two : Counts g u more mid between after later) where
    free_first : (p : ℕ) → mid p ≡ false → used p ≡ false
    free_first p is = by (used p) refl
      where
        by : (b : Bool) → used p ≡ b → used p ≡ false
        by true was = absurd (both (mid p) (one.still p was) is)
        by false was = was

    pub once_both : (page : ℕ) → times page one.nodes + times page two.nodes ≤ 1
    once_both page = elim (none_or_some (times page one.nodes)) [
      | inl none ↦ omega (arith, none, two.once page)
      | inr some ↦ elim (none_or_some (times page two.nodes)) [
        | inl none ↦ omega (arith, none, one.once page)
        | inr again ↦ absurd (both (mid page) (one.came page some).0.1 (two.came page again).0.0)
      ]
    ]

    pub came_both : (page : ℕ) → 1 ≤ times page one.nodes + times page two.nodes → Came used after page × InPageArea g page
    came_both page some = elim (none_or_some (times page one.nodes)) [
      | inr first ↦ let is = one.came page first in ((is.0.0, two.still page is.0.1), is.1)
      | inl none ↦ let is = two.came page (omega (arith, some, none)) in ((free_first page is.0.0, is.0.1), is.1)
    ]

    unfoldable pub counts_more : Counts g u (names ++ more) used refs after later
    counts_more = record {
      nodes = one.nodes ++ two.nodes;
      still = λ unit is. two.still unit (one.still unit is);
      once = λ page. omega (arith, once_both page, times-append page one.nodes two.nodes);
      came = λ page some. came_both page (omega (arith, some, times-append page one.nodes two.nodes));
      listed = λ page area is. elim (two.listed page area is) [
        | inr second ↦ inr (omega (arith, second, times-append page one.nodes two.nodes))
        | inl then ↦ elim (one.listed page area then) [
          | inr first ↦ inr (omega (arith, first, times-append page one.nodes two.nodes))
          | inl was ↦ inl was
        ]
      ];
      counted = λ unit is. elim (two.counted unit is) [
        | inr second ↦ inr second
        | inl then ↦ elim (one.counted unit then) [
          | inr first ↦ inr (omega (arith, first, two.owners unit))
          | inl was ↦ inl was
        ]
      ];
      owners = λ unit. omega (arith, one.owners unit, two.owners unit, times-append unit names more, named_more unit one.nodes two.nodes);
    }

  -- ---- a unit that is met, and the walk below it

  pairs_named : (before : ℕ) (pairs : List Pair) → row_pages (parts_of before pairs) ≡ map page_of_pair pairs
  pairs_named before [] = refl
  pairs_named before (pair ∷ pairs) = ap (λ rest. pair.page.0 ∷ rest) (pairs_named pair.count pairs)

  -- the page where it is a node
  abbrev node_here : ℕ → ℕ → List ℕ
  node_here zero page = []
  node_here (suc l) page = page ∷ []

  -- what it names is the row below it
  row_named : (level page unit : ℕ) → times unit (row_pages (row_at u level page)) ≡ times unit (all_named u (node_here level page))
  row_named zero page unit = refl
  row_named (suc l) page unit = ap (times unit) (pairs_named 0 (pairs_on (u page))) ∙ sym (omega (arith, times-append unit (named_on u page) []))

  here_once : (level page unit : ℕ) → times unit (node_here level page) ≤ 1
  here_once zero page unit = omega arith
  here_once (suc l) page unit = elim (same_or_not unit page) [
    | inl same ↦ omega (arith, times_here unit page [] same)
    | inr differ ↦ omega (arith, times_apart unit page [] differ)
  ]

  here_page : (level page unit : ℕ) → StandsAt g u level page → 1 ≤ times unit (node_here level page) → (unit ≡ page) × InPageArea g unit
  here_page zero page unit at some = absurd (omega (arith, some))
  here_page (suc l) page unit at some = elim (same_or_not unit page) [
    | inl same ↦ (same, subst (InPageArea g) (sym same) at.0)
    | inr differ ↦ absurd (omega (arith, some, times_apart unit page [] differ))
  ]

  page_here : (level page : ℕ) → StandsAt g u level page → InPageArea g page → 1 ≤ times page (node_here level page)
  page_here zero page at area = absurd (page_or_leaf g page area at)
  page_here (suc l) page at area = omega (arith, times_here page page [] refl)

  module _ (level page : ℕ) (met : Met) (row : List Part) (used mid after : ℕ → Bool) (known start : Notes) (refs later : ℕ → ℕ) (few : (p : ℕ) → refs p ≤ refs_most)
      (below : Counts g u (row_pages row) mid (counted_at refs page) after later) where
    counts_again : MetAgain level page met row used known mid start → Counts g u (page ∷ []) used refs after later
    counts_again h =
        let same = h.same_units in
        record {
          nodes = below.nodes;
          still = λ p is. below.still p (ap (λ (f : ℕ → Bool). f p) same ∙ is);
          once = below.once;
          came = λ p some. let is = below.came p some in ((sym (ap (λ (f : ℕ → Bool). f p) same) ∙ is.0.0, is.0.1), is.1);
          listed = λ p area is. elim (below.listed p area is) [
            | inl then ↦ inl (sym (ap (λ (f : ℕ → Bool). f p) same) ∙ then)
            | inr listed ↦ inr listed
          ];
          counted = λ p is. elim (below.counted p is) [
            | inl then ↦ inl (sym (ap (λ (f : ℕ → Bool). f p) same) ∙ then)
            | inr some ↦ inr some
          ];
          owners = λ p. omega (arith, below.owners p, added refs page p (few p), ap (λ (xs : List Part). times p (row_pages xs)) h.nothing);
        }

    module _ (h : MetFirst g u level page met row used known mid start) where
      at : StandsAt g u level page
      at = subst (λ l. StandsAt g u l page) h.first.level_is h.first.note.at

      -- at the page, and elsewhere
      came_or_was : (p : ℕ) → mid p ≡ true → (p ≡ page) ⊎ (used p ≡ true)
      came_or_was p is = elim (same_or_not p page) [
        | inl same ↦ inl same
        | inr differ ↦ inr (sym (h.other_units p (not_equal page p (λ same. differ (sym same)))) ∙ is)
      ]

      free_before : (p : ℕ) → mid p ≡ false → used p ≡ false
      free_before p is = elim (same_or_not p page) [
        | inl same ↦ absurd (both (mid page) h.taken (ap mid (sym same) ∙ is))
        | inr differ ↦ sym (h.other_units p (not_equal page p (λ same. differ (sym same)))) ∙ is
      ]

      abbrev nodes : List ℕ
      nodes = node_here level page ++ below.nodes

      first_once : (p : ℕ) → times p (node_here level page) + times p below.nodes ≤ 1
      first_once p = elim (none_or_some (times p (node_here level page))) [
        | inl none ↦ omega (arith, none, below.once p)
        | inr some ↦ elim (none_or_some (times p below.nodes)) [
          | inl none ↦ omega (arith, none, here_once level page p)
          | inr again ↦ absurd (both (mid p) (ap mid (here_page level page p at some).0 ∙ h.taken) (below.came p again).0.0)
        ]
      ]

      first_came : (p : ℕ) → 1 ≤ times p (node_here level page) + times p below.nodes → Came used after p × InPageArea g p
      first_came p some = elim (none_or_some (times p (node_here level page))) [
        | inr here ↦
            let is = here_page level page p at here in
            ((ap used is.0 ∙ h.first.free, ap after is.0 ∙ below.still page h.taken), is.1)
        | inl none ↦ let is = below.came p (omega (arith, some, none)) in ((free_before p is.0.0, is.0.1), is.1)
      ]

      counts_first : Counts g u (page ∷ []) used refs after later
      counts_first = record {
        nodes = nodes;
        still = λ p is. below.still p (elim (same_or_not p page) [
          | inl same ↦ ap mid same ∙ h.taken
          | inr differ ↦ h.other_units p (not_equal page p (λ same. differ (sym same))) ∙ is
        ]);
        once = λ p. omega (arith, first_once p, times-append p (node_here level page) below.nodes);
        came = λ p some. first_came p (omega (arith, some, times-append p (node_here level page) below.nodes));
        listed = λ p area is. elim (below.listed p area is) [
          | inr listed ↦ inr (omega (arith, listed, times-append p (node_here level page) below.nodes))
          | inl then ↦ elim (came_or_was p then) [
            | inr was ↦ inl was
            | inl same ↦
                let here : 1 ≤ times p (node_here level page) = subst (λ q. 1 ≤ times q (node_here level page)) (sym same) (page_here level page at (subst (InPageArea g) same area)) in
                inr (omega (arith, here, times-append p (node_here level page) below.nodes))
          ]
        ];
        counted = λ p is. elim (below.counted p is) [
          | inr some ↦ inr some
          | inl then ↦ elim (came_or_was p then) [
            | inr was ↦ inl was
            | inl same ↦ inr (subst (λ q. 1 ≤ later q) (sym same) (omega (arith, below.owners page, counted_here refs page)))
          ]
        ];
        owners = λ p. omega (arith, below.owners p, added refs page p (few p), ap (λ (xs : List Part). times p (row_pages xs)) h.first.below_is, row_named level page p, named_more p (node_here level page) below.nodes);
      }

    pub counts_then : Meets g u level page met row used known mid start → Counts g u (page ∷ []) used refs after later
    counts_then meets = elim meets [
      | inl again ↦ counts_again again
      | inr first ↦ counts_first first
    ]

  -- ---- units that have a note are those that are counted

  pub met_none : (used : ℕ → Bool) (refs : ℕ → ℕ) (noted : Notes) → ((unit : ℕ) → refs unit ≤ refs_most) → CountsMet g u [] used refs used refs noted
  met_none used refs noted few = record { counts = counts_none used refs few; others = λ unit. inl refl }

  pub met_more : (names more : List ℕ) (used mid after : ℕ → Bool) (refs between later : ℕ → ℕ) (noted final : Notes)
      → ((p : ℕ) → IsKnown noted p → IsKnown final p)
      → CountsMet g u names used refs mid between noted → CountsMet g u more mid between after later final → CountsMet g u (names ++ more) used refs after later final
  met_more names more used mid after refs between later noted final notes one two = record {
    counts = counts_more names more used mid after refs between later one.counts two.counts;
    others = λ unit. elim (two.others unit) [
      | inr second ↦ inr second
      | inl same ↦ elim (one.others unit) [
        | inr first ↦ inr (notes unit first)
        | inl before ↦ inl (same ∙ before)
      ]
    ];
  }

  pub met_then : (level page : ℕ) (met : Met) (row : List Part) (used mid after : ℕ → Bool) (known start noted : Notes) (refs between later : ℕ → ℕ)
      → ((p : ℕ) → refs p ≤ refs_most) → IsKnown noted page → between ≡ counted_at refs page
      → Meets g u level page met row used known mid start → CountsMet g u (row_pages row) mid between after later noted → CountsMet g u (page ∷ []) used refs after later noted
  met_then level page met row used mid after known start noted refs between later few note same meets below = record {
    counts = counts_then level page met row used mid after known start refs later few (subst (λ (f : ℕ → ℕ). Counts g u (row_pages row) mid f after later) same below.counts) meets;
    others = λ unit. elim (below.others unit) [
      | inr is ↦ inr is
      | inl then ↦ elim (same_or_not unit page) [
        | inl here ↦ inr (subst (IsKnown noted) (sym here) note)
        | inr differ ↦ inl (then ∙ ap (λ (f : ℕ → ℕ). f unit) same ∙ counted_else refs page unit differ)
      ]
    ];
  }
