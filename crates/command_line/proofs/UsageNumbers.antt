-- The numbers that the text for usage names are the limits of the grammar.
use Rattle.std.proofs.Common.{ℕ, ◌≡◌, ◌≤◌, sym, ap, subst, refl, true, true≢false, Option, Some, None, List, [], ◌∷◌, inl, inr, arith, IfSome, unwrap_or}
use Rattle.std.specs.Prelude.{IsSome, ◌↔◌, codes}
use Rattle.std.specs.List.{AllByRecursion}
use Rattle.std.proofs.lemmas.Bool.Decides.{nat_tests}
use Rattle.ex_base.specs.Limits.{is_page_size, fan_most}
use Rattle.ex_base.specs.declared.geometry.Geometry.{Geometry}
use Rattle.command_words.specs.Items.{Item, number_given}
use Rattle.command_words.specs.Wishes.{Gives, GivesGenerator, IsGeometryOf, command_of}
use Rattle.command_words.specs.declared.commands.CommandWord.{CommandWord}
use Rattle.command_words.specs.declared.commands.CommandWord.TheVariants as word
use Rattle.command_words.specs.declared.wish.Wish.{Wish}
use Rattle.command_words.specs.declared.wish.Wish.TheVariants.{Format, Run, Check, Gen, Clients, Dump, Load, Pack}
use Rattle.command_line.specs.UsageText.{FromTo, FromToShare, OneOf, options_told}
use Rattle.command_line.specs.UsageLaws.{AskFor, Have, IsOneOf, Keeps, page_size_in}

abbrev Kept : CommandWord → List Item → Type 0
Kept command items = AllByRecursion (Keeps items) (options_told command)

-- ---- an option's number, given or not

if_given : (o : Option ℕ) (field default : ℕ) (P : ℕ → Type 0) → field ≡ unwrap_or o default → P field → IfSome o P
if_given None field default P is h = tt
if_given (Some n) field default P is h = subst P is h

if_known : (o : Option ℕ) (n : ℕ) (P : ℕ → Type 0) → o ≡ Some n → P n → IfSome o P
if_known None n P is h = absurd (cc)
if_known (Some m) n P is h = let same : n ≡ m = cc in subst P same h

any_number : (o : Option ℕ) → IfSome o (λ n. Unit {0})
any_number None = tt
any_number (Some n) = tt

or_default : (o : Option ℕ) (default : ℕ) (P : ℕ → Type 0) → IfSome o P → P default → P (unwrap_or o default)
or_default None default P h by_default = by_default
or_default (Some n) default P h by_default = h

-- ---- page sizes

abbrev sizes : List ℕ
sizes = 512 ∷ 1024 ∷ 2048 ∷ 4096 ∷ 8192 ∷ []

one_of_sizes : (n : ℕ) → is_page_size n ≡ true → IsOneOf sizes n
one_of_sizes n is = grind (arith, nat_tests)

a_size : (n : ℕ) → IsOneOf sizes n → is_page_size n ≡ true
a_size n (inl is) = ap is_page_size is
a_size n (inr (inl is)) = ap is_page_size is
a_size n (inr (inr (inl is))) = ap is_page_size is
a_size n (inr (inr (inr (inl is)))) = ap is_page_size is
a_size n (inr (inr (inr (inr (inl is))))) = ap is_page_size is
a_size n (inr (inr (inr (inr (inr none))))) = absurd none

-- the largest fan of each is no less than the least one
two_fit : (n : ℕ) → IsOneOf sizes n → 2 ≤ fan_most n
two_fit n (inl is) = subst (λ (k : ℕ). 2 ≤ fan_most k) (sym is) (omega arith)
two_fit n (inr (inl is)) = subst (λ (k : ℕ). 2 ≤ fan_most k) (sym is) (omega arith)
two_fit n (inr (inr (inl is))) = subst (λ (k : ℕ). 2 ≤ fan_most k) (sym is) (omega arith)
two_fit n (inr (inr (inr (inl is)))) = subst (λ (k : ℕ). 2 ≤ fan_most k) (sym is) (omega arith)
two_fit n (inr (inr (inr (inr (inl is))))) = subst (λ (k : ℕ). 2 ≤ fan_most k) (sym is) (omega arith)
two_fit n (inr (inr (inr (inr (inr none))))) = absurd none

-- ---- `format`

module _ (items : List Item) where
  by_geometry : (g : Geometry)
      → IsGeometryOf (number_given (codes "page-size") items) (number_given (codes "pages") items) (number_given (codes "segs") items) (number_given (codes "seg-len") items) (number_given (codes "fan") items) g
      → Kept word.Format items
  by_geometry g is = (
    record {
      wanted = λ must. absurd (true≢false (sym must));
      numbers = if_given (number_given (codes "page-size") items) g.page_size 4096 (Have (OneOf sizes) (page_size_in items)) is.page_size_is (one_of_sizes g.page_size g.a_page_size);
    },
    (
      record {
        wanted = λ must. absurd (true≢false (sym must));
        numbers = if_given (number_given (codes "pages") items) g.pages 4096 (Have (FromTo 1 4000000) (page_size_in items)) is.pages_are (g.some_pages, g.few_pages);
      },
      (
        record {
          wanted = λ must. absurd (true≢false (sym must));
          numbers = if_given (number_given (codes "segs") items) g.segs 16384 (Have (FromTo 0 4000000) (page_size_in items)) is.segs_are (omega arith, g.few_segs);
        },
        (
          record {
            wanted = λ must. absurd (true≢false (sym must));
            numbers = if_given (number_given (codes "seg-len") items) g.seg_len 1 (Have (FromTo 1 16) (page_size_in items)) is.seg_len_is (g.some_length, g.short);
          },
          (
            record {
              wanted = λ must. absurd (true≢false (sym must));
              numbers = if_given (number_given (codes "fan") items) g.fan (fan_most g.page_size) (Have (FromToShare 2 20 24) (page_size_in items)) is.fan_is
                  (g.two, subst (λ (p : ℕ). g.fan ≤ fan_most p) is.page_size_is g.narrow);
            },
            tt,
          ),
        ),
      ),
    ),
  )

  geometry_for : Kept word.Format items → Geometry
  geometry_for (size, (pages, (segs, (len, (fan, none))))) =
      let p : ℕ = page_size_in items in
      let size_told : IsOneOf sizes p = or_default (number_given (codes "page-size") items) 4096 (IsOneOf sizes) size.numbers (inr (inr (inr (inl refl)))) in
      let pages_told = or_default (number_given (codes "pages") items) 4096 (Have (FromTo 1 4000000) p) pages.numbers (omega arith, omega arith) in
      let segs_told = or_default (number_given (codes "segs") items) 16384 (Have (FromTo 0 4000000) p) segs.numbers (omega arith, omega arith) in
      let len_told = or_default (number_given (codes "seg-len") items) 1 (Have (FromTo 1 16) p) len.numbers (omega arith, omega arith) in
      let fan_told = or_default (number_given (codes "fan") items) (fan_most p) (Have (FromToShare 2 20 24) p) fan.numbers (two_fit p size_told, omega arith) in record {
        page_size = p;
        pages = unwrap_or (number_given (codes "pages") items) 4096;
        segs = unwrap_or (number_given (codes "segs") items) 16384;
        seg_len = unwrap_or (number_given (codes "seg-len") items) 1;
        fan = unwrap_or (number_given (codes "fan") items) (fan_most p);
        a_page_size = a_size p size_told;
        some_pages = pages_told.0;
        few_pages = pages_told.1;
        few_segs = segs_told.1;
        some_length = len_told.0;
        short = len_told.1;
        two = fan_told.0;
        narrow = fan_told.1;
      }

  format_asks : Kept word.Format items → AskFor word.Format items
  unfolding geometry_for
  format_asks kept = record {
    wish = Format (geometry_for kept);
    command_is = refl;
    gives = record { page_size_is = refl; pages_are = refl; segs_are = refl; seg_len_is = refl; fan_is = refl };
  }

  -- ---- `gen`

  by_generator : (seed count : ℕ) → GivesGenerator items seed count → Kept word.Gen items
  by_generator seed count is = (
    record { wanted = λ must. subst IsSome (sym is.seed_is) refl; numbers = any_number (number_given (codes "seed") items) },
    (
      record {
        wanted = λ must. subst IsSome (sym is.count_is) refl;
        numbers = if_known (number_given (codes "count") items) count (Have (FromTo 1 1000000) (page_size_in items)) is.count_is (is.some, is.most);
      },
      tt,
    ),
  )

  gen_asks : (seed count : Option ℕ) → number_given (codes "seed") items ≡ seed → number_given (codes "count") items ≡ count → IsSome seed → IsSome count
      → IfSome count (Have (FromTo 1 1000000) (page_size_in items)) → AskFor word.Gen items
  gen_asks None count seed_is count_is some_seed some_count told = absurd (true≢false (sym some_seed))
  gen_asks (Some seed) None seed_is count_is some_seed some_count told = absurd (true≢false (sym some_count))
  gen_asks (Some seed) (Some count) seed_is count_is some_seed some_count told = record {
    wish = Gen seed count;
    command_is = refl;
    gives = record { seed_is = seed_is; count_is = count_is; some = told.0; most = told.1 };
  }

  -- ---- each command

  by_wish : (command : CommandWord) (wish : Wish) → command_of wish ≡ command → Gives items wish → Kept command items
  by_wish word.Format (Format g) is gives = by_geometry g gives
  by_wish word.Format (Run most) is gives = absurd (cc)
  by_wish word.Format Check is gives = absurd (cc)
  by_wish word.Format (Gen seed count) is gives = absurd (cc)
  by_wish word.Format (Clients most) is gives = absurd (cc)
  by_wish word.Format Dump is gives = absurd (cc)
  by_wish word.Format Load is gives = absurd (cc)
  by_wish word.Format Pack is gives = absurd (cc)
  by_wish word.Run (Format g) is gives = absurd (cc)
  by_wish word.Run (Run most) is gives = (record { wanted = λ must. absurd (true≢false (sym must)); numbers = any_number (number_given (codes "max-bytes") items) }, tt)
  by_wish word.Run Check is gives = absurd (cc)
  by_wish word.Run (Gen seed count) is gives = absurd (cc)
  by_wish word.Run (Clients most) is gives = absurd (cc)
  by_wish word.Run Dump is gives = absurd (cc)
  by_wish word.Run Load is gives = absurd (cc)
  by_wish word.Run Pack is gives = absurd (cc)
  by_wish word.Check wish is gives = tt
  by_wish word.Gen (Format g) is gives = absurd (cc)
  by_wish word.Gen (Run most) is gives = absurd (cc)
  by_wish word.Gen Check is gives = absurd (cc)
  by_wish word.Gen (Gen seed count) is gives = by_generator seed count gives
  by_wish word.Gen (Clients most) is gives = absurd (cc)
  by_wish word.Gen Dump is gives = absurd (cc)
  by_wish word.Gen Load is gives = absurd (cc)
  by_wish word.Gen Pack is gives = absurd (cc)
  by_wish word.Clients (Format g) is gives = absurd (cc)
  by_wish word.Clients (Run most) is gives = absurd (cc)
  by_wish word.Clients Check is gives = absurd (cc)
  by_wish word.Clients (Gen seed count) is gives = absurd (cc)
  by_wish word.Clients (Clients most) is gives = (record { wanted = λ must. absurd (true≢false (sym must)); numbers = any_number (number_given (codes "max-bytes") items) }, tt)
  by_wish word.Clients Dump is gives = absurd (cc)
  by_wish word.Clients Load is gives = absurd (cc)
  by_wish word.Clients Pack is gives = absurd (cc)
  by_wish word.Dump wish is gives = tt
  by_wish word.Load wish is gives = tt
  by_wish word.Pack wish is gives = tt

  kept_asks : (command : CommandWord) → Kept command items → AskFor command items
  kept_asks word.Format kept = format_asks kept
  kept_asks word.Run kept = record { wish = Run (unwrap_or (number_given (codes "max-bytes") items) 1099511627776); command_is = refl; gives = refl }
  kept_asks word.Check kept = record { wish = Check; command_is = refl; gives = tt }
  kept_asks word.Gen (seed, (count, none)) = gen_asks (number_given (codes "seed") items) (number_given (codes "count") items) refl refl (seed.wanted refl) (count.wanted refl) count.numbers
  kept_asks word.Clients kept = record { wish = Clients (unwrap_or (number_given (codes "max-bytes") items) 1099511627776); command_is = refl; gives = refl }
  kept_asks word.Dump kept = record { wish = Dump; command_is = refl; gives = tt }
  kept_asks word.Load kept = record { wish = Load; command_is = refl; gives = tt }
  kept_asks word.Pack kept = record { wish = Pack; command_is = refl; gives = tt }

  pub tells : (command : CommandWord) → AskFor command items ↔ Kept command items
  tells command = (λ asks. by_wish command asks.wish asks.command_is asks.gives, kept_asks command)
