use Rattle.std.proofs.Common.{◌≡◌, ℕ, refl, sym, ap, subst, ◌∙◌, arith}
use Rattle.std.specs.Prelude.{Contains}
use Rattle.std.specs.List.{AllByRecursion}
use Rattle.object_records.specs.Reads.{content_of}
use Rattle.history_model.specs.FilePages.{record_size}
use Rattle.history_counts.specs.Pages.{needs_with_record, pages_by}
use Rattle.history_counts.specs.Numbers.{Numbers}
use Rattle.history_items.specs.Reads.{version_of}
use Rattle.history_reads.specs.Kept.{NamesThere}
use Rattle.history_reads.proofs.Filed.{clash, falls, lacks, many, names_there, record_pages, version_refuses, version_takes}
use Rattle.history_reads.proofs.progress.Progress.accept_version.Goals as goal
use Rattle.history_reads.proofs.progress.Progress.accept_version.Goals.{then-not-rise_with-via-then-not-rise_with, then-not-rise_with-via-else-not-rise_with+then-pages-from, else-self-eq0-via-then-self-eq0+else-not-are_olders_there, else-self-eq0-via-else-self-eq0}

pub with_record-needs-requires-clause-few : goal.with_record-needs-requires-clause-few
with_record-needs-requires-clause-few c = let few = c.args.self.now.few_pages in omega arith

pub pages-requires : goal.pages-requires
pages-requires c =
    let few = c.args.self.now.few_pages in
    omega (arith, ap pages_by c.with_record-needs.ensures, record_pages c.args.self.now.geometry.page_size c.args.self.now.needs c.record_len-len.result)

pub returns-then-not-rise_with-clause-refused : goal.returns-then-not-rise_with-clause-refused
returns-then-not-rise_with-clause-refused c = λ e.
    let needs : c.with_record-needs.result ≡ needs_with_record c.args.self.now.geometry.page_size c.args.self.now.needs (record_size (content_of c.args.version.now.content)) =
    c.with_record-needs.ensures ∙ ap (needs_with_record c.args.self.now.geometry.page_size c.args.self.now.needs) c.record_len-len.ensures in
    version_refuses c.args.self.now (version_of c.args.version.now) c.requires.turn (elim c.then-not-rise_with.branch [
      | then-not-rise_with-via-then-not-rise_with w ↦ falls (λ rising. clash c.rise_with.result w.if-not-rise_with.true (c.rise_with.ensures.1 rising))
      | then-not-rise_with-via-else-not-rise_with+then-pages-from w ↦ many (omega (arith, w.pages.ensures, ap pages_by needs, w.from.ensures))
    ])

pub name_leaf-requires : goal.name_leaf-requires
name_leaf-requires c =
    subst (λ (n : ℕ). NamesThere n (content_of c.args.version.now.content)) (sym c.args.self.now.all_longest)
    (names_there c.args.self.now.geometry c.args.self.now.head.leaves c.args.self.now.nodes (content_of c.args.version.now.content) c.requires.content)

pub returns-then-not-are_olders_there-clause-refused : goal.returns-then-not-are_olders_there-clause-refused
returns-then-not-are_olders_there-clause-refused c = λ e.
    let last : c.args.self.now.missing ≡ 1 = let turn = c.requires.turn in let none = c.if-self-eq0.true in omega arith in
    version_refuses c.args.self.now (version_of c.args.version.now) c.requires.turn
    (lacks last (λ all. clash c.are_olders_there.result c.if-not-are_olders_there.true (c.are_olders_there.ensures.1 (subst (λ (n : Numbers). AllByRecursion (Contains n.numbers) n.olders) (sym c.in_ok-push.ensures.noted) all))))

pub returns-clause-takes : goal.returns-clause-takes
returns-clause-takes c =
    let needs : c.with_record-needs.result ≡ needs_with_record c.args.self.now.geometry.page_size c.args.self.now.needs (record_size (content_of c.args.version.now.content)) =
    c.with_record-needs.ensures ∙ ap (needs_with_record c.args.self.now.geometry.page_size c.args.self.now.needs) c.record_len-len.ensures in
    version_takes c.args.self.now _ (version_of c.args.version.now) c.requires.turn
    (λ none. elim c.else-self-eq0.branch [
      | else-self-eq0-via-then-self-eq0+else-not-are_olders_there w ↦ w.are_olders_there.ensures.0 w.if-not-are_olders_there.false
      | else-self-eq0-via-else-self-eq0 w ↦ absurd (w.if-self-eq0.false none)
    ])
    (record {
      geometry = refl;
      head = refl;
      leaves = refl;
      nodes = refl;
      files = refl;
      missing = refl;
      lengths = c.name_leaf.ensures;
      name = refl;
      needs = needs;
      numbers = c.in_ok-push.ensures.noted;
    })
