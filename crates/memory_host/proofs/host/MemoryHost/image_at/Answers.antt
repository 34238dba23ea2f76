use Rattle.std.proofs.Common.{◌≡◌, ◌≤◌, ◌∙◌, sym, ap, subst, refl, ℕ, List, take, length, rules, arith}
use Rattle.std.proofs.lemmas.List.{with_items_is}
use Rattle.std.proofs.lemmas.List.Elements.{All-take}
use Rattle.ex_base.specs.Bytes.{IsBytes}
use Rattle.memory_host.specs.Host.{state_at}
use Rattle.memory_host.specs.Replay.{end_of, image_of, replayed}
use Rattle.memory_host.specs.declared.host.Call.{Call}
use Rattle.memory_host.proofs.Images.{kept_replayed, chosen_image}
use Rattle.memory_host.proofs.host.MemoryHost.image_at.Goals as goal

pub returns-clause-chosen : goal.returns-clause-chosen
returns-clause-chosen c =
    let self = c.args.self.now in
    let started : c.in_ok-image.image.items ≡ self.start.items = search rules in
    let long : length c.lay_image.new.image ≡ c.in_ok-image.image.len = omega (arith, c.lay_image.auto.image, c.deref_mut.ensures.len) in
    with_items_is c.in_ok-image.image c.lay_image.new.image long
    ∙ c.lay_image.ensures.chosen
    ∙ ap (λ (start : List ℕ). image_of c.args.choice (replayed start (take c.args.moment c.deref-2.result.now))) (c.deref_mut.ensures.value ∙ started)
    ∙ ap (λ (calls : List Call). image_of c.args.choice (replayed self.start.items (take c.args.moment calls))) c.deref-2.ensures.value

pub returns-clause-left : goal.returns-clause-left
returns-clause-left c =
    let self = c.args.self.now in
    let long : length c.lay_image.new.image ≡ c.in_ok-image.image.len = omega (arith, c.lay_image.auto.image, c.deref_mut.ensures.len) in
    let kept = kept_replayed self.start.items (take c.args.moment self.calls.items) (All-take (λ call. end_of call ≤ length self.start.items) c.args.moment self.calls.items self.inside) in
    chosen_image (length self.start.items) c.args.choice (state_at self c.args.moment) _ kept (returns-clause-chosen c) (subst IsBytes (sym (with_items_is c.in_ok-image.image c.lay_image.new.image long)) c.lay_image.ensures.bytes)

pub returns-clause-moment : goal.returns-clause-moment
returns-clause-moment c t since = record {
  call = c.args.moment;
  since = since;
  made = c.requires;
  sent = refl;
  image = returns-clause-left c;
}
