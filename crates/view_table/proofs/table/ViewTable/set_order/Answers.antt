use Rattle.std.proofs.Common.{◌≡◌, true, false, nat_le, length, take, refl, sym, ap, subst, ◌∙◌, arith}
use Rattle.std.specs.List.{list_any}
use Rattle.gfx_model.specs.Views.{view_count}
use Rattle.view_table.specs.Order.{AreBelow, in_order}
use Rattle.view_table.proofs.Kept.{count_is, refused_stranger, refused_repeat, accepted_order, below_from_any, most_of, written, new_order_kept, new_order_seen}
use Rattle.view_table.proofs.table.ViewTable.set_order.Goals as goal

pub returns-then-has_stranger : goal.returns-then-has_stranger
returns-then-has_stranger c =
    let any : list_any (λ v. nat_le c.len.result v) c.args.ids.now ≡ true = sym c.has_stranger.ensures ∙ c.if-has_stranger.true in
    let count : view_count c.args.self.now ≡ c.len.result
    = count_is c.self.inside.settings.items (take c.self.inside.listed c.self.inside.sequence.items) c.args.self.now c.len.result c.self.view_is (omega (arith, c.len.ensures)) in
    (refused_stranger c.args.self.now c.len.result c.args.ids.now count any, refl)

pub returns-in-None : goal.returns-in-None
returns-in-None c =
    let any : list_any (λ v. nat_le c.len.result v) c.args.ids.now ≡ false = sym c.has_stranger.ensures ∙ c.if-has_stranger.false in
    let count : view_count c.args.self.now ≡ c.len.result
    = count_is c.self.inside.settings.items (take c.self.inside.listed c.self.inside.sequence.items) c.args.self.now c.len.result c.self.view_is (omega (arith, c.len.ensures)) in
    (refused_repeat c.args.self.now c.len.result c.args.ids.now count any c.in-None.ensures, refl)

pub named_once-requires : goal.named_once-requires
named_once-requires c =
    let any : list_any (λ v. nat_le c.len.result v) c.args.ids.now ≡ false = sym c.has_stranger.ensures ∙ c.if-has_stranger.false in
    λ i h. omega (arith, below_from_any c.len.result c.args.ids.now any i h, most_of (length c.self.inside.settings.items) c.self.invariant.0, c.len.ensures)

pub invariant_of-self : goal.invariant_of-self
invariant_of-self c =
    let any : list_any (λ v. nat_le c.len.result v) c.args.ids.now ≡ false = sym c.has_stranger.ensures ∙ c.if-has_stranger.false in
    let long : c.len.result ≡ length c.self.inside.settings.items = omega (arith, c.len.ensures) in
    let below : AreBelow (length c.self.inside.settings.items) c.args.ids.now = subst (λ n. AreBelow n c.args.ids.now) long (below_from_any c.len.result c.args.ids.now any) in
    let same : length c.deref_mut.result.now ≡ length c.self.inside.settings.items = ap length c.deref_mut.ensures.value ∙ c.self.invariant.1.sequence_length in
    let sequence : length c.put_in_order.new.sequence ≡ c.self.inside.sequence.len = omega (arith, c.put_in_order.auto.sequence, c.deref_mut.ensures.len) in
    let positions : length c.put_in_order.new.positions ≡ c.self.inside.positions.len = omega (arith, c.put_in_order.auto.positions, c.deref_mut-in-Some.ensures.len) in (
      c.self.invariant.0,
      rw (
        written c.self.inside.sequence.len c.put_in_order.new.sequence c.self.inside.sequence.items sequence (omega arith),
        written c.self.inside.positions.len c.put_in_order.new.positions c.self.inside.positions.items positions (omega arith),
      )
          (new_order_kept (length c.self.inside.settings.items) c.args.ids.now c.put_in_order.new.sequence c.put_in_order.new.positions below c.in-Some.ensures.0
          (c.put_in_order.ensures.sequence ∙ ap (λ n. in_order n c.args.ids.now) same) (omega (arith, positions, c.self.invariant.1.positions_length))
          (λ v h. c.put_in_order.ensures.positions v (omega (arith, h, same)))),
    )

pub returns-in-Some : goal.returns-in-Some
returns-in-Some c =
    let any : list_any (λ v. nat_le c.len.result v) c.args.ids.now ≡ false = sym c.has_stranger.ensures ∙ c.if-has_stranger.false in
    let count : view_count c.args.self.now ≡ c.len.result
    = count_is c.self.inside.settings.items (take c.self.inside.listed c.self.inside.sequence.items) c.args.self.now c.len.result c.self.view_is (omega (arith, c.len.ensures)) in
    let sequence : length c.put_in_order.new.sequence ≡ c.self.inside.sequence.len = omega (arith, c.put_in_order.auto.sequence, c.deref_mut.ensures.len) in (
      accepted_order c.args.self.now c.len.result c.args.ids.now count any c.in-Some.ensures.0,
      rw (written c.self.inside.sequence.len c.put_in_order.new.sequence c.self.inside.sequence.items sequence (omega arith))
          (new_order_seen c.self.inside.settings.items (take c.self.inside.listed c.self.inside.sequence.items) c.args.ids.now c.put_in_order.new.sequence c.args.self.now
          (length c.deref_mut.result.now) c.self.view_is c.put_in_order.ensures.sequence),
    )
