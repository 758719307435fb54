use Rattle.std.proofs.Common.{◌≡◌, Some, sym, ◌∙◌}
use Rattle.std.specs.Prelude.{option_map}
use Rattle.fix_math.specs.Seen.{texels_seen}
use Rattle.store_model.specs.Slots.{at}
use Rattle.store_model.specs.Textures.{TargetSlot, IsOut}
use Rattle.texture_store.specs.Seen.{sides_seen}
use Rattle.store_model.proofs.AttachLaws.{all_kept}
use Rattle.texture_store.proofs.TakeLaws.{put_out, stays_back, stays_equal, stays_keeps, stays_long, sides_again}
use Rattle.texture_store.proofs.store.TextureStore.put_target.Goals as goal

pub invariant_of-self : goal.invariant_of-self
invariant_of-self c =
    let t : TargetSlot = record { color = c.color.result; depth = c.depth.result } in
    let there : Some t ≡ at c.self.inside.targets c.args.index = (λ i. Some (record { color = c.color.ensures i; depth = c.depth.ensures i })) ∙ c.in-Some.ensures in
    let out : IsOut c.self.inside.textures t (sides_seen c.args.color) (option_map sides_seen c.args.depth) =
    put_out c.args.self.now c.self.inside.textures c.self.inside.targets c.args.index t (sides_seen c.args.color) (option_map sides_seen c.args.depth) c.self.view_is there c.requires.out in
    let stays = stays_equal c.self.inside.textures _ c.put_attached.new.textures
    (stays_back t (texels_seen c.args.color) (option_map texels_seen c.args.depth) c.self.inside.textures (c.self.invariant.attached c.args.index t (sym there)) (sides_again c.self.inside.textures t (sides_seen c.args.color) c.args.depth out))
    c.put_attached.ensures in record {
      textures = stays_long c.self.inside.textures c.put_attached.new.textures stays ∙ c.self.invariant.textures;
      targets = c.self.invariant.targets;
      attached = all_kept c.self.inside.textures c.put_attached.new.textures c.self.inside.targets (stays_keeps c.self.inside.textures c.put_attached.new.textures stays) c.self.invariant.attached;
    }
