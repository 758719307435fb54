use Rattle.std.proofs.Common.{◌≡◌, ap, sym, subst, [], ◌∷◌, ◌∙◌, List}
use Rattle.std.specs.List.{cons_option}
use Rattle.gfx_model.specs.Views.{view_count}
use Rattle.shared_keys.specs.declared.marks.Mark.{Mark}
use Rattle.shared_keys.specs.Marks.{IsThere}
use Rattle.draw_encoder.specs.declared.items.Item.{Item}
use Rattle.draw_encoder.specs.declared.items.UniformSet.{UniformSet}
use Rattle.draw_encoder.specs.Seen.{item_seen, touch_seen}
use Rattle.gfx_model.specs.World.{touch_item}
use Rattle.recorded_keys.specs.Recorded.{marks_of_item}
use Rattle.recorded_keys.proofs.marking.mark.Goals as goal

pub returns-in-Draw : goal.returns-in-Draw
returns-in-Draw c =
    subst (λ (i : Item). IsThere (view_count c.args.views.now) (item_seen c.args.recording.now.bytes c.args.recording.now.uniforms i)
    → cons_option c.draw_mark.result [] ≡ marks_of_item c.args.views.now c.args.recording.now.encoder (item_seen c.args.recording.now.bytes c.args.recording.now.uniforms i))
    (sym c.in-Draw.is) (c.draw_mark.ensures c.args.recording.now.bytes c.args.recording.now.uniforms)

pub returns-in-Touch : goal.returns-in-Touch
returns-in-Touch c =
    subst (λ (i : Item). IsThere (view_count c.args.views.now) (item_seen c.args.recording.now.bytes c.args.recording.now.uniforms i)
    → cons_option c.touch_mark.result [] ≡ marks_of_item c.args.views.now c.args.recording.now.encoder (item_seen c.args.recording.now.bytes c.args.recording.now.uniforms i))
    (sym c.in-Touch.is)
    (subst (λ (sets : List UniformSet). IsThere (view_count c.args.views.now) (touch_item (touch_seen sets c.in-Touch.touch))
    → cons_option c.touch_mark.result [] ≡ marks_of_item c.args.views.now c.args.recording.now.encoder (touch_item (touch_seen sets c.in-Touch.touch)))
    c.as_slice.ensures (c.touch_mark.ensures c.args.recording.now.bytes))

pub returns-in-Blit : goal.returns-in-Blit
returns-in-Blit c = λ there. ap (λ (m : Mark). m ∷ []) c.blit_mark.ensures ∙ ap (λ (i : Item). marks_of_item c.args.views.now c.args.recording.now.encoder (item_seen c.args.recording.now.bytes c.args.recording.now.uniforms i)) (sym c.in-Blit.is)
