use Rattle.std.proofs.Common.{◌≡◌, ◌∙◌, true, false, sym, ap, subst, map}
use Rattle.std.proofs.lemmas.Bool.{and_left, and_right}
use Rattle.std.proofs.lemmas.Result.{on_ok_weaker}
use Rattle.std.specs.Prelude.{◌&&◌}
use Rattle.frame_record.specs.Seen.{recordings_seen}
use Rattle.pixel_ops.specs.Seen.{pixel_seen}
use Rattle.pixel_strokes.specs.Seen.{stroke_seen}
use Rattle.render_stores.specs.Seen.{stores_seen}
use Rattle.store_laws.specs.ByIndex.{Stores}
use Rattle.store_model.specs.Textures.{IsTextures}
use Rattle.trace_lines.specs.Seen.{doer_seen}
use Rattle.view_table.specs.Seen.{view_seen}
use Rattle.frame_steps.specs.Doing.{deed_of_frame, stores_after_some}
use Rattle.target_laws.specs.Targets.{has_pixel, pixel_on}
use Rattle.target_tracing.specs.Placed.{standing_strokes}
use Rattle.target_tracing.specs.Seen.{target_made_seen}
use Rattle.target_tracing.specs.Surfaces.{surface_in}
use Rattle.target_tracing.specs.Tracing.{doer_draws}
use Rattle.target_tracing.proofs.Doings.{adds-own, adds-other}
use Rattle.target_tracing.proofs.tracing.trace_in.Goals as goal
use Rattle.target_tracing.proofs.tracing.trace_in.Goals.{else-draws-via-then-draws+else-has, else-draws-via-else-draws}

pub returns-then-has : goal.returns-then-has
returns-then-has g c =
    let a = c.args in
    let t = a.spot.now.target in
    let rs = recordings_seen a.frame.now.recordings.items in
    let h : Stores = stores_seen a.stores.now in
    let mid : Stores = stores_seen c.pixel_at-before.new.stores in
    let same : mid ≡ h = c.pixel_at-before.ensures.same ∙ c.has_pixel_at-has.ensures.same in
    let deed = deed_of_frame a.frame.now (doer_seen a.doer) in
    let end : Stores = stores_seen c.do_deed.new.stores in
    let done : end ≡ stores_after_some h deed = c.in_ok-do_deed.ensures ∙ ap (λ u. stores_after_some u deed) same in
    on_ok_weaker c.push_own.result
    (λ put. adds-own a.frame.now.views rs t a.spot.now.x a.spot.now.y a.number h (doer_seen a.doer) (view_seen a.view.now) c.requires.there c.requires.own (stores_seen c.do_deed.new.stores) (stores_seen c.own_strokes.new.stores)
    (map target_made_seen a.made.now.items) (map target_made_seen c.push_own.new.made.items) (map stroke_seen c.deref.result.now) (subst (λ (u : Stores). IsTextures u.textures) same c.tell_facts.ensures)
    (sym c.draws_on-draws.ensures ∙ c.if-draws.true) (sym c.has_pixel_at-has.ensures.has ∙ c.if-has.true) done c.own_strokes.ensures.same
    (ap (map stroke_seen) c.deref.ensures.value ∙ c.in_ok-strokes.ensures.strokes ∙ ap (λ i. standing_strokes (surface_in end.textures i) i end (view_seen a.view.now) a.spot.now.x a.spot.now.y rs (doer_seen a.doer)) c.index-index.ensures.same) put)
    c.push_own.ensures

pub returns : goal.returns
returns g c =
    let a = c.args in
    let t = a.spot.now.target in
    let rs = recordings_seen a.frame.now.recordings.items in
    let h : Stores = stores_seen a.stores.now in
    let mid : Stores = stores_seen c.pixel_at-before.new.stores in
    let same : mid ≡ h = c.pixel_at-before.ensures.same ∙ c.has_pixel_at-has.ensures.same in
    let deed = deed_of_frame a.frame.now (doer_seen a.doer) in
    let done : stores_seen c.do_deed.new.stores ≡ stores_after_some h deed = c.in_ok-do_deed.ensures ∙ ap (λ u. stores_after_some u deed) same in
    let draws = doer_draws t (view_seen a.view.now) rs (doer_seen a.doer) in
    let has = has_pixel (surface_in h.textures t.index) a.spot.now.x a.spot.now.y in
    let other : (draws && has) ≡ false = elim c.else-draws.branch [ else-draws-via-then-draws+else-has w ↦ and_right draws has (sym c.has_pixel_at-has.ensures.has ∙ w.if-has.false) | else-draws-via-else-draws w ↦ and_left draws has (sym c.draws_on-draws.ensures ∙ w.if-draws.false) ] in
    on_ok_weaker c.push_left.result
    (λ put. adds-other a.frame.now.views rs t a.spot.now.x a.spot.now.y a.number h (doer_seen a.doer) (view_seen a.view.now) c.requires.there c.requires.own (stores_seen c.do_deed.new.stores) (stores_seen c.pixel_at-after.new.stores)
    (map target_made_seen a.made.now.items) (map target_made_seen c.push_left.new.made.items) (pixel_seen c.pixel_at-before.result) (pixel_seen c.pixel_at-after.result) other done c.pixel_at-after.ensures.same
    (c.pixel_at-before.ensures.pixel ∙ ap (λ (u : Stores). pixel_on (surface_in u.textures t.index) a.spot.now.x a.spot.now.y) c.has_pixel_at-has.ensures.same) c.pixel_at-after.ensures.pixel put)
    c.push_left.ensures
