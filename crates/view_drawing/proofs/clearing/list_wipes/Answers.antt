use Rattle.std.proofs.Common.{◌≡◌, [], ◌∷◌, ◌++◌, map, take, ap, sym, ◌∙◌}
use Rattle.std.proofs.lemmas.List.{map-append}
use Rattle.int_raster.specs.Wiping.{wipe_seen, wipes_seen}
use Rattle.pass_laws.specs.Passed.{Turn}
use Rattle.view_drawing.specs.Cleared.{wiping_of, wipings_of}
use Rattle.view_drawing.specs.Passes.{turn_seen}
use Rattle.view_drawing.proofs.PassLaws.{map_more}
use Rattle.view_drawing.proofs.clearing.list_wipes.Goals as goal

pub loop-one-preserved : goal.loop-one-preserved
loop-one-preserved c =
    let a = c.args in
    let l = c.loop-one in
    let w = c.wipe_of.result in
    let t = turn_seen c.one-item.result in
    let push : c.push.new.self.items ≡ l.wipes.items ++ w ∷ [] = c.in_ok-push.ensures.items in
    ap wipes_seen push
    ∙ map-append wipe_seen l.wipes.items (w ∷ [])
    ∙ (λ i. l.invariant i ++ c.wipe_of.ensures i ∷ [])
    ∙ sym (ap (wipings_of a.width a.height) (map_more turn_seen a.views.now l.one-index c.one-item.result c.loop-one-test.true c.one-item.is)
    ∙ map-append (λ (x : Turn). wiping_of a.width a.height x.view) (map turn_seen (take l.one-index a.views.now)) (t ∷ []))
