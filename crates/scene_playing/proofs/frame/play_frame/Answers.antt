use Rattle.std.proofs.Common.{◌≡◌, ◌≤◌, ◌+◌, ℕ, map, length, refl, sym, ap, ◌∙◌, subst, arith, List}
use Rattle.std.specs.List.{AllByRecursion}
use Rattle.std.proofs.lemmas.List.{length-map}
use Rattle.scene_text.specs.Seen.{frame_seen, scene_seen, name_seen, resource_line_seen}
use Rattle.scene_lines.specs.Played.{LinesPlayed}
use Rattle.scene_lines.specs.Names.{LineHasPlace}
use Rattle.scene_playing.specs.Recording.{HasBegun}
use Rattle.scene_playing.specs.Order.{wanted_seen}
use Rattle.scene_playing.proofs.Collecting.{off_kept}
use Rattle.scene_playing.proofs.Jobs.{few_in}
use Rattle.scene_playing.proofs.LineLaws.{number_recorded, places_in, recording_after, recorded_after, recording_now, recorded_now, dropped_now, ended_since, back_since, rest_kept}
use Rattle.scene_playing.proofs.Orders.{allowed_since}
use Rattle.scene_playing.proofs.frame.play_frame.Goals as goal

pub play_lines-requires-clause-places : goal.play_lines-requires-clause-places
play_lines-requires-clause-places g c =
    let s = scene_seen c.args.scene.now in
    let f = frame_seen c.args.frame.now in
    let places = places_in c.places_law.ensures s c.args.context.now.book.resources.frame f c.requires.readable c.requires.there in
    subst (λ n. AllByRecursion (LineHasPlace n) (map resource_line_seen c.as_slice.result.now)) (sym c.requires.at.many)
    (subst (λ ls. AllByRecursion (LineHasPlace (length s.names)) (map resource_line_seen ls)) (sym c.as_slice.ensures) places.before)

pub play_lines-requires-clause-few : goal.play_lines-requires-clause-few
play_lines-requires-clause-few g c =
    let few = (few_in (scene_seen c.args.scene.now) c.args.context.now.book.resources.frame (frame_seen c.args.frame.now) c.requires.bounded c.requires.there).before in
    let many = length-map c.args.frame.now.before resource_line_seen in
    let is = ap length c.as_slice.ensures in
    omega (arith, few, many, is)

pub play_beside-beside-requires-clause-places : goal.play_beside-beside-requires-clause-places
play_beside-beside-requires-clause-places g c =
    let s = scene_seen c.args.scene.now in
    let k = c.args.context.now.book.resources.frame in
    let f = frame_seen c.args.frame.now in
    let first = recording_after s k f c.in_ok-before.before c.args.handles.now c.play_lines.new.handles c.args.context.now c.play_lines.new.calls c.requires.at c.requires.there (subst (λ (ls : List _). LinesPlayed s.names (map resource_line_seen ls) c.in_ok-before.before c.args.context.now.book c.play_lines.new.calls.book c.args.handles.now c.play_lines.new.handles) c.as_slice.ensures (subst (λ (ns : List _). LinesPlayed (map name_seen ns) (map resource_line_seen c.as_slice.result.now) c.in_ok-before.before c.args.context.now.book c.play_lines.new.calls.book c.args.handles.now c.play_lines.new.handles) c.as_slice-names.ensures c.in_ok-before.ensures.played)) c.play_lines.ensures.rest in
    let places = places_in c.places_law.ensures s k f c.requires.readable c.requires.there in
    subst (λ n. AllByRecursion (LineHasPlace n) f.beside) (sym first.3) places.beside

pub play_beside-beside-requires-clause-few : goal.play_beside-beside-requires-clause-few
play_beside-beside-requires-clause-few g c = few_in (scene_seen c.args.scene.now) c.args.context.now.book.resources.frame (frame_seen c.args.frame.now) c.requires.bounded c.requires.there

pub returns-clause-ended : goal.returns-clause-ended
returns-clause-ended g c =
    let s = scene_seen c.args.scene.now in
    let k = c.args.context.now.book.resources.frame in
    let f = frame_seen c.args.frame.now in
    let first = recording_after s k f c.in_ok-before.before c.args.handles.now c.play_lines.new.handles c.args.context.now c.play_lines.new.calls c.requires.at c.requires.there (subst (λ (ls : List _). LinesPlayed s.names (map resource_line_seen ls) c.in_ok-before.before c.args.context.now.book c.play_lines.new.calls.book c.args.handles.now c.play_lines.new.handles) c.as_slice.ensures (subst (λ (ns : List _). LinesPlayed (map name_seen ns) (map resource_line_seen c.as_slice.result.now) c.in_ok-before.before c.args.context.now.book c.play_lines.new.calls.book c.args.handles.now c.play_lines.new.handles) c.as_slice-names.ensures c.in_ok-before.ensures.played)) c.play_lines.ensures.rest in
    let all : c.record_blocks-all.new.context.begun ≡ s.encoders = c.record_blocks-all.ensures.all c.in-Ok.ensures.played.0 in
    let begun : HasBegun s.encoders c.play_lines.new.calls c.record_blocks-all.new.context = subst (λ n. HasBegun n c.play_lines.new.calls c.record_blocks-all.new.context) all c.record_blocks-all.ensures.same in
    let last = recorded_after s k f c.in-Ok.beside c.play_lines.new.handles c.play_beside-beside.new.handles c.play_lines.new.calls c.record_blocks-all.new.context c.play_beside-beside.new.context first.0 begun c.in-Ok.ensures.played.1 c.play_beside-beside.ensures.rest first.3 in
    let kept = rest_kept s.encoders c.args.context.now c.play_lines.new.calls c.record_blocks-all.new.context c.play_beside-beside.new.context c.play_lines.ensures.rest begun c.play_beside-beside.ensures.rest in
    ended_since c.end_frame.result s c.play_beside-beside.new.context.book.resources.frame k f c.play_beside-beside.new.handles c.args.context.now c.play_beside-beside.new.context c.end_frame.new.context
    (number_recorded s k f c.play_beside-beside.new.handles c.play_beside-beside.new.context last.0) kept.0 c.end_frame.ensures.ended

pub returns-clause-back : goal.returns-clause-back
returns-clause-back g c =
    let s = scene_seen c.args.scene.now in
    let k = c.args.context.now.book.resources.frame in
    let f = frame_seen c.args.frame.now in
    let first = recording_after s k f c.in_ok-before.before c.args.handles.now c.play_lines.new.handles c.args.context.now c.play_lines.new.calls c.requires.at c.requires.there (subst (λ (ls : List _). LinesPlayed s.names (map resource_line_seen ls) c.in_ok-before.before c.args.context.now.book c.play_lines.new.calls.book c.args.handles.now c.play_lines.new.handles) c.as_slice.ensures (subst (λ (ns : List _). LinesPlayed (map name_seen ns) (map resource_line_seen c.as_slice.result.now) c.in_ok-before.before c.args.context.now.book c.play_lines.new.calls.book c.args.handles.now c.play_lines.new.handles) c.as_slice-names.ensures c.in_ok-before.ensures.played)) c.play_lines.ensures.rest in
    let all : c.record_blocks-all.new.context.begun ≡ s.encoders = c.record_blocks-all.ensures.all c.in-Ok.ensures.played.0 in
    let begun : HasBegun s.encoders c.play_lines.new.calls c.record_blocks-all.new.context = subst (λ n. HasBegun n c.play_lines.new.calls c.record_blocks-all.new.context) all c.record_blocks-all.ensures.same in
    let last = recorded_after s k f c.in-Ok.beside c.play_lines.new.handles c.play_beside-beside.new.handles c.play_lines.new.calls c.record_blocks-all.new.context c.play_beside-beside.new.context first.0 begun c.in-Ok.ensures.played.1 c.play_beside-beside.ensures.rest first.3 in
    let kept = rest_kept s.encoders c.args.context.now c.play_lines.new.calls c.record_blocks-all.new.context c.play_beside-beside.new.context c.play_lines.ensures.rest begun c.play_beside-beside.ensures.rest in
    back_since c.end_frame.result c.args.context.now c.play_beside-beside.new.context c.end_frame.new.context kept.1 c.end_frame.ensures.back

pub returns-clause-allowed : goal.returns-clause-allowed
returns-clause-allowed g c =
    let s = scene_seen c.args.scene.now in
    let k = c.args.context.now.book.resources.frame in
    let f = frame_seen c.args.frame.now in
    let first = recording_after s k f c.in_ok-before.before c.args.handles.now c.play_lines.new.handles c.args.context.now c.play_lines.new.calls c.requires.at c.requires.there (subst (λ (ls : List _). LinesPlayed s.names (map resource_line_seen ls) c.in_ok-before.before c.args.context.now.book c.play_lines.new.calls.book c.args.handles.now c.play_lines.new.handles) c.as_slice.ensures (subst (λ (ns : List _). LinesPlayed (map name_seen ns) (map resource_line_seen c.as_slice.result.now) c.in_ok-before.before c.args.context.now.book c.play_lines.new.calls.book c.args.handles.now c.play_lines.new.handles) c.as_slice-names.ensures c.in_ok-before.ensures.played)) c.play_lines.ensures.rest in
    let all : c.record_blocks-all.new.context.begun ≡ s.encoders = c.record_blocks-all.ensures.all c.in-Ok.ensures.played.0 in
    let begun : HasBegun s.encoders c.play_lines.new.calls c.record_blocks-all.new.context = subst (λ n. HasBegun n c.play_lines.new.calls c.record_blocks-all.new.context) all c.record_blocks-all.ensures.same in
    let last = recorded_after s k f c.in-Ok.beside c.play_lines.new.handles c.play_beside-beside.new.handles c.play_lines.new.calls c.record_blocks-all.new.context c.play_beside-beside.new.context first.0 begun c.in-Ok.ensures.played.1 c.play_beside-beside.ensures.rest first.3 in
    allowed_since c.end_frame.result (wanted_seen c.args.order) c.play_beside-beside.new.context.book.resources.frame k (number_recorded s k f c.play_beside-beside.new.handles c.play_beside-beside.new.context last.0) c.end_frame.ensures.allowed

pub record_blocks-all-requires : goal.record_blocks-all-requires
record_blocks-all-requires g c κs =
    let s = scene_seen c.args.scene.now in
    let k = c.args.context.now.book.resources.frame in
    let f = frame_seen c.args.frame.now in
    let first = recording_after s k f c.in_ok-before.before c.args.handles.now c.play_lines.new.handles c.args.context.now c.play_lines.new.calls c.requires.at c.requires.there (subst (λ (ls : List _). LinesPlayed s.names (map resource_line_seen ls) c.in_ok-before.before c.args.context.now.book c.play_lines.new.calls.book c.args.handles.now c.play_lines.new.handles) c.as_slice.ensures (subst (λ (ns : List _). LinesPlayed (map name_seen ns) (map resource_line_seen c.as_slice.result.now) c.in_ok-before.before c.args.context.now.book c.play_lines.new.calls.book c.args.handles.now c.play_lines.new.handles) c.as_slice-names.ensures c.in_ok-before.ensures.played)) c.play_lines.ensures.rest in
    let recording = recording_now s k f c.play_lines.new.handles c.in_ok-shared.shared.value.items c.play_lines.new.calls c.in_ok-shared.ensures first.0 in
    let none : c.play_lines.new.calls.begun ≡ 0 = ap (λ v. v.begun) c.play_lines.ensures.rest ∙ c.requires.at.none_begun in
    ((refl, tt), (c.requires.admits, (c.requires.views, (c.requires.bounded, (recording, (none, c.requires.owes))))))

pub end_frame-requires : goal.end_frame-requires
end_frame-requires g c κs =
    let s = scene_seen c.args.scene.now in
    let k = c.args.context.now.book.resources.frame in
    let f = frame_seen c.args.frame.now in
    let first = recording_after s k f c.in_ok-before.before c.args.handles.now c.play_lines.new.handles c.args.context.now c.play_lines.new.calls c.requires.at c.requires.there (subst (λ (ls : List _). LinesPlayed s.names (map resource_line_seen ls) c.in_ok-before.before c.args.context.now.book c.play_lines.new.calls.book c.args.handles.now c.play_lines.new.handles) c.as_slice.ensures (subst (λ (ns : List _). LinesPlayed (map name_seen ns) (map resource_line_seen c.as_slice.result.now) c.in_ok-before.before c.args.context.now.book c.play_lines.new.calls.book c.args.handles.now c.play_lines.new.handles) c.as_slice-names.ensures c.in_ok-before.ensures.played)) c.play_lines.ensures.rest in
    let all : c.record_blocks-all.new.context.begun ≡ s.encoders = c.record_blocks-all.ensures.all c.in-Ok.ensures.played.0 in
    let begun : HasBegun s.encoders c.play_lines.new.calls c.record_blocks-all.new.context = subst (λ n. HasBegun n c.play_lines.new.calls c.record_blocks-all.new.context) all c.record_blocks-all.ensures.same in
    let last = recorded_after s k f c.in-Ok.beside c.play_lines.new.handles c.play_beside-beside.new.handles c.play_lines.new.calls c.record_blocks-all.new.context c.play_beside-beside.new.context first.0 begun c.in-Ok.ensures.played.1 c.play_beside-beside.ensures.rest first.3 in
    let recorded = recorded_now s k f c.play_beside-beside.new.handles c.play_beside-beside.new.context last.0 in
    let dropped = (λ i. c.from.ensures i + c.from-2.ensures i) ∙ dropped_now s k f c.play_beside-beside.new.handles c.play_beside-beside.new.context c.in_ok-before.before c.in-Ok.beside last.0 first.1 last.1 in
    let owes = subst (λ (n : ℕ). g.W.Recorders.owes c.record_blocks-all.new.recorders n) (sym (ap length (off_kept c.record_blocks-all.new.context c.play_beside-beside.new.context c.play_beside-beside.ensures.rest))) c.record_blocks-all.ensures.owes in
    ((refl, tt), (c.requires.admitted, (c.requires.views, (recorded, (dropped, owes)))))

pub collect-requires : goal.collect-requires
collect-requires g c κs =
    ((refl, tt), subst (λ (n : ℕ). g.W.Recorders.owes c.record_blocks-all.new.recorders n) (sym (ap length (off_kept c.record_blocks-all.new.context c.play_beside-beside.new.context c.play_beside-beside.ensures.rest))) c.record_blocks-all.ensures.owes)
