use Rattle.std.proofs.Common.{◌≡◌, ◌≤◌, ◌<◌, ◌+◌, ℕ, not, Bool, true, false, map, length, refl, sym, ap, ◌∙◌, subst, arith, Some}
use Rattle.std.proofs.lemmas.List.{length-append}
use Rattle.std.specs.List.{slice_get}
use Rattle.gfx_words.specs.Seen.{entry_seen}
use Rattle.scene_text.specs.Seen.{frame_seen, scene_seen}
use Rattle.render_core.specs.Ended.{first_outcome}
use Rattle.scene_playing.specs.Frames.{note_seen}
use Rattle.scene_playing.specs.Recording.{IsAt}
use Rattle.scene_playing.specs.Steps.{first_after}
use Rattle.scene_playing.specs.Order.{wanted_seen}
use Rattle.scene_playing.proofs.LineLaws.{number_at}
use Rattle.scene_playing.proofs.Orders.{none_keep, keeps_more}
use Rattle.scene_playing.proofs.FrameLaws.{none_yet, one_seen, stopped_now, more_now, frame_at, so_far}
use Rattle.scene_playing.proofs.frames.play_all.Goals as goal

room_more : {a b c d k : ℕ} → a ≡ b → b ≡ c + 1 → d ≡ c → d ≡ k → a ≡ k + 1
room_more e f h i = omega (arith, e, f, h, i)

pub loop-frame-init : goal.loop-frame-init
loop-frame-init g c = record {
  at = c.requires.at;
  given = none_yet (scene_seen c.args.scene.now) c.lawful_law.ensures.none c.frames_law.ensures.none _ _ _ c.requires.none.0 (ap (map (map entry_seen)) c.requires.told.0) (ap (map note_seen) c.requires.told.1);
  keeps = none_keep (wanted_seen c.args.order) _ (ap (map (map entry_seen)) c.requires.told.0);
  outcome = c.requires.told.2 ∙ sym (ap first_outcome c.requires.none.1);
  lists = (c.args.told.now.lists.ok.0 ∙ ap length c.requires.told.0, c.requires.room.0);
  notes = (c.args.told.now.notes.ok.0 ∙ ap length c.requires.told.1, c.requires.room.1);
  none_off = c.requires.none_off;
  owes = c.requires.owes;
  origin = refl;
}

pub returns-then-not-add-clause-ended : goal.returns-then-not-add-clause-ended
returns-then-not-add-clause-ended g c =
    let s = scene_seen c.args.scene.now in
    let k = c.loop-frame.frame-index in
    let was = c.loop-frame.invariant in
    let lists = one_seen (map entry_seen) c.loop-frame.told.lists.items c.add.new.self.lists.items c.in-Ok.ended.journal.items c.add.ensures.lists.0 in
    let notes = one_seen note_seen c.loop-frame.told.notes.items c.add.new.self.notes.items c.in-Ok.ended.note c.add.ensures.notes.0 in
    stopped_now s c.frames_law.ensures.more c.lawful_law.ensures.more c.noted_law.ensures.more c.loop-frame.context.book.resources.frame k (frame_seen c.frame-item.result) (map entry_seen c.in-Ok.ended.journal.items) (note_seen c.in-Ok.ended.note)
    c.play_frame-played.new.handles c.loop-frame.context c.play_frame-played.new.context _ _ _ _ (number_at s k c.loop-frame.handles c.loop-frame.context was.at) was.given lists notes
    c.in-Ok.ended.given (sym c.add.ensures.given ∙ c.if-not-add.true) (frame_at c.as_slice-frame-items.result.now c.args.scene.now.frames k c.frame-item.result c.as_slice-frame-items.ensures c.loop-frame-test.true c.frame-item.is) c.in-Ok.ensures.ended

pub loop-frame-preserved : goal.loop-frame-preserved
loop-frame-preserved g c =
    let s = scene_seen c.args.scene.now in
    let k = c.loop-frame.frame-index in
    let was = c.loop-frame.invariant in
    let lists = one_seen (map entry_seen) c.loop-frame.told.lists.items c.add.new.self.lists.items c.in-Ok.ended.journal.items c.add.ensures.lists.0 in
    let notes = one_seen note_seen c.loop-frame.told.notes.items c.add.new.self.notes.items c.in-Ok.ended.note c.add.ensures.notes.0 in
    let more = more_now s c.frames_law.ensures.more c.lawful_law.ensures.more c.noted_law.ensures.more c.loop-frame.context.book.resources.frame k (frame_seen c.frame-item.result) (map entry_seen c.in-Ok.ended.journal.items) (note_seen c.in-Ok.ended.note)
    c.play_frame-played.new.handles c.loop-frame.context c.play_frame-played.new.context _ _ _ _ (number_at s k c.loop-frame.handles c.loop-frame.context was.at) was.given lists notes
    c.in-Ok.ended.given (sym c.add.ensures.given ∙ c.if-not-add.false) (frame_at c.as_slice-frame-items.result.now c.args.scene.now.frames k c.frame-item.result c.as_slice-frame-items.ensures c.loop-frame-test.true c.frame-item.is) c.in-Ok.ensures.ended in
    record {
      at = more.0;
      given = more.1;
      keeps = keeps_more (wanted_seen c.args.order) _ _ (map entry_seen c.in-Ok.ended.journal.items) c.loop-frame.context.book.resources.frame k (number_at s k c.loop-frame.handles c.loop-frame.context was.at) was.given.many lists was.keeps c.in-Ok.ensures.allowed;
      outcome = c.add.ensures.outcome ∙ ap (λ o. first_after o c.in-Ok.ended.back) was.outcome ∙ sym c.in-Ok.ensures.back;
      lists = (room_more c.add.new.self.lists.ok.0 (ap length c.add.ensures.lists.0 ∙ length-append c.loop-frame.told.lists.items _) c.loop-frame.told.lists.ok.0 was.lists.0, subst (λ n. length c.args.scene.now.frames ≤ n) (sym c.add.ensures.lists.1) was.lists.1);
      notes = (room_more c.add.new.self.notes.ok.0 (ap length c.add.ensures.notes.0 ∙ length-append c.loop-frame.told.notes.items _) c.loop-frame.told.notes.ok.0 was.notes.0, subst (λ n. length c.args.scene.now.frames ≤ n) (sym c.add.ensures.notes.1) was.notes.1);
      none_off = c.play_frame-played.ensures.none_off;
      owes = c.play_frame-played.ensures.owes;
      origin = c.play_frame-played.ensures.origin ∙ was.origin;
    }

pub returns-then-not-add-clause-keeps : goal.returns-then-not-add-clause-keeps
returns-then-not-add-clause-keeps g c =
    let s = scene_seen c.args.scene.now in
    let k = c.loop-frame.frame-index in
    let was = c.loop-frame.invariant in
    let lists = one_seen (map entry_seen) c.loop-frame.told.lists.items c.add.new.self.lists.items c.in-Ok.ended.journal.items c.add.ensures.lists.0 in
    keeps_more (wanted_seen c.args.order) _ _ (map entry_seen c.in-Ok.ended.journal.items) c.loop-frame.context.book.resources.frame k (number_at s k c.loop-frame.handles c.loop-frame.context was.at) was.given.many lists was.keeps c.in-Ok.ensures.allowed

pub play_frame-played-requires : goal.play_frame-played-requires
play_frame-played-requires g c κs =
    let was = c.loop-frame.invariant in
    let there = subst (λ n. slice_get (map frame_seen c.args.scene.now.frames) n ≡ Some (frame_seen c.frame-item.result)) (sym (number_at (scene_seen c.args.scene.now) c.loop-frame.frame-index c.loop-frame.handles c.loop-frame.context was.at))
    (frame_at c.as_slice-frame-items.result.now c.args.scene.now.frames c.loop-frame.frame-index c.frame-item.result c.as_slice-frame-items.ensures c.loop-frame-test.true c.frame-item.is) in
    let at = subst (λ n. IsAt (scene_seen c.args.scene.now) n c.loop-frame.handles c.loop-frame.context) (sym (number_at (scene_seen c.args.scene.now) c.loop-frame.frame-index c.loop-frame.handles c.loop-frame.context was.at)) was.at in
    ((refl, tt), (c.requires.admits, (c.requires.admitted, (c.requires.views, (c.requires.readable, (c.requires.bounded, (there, (at, (was.none_off, was.owes)))))))))
