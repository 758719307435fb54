use Rattle.std.proofs.Common.{◌≡◌, refl, sym, ap, ◌∙◌, replicate, None, []}
use Rattle.std.proofs.lemmas.List.{length-map}
use Rattle.scene_text.specs.Seen.{name_seen, scene_seen}
use Rattle.scene_playing.proofs.OpeningLaws.{at_first}
use Rattle.scene_playing.proofs.frames.play_named.Goals as goal

pub play_all-is_whole-requires : goal.play_all-is_whole-requires
play_all-is_whole-requires g c κs =
    let begins = c.in-Ok-init.ensures.begins in
    let at = at_first c.next_law.ensures.first (scene_seen c.args.scene.now) _ c.in-Ok-init.context refl refl c.view_count.ensures.value refl (ap (λ v. v.book) begins) (ap (λ v. v.begun) begins) (ap (λ v. v.is_ended) begins) (ap (λ v. v.first) begins) _ (c.as_mut_slice.ensures.value ∙ c.in-Ok.ensures.handles ∙ ap (λ n. replicate n None) (sym (length-map c.args.scene.now.names name_seen))) in
    let none_off : c.in-Ok-init.context.seat.off ≡ [] = ap (λ v. v.seat.off) begins in
    let none_given = ap (λ v. v.given) begins ∙ c.requires.none.0 in
    let none_back = ap (λ v. v.back) begins ∙ c.requires.none.1 in
    ((refl, tt), (c.requires.admits, (c.requires.admitted, (c.requires.views, (c.requires.readable, (c.requires.bounded, (at, (none_off, (c.requires.owes, ((none_given, none_back), (c.in-Ok.ensures.told, c.in-Ok.ensures.room)))))))))))
