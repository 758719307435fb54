-- What the frames of a turn leave in a sink.
use Rattle.std.proofs.Common.{◌≡◌, ℕ, suc, ◌≤◌, Bool, true, false, List, [], ◌∷◌, map, length, take, Option, Some, None, refl, sym, ap, subst, ◌∙◌, arith}
use Rattle.std.specs.List.{flat_map}
use Rattle.std.specs.Coded.{Coded-set, coded_option, coded_ℕ, le_prop}
use Rattle.std.proofs.Math.Logic.{∥∥₁_elim}
use Rattle.std.proofs.lemmas.List.{take_all, length-map, append-nil}
use Rattle.io_edge.specs.Edge.{with_back}
use Rattle.gfx.specs.Definitions.{Texels, first_world}
use Rattle.gfx.specs.Pictures.{picture_text, Stores, FrameData, first_stores, frame_by_index, pictures_by_index, TextsLaw, KeptLaw, HasTexts, pictures_seen, frames_seen, has_ended, Rendering, frame_seen, HasFront}
use Rattle.gfx.specs.Frames.{Frame, Outcome, RenderedFrame, frames_of}
use Rattle.gfx.specs.Frames.outcomes as outcomes
use Rattle.ring_turning.specs.Turning.{AreOfTurn}
use Rattle.ring_turning.proofs.Turns.{no_frames}
use Rattle.ring_turning.specs.Spinning.{side, pictures_of, end_of, IsSpun, IsStopped, IsNew, AreRenderedInTurn}

-- ---- pictures

seen_of : (rs : List RenderedFrame) → frames_seen rs ≡ map frame_seen (frames_of rs)
seen_of [] = refl
seen_of (r ∷ rs) = ap (λ fs. frame_seen r.frame ∷ fs) (seen_of rs)

pictures_are : (given : List Frame) (back : List RenderedFrame) (first : Stores) → given ≡ frames_of back → first ≡ first_stores (first_world side side).back → pictures_seen first back ≡ pictures_of given
pictures_are given back first all is =
    let seen : frames_seen back ≡ map frame_seen given = seen_of back ∙ ap (map frame_seen) (sym all) in
    λ i. pictures_by_index (is i) (seen i)

picture_count : (h : Stores) (fs : List FrameData) → length (pictures_by_index h fs) ≡ length fs
picture_count h [] = refl
picture_count h (f ∷ fs) = ap suc (picture_count (frame_by_index h f) fs)

all_taken : (given : List Frame) → take (length given) (pictures_of given) ≡ pictures_of given
all_taken given =
    let count : length (pictures_of given) ≡ length given = picture_count (first_stores (first_world side side).back) (map frame_seen given) ∙ length-map given frame_seen in
    take_all (length given) (pictures_of given) (omega (arith, count))

-- ---- by how the frames ended

leaves : (many : ℕ) (outcome : Outcome) (is_whole : Bool) (given : List Frame) (back : List RenderedFrame) (old new : Rendering)
    → AreOfTurn many given is_whole → length back ≡ length given → pictures_seen old.stores back ≡ pictures_of given → HasTexts outcome old back new
    → IsSpun (end_of outcome is_whole) many old.held new.held old.faults new.faults
leaves many outcomes.Shown true given back old new t same pictures has = record {
  frames = given;
  turn = t.whole refl;
  held = has.0 ∙ ap (λ (ps : List Texels). with_back old.held (flat_map picture_text ps)) pictures;
}
leaves many outcomes.Shown false given back old new t same pictures has = record {
  frames = given;
  first = t.first;
  shown = length given;
  within = omega arith;
  held = has.0 ∙ ap (λ (ps : List Texels). with_back old.held (flat_map picture_text ps)) (pictures ∙ sym (all_taken given));
}
leaves many outcomes.PictureFault is_whole given back old new t same pictures has = (
  record {
    frames = given;
    first = t.first;
    front = subst (λ (ps : List Texels). HasFront old.held (flat_map picture_text ps) new.held) pictures has.0;
  },
  has.1,
)
leaves many outcomes.OutOfMemory is_whole given back old new t same pictures has =
    let le = has.1 in
    record {
      frames = given;
      first = t.first;
      shown = has.0;
      within = omega (arith, le, same);
      held = has.2 ∙ ap (λ (ps : List Texels). with_back old.held (flat_map picture_text (take has.0 ps))) pictures;
    }
leaves many outcomes.Skipped is_whole given back old new t same pictures has = absurd has

-- what is left, with the sink's faults, which are no fewer, and of what it is sure
pub shows : TextsLaw → KeptLaw → (many : ℕ) (outcome : Outcome) (is_whole : Bool) (old new : Rendering) → IsNew old → AreRenderedInTurn many outcome is_whole old new
    → IsSpun (end_of outcome is_whole) many old.held new.held old.faults new.faults × (new.sure ≡ old.sure) × (old.faults ≤ new.faults)
shows texts kept many outcome is_whole old new fresh shown =
    let given = shown.given in
    let back = shown.back in
    let turned = shown.turned in
    let none : has_ended old.outcomes ≡ false = ap has_ended fresh.outcomes in
    let has : HasTexts outcome old back new = subst (λ (o : Outcome). HasTexts o old back new) (sym turned.outcome_is) (texts old new back shown.frames none) in
    let same : length back ≡ length given = sym (ap length turned.all_back ∙ length-map back (λ (r : RenderedFrame). r.frame)) in (
      leaves many outcome is_whole given back old new turned.of_turn same (pictures_are given back old.stores turned.all_back fresh.stores) has,
      ∥∥₁_elim shown.frames (Coded-set (coded_option coded_ℕ) new.sure old.sure) (λ k. (kept old new back k).1),
      ∥∥₁_elim shown.frames le_prop (λ k. (kept old new back k).0),
    )

-- nothing was put
nothing_put : (held : Option (List ℕ)) → held ≡ with_back held []
nothing_put None = refl
nothing_put (Some bytes) = ap Some (sym (append-nil bytes))

pub none_shown : (many : ℕ) (held : Option (List ℕ)) → IsStopped many held held
none_shown many held = record { frames = []; first = no_frames many; shown = 0; within = omega arith; held = nothing_put held }
