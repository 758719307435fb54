-- One line more within a frame: where the lines so far are what the reading spells, so they are behind the next line.
use Rattle.std.proofs.Common.{◌≡◌, Bool, true, false, ◌||◌, cond, List, [], ◌∷◌, ◌++◌, Ok, refl, ap, subst, sym, ◌∙◌}
use Rattle.std.specs.Prelude.{codes}
use Rattle.std.specs.Fmt.{decimal}
use Rattle.scene_model.specs.Scene.{ResourceLine, EncoderLine, SceneFrame, views_in}
use Rattle.scene_model.specs.Field.{Read, ◌>>=◌, BoundName, u8_number}
use Rattle.scene_model.specs.Grammar.{Field, field, Named, Word, encoder_word, beside_word, Stage, at_front, at_size, at_encoders, at_room, at_latency, at_first_frame, in_before, in_block, in_beside, at_end, is_resource_word, is_encoder_word, is_front_word, is_size_word, is_encoders_word, is_room_word, is_latency_word, is_frame_word, opens_part, ends_frame, can_stand, is_beside, Reading, at_stage, with_block, with_encoder_line, with_before_line, with_beside_line, on_last, on_last_frame, with_resource_line, with_names, has_count, resource_form, encoder_form, after_resource, after_encoder_line, whole_language}
use Rattle.spelling_model.specs.LineSpelling.{resource_fields, encoder_fields, frame_lines}
use Rattle.spelling_model.proofs.Read.{bind_ok, same_ok, count_ok}
use Rattle.spelling_model.proofs.Numbers.{u8_takes}
use Rattle.spelling_model.proofs.Names.{IsPrefix, same_prefix, texts}
use Rattle.spelling_model.proofs.ResourceTakes.{Takes}
use Rattle.spelling_model.proofs.SoFar.{Open, SoFar, on_last-append, open_more, before_more, block_more, encoder_line_more, last_kept, beside_opens, beside_more}
use Rattle.spelling_model.proofs.Steps.{StepTakes}

-- ---- the parts of a frame

abbrev pub encoder_line_form : List Field → Reading → Read Reading
encoder_line_form fs r = do
  _ ← has_count 2 fs
  e ← u8_number (field fs 1)
  Ok (at_stage in_block (on_last_frame (with_block e) r))

abbrev pub beside_form : List Field → Reading → Read Reading
beside_form fs r = do
  _ ← has_count 1 fs
  Ok (at_stage in_beside r)

-- a part of a frame may begin here: nothing stands beside the drawing yet
abbrev BeforeParts : List Field → List (List Field) → Reading → Type 0
BeforeParts all p r = (f : SceneFrame) × Open all false f p r × (f.beside ≡ [])

part_here : (all : List Field) (p : List (List Field)) (r : Reading) (st : Stage) → can_stand st beside_word ≡ true → SoFar all p r st → BeforeParts all p r
part_here all p r in_before c so = (so.0, so.1, so.3)
part_here all p r in_block c so = (so.0, so.1, so.3)
part_here all p r at_front c so = absurd (cc c)
part_here all p r at_size c so = absurd (cc c)
part_here all p r at_encoders c so = absurd (cc c)
part_here all p r at_room c so = absurd (cc c)
part_here all p r at_latency c so = absurd (cc c)
part_here all p r at_first_frame c so = absurd (cc c)
part_here all p r in_beside c so = absurd (cc c)
part_here all p r at_end c so = absurd (cc c)

-- where `encoder` can stand, so can `beside`
beside_too : (st : Stage) → can_stand st encoder_word ≡ true → can_stand st beside_word ≡ true
beside_too in_before c = refl
beside_too in_block c = refl
beside_too at_front c = c
beside_too at_size c = c
beside_too at_encoders c = c
beside_too at_room c = c
beside_too at_latency c = c
beside_too at_first_frame c = c
beside_too in_beside c = c
beside_too at_end c = c

pub block_step : (fs : List Field) (r q : Reading) → encoder_line_form fs r ≡ Ok q → can_stand r.stage encoder_word ≡ true → field fs 0 ≡ codes "encoder" → StepTakes fs r q
block_step fs r q e place word =
    let c = bind_ok (has_count 2 fs) _ q e in
    let n = bind_ok (u8_number (field fs 1)) _ q c.2 in
    let made : at_stage in_block (on_last_frame (with_block n.0) r) ≡ q = same_ok n.2 in
    let s1 : field fs 1 ≡ decimal n.0 = u8_takes (field fs 1) n.0 n.1 in
    let own : codes "encoder" ∷ decimal n.0 ∷ [] ≡ fs = sym (count_ok 2 fs c.0 c.1 ∙ (λ i. word i ∷ s1 i ∷ [])) in
    subst (StepTakes fs r) made (
      same_prefix (texts r.names),
      λ all old p so.
          let b = part_here all p r r.stage (beside_too r.stage place) so in
          let more = block_more all b.0 n.0 ∙ ap (λ k. frame_lines all false b.0 ++ k ∷ []) own in
          let frames = ap (on_last (with_block n.0)) b.1.frames ∙ on_last-append (with_block n.0) b.1.closed b.0 in
          (with_block n.0 b.0, open_more all false false b.0 (with_block n.0 b.0) p fs r in_block r.names (on_last (with_block n.0) r.frames) b.1 frames more, (b.0.blocks, record { encoder = n.0; lines = [] }, refl), b.2),
    )

pub beside_step : (fs : List Field) (r q : Reading) → beside_form fs r ≡ Ok q → can_stand r.stage beside_word ≡ true → field fs 0 ≡ codes "beside" → StepTakes fs r q
beside_step fs r q e place word =
    let c = bind_ok (has_count 1 fs) _ q e in
    let made : at_stage in_beside r ≡ q = same_ok c.2 in
    let own : codes "beside" ∷ [] ≡ fs = sym (count_ok 1 fs c.0 c.1 ∙ (λ i. word i ∷ [])) in
    subst (StepTakes fs r) made (
      same_prefix (texts r.names),
      λ all old p so.
          let b = part_here all p r r.stage place so in
          let more = beside_opens all b.0 b.2 ∙ ap (λ k. frame_lines all false b.0 ++ k ∷ []) own in
          (b.0, open_more all false true b.0 b.0 p fs r in_beside r.names r.frames b.1 b.1.frames more),
    )

-- ---- resource lines

-- a word of a resource or view line is no other word
abbrev pub IsResourceWord : Word → Type 0
IsResourceWord w =
    (is_front_word w ≡ false) × (is_size_word w ≡ false) × (is_encoders_word w ≡ false) × (is_room_word w ≡ false) × (is_latency_word w ≡ false) × (is_frame_word w ≡ false) × (is_encoder_word w ≡ false)
    × (opens_part w ≡ false) × (ends_frame w ≡ false)

pub none_of_two : (a b : Bool) → a ≡ false → b ≡ false → (a || b) ≡ true → ⊥
none_of_two true b h k e = cc h
none_of_two false true h k e = cc k
none_of_two false false h k e = cc e

pub none_of_three : (a b c : Bool) → a ≡ false → b ≡ false → c ≡ false → (a || b || c) ≡ true → ⊥
none_of_three true b c h k l e = cc h
none_of_three false true c h k l e = cc k
none_of_three false false true h k l e = cc l
none_of_three false false false h k l e = cc e

pub not_both : {b : Bool} → b ≡ false → b ≡ true → ⊥
not_both h k = cc (sym h ∙ k)

resource_here : (all : List Field) (p : List (List Field)) (fs : List Field) (r : Reading) (names : List BoundName) (l : ResourceLine) (w : Word) → IsResourceWord w → fs ≡ resource_fields all l → (st : Stage) → r.stage ≡ st → can_stand st w ≡ true → SoFar all p r st
    → SoFar all (p ++ fs ∷ []) (with_names names (with_resource_line l r)) st
resource_here all p fs r names l w is own in_before at c so =
    let more = before_more all so.0 l so.2 ∙ ap (λ k. frame_lines all false so.0 ++ k ∷ []) (sym own) in
    let frames = ap (λ s. on_last (cond (is_beside s) (with_beside_line l) (with_before_line l)) r.frames) at ∙ ap (on_last (with_before_line l)) so.1.frames ∙ on_last-append (with_before_line l) so.1.closed so.0 in
    (with_before_line l so.0, open_more all false false so.0 (with_before_line l so.0) p fs r r.stage names (with_resource_line l r).frames so.1 frames more, so.2, so.3)
resource_here all p fs r names l w is own in_beside at c so =
    let more = beside_more all so.0 l ∙ ap (λ k. frame_lines all true so.0 ++ k ∷ []) (sym own) in
    let frames = ap (λ s. on_last (cond (is_beside s) (with_beside_line l) (with_before_line l)) r.frames) at ∙ ap (on_last (with_beside_line l)) so.1.frames ∙ on_last-append (with_beside_line l) so.1.closed so.0 in
    (with_beside_line l so.0, open_more all true true so.0 (with_beside_line l so.0) p fs r r.stage names (with_resource_line l r).frames so.1 frames more)
resource_here all p fs r names l w is own at_front at c so = absurd (not_both is.0 c)
resource_here all p fs r names l w is own at_size at c so = absurd (not_both is.1 c)
resource_here all p fs r names l w is own at_encoders at c so = absurd (not_both is.2 c)
resource_here all p fs r names l w is own at_room at c so = absurd (none_of_three (is_room_word w) (is_latency_word w) (is_frame_word w) is.3 is.4 is.5 c)
resource_here all p fs r names l w is own at_latency at c so = absurd (none_of_two (is_latency_word w) (is_frame_word w) is.4 is.5 c)
resource_here all p fs r names l w is own at_first_frame at c so = absurd (not_both is.5 c)
resource_here all p fs r names l w is own in_block at c so = absurd (none_of_three (is_encoder_word w) (opens_part w) (ends_frame w) is.6 is.7 is.8 c)
resource_here all p fs r names l w is own at_end at c so = absurd (cc c)

pub resource_step : (fs : List Field) (r q : Reading) (w : Word) → IsResourceWord w → ((l : Named ResourceLine) → resource_form whole_language (views_in r.version) r.names fs w ≡ Ok l → Takes r.names fs l) → after_resource whole_language r fs w ≡ Ok q → can_stand r.stage w ≡ true → StepTakes fs r q
unfolding after_resource
resource_step fs r q w is takes e place =
    let l = bind_ok (resource_form whole_language (views_in r.version) r.names fs w) _ q e in
    let made : with_names l.0.1 (with_resource_line l.0.0 r) ≡ q = same_ok l.2 in
    let t = takes l.0 l.1 in
    subst (StepTakes fs r) made (t.0, λ all old p so. resource_here all p fs r l.0.1 l.0.0 w is (t.1 all old) r.stage refl place so)

-- ---- encoder lines

abbrev pub IsEncoderWord : Word → Type 0
IsEncoderWord w =
    (is_front_word w ≡ false) × (is_size_word w ≡ false) × (is_encoders_word w ≡ false) × (is_room_word w ≡ false) × (is_latency_word w ≡ false) × (is_frame_word w ≡ false) × (is_resource_word w ≡ false)
    × (opens_part w ≡ false) × (ends_frame w ≡ false)

encoder_line_here : (all : List Field) (p : List (List Field)) (fs : List Field) (r : Reading) (l : EncoderLine) (w : Word) → IsEncoderWord w → fs ≡ encoder_fields all l → (st : Stage) → can_stand st w ≡ true → SoFar all p r st
    → SoFar all (p ++ fs ∷ []) (on_last_frame (with_encoder_line l) r) st
encoder_line_here all p fs r l w is own in_block c so =
    let more = encoder_line_more all so.0 l so.2 ∙ ap (λ k. frame_lines all false so.0 ++ k ∷ []) (sym own) in
    let frames = ap (on_last (with_encoder_line l)) so.1.frames ∙ on_last-append (with_encoder_line l) so.1.closed so.0 in
    (with_encoder_line l so.0, open_more all false false so.0 (with_encoder_line l so.0) p fs r r.stage r.names (on_last (with_encoder_line l) r.frames) so.1 frames more, last_kept so.0 l so.2, so.3)
encoder_line_here all p fs r l w is own at_front c so = absurd (not_both is.0 c)
encoder_line_here all p fs r l w is own at_size c so = absurd (not_both is.1 c)
encoder_line_here all p fs r l w is own at_encoders c so = absurd (not_both is.2 c)
encoder_line_here all p fs r l w is own at_room c so = absurd (none_of_three (is_room_word w) (is_latency_word w) (is_frame_word w) is.3 is.4 is.5 c)
encoder_line_here all p fs r l w is own at_latency c so = absurd (none_of_two (is_latency_word w) (is_frame_word w) is.4 is.5 c)
encoder_line_here all p fs r l w is own at_first_frame c so = absurd (not_both is.5 c)
encoder_line_here all p fs r l w is own in_before c so = absurd (none_of_three (is_resource_word w) (opens_part w) (ends_frame w) is.6 is.7 is.8 c)
encoder_line_here all p fs r l w is own in_beside c so = absurd (none_of_two (is_resource_word w) (ends_frame w) is.6 is.8 c)
encoder_line_here all p fs r l w is own at_end c so = absurd (cc c)

pub encoder_step : (fs : List Field) (r q : Reading) (w : Word) → IsEncoderWord w → ((l : EncoderLine) → encoder_form r.names fs w ≡ Ok l → (all : List Field) → IsPrefix (texts r.names) all → fs ≡ encoder_fields all l) → after_encoder_line r fs w ≡ Ok q → can_stand r.stage w ≡ true → StepTakes fs r q
unfolding after_encoder_line
encoder_step fs r q w is takes e place =
    let l = bind_ok (encoder_form r.names fs w) _ q e in
    let made : on_last_frame (with_encoder_line l.0) r ≡ q = same_ok l.2 in
    subst (StepTakes fs r) made (same_prefix (texts r.names), λ all old p so. encoder_line_here all p fs r l.0 w is (takes l.0 l.1 all old) r.stage place so)
