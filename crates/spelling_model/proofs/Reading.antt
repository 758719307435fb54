-- The joining of the two ways of saying a scene's text: bytes are read as a scene exactly where the scene is readable and they spell it.
use Rattle.std.proofs.Common.{arith, ◌≡◌, ℕ, true, List, [], ◌∷◌, ◌++◌, Ok, Result, refl, ap, subst, sym, ◌∙◌, append_assoc}
use Rattle.std.specs.Prelude.{codes}
use Rattle.scene_model.specs.Scene.{Scene, IsVersion}
use Rattle.scene_model.specs.Grammar.{Field, Stage, at_front, at_size, at_encoders, at_room, at_latency, at_first_frame, in_before, in_block, in_beside, at_end, is_at_end, Reading, nothing_read, scene_read, Fault, scene_of, whole_language}
use Rattle.scene_model.proofs.ScenesSized.{read-version}
use Rattle.spelling_model.specs.LineSpelling.{head_lines, frames_lines}
use Rattle.spelling_model.specs.Spelling.{kept_fields, IsSpelling, Spells, ReadingLaw, OneReading}
use Rattle.spelling_model.proofs.Names.{same_prefix, texts}
use Rattle.spelling_model.proofs.SoFar.{SoFar}
use Rattle.spelling_model.proofs.ReadLines.{read_fields, read_steps}
use Rattle.spelling_model.proofs.Texts.{fields_read, bytes_read}
use Rattle.spelling_model.proofs.Choices.{choices_same}
use Rattle.spelling_model.proofs.FrameRanges.{reads-readable}
use Rattle.spelling_model.proofs.TextsAgain.{readable-read}

-- ---- what is read is spelled

end_here : (all : List Field) (p : List (List Field)) (r : Reading) (st : Stage) → is_at_end st ≡ true → SoFar all p r st → SoFar all p r at_end
end_here all p r at_end e so = so
end_here all p r at_front e so = absurd (cc e)
end_here all p r at_size e so = absurd (cc e)
end_here all p r at_encoders e so = absurd (cc e)
end_here all p r at_room e so = absurd (cc e)
end_here all p r at_latency e so = absurd (cc e)
end_here all p r at_first_frame e so = absurd (cc e)
end_here all p r in_before e so = absurd (cc e)
end_here all p r in_block e so = absurd (cc e)
end_here all p r in_beside e so = absurd (cc e)

whole_spelled : (lines : List (List Field)) (r : Reading) → SoFar (texts r.names) lines r at_end → IsSpelling (scene_read r) lines
whole_spelled lines r so = record {
  with_room = so.1.with_room;
  with_latency = so.1.with_latency;
  besides = so.1.besides;
  room_left = so.1.room_left;
  latency_left = so.1.latency_left;
  besides_left = so.1.besides_left;
  spelled =
      so.2
      ∙ ap (λ k. k ++ (codes "done" ∷ []) ∷ []) so.1.lines
      ∙ append_assoc (head_lines so.1.with_room so.1.with_latency (scene_read r)) (frames_lines (texts r.names) so.1.besides r.frames) ((codes "done" ∷ []) ∷ []);
}

read_spelled : (lines : List (List Field)) (r : Reading) → read_fields nothing_read lines ≡ Ok r → is_at_end r.stage ≡ true → IsSpelling (scene_read r) lines
read_spelled lines r e end =
    let steps = read_steps lines nothing_read r e in
    whole_spelled lines r (end_here (texts r.names) lines r r.stage end (steps.1 (texts r.names) (same_prefix (texts r.names)) [] (refl, refl, refl, refl)))

spells : (s : Scene) (bytes : List ℕ) → scene_of whole_language bytes ≡ Ok s → Spells bytes s
spells s bytes e =
    let t = fields_read bytes s e in
    (t.0, subst (λ s. IsSpelling s (kept_fields bytes)) t.4 (read_spelled (kept_fields bytes) t.1 t.2 t.3))

-- ---- what is spelled is read

same_reading : (s : Scene) (xs ys : List (List Field)) → IsVersion s.version → IsSpelling s xs → IsSpelling s ys → read_fields nothing_read xs ≡ read_fields nothing_read ys
same_reading s xs ys version x y =
    ap (read_fields nothing_read) x.spelled
    ∙ choices_same x.with_room x.with_latency x.besides s version x.room_left x.latency_left x.besides_left
    ∙ sym (choices_same y.with_room y.with_latency y.besides s version y.room_left y.latency_left y.besides_left)
    ∙ ap (read_fields nothing_read) (sym y.spelled)

read_again : (s : Scene) (text bytes : List ℕ) → scene_of whole_language text ≡ Ok s → Spells bytes s → scene_of whole_language bytes ≡ Ok s
read_again s text bytes e k =
    let t = fields_read text s e in
    bytes_read bytes t.1 k.0 (same_reading s (kept_fields bytes) (kept_fields text) (read-version whole_language text s (omega arith) e) k.1 (spells s text e).1 ∙ t.2) t.3 ∙ ap (λ s. Ok s) t.4

-- ---- the laws

pub reading-law : ReadingLaw
reading-law s bytes = (λ e. (reads-readable bytes s e, spells s bytes e), λ k. let r = readable-read s k.0 in read_again s r.0 bytes r.1 k.1)

ok_scene : (s t : Scene) → ◌≡◌ {A = Result Scene Fault} (Ok s) (Ok t) → s ≡ t
ok_scene s t e = cc e

pub one-reading : OneReading
one-reading s t bytes = (
  λ e f. ok_scene s t (sym e ∙ f),
  λ r q x y. let a = readable-read s r in let b = readable-read t q in ok_scene s t (sym (read_again s a.0 bytes a.1 x) ∙ read_again t b.0 bytes b.1 y),
)
