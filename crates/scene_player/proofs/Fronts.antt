-- The journal of a play on one thread.
use Rattle.std.proofs.Common.{◌≡◌, ◌∙◌, ℕ, Bool, false, List, [], length, take, map, Result, Ok, refl, sym, subst, inl, inr, arith}
use Rattle.std.proofs.lemmas.List.{length-map, take_all}
use Rattle.scene_model.specs.Scene.{Scene}
use Rattle.scene_model.specs.Grammar.{Fault, scene_of, whole_language}
use Rattle.scene_model.specs.Fold.{FramePlan, plans}
use Rattle.scene_model.specs.Journal.{Journal, serial_from, serial}
use Rattle.scene_player.specs.declared.status.Status.{Status}
use Rattle.scene_player.specs.declared.status.Status.TheVariants as status
use Rattle.io_whole.specs.Runs.{Putting}
use Rattle.scene_player.specs.Ended.{IsAnswered, IsShown}
use Rattle.scene_player.specs.Parts.{showing_command, MayRefuse}

-- a front of the scene's journal of one thread
abbrev pub IsFront : Scene → Journal → Type 0
IsFront s journal = journal ≡ take (length journal) (serial s)

-- no frame is one
pub none_front : (s : Scene) (journal : Journal) → journal ≡ [] → IsFront s journal
none_front s journal none = subst (IsFront s) (sym none) refl

pub refused_front : (s : Scene) (wanted st : Status) (line : List ℕ) (journal : Journal) (pictures notes : Putting) → MayRefuse wanted st line journal pictures notes → IsFront s journal
refused_front s wanted st line journal pictures notes (inl h) = none_front s journal h.no_frame
refused_front s wanted st line journal pictures notes (inr h) = none_front s journal h.1.no_frame

-- a text is of one scene
one_scene : (x s : Scene) (r : Result Scene Fault) → r ≡ Ok x → r ≡ Ok s → x ≡ s
one_scene x s r is also =
    let both : ◌≡◌ {A = Result Scene Fault} (Ok x) (Ok s) = sym is ∙ also in
    cc

pub same_front : (x s : Scene) (r : Result Scene Fault) (journal : Journal) → r ≡ Ok x → r ≡ Ok s → IsFront x journal → IsFront s journal
same_front x s r journal is also front = subst (λ (y : Scene). IsFront y journal) (one_scene x s r is also) front

-- where all was shown, the journal is that of one thread
pub whole_serial : (with_journal : Bool) (count : ℕ) (bytes : List ℕ) (s : Scene) (st : Status) (journal : Journal) (pictures notes : Putting) → length (plans s) ≡ length s.frames → scene_of whole_language bytes ≡ Ok s
    → IsAnswered st (showing_command false with_journal count) bytes journal pictures notes → st ≡ status.Done → IsFront s journal → journal ≡ serial s
whole_serial with_journal count bytes s st journal pictures notes many is answered done front =
    let shown : IsShown (showing_command false with_journal count) bytes journal pictures = (subst (λ (x : Status). IsAnswered x (showing_command false with_journal count) bytes journal pictures notes) done answered).0 in
    let same : shown.scene ≡ s = one_scene shown.scene s (scene_of whole_language bytes) shown.is.1 is in
    let ended : length journal ≡ length s.frames = shown.lawful.1 ∙ (λ i. length (same i).frames) in
    let as_many : length (serial s) ≡ length journal = length-map (plans s) (λ (p : FramePlan). serial_from 0 p.encoders) ∙ many ∙ sym ended in
    front ∙ take_all (length journal) (serial s) (omega (arith, as_many))
