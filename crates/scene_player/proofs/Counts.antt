-- What a sink of pictures counted after a run.
use Rattle.std.proofs.Common.{◌≡◌, ◌∙◌, ℕ, List, Option, Some, Result, Ok, sym, subst, inl, inr}
use Rattle.scene_model.specs.Scene.{Scene}
use Rattle.scene_model.specs.Grammar.{Fault}
use Rattle.scene_model.specs.Journal.{Journal}
use Rattle.command_line_model.specs.Taken.{Command}
use Rattle.scene_showing.specs.declared.showing.End.{End}
use Rattle.scene_showing.specs.declared.showing.End.TheVariants as ends
use Rattle.scene_showing.specs.Showing.{IsCounted}
use Rattle.scene_player.specs.declared.status.Status.{Status}
use Rattle.scene_player.specs.declared.status.Status.TheVariants as status
use Rattle.scene_player.specs.Ended.{CountsPictures, IsSceneOf, IsToldIn, ReadsAndShows}
use Rattle.io_whole.specs.Runs.{AreLeft, Putting, Reading}
use Rattle.scene_player.specs.Noted.{IsNoted}
use Rattle.scene_player.specs.Parts.{MayRefuse}
use Rattle.scene_player.proofs.Ends.{told-is}

-- what was shown whole was counted
counts-whole : (st : Status) (e : End) (s : Scene) (j : Journal) (frames : List (ℕ × ℕ)) (text : List ℕ) (noted : Putting) (old new : Option (ℕ × ℕ)) → IsCounted e s j frames old new
    → IsNoted st e text noted → CountsPictures st s j old new
counts-whole status.Done ends.Done s j frames text noted old new k n = k.1
counts-whole status.NoteFault ends.Done s j frames text noted old new k n = k.1
counts-whole status.Done ends.PictureFault s j frames text noted old new k n = let bad = n.0 in cc
counts-whole status.Done ends.OutOfMemory s j frames text noted old new k n = let bad = n.0 in cc
counts-whole status.NoteFault ends.PictureFault s j frames text noted old new k n = let bad = n.0 in cc
counts-whole status.NoteFault ends.OutOfMemory s j frames text noted old new k n = let bad = n.0 in cc
counts-whole status.PictureFault e s j frames text noted old new k n = tt
counts-whole status.OutOfMemory e s j frames text noted old new k n = tt
counts-whole status.Usage e s j frames text noted old new k n = tt
counts-whole (status.Scene line cause) e s j frames text noted old new k n = tt
counts-whole status.ReadFault e s j frames text noted old new k n = tt
counts-whole status.TooLong e s j frames text noted old new k n = tt
counts-whole (status.Journal place) e s j frames text noted old new k n = tt

-- the same of the scene that the bytes are
pub counts-scene : (st : Status) (e : End) (x s : Scene) (r : Result Scene Fault) (j : Journal) (frames : List (ℕ × ℕ)) (text : List ℕ) (noted : Putting) (old new : Option (ℕ × ℕ)) → r ≡ Ok x → r ≡ Ok s
    → IsCounted e x j frames old new → IsNoted st e text noted → CountsPictures st s j old new
counts-scene st e x s r j frames text noted old new is also k n =
    let both : ◌≡◌ {A = Result Scene Fault} (Ok x) (Ok s) = sym is ∙ also in
    let same : x ≡ s = cc in
    subst (λ (y : Scene). CountsPictures st y j old new) same (counts-whole st e x j frames text noted old new k n)

-- the same of the scene at the front of the bytes
pub counts-front : (st : Status) (e : End) (x s : Scene × ℕ) (r : Result (Scene × ℕ) Fault) (j : Journal) (frames : List (ℕ × ℕ)) (text : List ℕ) (noted : Putting) (old new : Option (ℕ × ℕ)) → r ≡ Ok x → r ≡ Ok s
    → IsCounted e x.0 j frames old new → IsNoted st e text noted → CountsPictures st s.0 j old new
counts-front st e x s r j frames text noted old new is also k n =
    let both : ◌≡◌ {A = Result (Scene × ℕ) Fault} (Ok x) (Ok s) = sym is ∙ also in
    let same : x ≡ s = cc in
    subst (λ (y : Scene × ℕ). CountsPictures st y.0 j old new) same (counts-whole st e x.0 j frames text noted old new k n)

-- what says nothing of the pictures' count
abbrev SaysNothing : Status → Type 0
SaysNothing st = (s : Scene) (j : Journal) (old new : Option (ℕ × ℕ)) → CountsPictures st s j old new

pub counts-nothing : (st wanted : Status) → st ≡ wanted → SaysNothing wanted → SaysNothing st
counts-nothing st wanted is k = subst SaysNothing (sym is) k

pub counts-refused : (st wanted : Status) (line : List ℕ) (j : Journal) (pictures notes : Putting) → MayRefuse wanted st line j pictures notes → SaysNothing wanted → SaysNothing st
counts-refused st wanted line j pictures notes (inl h) k = counts-nothing st wanted h.is k
counts-refused st wanted line j pictures notes (inr h) k = counts-nothing st status.OutOfMemory h.0 (λ s i old new. tt)

-- the bytes that were told are those that were read
pub counts-read : (c : Command) (s : Scene) (st : Status) (j : Journal) (old new : Option (ℕ × ℕ)) (before : Option (List ℕ)) (bytes read : List ℕ) → before ≡ Some bytes → AreLeft before read
    → (IsSceneOf c read s → CountsPictures st s j old new) → IsSceneOf c bytes s → CountsPictures st s j old new
counts-read c s st j old new before bytes read told left counts is = counts (subst (λ (b : List ℕ). IsSceneOf c b s) (sym (told-is before bytes read told left)) is)

module _ (st : Status) (j : Journal) (old new : Option (ℕ × ℕ)) (source : Reading) (o : Option Command) (own : Command) (taken : o ≡ Some own) where
  -- of a command of its own
  abbrev pub CountsFor : Command → Type 0
  CountsFor c = (bytes : List ℕ) (s : Scene) → ReadsAndShows c.mode → IsToldIn c.mode source bytes → IsSceneOf c bytes s → CountsPictures st s j old new

  pub counts-taken : CountsFor own → (c : Command) → o ≡ Some c → CountsFor c
  counts-taken k c also =
      let both : ◌≡◌ {A = Option Command} (Some own) (Some c) = sym taken ∙ also in
      let same : own ≡ c = cc in
      subst CountsFor same k
