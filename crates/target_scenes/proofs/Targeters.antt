-- Targeters that are given one frame more.
use Rattle.std.proofs.Common.{◌≡◌, ◌∙◌, ℕ, false, is_some, List, [], ◌∷◌, ◌++◌, Option, Some, None, IfSome, refl, sym, subst}
use Rattle.std.proofs.Math.Logic.{∥∥₁_map}
use Rattle.store_laws.specs.ByIndex.{Stores}
use Rattle.frame_record.specs.declared.frame.Frame.{Frame}
use Rattle.io_edge.specs.declared.sure.SureSink.{SureSink}
use Rattle.render_core.specs.declared.renderer.Renderer.{Renderer}
use Rattle.render_stores.specs.Seen.{stores_seen}
use Rattle.scene_tracing.specs.Tracing.{IsBefore}
use Rattle.target_scenes.specs.Finding.{IsFoundIn, HasFound, Finds, FindsWith}
use Rattle.target_scenes.specs.declared.asked.AskedTarget.{AskedTarget}
use Rattle.target_scenes.specs.declared.found.Found.{Found}
use Rattle.target_scenes.specs.declared.targeter.Targeter.{Targeter}
use Rattle.target_tracing.specs.declared.tracing.TargetSpot.{TargetSpot}
use Rattle.scene_tracing.proofs.Frames.{at-more, at-now}

found-more : (a : AskedTarget) (frames : List Frame) (f : Frame) (b : Found) → HasFound a frames b → HasFound a (frames ++ f ∷ []) b
found-more a frames f b h = at-more (λ st g. IsFoundIn a.spot st g b) a.width a.height a.frame frames f h

-- a targeter without a renderer leaves a frame alone
pub alone-finds : (t u : Targeter) (frames : List Frame) (f : Frame) → u.asked ≡ t.asked → u.found ≡ t.found → u.renderer ≡ None → Finds t frames → Finds u (frames ++ f ∷ [])
alone-finds t u frames f asked same none s = record {
  before = λ e. subst (λ o. IfSome o (λ r. IsBefore u.asked.width u.asked.height u.asked.frame u.left (stores_seen r.canvas.stores) (frames ++ f ∷ []))) (sym none) tt;
  found = λ b e. found-more u.asked frames f b (subst (λ (a : AskedTarget). HasFound a frames b) (sym asked) (s.found b (sym same ∙ e)));
}

-- one whose renderer was taken out leaves a frame alone
pub alone-with : (t : Targeter) (r : Renderer SureSink) (frames : List Frame) (f : Frame) → t.renderer ≡ None → FindsWith t r frames → Finds t (frames ++ f ∷ [])
alone-with t r frames f none s = record {
  before = λ e. subst (λ o. IfSome o (λ q. IsBefore t.asked.width t.asked.height t.asked.frame t.left (stores_seen q.canvas.stores) (frames ++ f ∷ []))) (sym none) tt;
  found = λ b e. found-more t.asked frames f b (s.found b e);
}

-- the renderer is taken out
pub taken-with : (t u : Targeter) (r : Renderer SureSink) (frames : List Frame) → u.asked ≡ t.asked → u.left ≡ t.left → u.found ≡ t.found → t.renderer ≡ Some r → Finds t frames → FindsWith u r frames
taken-with t u r frames asked left same some s = record {
  before = λ e.
      subst (λ (n : ℕ). IsBefore u.asked.width u.asked.height u.asked.frame n (stores_seen r.canvas.stores) frames) (sym left)
      (subst (λ (a : AskedTarget). IsBefore a.width a.height a.frame t.left (stores_seen r.canvas.stores) frames) (sym asked)
      (subst (λ o. IfSome o (λ q. IsBefore t.asked.width t.asked.height t.asked.frame t.left (stores_seen q.canvas.stores) frames)) some (s.before (sym same ∙ e))));
  found = λ b e. subst (λ (a : AskedTarget). HasFound a frames b) (sym asked) (s.found b (sym same ∙ e));
}

-- for want of memory a frame was not rendered
pub gone-finds : (u : Targeter) (frames : List Frame) (f : Frame) → u.found ≡ None → u.renderer ≡ None → Finds u (frames ++ f ∷ [])
gone-finds u frames f none gone = record {
  before = λ e. subst (λ o. IfSome o (λ r. IsBefore u.asked.width u.asked.height u.asked.frame u.left (stores_seen r.canvas.stores) (frames ++ f ∷ []))) (sym gone) tt;
  found = λ b e. absurd (cc (sym none ∙ e));
}

-- a frame before the one asked for was rendered
pub render-finds : (t u : Targeter) (frames : List Frame) (f : Frame) → u.asked ≡ t.asked → u.found ≡ None
    → IfSome u.renderer (λ r. IsBefore t.asked.width t.asked.height t.asked.frame u.left (stores_seen r.canvas.stores) (frames ++ f ∷ [])) → Finds u (frames ++ f ∷ [])
render-finds t u frames f asked none before = record {
  before = λ e. subst (λ (a : AskedTarget). IfSome u.renderer (λ r. IsBefore a.width a.height a.frame u.left (stores_seen r.canvas.stores) (frames ++ f ∷ []))) (sym asked) before;
  found = λ b e. absurd (cc (sym none ∙ e));
}

-- the frame asked for was looked into
pub trace-finds : (t u : Targeter) (h : Stores) (frames : List Frame) (f : Frame) → t.left ≡ 0 → u.asked ≡ t.asked → u.renderer ≡ None
    → IsBefore t.asked.width t.asked.height t.asked.frame t.left h frames → ((b : Found) → u.found ≡ Some b → IsFoundIn t.asked.spot h f b) → Finds u (frames ++ f ∷ [])
trace-finds t u h frames f here asked gone before found = record {
  before = λ e. subst (λ o. IfSome o (λ r. IsBefore u.asked.width u.asked.height u.asked.frame u.left (stores_seen r.canvas.stores) (frames ++ f ∷ []))) (sym gone) tt;
  found = λ b e.
      subst (λ (a : AskedTarget). HasFound a (frames ++ f ∷ []) b) (sym asked)
      (at-now (λ st g. IsFoundIn t.asked.spot st g b) t.asked.width t.asked.height t.asked.frame t.left h frames f here before (found b e));
}

-- the numbers that a targeter has found
pub found-of : (t : Targeter) (frames : List Frame) → ∥ Finds t frames ∥₁ → IfSome t.found (λ b. ∥ HasFound t.asked frames b ∥₁)
found-of t frames s = go t.found refl
  where
    go : (o : Option Found) → t.found ≡ o → IfSome o (λ b. ∥ HasFound t.asked frames b ∥₁)
    go None is = tt
    go (Some b) is = ∥∥₁_map s (λ k. k.found b is)

-- what was found of the frame asked for, if there is something
pub found-if : (spot : TargetSpot) (h : Stores) (f : Frame) (o : Option Found) (b : Found) → IfSome o (λ x. IsFoundIn spot h f x) → o ≡ Some b → IsFoundIn spot h f b
found-if spot h f o b is same = subst (λ p. IfSome p (λ x. IsFoundIn spot h f x)) same is

pub no-found : (o : Option Found) → is_some o ≡ false → o ≡ None
no-found None e = refl
no-found (Some b) e = absurd (cc e)
