-- Blamers that are given one frame more.
use Rattle.std.proofs.Common.{◌≡◌, ◌∙◌, ℕ, false, is_some, List, [], ◌∷◌, ◌++◌, Option, Some, None, IfSome, refl, sym, subst}
use Rattle.std.proofs.Math.Logic.{∥∥₁_map}
use Rattle.store_laws.specs.ByIndex.{Stores}
use Rattle.frame_record.specs.declared.frame.Frame.{Frame}
use Rattle.io_edge.specs.declared.sure.SureSink.{SureSink}
use Rattle.render_core.specs.declared.renderer.Renderer.{Renderer}
use Rattle.render_stores.specs.Seen.{stores_seen}
use Rattle.scene_tracing.specs.Tracing.{IsBefore}
use Rattle.scene_tracing.specs.Blaming.{IsBlamedIn, HasBlamed, Blames, BlamesWith}
use Rattle.scene_tracing.specs.declared.asked.AskedFrame.{AskedFrame}
use Rattle.scene_tracing.specs.declared.blamed.Blamed.{Blamed}
use Rattle.scene_tracing.specs.declared.blamer.Blamer.{Blamer}
use Rattle.scene_tracing.proofs.Frames.{at-more, at-now}

blamed-more : (a : AskedFrame) (frames : List Frame) (f : Frame) (b : Blamed) → HasBlamed a frames b → HasBlamed a (frames ++ f ∷ []) b
blamed-more a frames f b h = at-more (λ st g. IsBlamedIn st g b) a.width a.height a.frame frames f h

-- a blamer without a renderer leaves a frame alone
pub alone-blames : (t u : Blamer) (frames : List Frame) (f : Frame) → u.asked ≡ t.asked → u.blamed ≡ t.blamed → u.renderer ≡ None → Blames t frames → Blames u (frames ++ f ∷ [])
alone-blames t u frames f asked same none s = record {
  before = λ e. subst (λ o. IfSome o (λ r. IsBefore u.asked.width u.asked.height u.asked.frame u.left (stores_seen r.canvas.stores) (frames ++ f ∷ []))) (sym none) tt;
  blamed = λ b e. blamed-more u.asked frames f b (subst (λ (a : AskedFrame). HasBlamed a frames b) (sym asked) (s.blamed b (sym same ∙ e)));
}

-- one whose renderer was taken out leaves a frame alone
pub alone-with : (t : Blamer) (r : Renderer SureSink) (frames : List Frame) (f : Frame) → t.renderer ≡ None → BlamesWith t r frames → Blames t (frames ++ f ∷ [])
alone-with t r frames f none s = record {
  before = λ e. subst (λ o. IfSome o (λ q. IsBefore t.asked.width t.asked.height t.asked.frame t.left (stores_seen q.canvas.stores) (frames ++ f ∷ []))) (sym none) tt;
  blamed = λ b e. blamed-more t.asked frames f b (s.blamed b e);
}

-- the renderer is taken out
pub taken-with : (t u : Blamer) (r : Renderer SureSink) (frames : List Frame) → u.asked ≡ t.asked → u.left ≡ t.left → u.blamed ≡ t.blamed → t.renderer ≡ Some r → Blames t frames → BlamesWith u r frames
taken-with t u r frames asked left same some s = record {
  before = λ e.
      subst (λ (n : ℕ). IsBefore u.asked.width u.asked.height u.asked.frame n (stores_seen r.canvas.stores) frames) (sym left)
      (subst (λ (a : AskedFrame). IsBefore a.width a.height a.frame t.left (stores_seen r.canvas.stores) frames) (sym asked)
      (subst (λ o. IfSome o (λ q. IsBefore t.asked.width t.asked.height t.asked.frame t.left (stores_seen q.canvas.stores) frames)) some (s.before (sym same ∙ e))));
  blamed = λ b e. subst (λ (a : AskedFrame). HasBlamed a frames b) (sym asked) (s.blamed b (sym same ∙ e));
}

-- for want of memory a frame was not rendered
pub gone-blames : (u : Blamer) (frames : List Frame) (f : Frame) → u.blamed ≡ None → u.renderer ≡ None → Blames u (frames ++ f ∷ [])
gone-blames u frames f none gone = record {
  before = λ e. subst (λ o. IfSome o (λ r. IsBefore u.asked.width u.asked.height u.asked.frame u.left (stores_seen r.canvas.stores) (frames ++ f ∷ []))) (sym gone) tt;
  blamed = λ b e. absurd (cc (sym none ∙ e));
}

-- a frame before the one asked for was rendered
pub render-blames : (t u : Blamer) (frames : List Frame) (f : Frame) → u.asked ≡ t.asked → u.blamed ≡ None
    → IfSome u.renderer (λ r. IsBefore t.asked.width t.asked.height t.asked.frame u.left (stores_seen r.canvas.stores) (frames ++ f ∷ [])) → Blames u (frames ++ f ∷ [])
render-blames t u frames f asked none before = record {
  before = λ e. subst (λ (a : AskedFrame). IfSome u.renderer (λ r. IsBefore a.width a.height a.frame u.left (stores_seen r.canvas.stores) (frames ++ f ∷ []))) (sym asked) before;
  blamed = λ b e. absurd (cc (sym none ∙ e));
}

-- the frame asked for was looked into
pub blame-blames : (t u : Blamer) (h : Stores) (frames : List Frame) (f : Frame) → t.left ≡ 0 → u.asked ≡ t.asked → u.renderer ≡ None
    → IsBefore t.asked.width t.asked.height t.asked.frame t.left h frames → ((b : Blamed) → u.blamed ≡ Some b → IsBlamedIn h f b) → Blames u (frames ++ f ∷ [])
blame-blames t u h frames f here asked gone before blamed = record {
  before = λ e. subst (λ o. IfSome o (λ r. IsBefore u.asked.width u.asked.height u.asked.frame u.left (stores_seen r.canvas.stores) (frames ++ f ∷ []))) (sym gone) tt;
  blamed = λ b e.
      subst (λ (a : AskedFrame). HasBlamed a (frames ++ f ∷ []) b) (sym asked)
      (at-now (λ st g. IsBlamedIn st g b) t.asked.width t.asked.height t.asked.frame t.left h frames f here before (blamed b e));
}

-- the numbers that a blamer has found
pub blamed-of : (t : Blamer) (frames : List Frame) → ∥ Blames t frames ∥₁ → IfSome t.blamed (λ b. ∥ HasBlamed t.asked frames b ∥₁)
blamed-of t frames s = go t.blamed refl
  where
    go : (o : Option Blamed) → t.blamed ≡ o → IfSome o (λ b. ∥ HasBlamed t.asked frames b ∥₁)
    go None is = tt
    go (Some b) is = ∥∥₁_map s (λ k. k.blamed b is)

-- what was found of the frame asked for, if there is something
pub blamed-if : (h : Stores) (f : Frame) (o : Option Blamed) (b : Blamed) → IfSome o (λ x. IsBlamedIn h f x) → o ≡ Some b → IsBlamedIn h f b
blamed-if h f o b is same = subst (λ p. IfSome p (λ x. IsBlamedIn h f x)) same is

pub no-blame : (o : Option Blamed) → is_some o ≡ false → o ≡ None
no-blame None e = refl
no-blame (Some b) e = absurd (cc e)
