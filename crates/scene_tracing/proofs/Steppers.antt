-- Steppers that are given one frame more.
use Rattle.std.proofs.Common.{◌≡◌, ◌∙◌, ℕ, false, is_some, List, [], ◌∷◌, ◌++◌, Option, Some, None, IfSome, inl, inr, refl, sym, ap, subst}
use Rattle.store_laws.specs.ByIndex.{Stores}
use Rattle.frame_record.specs.declared.frame.Frame.{Frame}
use Rattle.io_edge.specs.declared.sure.SureSink.{SureSink}
use Rattle.render_core.specs.declared.renderer.Renderer.{Renderer}
use Rattle.render_stores.specs.Seen.{stores_seen}
use Rattle.frame_steps.specs.declared.steps.StepFault.TheVariants as faults
use Rattle.scene_tracing.specs.Tracing.{IsBefore}
use Rattle.scene_tracing.specs.Stepping.{Told, IsSteppedIn, HasStepped, Steps, StepsWith, IsEnded}
use Rattle.scene_tracing.specs.declared.asked.AskedFrame.{AskedFrame}
use Rattle.scene_tracing.specs.declared.stepped.StepsEnd.{StepsEnd}
use Rattle.scene_tracing.specs.declared.stepper.Stepper.{Stepper}
use Rattle.scene_tracing.proofs.Frames.{at-more, at-now}

stepped-more : (a : AskedFrame) (frames : List Frame) (f : Frame) (old : Told) (end : StepsEnd) (new : Told) → HasStepped a frames old end new → HasStepped a (frames ++ f ∷ []) old end new
stepped-more a frames f old end new h = at-more (λ st g. IsSteppedIn st g old end new) a.width a.height a.frame frames f h

module _ {P : Type 0} (told : P → Told) where
  -- a stepper without a renderer leaves a frame alone
  pub alone-steps : (t u : Stepper P) (old : Told) (frames : List Frame) (f : Frame) → u.asked ≡ t.asked → u.sink ≡ t.sink → u.end ≡ t.end → u.renderer ≡ None → Steps told t old frames → Steps told u old (frames ++ f ∷ [])
  alone-steps t u old frames f asked sink same none s = record {
    untouched = λ e. ap told sink ∙ s.untouched (sym same ∙ e);
    before = λ e. subst (λ o. IfSome o (λ r. IsBefore u.asked.width u.asked.height u.asked.frame u.left (stores_seen r.canvas.stores) (frames ++ f ∷ []))) (sym none) tt;
    stepped = λ end e.
        stepped-more u.asked frames f old end (told u.sink)
        (subst (λ (p : P). HasStepped u.asked frames old end (told p)) (sym sink) (subst (λ (a : AskedFrame). HasStepped a frames old end (told t.sink)) (sym asked) (s.stepped end (sym same ∙ e))));
  }

  -- one whose renderer was taken out, and that put the pictures before, leaves a frame alone
  pub alone-with : (t : Stepper P) (r : Renderer SureSink) (old : Told) (frames : List Frame) (f : Frame) → t.renderer ≡ None → StepsWith told t r old frames → Steps told t old (frames ++ f ∷ [])
  alone-with t r old frames f none s = record {
    untouched = s.untouched;
    before = λ e. subst (λ o. IfSome o (λ q. IsBefore t.asked.width t.asked.height t.asked.frame t.left (stores_seen q.canvas.stores) (frames ++ f ∷ []))) (sym none) tt;
    stepped = λ end e. stepped-more t.asked frames f old end (told t.sink) (s.stepped end e);
  }

  -- the renderer is taken out
  pub taken-with : (t u : Stepper P) (r : Renderer SureSink) (old : Told) (frames : List Frame) → u.asked ≡ t.asked → u.left ≡ t.left → u.sink ≡ t.sink → u.end ≡ t.end → t.renderer ≡ Some r → Steps told t old frames → StepsWith told u r old frames
  taken-with t u r old frames asked left sink same some s = record {
    untouched = λ e. ap told sink ∙ s.untouched (sym same ∙ e);
    before = λ e.
        subst (λ (n : ℕ). IsBefore u.asked.width u.asked.height u.asked.frame n (stores_seen r.canvas.stores) frames) (sym left)
        (subst (λ (a : AskedFrame). IsBefore a.width a.height a.frame t.left (stores_seen r.canvas.stores) frames) (sym asked)
        (subst (λ o. IfSome o (λ q. IsBefore t.asked.width t.asked.height t.asked.frame t.left (stores_seen q.canvas.stores) frames)) some (s.before (sym same ∙ e))));
    stepped = λ end e.
        subst (λ (p : P). HasStepped u.asked frames old end (told p)) (sym sink) (subst (λ (a : AskedFrame). HasStepped a frames old end (told t.sink)) (sym asked) (s.stepped end (sym same ∙ e)));
  }

  -- a frame before the one asked for was rendered
  pub render-steps : (t u : Stepper P) (old : Told) (frames : List Frame) (f : Frame) → u.asked ≡ t.asked → told u.sink ≡ old → u.end ≡ None
      → IfSome u.renderer (λ r. IsBefore t.asked.width t.asked.height t.asked.frame u.left (stores_seen r.canvas.stores) (frames ++ f ∷ [])) → Steps told u old (frames ++ f ∷ [])
  render-steps t u old frames f asked sink none before = record {
    untouched = λ e. sink;
    before = λ e. subst (λ (a : AskedFrame). IfSome u.renderer (λ r. IsBefore a.width a.height a.frame u.left (stores_seen r.canvas.stores) (frames ++ f ∷ []))) (sym asked) before;
    stepped = λ end e. absurd (cc (sym none ∙ e));
  }

  -- for want of memory none was
  pub gone-steps : (u : Stepper P) (old : Told) (frames : List Frame) (f : Frame) → told u.sink ≡ old → u.end ≡ None → u.renderer ≡ None → Steps told u old (frames ++ f ∷ [])
  gone-steps u old frames f sink none gone = record {
    untouched = λ e. sink;
    before = λ e. subst (λ o. IfSome o (λ r. IsBefore u.asked.width u.asked.height u.asked.frame u.left (stores_seen r.canvas.stores) (frames ++ f ∷ []))) (sym gone) tt;
    stepped = λ end e. absurd (cc (sym none ∙ e));
  }

  some-same : (a b : StepsEnd) → Some a ≡ Some b → a ≡ b
  some-same a b e = cc e

  -- the pictures of the steps of the frame asked for were put
  pub step-steps : (t u : Stepper P) (h : Stores) (old : Told) (frames : List Frame) (f : Frame) (end : StepsEnd) → t.left ≡ 0 → u.asked ≡ t.asked → u.end ≡ Some end → told t.sink ≡ old
      → IsBefore t.asked.width t.asked.height t.asked.frame t.left h frames → IsSteppedIn h f (told t.sink) end (told u.sink) → Steps told u old (frames ++ f ∷ [])
  step-steps t u h old frames f end here asked is sink before stepped = record {
    untouched = λ e. absurd (cc (sym is ∙ e));
    before = λ e. absurd (cc (sym is ∙ e));
    stepped = λ later e.
        subst (λ (x : StepsEnd). HasStepped u.asked (frames ++ f ∷ []) old x (told u.sink)) (some-same end later (sym is ∙ e))
        (subst (λ (a : AskedFrame). HasStepped a (frames ++ f ∷ []) old end (told u.sink)) (sym asked)
        (at-now (λ st g. IsSteppedIn st g old end (told u.sink)) t.asked.width t.asked.height t.asked.frame t.left h frames f here before (subst (λ (o : Told). IsSteppedIn h f o end (told u.sink)) sink stepped)));
  }

  -- how a stepper ends
  pub ends-so : (t : Stepper P) (old : Told) (frames : List Frame) (end : StepsEnd) → ((e : StepsEnd) → t.end ≡ Some e → end ≡ e) → (t.end ≡ None → end.fault ≡ Some faults.OutOfMemory) → Steps told t old frames
      → IsEnded t.asked frames old end (told t.sink)
  ends-so t old frames end given none s = go t.end refl
    where
      go : (o : Option StepsEnd) → t.end ≡ o → IsEnded t.asked frames old end (told t.sink)
      go None is = inr (none is, s.untouched is)
      go (Some e) is = inl (subst (λ (x : StepsEnd). HasStepped t.asked frames old x (told t.sink)) (sym (given e is)) (s.stepped e is))

pub no-end : (o : Option StepsEnd) → is_some o ≡ false → o ≡ None
no-end None e = refl
no-end (Some t) e = absurd (cc e)
