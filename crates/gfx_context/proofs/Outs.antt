-- The frames that are out, where one comes back and where one is given.
use Rattle.std.proofs.Common.{◌≡◌, ℕ, zero, suc, ◌+◌, ◌-◌, ◌<◌, ◌≤◌, List, [], ◌∷◌, ◌++◌, map, length, sym, ap, ◌∙◌, subst, arith, append_assoc, length-append}
use Rattle.std.specs.List.{AllByRecursion, range_with_len}
use Rattle.std.proofs.lemmas.List.{drop-append-le, map-append}
use Rattle.schedule_model.proofs.Lists.{all-snoc}
use Rattle.gfx_model.specs.World.{Item}
use Rattle.schedule_model.specs.Machine.{Place}
use Rattle.frame_record.specs.declared.frame.Frame.{Frame}
use Rattle.frame_record.specs.declared.frame.RenderedFrame.{RenderedFrame}
use Rattle.frame_record.specs.Links.{frames_of, out_of, CameBack}
use Rattle.context_core.specs.Gathered.{AreCollected}
use Rattle.context_core.specs.Kept.{AreTargets}
use Rattle.gfx_context.specs.Kept.{KeepsNames, AreOut}
use Rattle.gfx_context.proofs.OutStays.{first_of, rest_of}

range_snoc : (a n : ℕ) → range_with_len a (suc n) ≡ range_with_len a n ++ (a + n) ∷ []
range_snoc a zero = (let e : a ≡ a + 0 = omega arith in ap (λ (x : ℕ). x ∷ []) e)
range_snoc a (suc n) = ap (λ (l : List ℕ). a ∷ l) (range_snoc (a + 1) n ∙ (let e : a + 1 + n ≡ a + suc n = omega arith in ap (λ (x : ℕ). range_with_len (a + 1) n ++ x ∷ []) e))

module _ (admits : ℕ → ℕ → List Item → ℕ → Type 0) (views : ℕ) (places : List Place) (frame : ℕ) (given : List Frame) (back : List RenderedFrame) where
  pub out_back : (out left : ℕ) (new : List RenderedFrame) (r : RenderedFrame) → AreOut admits views places frame out given back → left + 1 ≡ out → CameBack given back new r → AreOut admits views places frame left given new
  out_back out left new r o l c =
      let numbers : map (λ f. f.number) (r.frame ∷ out_of given new) ≡ range_with_len (frame - suc left) (suc left) =
      ap (map (λ f. f.number)) (sym c.oldest) ∙ o.numbers ∙ (let e : out ≡ suc left = omega arith in ap (λ (n : ℕ). range_with_len (frame - n) n) e) in
      let first : frame - suc left + 1 ≡ frame - left = (let le = o.some in omega arith) in
      record {
        counted = (let n = ap length c.back in let m = o.counted in let k = length-append back (r ∷ []) in omega arith);
        prefix = c.prefix;
        some = (let le = o.some in omega arith);
        numbers = ap rest_of numbers ∙ ap (λ (n : ℕ). range_with_len n left) first;
        names = (subst (AllByRecursion (KeepsNames admits views places)) c.oldest o.names).1;
      }

  -- what comes back is the oldest by its number
  pub oldest_number : (out : ℕ) (new : List RenderedFrame) (r : RenderedFrame) → AreOut admits views places frame out given back → 0 < out → CameBack given back new r → r.frame.number + out ≡ frame
  oldest_number zero new r o some c = absurd (omega (arith, some))
  oldest_number (suc left) new r o some c =
      let first : r.frame.number ≡ frame - suc left = ap (λ fs. first_of (map (λ f. f.number) fs)) (sym c.oldest) ∙ ap first_of o.numbers in
      let le = o.some in
      omega (arith, first, le)

  pub out_given : (out : ℕ) (now : List Frame) (f : Frame) → AreOut admits views places frame out given back → now ≡ given ++ f ∷ [] → f.number ≡ frame → AreCollected admits views frame places f.recordings.items → AreTargets frame places f.views.settings
      → AreOut admits views places (suc frame) (out + 1) now back
  out_given out now f o is number names targets =
      let le : length back ≤ length given = (let m = o.counted in omega arith) in
      let outs : out_of now back ≡ out_of given back ++ f ∷ [] = ap (λ l. out_of l back) is ∙ drop-append-le (length back) given (f ∷ []) le in
      let some = o.some in
      let from : suc frame - suc out ≡ frame - out = omega arith in
      let last : frame - out + out ≡ frame = omega arith in
      let more : suc out ≡ out + 1 = omega arith in
      record {
        counted = (let n = ap length is in let m = o.counted in let k = length-append given (f ∷ []) in omega arith);
        prefix = is ∙ ap (λ l. l ++ f ∷ []) o.prefix ∙ append_assoc (frames_of back) (out_of given back) (f ∷ []) ∙ ap (λ l. frames_of back ++ l) (sym outs);
        some = omega arith;
        numbers = ap (map (λ x. x.number)) outs ∙ map-append (λ x. x.number) (out_of given back) (f ∷ []) ∙ (λ j. o.numbers j ++ (number ∙ sym last) j ∷ []) ∙ sym (range_snoc (frame - out) out)
            ∙ (λ j. range_with_len (sym from j) (suc out)) ∙ ap (λ (n : ℕ). range_with_len (suc frame - n) n) more;
        names = subst (AllByRecursion (KeepsNames admits views places)) (sym outs)
            (all-snoc (KeepsNames admits views places) (out_of given back) f o.names
            (record { recordings = subst (λ (n : ℕ). AreCollected admits views n places f.recordings.items) (sym number) names; targets = subst (λ (n : ℕ). AreTargets n places f.views.settings) (sym number) targets }));
      }
