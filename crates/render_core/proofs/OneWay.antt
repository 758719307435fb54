-- What a sink has of frames that ended, in one way.
use Rattle.std.proofs.Math.Logic.{∥∥₁_map, ∥∥₁_elim}
use Rattle.std.specs.Coded.{Coded, Coded-set, coded_ℕ, coded×, coded_list, coded_option, le_prop, ×_prop}
use Rattle.std.proofs.Common.{◌≡◌, ◌≤◌, ◌<◌, ◌+◌, ◌-◌, ℕ, zero, suc, nat_le, if◌then◌else◌, List, [], ◌∷◌, ◌++◌, length, take, Option, Some, None, ⊎_elim, inl, inr, refl, sym, ap, subst, ◌∙◌, arith, length-append}
use Rattle.std.specs.Prelude.{flat_map}
use Rattle.std.proofs.lemmas.Bool.{cases_lt, le-leb, lt-leb}
use Rattle.std.proofs.lemmas.List.{length-take-le, take_all}
use Rattle.io_edge.specs.Edge.{with_back, Rose}
use Rattle.gfx_model.specs.Raster.{Texels}
use Rattle.scene_model.specs.Output.{picture_text}
use Rattle.frame_record.specs.declared.frame.Outcome.{Outcome}
use Rattle.frame_record.specs.declared.frame.Outcome.TheVariants as outcomes
use Rattle.frame_record.specs.declared.frame.RenderedFrame.{RenderedFrame}
use Rattle.render_core.specs.Ended.{first_outcome, pictures_seen, texts_seen, EndsAs, HasTexts, TextsLaw}
use Rattle.io_whole.specs.Whole.{HasFront}
use Rattle.render_core.specs.Rendered.{Rendering}
use Rattle.render_core.proofs.EndedFrames.{ended_frames, length_pictures}
use Rattle.render_core.proofs.Shows.{some_text}

held_coded : Coded (Option (List ℕ))
held_coded = coded_option (coded_list coded_ℕ)

tally_coded : Coded (Option (ℕ × ℕ))
tally_coded = coded_option (coded× coded_ℕ coded_ℕ)

-- how many bytes more are held
abbrev more_held : Option (List ℕ) → Option (List ℕ) → ℕ
more_held (Some a) (Some b) = length b - length a
more_held _ _ = 0

more_is : (a b : List ℕ) → more_held (Some a) (Some (a ++ b)) ≡ length b
more_is a b = let long = length-append a b in omega (arith, long)

-- ---- fronts

front_same : (n : ℕ) (text : List ℕ) → take n text ≡ take (length (take n text)) text
front_same n text =
    ⊎_elim
    (λ (lt : n < length text). ap (λ m. take m text) (sym (length-take-le n text (omega (arith, lt)))))
    (λ (le : length text ≤ n).
    take_all n text le
    ∙ sym (take_all (length text) text (omega arith))
    ∙ ap (λ (xs : List ℕ). take (length xs) text) (sym (take_all n text le)))
    (cases_lt n (length text))

front_by : (old new : Option (List ℕ)) (text : List ℕ) → HasFront old text new → new ≡ with_back old (take (more_held old new) text)
front_by None new text f = f.1
front_by (Some a) new text f =
    let n = f.0 in
    let P : Option (List ℕ) → Type 0 = λ h. h ≡ Some (a ++ take (more_held (Some a) h) text) in
    subst P (sym f.1) (ap (λ xs. Some (a ++ xs)) (front_same n text ∙ ap (λ m. take m text) (sym (more_is a (take n text)))))

front_of : (old new : Option (List ℕ)) (text : List ℕ) → ∥ HasFront old text new ∥₁ → HasFront old text new
front_of old new text h = (more_held old new, ∥∥₁_elim h (Coded-set held_coded new (with_back old (take (more_held old new) text))) (front_by old new text))

rose_of : (a b : ℕ) → ∥ Rose a b ∥₁ → Rose a b
rose_of a b h =
    ⊎_elim
    (λ (lt : a < b). inl lt)
    (λ (le : b ≤ a). inr (∥∥₁_elim h le_prop (λ r. ⊎_elim (λ (lt : a < b). absurd (omega (arith, lt, le))) (λ (most : 18446744073709551615 ≤ b). most) r)))
    (cases_lt a b)

-- ---- whole texts

-- how many whole texts as many bytes have
abbrev whole_in : ℕ → List Texels → ℕ
whole_in n [] = 0
whole_in n (t ∷ ts) = if nat_le (length (picture_text t)) n then suc (whole_in (n - length (picture_text t)) ts) else 0

abbrev texts_in : List Texels → List ℕ
texts_in ts = flat_map picture_text ts

whole_is : (j : ℕ) (ts : List Texels) → j ≤ length ts → whole_in (length (texts_in (take j ts))) ts ≡ j
whole_is zero [] le = refl
whole_is zero (t ∷ ts) le = ap (λ b. if b then suc (whole_in (0 - length (picture_text t)) ts) else 0) (lt-leb (length (picture_text t)) 0 (some_text t))
whole_is (suc j) [] le = absurd (omega (arith, le))
whole_is (suc j) (t ∷ ts) le =
    let one : ℕ = length (picture_text t) in
    let all : ℕ = length (texts_in (take (suc j) (t ∷ ts))) in
    let rest : ℕ = length (texts_in (take j ts)) in
    let long : all ≡ one + rest = length-append (picture_text t) (texts_in (take j ts)) in
    ap (λ b. if b then suc (whole_in (all - one) ts) else 0) (le-leb one all (omega (arith, long)))
    ∙ ap (λ n. suc (whole_in n ts)) (omega (arith, long))
    ∙ ap suc (whole_is j ts (omega (arith, le)))

module _ (old new : Option (List ℕ)) (ts : List Texels) where
  abbrev HasWhole : ℕ → Type 0
  HasWhole j = (j < length ts) × (new ≡ with_back old (texts_in (take j ts)))

whole_by : (old new : Option (List ℕ)) (ts : List Texels) (j : ℕ) → HasWhole old new ts j → HasWhole old new ts (whole_in (more_held old new) ts)
whole_by None new ts j h = (let none = whole_is 0 ts (omega arith) in omega (arith, none, h.0), h.1)
whole_by (Some a) new ts j h =
    let text : List ℕ = texts_in (take j ts) in
    let P : Option (List ℕ) → Type 0 = λ x. HasWhole (Some a) x ts (whole_in (more_held (Some a) x) ts) in
    let same : whole_in (more_held (Some a) (Some (a ++ text))) ts ≡ j = ap (λ n. whole_in n ts) (more_is a text) ∙ whole_is j ts (omega (arith, h.0)) in
    subst P (sym h.1) (subst (λ (m : ℕ). HasWhole (Some a) (Some (a ++ text)) ts m) (sym same) (h.0, refl))

-- ---- ends

texts_of : (o : Outcome) (old : Rendering) (rs : List RenderedFrame) (new : Rendering) → ∥ EndsAs o old rs new ∥₁ → HasTexts o old rs new
texts_of outcomes.Shown old rs new h =
    (∥∥₁_elim h (Coded-set held_coded new.held (with_back old.held (texts_seen old.stores rs))) (λ e. e.1), ∥∥₁_elim h (Coded-set tally_coded new.tally _) (λ e. e.2))
texts_of outcomes.PictureFault old rs new h =
    (front_of old.held new.held (texts_seen old.stores rs) (∥∥₁_map h (λ e. e.0)), rose_of old.faults new.faults (∥∥₁_map h (λ e. e.1)))
texts_of outcomes.OutOfMemory old rs new h =
    let ts : List Texels = pictures_seen old.stores rs in
    let many : length ts ≡ length rs = length_pictures old.stores rs in
    let k : ℕ = whole_in (more_held old.held new.held) ts in
    let has : HasWhole old.held new.held ts k =
    ∥∥₁_elim h (×_prop le_prop (Coded-set held_coded new.held (with_back old.held (texts_in (take k ts))))) (λ e. whole_by old.held new.held ts e.0 (omega (arith, many, e.1), e.2)) in
    (k, omega (arith, many, has.0), has.1)
texts_of outcomes.Skipped old rs new h = ∥∥₁_elim h (λ a b. absurd a) (λ e. e)

pub texts_held : TextsLaw
texts_held old new rs are none = texts_of (first_outcome rs) old rs new (∥∥₁_map are (λ k. ended_frames old new rs k none))
