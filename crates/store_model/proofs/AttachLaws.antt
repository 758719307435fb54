-- The textures of each frame buffer stay there, with their formats and sides.
use Rattle.std.proofs.Common.{◌≡◌, ◌≢◌, ℕ, zero, suc, get_or, ◌<◌, ◌≤◌, ◌⊎◌, inl, inr, Bool, true, false, cond, List, length, map, set, replicate, Option, Some, None, refl, sym, ap, ◌∙◌, arith, eqb}
use Rattle.std.specs.Prelude.{option_map, option_and_then, is_some, ◌&&◌, ◌||◌, ◌==◌}
use Rattle.std.proofs.lemmas.Bool.{cases_lt, eqb-true}
use Rattle.std.proofs.lemmas.List.{set_past, get_or-map, get_or_past, length-map}
use Rattle.std.proofs.lemmas.Option.{none-some, same_Some, unwrap_or-slice_get}
use Rattle.gfx_model.specs.Words.{Format, rgba8, d24s8, is_format}
use Rattle.gfx_model.specs.Raster.{Texels}
use Rattle.gfx_model.specs.Resources.{same_sides}
use Rattle.store_model.specs.Slots.{at, no_slots, filled_at, emptied_at, changed_at}
use Rattle.store_model.specs.Textures.{AllAttached, Held, here, taken, sides_of, TextureSlot, TargetSlot, slot_sides, sides_at, can_attach_at, texels_in, slot_texels, texels_in_row, out_sides, out_at, changed_held, with_texels_here, held_out, slot_out, slot_with, holds, is_index, unless_held, unless_holding}
use Rattle.store_model.proofs.SlotLaws.{at_same, at_other}

-- ---- a slot that is set

pub at_set : {X : Type 0} (slots : List (Option X)) (i j : ℕ) (o : Option X) → ((j ≡ i) × (at (set slots i o) j ≡ o)) ⊎ (at (set slots i o) j ≡ at slots j)
at_set slots i j o = by_index (eqb j i) refl (cases_lt i (length slots))
  where
    by_index : (b : Bool) → eqb j i ≡ b → (i < length slots) ⊎ (length slots ≤ i) → ((j ≡ i) × (at (set slots i o) j ≡ o)) ⊎ (at (set slots i o) j ≡ at slots j)
    by_index false e _ = inr (at_other slots i j o (grind (arith, e)))
    by_index true e (inr past) = inr (ap (λ xs. at xs j) (set_past slots i o past))
    by_index true e (inl lt) = let same : j ≡ i = grind (arith, e) in inl (same, ap (at (set slots i o)) same ∙ at_same slots i o lt)

-- each texture that is there stays, with its format and sides
unfoldable pub Keeps : List (Option TextureSlot) → List (Option TextureSlot) → Type 0
Keeps old new = (f : Format) (j : ℕ) (p : ℕ × ℕ) → sides_at f old j ≡ Some p → sides_at f new j ≡ Some p

some_kept : (o q : Option (ℕ × ℕ)) → ((p : ℕ × ℕ) → o ≡ Some p → q ≡ Some p) → is_some o ≡ true → is_some q ≡ true
some_kept None q k e = cc
some_kept (Some p) q k e = ap is_some (k p refl)

sides_kept : (a b c d : Option (ℕ × ℕ)) → ((p : ℕ × ℕ) → a ≡ Some p → c ≡ Some p) → ((p : ℕ × ℕ) → b ≡ Some p → d ≡ Some p) → same_sides a b ≡ true → same_sides c d ≡ true
sides_kept None b c d k l e = cc
sides_kept (Some p) None c d k l e = cc
sides_kept (Some p) (Some q) c d k l e = ap (λ x. same_sides x d) (k p refl) ∙ ap (same_sides (Some p)) (l q refl) ∙ e

attach_kept : (old new : List (Option TextureSlot)) (color : ℕ) (depth : Option ℕ) → Keeps old new → can_attach_at old color depth ≡ true → can_attach_at new color depth ≡ true
unfolding Keeps
attach_kept old new color None k e = some_kept (sides_at rgba8 old color) (sides_at rgba8 new color) (k rgba8 color) e
attach_kept old new color (Some depth) k e = sides_kept (sides_at rgba8 old color) (sides_at d24s8 old depth) (sides_at rgba8 new color) (sides_at d24s8 new depth) (k rgba8 color) (k d24s8 depth) e

pub all_kept : (old new : List (Option TextureSlot)) (targets : List (Option TargetSlot)) → Keeps old new → AllAttached old targets → AllAttached new targets
all_kept old new targets k a i t e = attach_kept old new t.color t.depth k (a i t e)

-- ---- creates and changes

pub keeps_filled : (slots : List (Option TextureSlot)) (i : ℕ) (s : TextureSlot) → at slots i ≡ None → Keeps slots (filled_at i s slots)
unfolding Keeps
keeps_filled slots i s free f j p e = by_set (at_set slots i j (Some s))
  where
    by_set : ((j ≡ i) × (at (set slots i (Some s)) j ≡ Some s)) ⊎ (at (set slots i (Some s)) j ≡ at slots j) → sides_at f (filled_at i s slots) j ≡ Some p
    by_set (inl at_i) = let none : None ≡ Some p = sym (ap (option_and_then (slot_sides f)) (ap (at slots) at_i.0 ∙ free)) ∙ e in absurd (none-some p none)
    by_set (inr same) = ap (option_and_then (slot_sides f)) same ∙ e

changed_sides : (f : Format) (change : TextureSlot → TextureSlot) (o : Option TextureSlot) (p : ℕ × ℕ) → ((s : TextureSlot) → o ≡ Some s → slot_sides f (change s) ≡ slot_sides f s) → option_and_then (slot_sides f) o ≡ Some p → option_and_then (slot_sides f) (option_map change o) ≡ Some p
changed_sides f change None p k e = e
changed_sides f change (Some s) p k e = k s refl ∙ e

pub keeps_changed : (slots : List (Option TextureSlot)) (i : ℕ) (change : TextureSlot → TextureSlot) → ((f : Format) (s : TextureSlot) → at slots i ≡ Some s → slot_sides f (change s) ≡ slot_sides f s) → Keeps slots (changed_at change i slots)
unfolding Keeps
keeps_changed slots i change k f j p e = by_set (at_set slots i j (option_map change (at slots i)))
  where
    by_set : ((j ≡ i) × (at (set slots i (option_map change (at slots i))) j ≡ option_map change (at slots i))) ⊎ (at (set slots i (option_map change (at slots i))) j ≡ at slots j) → sides_at f (changed_at change i slots) j ≡ Some p
    by_set (inl at_i) = ap (option_and_then (slot_sides f)) at_i.1 ∙ changed_sides f change (at slots i) p (k f) (ap (λ x. option_and_then (slot_sides f) (at slots x)) (sym at_i.0) ∙ e)
    by_set (inr same) = ap (option_and_then (slot_sides f)) same ∙ e

same_sides_in : (f : Format) (s : TextureSlot) (held : Held) → sides_of held ≡ sides_of s.held → slot_sides f (record s { held = held }) ≡ slot_sides f s
same_sides_in f s held e = ap (λ p. cond (is_format f s.format) (Some p) None) e

pub keeps_here : (slots : List (Option TextureSlot)) (i : ℕ) (change : Texels → Texels) → ((t : Texels) → (change t).width ≡ t.width) → ((t : Texels) → (change t).height ≡ t.height) → Keeps slots (changed_at (with_texels_here change) i slots)
keeps_here slots i change w h = keeps_changed slots i (with_texels_here change) (λ f s e. same_sides_in f s (changed_held change s.held) (held_kept s.held))
  where
    held_kept : (held : Held) → sides_of (changed_held change held) ≡ sides_of held
    held_kept (here t) = λ i. (w t i, h t i)
    held_kept (taken width height) = refl

pub keeps_out : (slots : List (Option TextureSlot)) (i : ℕ) → Keeps slots (changed_at slot_out i slots)
keeps_out slots i = keeps_changed slots i slot_out (λ f s e. same_sides_in f s (held_out (sides_of s.held)) refl)

-- ---- a texture that is destroyed

or_false : (a b : Bool) → (a || b) ≡ false → (a ≡ false) × (b ≡ false)
or_false true b e = absurd (grind (arith, e))
or_false false b e = (refl, e)

left_sides : (slots : List (Option TextureSlot)) (i j : ℕ) (f : Format) → (i == j) ≡ false → sides_at f (emptied_at i slots) j ≡ sides_at f slots j
left_sides slots i j f e = ap (option_and_then (slot_sides f)) (at_other slots i j None (grind (arith, e)))

attach_left : (slots : List (Option TextureSlot)) (i color : ℕ) (depth : Option ℕ) → (i == color) ≡ false → is_index i depth ≡ false → can_attach_at slots color depth ≡ true → can_attach_at (emptied_at i slots) color depth ≡ true
attach_left slots i color None a b e = ap is_some (left_sides slots i color rgba8 a) ∙ e
attach_left slots i color (Some depth) a b e =
    ap (λ x. same_sides x (sides_at d24s8 (emptied_at i slots) depth)) (left_sides slots i color rgba8 a)
    ∙ ap (same_sides (sides_at rgba8 slots color)) (left_sides slots i depth d24s8 b) ∙ e

kept_target : (i : ℕ) (o : Option TargetSlot) (t : TargetSlot) → unless_holding i o ≡ Some t → (o ≡ Some t) × (holds i t ≡ false)
kept_target i None t e = absurd (none-some t e)
kept_target i (Some s) t e = by_test (holds i s) refl e
  where
    by_test : (b : Bool) → holds i s ≡ b → unless_held b s ≡ Some t → (Some s ≡ Some t) × (holds i t ≡ false)
    by_test true h k = absurd (none-some t k)
    by_test false h k = (k, ap (holds i) (sym (same_Some s t k)) ∙ h)

at_map : (f : Option TargetSlot → Option TargetSlot) (slots : List (Option TargetSlot)) (j : ℕ) (t : TargetSlot) → at (map f slots) j ≡ Some t → f (at slots j) ≡ Some t
at_map f slots j t e = by_place (cases_lt j (length slots))
  where
    by_place : (j < length slots) ⊎ (length slots ≤ j) → f (at slots j) ≡ Some t
    by_place (inl lt) = ap f (unwrap_or-slice_get slots j None) ∙ sym (get_or-map f slots j None None lt) ∙ sym (unwrap_or-slice_get (map f slots) j None) ∙ e
    by_place (inr past) = absurd (none-some t (sym (get_or_past (map f slots) j None (rw (length-map slots f) past)) ∙ sym (unwrap_or-slice_get (map f slots) j None) ∙ e))

pub attached_left : (textures : List (Option TextureSlot)) (targets : List (Option TargetSlot)) (i : ℕ) → AllAttached textures targets → AllAttached (emptied_at i textures) (map (unless_holding i) targets)
attached_left textures targets i a j t e =
    let found : (at targets j ≡ Some t) × (holds i t ≡ false) = kept_target i (at targets j) t (at_map (unless_holding i) targets j t e) in
    let apart : ((i == t.color) ≡ false) × (is_index i t.depth ≡ false) = or_false (i == t.color) (is_index i t.depth) found.1 in
    attach_left textures i t.color t.depth apart.0 apart.1 (a j t found.0)

pub none_attached : (textures : List (Option TextureSlot)) (n : ℕ) (targets : List (Option TargetSlot)) → targets ≡ no_slots n → AllAttached textures targets
unfolding no_slots
none_attached textures n targets e j t is = absurd (none-some t (sym (ap (λ xs. at xs j) e ∙ none_at n j) ∙ is))
  where
    none_at : (k i : ℕ) → at {X = TargetSlot} (replicate k None) i ≡ None
    none_at k i = unwrap_or-slice_get (replicate k None) i None ∙ none_of k i
      where
        none_of : (m l : ℕ) → get_or {A = Option TargetSlot} (replicate m None) l None ≡ None
        none_of zero l = refl
        none_of (suc m) zero = refl
        none_of (suc m) (suc l) = none_of m l

-- ---- textures that are taken out and put back

pub at_changed : {X : Type 0} (slots : List (Option X)) (i : ℕ) (change : X → X) (s : X) → at slots i ≡ Some s → at (changed_at change i slots) i ≡ Some (change s)
at_changed slots i change s e = by_place (cases_lt i (length slots))
  where
    by_place : (i < length slots) ⊎ (length slots ≤ i) → at (changed_at change i slots) i ≡ Some (change s)
    by_place (inl lt) = at_same slots i (option_map change (at slots i)) lt ∙ ap (option_map change) e
    by_place (inr past) = absurd (none-some s (sym (get_or_past slots i None past) ∙ sym (unwrap_or-slice_get slots i None) ∙ e))

out_slot : (i : ℕ) (slots : List (Option TextureSlot)) (o : Option TextureSlot) (p : ℕ × ℕ) → option_and_then (λ s. out_sides s.held) o ≡ Some p → (s : TextureSlot) → o ≡ Some s → sides_of s.held ≡ p
out_slot i slots o p e s is = of_held s.held (sym (ap (option_and_then (λ x. out_sides x.held)) is) ∙ e)
  where
    of_held : (held : Held) → out_sides held ≡ Some p → sides_of held ≡ p
    of_held (here t) k = absurd (none-some p k)
    of_held (taken width height) k = same_Some (width, height) p k

pub keeps_with : (slots : List (Option TextureSlot)) (i : ℕ) (t : Texels) → out_at slots i ≡ Some (t.width, t.height) → Keeps slots (changed_at (slot_with t) i slots)
keeps_with slots i t out = keeps_changed slots i (slot_with t) (λ f s e. same_sides_in f s (here t) (sym (out_slot i slots (at slots i) (t.width, t.height) out s e)))

both_formats : (f : Format) → is_format rgba8 f ≡ true → is_format d24s8 f ≡ true → ⊥
both_formats rgba8 a b = absurd (false-true b)
  where
    false-true : false ≡ true → ⊥
    false-true e = grind (arith, e)
both_formats d24s8 a b = absurd (false-true a)
  where
    false-true : false ≡ true → ⊥
    false-true e = grind (arith, e)

has_format : (f : Format) (o : Option TextureSlot) → is_some (option_and_then (slot_sides f) o) ≡ true → (s : TextureSlot) × (o ≡ Some s) × (is_format f s.format ≡ true)
has_format f None e = absurd (false-true e)
  where
    false-true : false ≡ true → ⊥
    false-true k = grind (arith, k)
has_format f (Some s) e = (s, refl, by_test (is_format f s.format) e)
  where
    by_test : (b : Bool) → is_some (cond b (Some (sides_of s.held)) None) ≡ true → b ≡ true
    by_test true k = refl
    by_test false k = cc

pub first_side : (a b : Option (ℕ × ℕ)) → same_sides a b ≡ true → (is_some a ≡ true) × (is_some b ≡ true)
first_side None b e = absurd (false-true e)
  where
    false-true : false ≡ true → ⊥
    false-true k = grind (arith, k)
first_side (Some p) None e = absurd (false-true e)
  where
    false-true : false ≡ true → ⊥
    false-true k = grind (arith, k)
first_side (Some p) (Some q) e = (refl, refl)

-- a colour texture is no depth texture
pub apart_of : (slots : List (Option TextureSlot)) (color depth : ℕ) → can_attach_at slots color (Some depth) ≡ true → depth ≢ color
apart_of slots color depth e same =
    let sides : (is_some (sides_at rgba8 slots color) ≡ true) × (is_some (sides_at d24s8 slots depth) ≡ true) = first_side (sides_at rgba8 slots color) (sides_at d24s8 slots depth) e in
    let a : (s : TextureSlot) × (at slots color ≡ Some s) × (is_format rgba8 s.format ≡ true) = has_format rgba8 (at slots color) sides.0 in
    let b : (s : TextureSlot) × (at slots color ≡ Some s) × (is_format d24s8 s.format ≡ true) = has_format d24s8 (at slots color) (ap (λ n. is_some (sides_at d24s8 slots n)) (sym same) ∙ sides.1) in
    let one : a.0 ≡ b.0 = same_Some a.0 b.0 (sym a.1 ∙ b.1) in
    both_formats b.0.format (ap (λ s. is_format rgba8 s.format) (sym one) ∙ a.2) b.2

texels_sides : (f : Format) (o : Option TextureSlot) (t : Texels) (p : ℕ × ℕ) → option_and_then slot_texels o ≡ Some t → option_and_then (slot_sides f) o ≡ Some p → p ≡ (t.width, t.height)
texels_sides f None t p e k = absurd (none-some p k)
texels_sides f (Some s) t p e k = by_held s.held (is_format f s.format) e k
  where
    by_held : (held : Held) (b : Bool) → texels_in held ≡ Some t → cond b (Some (sides_of held)) None ≡ Some p → p ≡ (t.width, t.height)
    by_held (here u) true x y = sym (same_Some (u.width, u.height) p y) ∙ ap (λ v. (v.width, v.height)) (same_Some u t x)
    by_held (here u) false x y = absurd (none-some p y)
    by_held (taken w h) b x y = absurd (none-some t x)

equal_sides : (a b : Option (ℕ × ℕ)) → same_sides a b ≡ true → (p : ℕ × ℕ) × (a ≡ Some p) × (b ≡ Some p)
equal_sides None b e = absurd (false-true e)
  where
    false-true : false ≡ true → ⊥
    false-true k = grind (arith, k)
equal_sides (Some p) None e = absurd (false-true e)
  where
    false-true : false ≡ true → ⊥
    false-true k = grind (arith, k)
equal_sides (Some p) (Some q) e = (p, refl, ap Some (sym (λ i. (grind_eq p.0 q.0 (first p q e) i, grind_eq p.1 q.1 (second p q e) i))))
  where
    first : (x y : ℕ × ℕ) → ((x.0 == y.0) && (x.1 == y.1)) ≡ true → (x.0 == y.0) ≡ true
    first x y k = by (x.0 == y.0) (x.1 == y.1) k
      where
        by : (b c : Bool) → (b && c) ≡ true → b ≡ true
        by true c l = refl
        by false c l = cc

    second : (x y : ℕ × ℕ) → ((x.0 == y.0) && (x.1 == y.1)) ≡ true → (x.1 == y.1) ≡ true
    second x y k = by (x.0 == y.0) (x.1 == y.1) k
      where
        by : (b c : Bool) → (b && c) ≡ true → c ≡ true
        by true c l = l
        by false c l = cc

    grind_eq : (m n : ℕ) → (m == n) ≡ true → m ≡ n
    grind_eq m n k = eqb-true m n k

-- the textures of a frame buffer have one size
pub one_size : (slots : List (Option TextureSlot)) (color depth : ℕ) (c d : Texels) → can_attach_at slots color (Some depth) ≡ true → texels_in_row slots color ≡ Some c → texels_in_row slots depth ≡ Some d → (d.width ≡ c.width) × (d.height ≡ c.height)
one_size slots color depth c d e a b =
    let sides : (p : ℕ × ℕ) × (sides_at rgba8 slots color ≡ Some p) × (sides_at d24s8 slots depth ≡ Some p) = equal_sides (sides_at rgba8 slots color) (sides_at d24s8 slots depth) e in
    let same : (d.width, d.height) ≡ (c.width, c.height) = sym (texels_sides d24s8 (at slots depth) d sides.0 b sides.2) ∙ texels_sides rgba8 (at slots color) c sides.0 a sides.1 in
    (ap (λ p. p.0) same, ap (λ p. p.1) same)

taken_slot : (o : Option TextureSlot) (t : Texels) → option_and_then slot_texels o ≡ Some t → (s : TextureSlot) × (o ≡ Some s) × (s.held ≡ here t)
taken_slot None t e = absurd (none-some t e)
taken_slot (Some s) t e = (s, refl, by_held s.held e)
  where
    by_held : (held : Held) → texels_in held ≡ Some t → held ≡ here t
    by_held (here u) k = ap here (same_Some u t k)
    by_held (taken w h) k = absurd (none-some t k)

pub out_taken : (slots : List (Option TextureSlot)) (i : ℕ) (t : Texels) → texels_in_row slots i ≡ Some t → out_at (changed_at slot_out i slots) i ≡ Some (t.width, t.height)
out_taken slots i t e =
    let found : (s : TextureSlot) × (at slots i ≡ Some s) × (s.held ≡ here t) = taken_slot (at slots i) t e in
    ap (option_and_then (λ s. out_sides s.held)) (at_changed slots i slot_out found.0 found.1) ∙ ap (λ held. out_sides (held_out (sides_of held))) found.2

pub at_beside : {X : Type 0} (slots : List (Option X)) (i j : ℕ) (change : X → X) → j ≢ i → at (changed_at change i slots) j ≡ at slots j
at_beside slots i j change ne = at_other slots i j (option_map change (at slots i)) ne
