-- A layout that is built part by part is the layout of its parts.
use Rattle.std.proofs.Common.{◌≡◌, ℕ, ◌+◌, ◌*◌, ◌≤◌, Bool, true, false, cond, List, [], ◌∷◌, ◌++◌, Option, Some, None, refl, sym, ap, ◌∙◌, arith, add-zero, zero-add}
use Rattle.std.specs.Prelude.{◌&&◌, nat_le, sum_by}
use Rattle.std.specs.List.{list_all}
use Rattle.std.proofs.lemmas.Bool.{le-leb, leb-true}
use Rattle.std.proofs.lemmas.List.{append-nil}
use Rattle.std.proofs.lemmas.List.Sums.{sum_by-cons, sum_by_push}
use Rattle.std.proofs.lemmas.List.Folds.{list_all-append}
use Rattle.gfx_model.specs.Vertex.{PlacedAttribute, Layout, LayoutPart, attribute_part, skip_part, part_size, component_size, placed_from, has_good_attributes}
use Rattle.vertex_layout.specs.Placed.{ends_within, is_addable}
use Rattle.vertex_layout.specs.Building.{built, with_part}
use Rattle.vertex_layout.proofs.ListLaws.{good_more}

behind : (at : ℕ) (part : LayoutPart) (parts : List LayoutPart) → at + part_size part + sum_by part_size parts ≡ at + sum_by part_size (part ∷ parts)
behind at part parts = omega (arith, sum_by-cons part_size part parts)

placed_append : (at : ℕ) (parts : List LayoutPart) (part : LayoutPart) → placed_from at (parts ++ part ∷ []) ≡ placed_from at parts ++ placed_from (at + sum_by part_size parts) (part ∷ [])
placed_append at [] part = ap (λ n. placed_from n (part ∷ [])) (sym (add-zero at))
placed_append at (attribute_part a t count ∷ parts) part =
    ap (λ ps. record { attribute = a; component = t; count = count; offset = at } ∷ ps)
    (placed_append (at + component_size t * count) parts part
    ∙ ap (λ n. placed_from (at + component_size t * count) parts ++ placed_from n (part ∷ [])) (behind at (attribute_part a t count) parts))
placed_append at (skip_part bytes ∷ parts) part =
    placed_append (at + bytes) parts part ∙ ap (λ n. placed_from (at + bytes) parts ++ placed_from n (part ∷ [])) (behind at (skip_part bytes) parts)

placed_more : (parts : List LayoutPart) (part : LayoutPart) → placed_from 0 (parts ++ part ∷ []) ≡ placed_from 0 parts ++ placed_from (sum_by part_size parts) (part ∷ [])
placed_more parts part = placed_append 0 parts part ∙ ap (λ n. placed_from 0 parts ++ placed_from n (part ∷ [])) (zero-add (sum_by part_size parts))

size_more : (parts : List LayoutPart) (part : LayoutPart) → sum_by part_size (parts ++ part ∷ []) ≡ sum_by part_size parts + part_size part
size_more parts part = sum_by_push part_size parts part

-- the layout so far by its stride and its attributes
abbrev made : ℕ → List PlacedAttribute → Option Layout
made stride placed = cond (nat_le stride 255 && has_good_attributes placed) (Some (record { attributes = placed; stride = stride })) None

joined : (f : Option Layout → Option Layout) (small smaller good fits : Bool) (l x : Layout) → (smaller ≡ true → small ≡ true) → f None ≡ None → f (Some l) ≡ cond (smaller && fits) (Some x) None
    → cond (smaller && (good && fits)) (Some x) None ≡ f (cond (small && good) (Some l) None)
joined f true true true fits l x h n s = sym s
joined f true true false fits l x h n s = sym n
joined f true false true fits l x h n s = sym s
joined f true false false fits l x h n s = sym n
joined f false true good fits l x h n s = let e : false ≡ true = h refl in cc
joined f false false good fits l x h n s = sym n

smaller_then : (s d : ℕ) → nat_le (s + d) 255 ≡ true → nat_le s 255 ≡ true
smaller_then s d e = le-leb s 255 (omega (arith, leb-true (s + d) 255 e))

made_more : (stride : ℕ) (placed : List PlacedAttribute) (part : LayoutPart) → made (stride + part_size part) (placed ++ placed_from stride (part ∷ [])) ≡ with_part part (made stride placed)
made_more stride placed (attribute_part a t count) =
    let p : PlacedAttribute = record { attribute = a; component = t; count = count; offset = stride } in
    let old : Layout = record { attributes = placed; stride = stride } in
    let new : Layout = record { attributes = placed ++ p ∷ []; stride = stride + component_size t * count } in
    ap (λ g. cond (nat_le (stride + component_size t * count) 255 && g) (Some new) None) (good_more placed p)
    ∙ joined (with_part (attribute_part a t count)) (nat_le stride 255) (nat_le (stride + component_size t * count) 255) (has_good_attributes placed) (is_addable p placed) old new (smaller_then stride (component_size t * count)) refl refl
made_more stride placed (skip_part bytes) =
    let old : Layout = record { attributes = placed; stride = stride } in
    let new : Layout = record { attributes = placed; stride = stride + bytes } in
    ap (made (stride + bytes)) (append-nil placed)
    ∙ skipped (nat_le stride 255) (nat_le (stride + bytes) 255) (has_good_attributes placed) old new (with_part (skip_part bytes)) (smaller_then stride bytes) refl refl
  where
    skipped : (small smaller good : Bool) (l x : Layout) (f : Option Layout → Option Layout) → (smaller ≡ true → small ≡ true) → f None ≡ None → f (Some l) ≡ cond smaller (Some x) None
        → cond (smaller && good) (Some x) None ≡ f (cond (small && good) (Some l) None)
    skipped true true true l x f h n s = sym s
    skipped true true false l x f h n s = sym n
    skipped true false true l x f h n s = sym s
    skipped true false false l x f h n s = sym n
    skipped false true good l x f h n s = let e : false ≡ true = h refl in cc
    skipped false false good l x f h n s = sym n

pub built_more : (parts : List LayoutPart) (part : LayoutPart) → built (parts ++ part ∷ []) ≡ with_part part (built parts)
built_more parts part =
    ap (λ ps. made (sum_by part_size (parts ++ part ∷ [])) ps) (placed_more parts part)
    ∙ ap (λ n. made n (placed_from 0 parts ++ placed_from (sum_by part_size parts) (part ∷ []))) (size_more parts part)
    ∙ made_more (sum_by part_size parts) (placed_from 0 parts) part

pub built_one_more : (parts : List LayoutPart) (part : LayoutPart) (old new : Option Layout) → new ≡ with_part part old → old ≡ built parts → new ≡ built (parts ++ part ∷ [])
built_one_more parts part old new n o = n ∙ ap (with_part part) o ∙ sym (built_more parts part)

-- ---- attributes within a stride

wider : (s t n : ℕ) (b r q : Bool) → s ≤ t → nat_le n s ≡ b → (b && r) ≡ true → (r ≡ true → q ≡ true) → (nat_le n t && q) ≡ true
wider s t n true r q le is e h = ap (λ b. b && q) (le-leb n t (omega (arith, le, leb-true n s is))) ∙ h e
wider s t n false r q le is e h = cc

pub within_wider : (s t : ℕ) (ps : List PlacedAttribute) → s ≤ t → list_all (ends_within s) ps ≡ true → list_all (ends_within t) ps ≡ true
within_wider s t [] le h = refl
within_wider s t (p ∷ ps) le h =
    wider s t (p.offset + component_size p.component * p.count) (ends_within s p) (list_all (ends_within s) ps) (list_all (ends_within t) ps) le refl h (within_wider s t ps le)

pub within_more : (s t : ℕ) (ps : List PlacedAttribute) (p : PlacedAttribute) → s ≤ t → t ≡ p.offset + component_size p.component * p.count → list_all (ends_within s) ps ≡ true → list_all (ends_within t) (ps ++ p ∷ []) ≡ true
within_more s t ps p le e h =
    list_all-append (ends_within t) ps (p ∷ [])
    ∙ ap (λ b. b && (ends_within t p && true)) (within_wider s t ps le h)
    ∙ ap (λ b. b && true) (le-leb (p.offset + component_size p.component * p.count) t (omega (arith, e)))
