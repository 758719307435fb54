-- Colours and depths of the columns of a piece, put into a list one after the other.
use Rattle.std.proofs.Common.{◌≡◌, ℕ, ◌+◌, ◌-◌, ◌<◌, ◌≤◌, List, [], length, slice_index_or, slice_set, ap, sym, subst, ◌∙◌, arith, ⊎_elim}
use Rattle.std.proofs.lemmas.List.{get_or-set_same, get_or-set_other}
use Rattle.std.proofs.lemmas.Bool.{cases_order}
use Rattle.gfx_model.specs.Vertex.{Color}
use Rattle.int_raster.specs.Painted.{HoldsPiece, HoldsDepths, AreDepths}

pub held_none : (f : ℕ → Color) (first : ℕ) (colors : List Color) → HoldsPiece colors f first first
held_none f first colors k lo hi = absurd (omega (arith, lo, hi))

pub held_all : (f : ℕ → Color) (first x after : ℕ) (colors : List Color) → HoldsPiece colors f first x → after ≤ x → HoldsPiece colors f first after
held_all f first x after colors h e k lo hi = h k lo (omega (arith, hi, e))

-- one column more
pub held_more : (f : ℕ → Color) (first x : ℕ) (colors : List Color) (c : Color) → HoldsPiece colors f first x → first ≤ x → x - first < length colors → c ≡ f x →
    HoldsPiece (slice_set colors (x - first) c) f first (x + 1)
held_more f first x colors c h a b e k lo hi = ⊎_elim here (λ d. ⊎_elim before behind d) (cases_order k x)
  where
    here : k ≡ x → slice_index_or (slice_set colors (x - first) c) (k - first) [] ≡ f k
    here s = ap (λ n. slice_index_or (slice_set colors (x - first) c) (n - first) []) s ∙ get_or-set_same colors (x - first) c [] b ∙ e ∙ ap f (sym s)

    before : k < x → slice_index_or (slice_set colors (x - first) c) (k - first) [] ≡ f k
    before l = get_or-set_other colors (x - first) (k - first) c [] (omega (arith, lo, a, l)) ∙ h k lo l

    behind : x < k → slice_index_or (slice_set colors (x - first) c) (k - first) [] ≡ f k
    behind l = absurd (omega (arith, l, hi))

-- ---- depths

pub depths_none : (f : ℕ → ℕ) (first : ℕ) (depths : List ℕ) → HoldsDepths depths f first first
depths_none f first depths k lo hi = absurd (omega (arith, lo, hi))

pub few_none : (first : ℕ) (depths : List ℕ) → AreDepths depths first first
few_none first depths k lo hi = absurd (omega (arith, lo, hi))

pub depths_all : (f : ℕ → ℕ) (first x after : ℕ) (depths : List ℕ) → HoldsDepths depths f first x → after ≤ x → HoldsDepths depths f first after
depths_all f first x after depths h e k lo hi = h k lo (omega (arith, hi, e))

pub few_all : (first x after : ℕ) (depths : List ℕ) → AreDepths depths first x → after ≤ x → AreDepths depths first after
few_all first x after depths h e k lo hi = h k lo (omega (arith, hi, e))

entry_here : (first x k v : ℕ) (depths : List ℕ) → x - first < length depths → k ≡ x → slice_index_or (slice_set depths (x - first) v) (k - first) 0 ≡ v
entry_here first x k v depths b s = ap (λ n. slice_index_or (slice_set depths (x - first) v) (n - first) 0) s ∙ get_or-set_same depths (x - first) v 0 b

entry_before : (first x k v : ℕ) (depths : List ℕ) → first ≤ k → first ≤ x → k < x → slice_index_or (slice_set depths (x - first) v) (k - first) 0 ≡ slice_index_or depths (k - first) 0
entry_before first x k v depths lo a l = get_or-set_other depths (x - first) (k - first) v 0 (omega (arith, lo, a, l))

-- one column more
pub depths_more : (f : ℕ → ℕ) (first x v : ℕ) (depths : List ℕ) → HoldsDepths depths f first x → first ≤ x → x - first < length depths → v ≡ f x →
    HoldsDepths (slice_set depths (x - first) v) f first (x + 1)
depths_more f first x v depths h a b e k lo hi = ⊎_elim here (λ d. ⊎_elim before behind d) (cases_order k x)
  where
    here : k ≡ x → slice_index_or (slice_set depths (x - first) v) (k - first) 0 ≡ f k
    here s = entry_here first x k v depths b s ∙ e ∙ ap f (sym s)

    before : k < x → slice_index_or (slice_set depths (x - first) v) (k - first) 0 ≡ f k
    before l = entry_before first x k v depths lo a l ∙ h k lo l

    behind : x < k → slice_index_or (slice_set depths (x - first) v) (k - first) 0 ≡ f k
    behind l = absurd (omega (arith, l, hi))

pub few_more : (first x v : ℕ) (depths : List ℕ) → AreDepths depths first x → first ≤ x → x - first < length depths → v ≤ 16777215 →
    AreDepths (slice_set depths (x - first) v) first (x + 1)
few_more first x v depths h a b e k lo hi = ⊎_elim here (λ d. ⊎_elim before behind d) (cases_order k x)
  where
    here : k ≡ x → slice_index_or (slice_set depths (x - first) v) (k - first) 0 ≤ 16777215
    here s = subst (λ n. n ≤ 16777215) (sym (entry_here first x k v depths b s)) e

    before : k < x → slice_index_or (slice_set depths (x - first) v) (k - first) 0 ≤ 16777215
    before l = subst (λ n. n ≤ 16777215) (sym (entry_before first x k v depths lo a l)) (h k lo l)

    behind : x < k → slice_index_or (slice_set depths (x - first) v) (k - first) 0 ≤ 16777215
    behind l = absurd (omega (arith, l, hi))
