-- Rows of a surface in two parts.
use Rattle.std.proofs.Common.{◌≡◌, ℕ, ◌+◌, ◌*◌, List, Option, None, Some, ◌++◌, All, length, take, drop, option_map, refl, ap, sym, subst, ◌∙◌, arith}
use Rattle.std.proofs.lemmas.List.{take_at, take_all, take-take, drop-take, drop-drop, length-append}
use Rattle.std.proofs.lemmas.Option.{none-some, same_Some}
use Rattle.std.proofs.lemmas.List.Elements.{All-pop, All-weaker}
use Rattle.std.specs.Prelude.{IfSome, option_to_list}
use Rattle.std.proofs.Math.Seq.{drop-append_seam}
use Rattle.gfx_model.specs.Vertex.{Color}
use Rattle.fix_math.specs.declared.picture.Texels.{Texels}
use Rattle.int_raster.specs.declared.rows.Rows.{Rows}
use Rattle.int_raster.specs.declared.surfaces.Surface.{Surface}
use Rattle.pass_bands.specs.Rowed.{rows_of, rowed, AreRowed}
use Rattle.pass_bands.specs.declared.works.Work.{Work}
use Rattle.pass_bands.specs.declared.works.Task.{Task}

-- the upper part
pub upper_rows : (w top n m : ℕ) (xs a b : List Color) → a ++ b ≡ rows_of w top (n + m) xs → length a ≡ w * n → a ≡ rows_of w top n xs
upper_rows w top n m xs a b e l =
    sym (take_at a b (length a) refl)
    ∙ ap (take (length a)) e
    ∙ ap (λ k. take k (rows_of w top (n + m) xs)) l
    ∙ take-take (w * n) (w * (n + m)) (drop (w * top) xs) (omega arith)

-- the lower part
pub lower_rows : (w top n m : ℕ) (xs a b : List Color) → a ++ b ≡ rows_of w top (n + m) xs → length a ≡ w * n → b ≡ rows_of w (top + n) m xs
lower_rows w top n m xs a b e l =
    let count : w * (n + m) ≡ w * n + w * m = omega arith in
    let place : w * top + w * n ≡ w * (top + n) = omega arith in
    sym (drop-append_seam a b)
    ∙ ap (drop (length a)) e
    ∙ (λ i. drop (l i) (take (count i) (drop (w * top) xs)))
    ∙ drop-take (w * n) (w * m) (drop (w * top) xs)
    ∙ ap (take (w * m)) (drop-drop (w * n) (w * top) xs)
    ∙ ap (λ k. take (w * m) (drop k xs)) place

-- rows in two parts, the upper and the lower
pub record AreParts (rows above below : Rows) : Type 0 where
  pub widths : (above.width ≡ rows.width) × (below.width ≡ rows.width)
  pub first : above.top ≡ rows.top
  pub next : below.top ≡ rows.top + above.count
  pub all : above.count + below.count ≡ rows.count

upper_rowed : (rows above below : Rows) (xs ys a b : List Color) → AreParts rows above below → a ++ b ≡ xs → xs ≡ rowed rows ys → length a ≡ rows.width * above.count → a ≡ rowed above ys
upper_rowed rows above below xs ys a b p e h l =
    upper_rows rows.width rows.top above.count below.count ys a b (e ∙ h ∙ (λ i. rows_of rows.width rows.top (sym p.all i) ys)) l
    ∙ sym (λ i. rows_of (p.widths.0 i) (p.first i) above.count ys)

lower_rowed : (rows above below : Rows) (xs ys a b : List Color) → AreParts rows above below → a ++ b ≡ xs → xs ≡ rowed rows ys → length a ≡ rows.width * above.count → b ≡ rowed below ys
lower_rowed rows above below xs ys a b p e h l =
    lower_rows rows.width rows.top above.count below.count ys a b (e ∙ h ∙ (λ i. rows_of rows.width rows.top (sym p.all i) ys)) l
    ∙ sym (λ i. rows_of (p.widths.1 i) (p.next i) below.count ys)

none_any : (rows other : Rows) (o : Option Texels) → None ≡ option_map (λ t. rowed rows t.texels) o → None ≡ option_map (λ t. rowed other t.texels) o
none_any rows other None e = refl
none_any rows other (Some t) e = absurd (none-some (rowed rows t.texels) e)

some_part : (rows other : Rows) (zs c : List Color) (o : Option Texels) → ((ys : List Color) → zs ≡ rowed rows ys → c ≡ rowed other ys) → Some zs ≡ option_map (λ t. rowed rows t.texels) o → Some c ≡ option_map (λ t. rowed other t.texels) o
some_part rows other zs c None step e = absurd (none-some zs (sym e))
some_part rows other zs c (Some t) step e = ap Some (step t.texels (same_Some zs (rowed rows t.texels) e))

-- without depths
pub upper_flat : (s : Surface) (rows above below : Rows) (xs a b : List Color) → AreParts rows above below → a ++ b ≡ xs → length a ≡ rows.width * above.count → AreRowed s rows xs None → AreRowed s above a None
upper_flat s rows above below xs a b p e l h = record { colors_are = upper_rowed rows above below xs s.color.texels a b p e h.colors_are l; depths_are = none_any rows above s.depth h.depths_are }

pub lower_flat : (s : Surface) (rows above below : Rows) (xs a b : List Color) → AreParts rows above below → a ++ b ≡ xs → length a ≡ rows.width * above.count → AreRowed s rows xs None → AreRowed s below b None
lower_flat s rows above below xs a b p e l h = record { colors_are = lower_rowed rows above below xs s.color.texels a b p e h.colors_are l; depths_are = none_any rows below s.depth h.depths_are }

-- with depths
pub upper_deep : (s : Surface) (rows above below : Rows) (xs zs a b c d : List Color) → AreParts rows above below → a ++ b ≡ xs → c ++ d ≡ zs → length a ≡ rows.width * above.count → length c ≡ rows.width * above.count
    → AreRowed s rows xs (Some zs) → AreRowed s above a (Some c)
upper_deep s rows above below xs zs a b c d p e f l m h = record {
  colors_are = upper_rowed rows above below xs s.color.texels a b p e h.colors_are l;
  depths_are = some_part rows above zs c s.depth (λ ys g. upper_rowed rows above below zs ys c d p f g m) h.depths_are;
}

pub lower_deep : (s : Surface) (rows above below : Rows) (xs zs a b c d : List Color) → AreParts rows above below → a ++ b ≡ xs → c ++ d ≡ zs → length a ≡ rows.width * above.count → length c ≡ rows.width * above.count
    → AreRowed s rows xs (Some zs) → AreRowed s below b (Some d)
lower_deep s rows above below xs zs a b c d p e f l m h = record {
  colors_are = lower_rowed rows above below xs s.color.texels a b p e h.colors_are l;
  depths_are = some_part rows below zs d s.depth (λ ys g. lower_rowed rows above below zs ys c d p f g m) h.depths_are;
}

-- the lower part's texels are as many as its rows have
pub lower_length : (w n m k : ℕ) (a b xs : List Color) → a ++ b ≡ xs → length xs ≡ w * k → n + m ≡ k → length a ≡ w * n → length b ≡ w * m
lower_length w n m k a b xs e l s la =
    let long : length a + length b ≡ length xs = sym (length-append a b) ∙ ap length e in
    let whole : length xs ≡ w * (n + m) = l ∙ ap (λ j. w * j) (sym s) in
    omega (arith, long, whole, la)

-- ---- homes

-- a task is of a work, and its rows without depth are these
abbrev pub IsFlatOf : Work → Rows → List Color → Task → Type 0
IsFlatOf w rows colors t = (t.work ≡ w) × AreRowed t.surface rows colors None

pub homes_flat : (w : Work) (rows above below : Rows) (xs a b : List Color) (all rest : List Task) (r : Option Task) → AreParts rows above below → a ++ b ≡ xs → length a ≡ rows.width * above.count
    → all ≡ rest ++ option_to_list r → All (IsFlatOf w rows xs) all → All (IsFlatOf w above a) rest
homes_flat w rows above below xs a b all rest r p e l is h =
    All-weaker (IsFlatOf w rows xs) (IsFlatOf w above a) (λ t k. (k.0, upper_flat t.surface rows above below xs a b p e l k.1)) rest (All-pop (IsFlatOf w rows xs) all rest r is h).0

pub home_flat : (w : Work) (rows above below : Rows) (xs a b : List Color) (all rest : List Task) (r : Option Task) (home : Task) → AreParts rows above below → a ++ b ≡ xs → length a ≡ rows.width * above.count
    → all ≡ rest ++ option_to_list r → r ≡ Some home → All (IsFlatOf w rows xs) all → AreRowed home.surface below b None
home_flat w rows above below xs a b all rest r home p e l is some h =
    let here : IfSome (Some home) (IsFlatOf w rows xs) = subst (λ o. IfSome o (IsFlatOf w rows xs)) some (All-pop (IsFlatOf w rows xs) all rest r is h).1 in
    lower_flat home.surface rows above below xs a b p e l here.1

-- the same with depths
abbrev pub IsDeepOf : Work → Rows → List Color → List Color → Task → Type 0
IsDeepOf w rows colors depths t = (t.work ≡ w) × AreRowed t.surface rows colors (Some depths)

pub homes_deep : (w : Work) (rows above below : Rows) (xs zs a b c d : List Color) (all rest : List Task) (r : Option Task) → AreParts rows above below → a ++ b ≡ xs → c ++ d ≡ zs → length a ≡ rows.width * above.count → length c ≡ rows.width * above.count
    → all ≡ rest ++ option_to_list r → All (IsDeepOf w rows xs zs) all → All (IsDeepOf w above a c) rest
homes_deep w rows above below xs zs a b c d all rest r p e f l m is h =
    All-weaker (IsDeepOf w rows xs zs) (IsDeepOf w above a c) (λ t k. (k.0, upper_deep t.surface rows above below xs zs a b c d p e f l m k.1)) rest (All-pop (IsDeepOf w rows xs zs) all rest r is h).0

pub home_deep : (w : Work) (rows above below : Rows) (xs zs a b c d : List Color) (all rest : List Task) (r : Option Task) (home : Task) → AreParts rows above below → a ++ b ≡ xs → c ++ d ≡ zs → length a ≡ rows.width * above.count → length c ≡ rows.width * above.count
    → all ≡ rest ++ option_to_list r → r ≡ Some home → All (IsDeepOf w rows xs zs) all → AreRowed home.surface below b (Some d)
home_deep w rows above below xs zs a b c d all rest r home p e f l m is some h =
    let here : IfSome (Some home) (IsDeepOf w rows xs zs) = subst (λ o. IfSome o (IsDeepOf w rows xs zs)) some (All-pop (IsDeepOf w rows xs zs) all rest r is h).1 in
    lower_deep home.surface rows above below xs zs a b c d p e f l m here.1

-- ---- whole surfaces

whole_rows : (w h : ℕ) (xs : List Color) → length xs ≡ w * h → xs ≡ rows_of w 0 h xs
whole_rows w h xs l =
    let none : w * 0 ≡ 0 = omega arith in
    sym (ap (λ n. take (w * h) (drop n xs)) none ∙ take_all (w * h) xs (omega (arith, l)))

pub whole_flat : (s : Surface) (rows : Rows) → rows.width ≡ s.color.width → rows.top ≡ 0 → rows.count ≡ s.color.height → s.depth ≡ None → AreRowed s rows s.color.texels None
whole_flat s rows ew et eh none = record {
  colors_are = whole_rows s.color.width s.color.height s.color.texels s.color.whole ∙ sym (λ i. rows_of (ew i) (et i) (eh i) s.color.texels);
  depths_are = sym (ap (option_map (λ t. rowed rows t.texels)) none);
}

pub whole_deep : (s : Surface) (rows : Rows) (d : Texels) → rows.width ≡ s.color.width → rows.top ≡ 0 → rows.count ≡ s.color.height → s.depth ≡ Some d → d.width ≡ s.color.width → d.height ≡ s.color.height → AreRowed s rows s.color.texels (Some d.texels)
whole_deep s rows d ew et eh some dw dh = record {
  colors_are = whole_rows s.color.width s.color.height s.color.texels s.color.whole ∙ sym (λ i. rows_of (ew i) (et i) (eh i) s.color.texels);
  depths_are = ap Some (whole_rows d.width d.height d.texels d.whole ∙ (λ i. rows_of (dw i) 0 (dh i) d.texels) ∙ sym (λ i. rows_of (ew i) (et i) (eh i) d.texels)) ∙ sym (ap (option_map (λ t. rowed rows t.texels)) some);
}
