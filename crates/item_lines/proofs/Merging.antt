-- Dropped lines are taken away from numbered lines.
use Rattle.std.proofs.Common.{◌≡◌, ◌∙◌, ℕ, zero, suc, ◌+◌, ◌<◌, ◌≤◌, ◌==◌, Bool, true, false, List, [], ◌∷◌, ◌++◌, map, drop, length, get_or, slice_get, Option, Some, None, ◌⊎◌, inl, inr, refl, sym, ap, subst, arith, eq-eqb, ne_eqb}
use Rattle.std.specs.List.{AllByRecursion}
use Rattle.std.proofs.lemmas.List.{drop_more, append_assoc, drop_all}
use Rattle.dropped_lines.specs.Reasons.{Reason}
use Rattle.dropped_lines.specs.Verdicts.{Verdict}
use Rattle.dropped_lines.specs.Dropped.{Dropped, with_line, dropped_with}
use Rattle.scene_check.specs.declared.found.DroppedLine.{DroppedLine}
use Rattle.scene_check.specs.Found.{line_told}
use Rattle.item_lines.specs.declared.places.Place.{Place}
use Rattle.item_lines.specs.declared.accepted.ItemLine.{ItemLine}
use Rattle.item_lines.specs.Items.{with_item, items_with}
use Rattle.item_lines.specs.Merging.{Ascend, is_line_of}
use Rattle.item_lines.proofs.Lists.{append-none}

-- ---- the next dropped line

-- the first of a list, if there is one
abbrev first_of : {A : Type 0} → List A → Option A
first_of [] = None
first_of (x ∷ xs) = Some x

first-left : {A : Type 0} (xs : List A) (i : ℕ) → first_of (drop i xs) ≡ slice_get xs i
first-left [] zero = refl
first-left [] (suc i) = refl
first-left (x ∷ xs) zero = refl
first-left (x ∷ xs) (suc i) = first-left xs i

left-more : {A : Type 0} (xs : List A) (i : ℕ) (x : A) (rest : List A) → x ∷ rest ≡ drop i xs → rest ≡ drop (i + 1) xs
left-more [] zero x rest e = absurd (cc e)
left-more [] (suc i) x rest e = absurd (cc e)
left-more (y ∷ ys) zero x rest e = cc e
left-more (y ∷ ys) (suc i) x rest e = let at : suc i + 1 ≡ suc (i + 1) = omega arith in left-more ys i x rest e ∙ ap (λ n. drop n (y ∷ ys)) (sym at)

all-behind : (n : ℕ) (ns : List ℕ) (vs : List Verdict) → AllByRecursion (λ m. n < m) ns → AllByRecursion (λ (d : Dropped). n < d.line) (dropped_with ns vs)
all-behind n [] vs a = tt
all-behind n (m ∷ ns) [] a = tt
all-behind n (m ∷ ns) (v ∷ vs) a = step v.reason (all-behind n ns vs a.1)
  where
    step : (o : Option Reason) → AllByRecursion (λ (d : Dropped). n < d.line) (dropped_with ns vs) → AllByRecursion (λ (d : Dropped). n < d.line) (with_line m v o (dropped_with ns vs))
    step None rest = rest
    step (Some r) rest = (a.0, rest)

not-first : (n : ℕ) (ds : List Dropped) → AllByRecursion (λ (d : Dropped). n < d.line) ds → is_line_of n (first_of (map line_told ds)) ≡ false
not-first n [] a = refl
not-first n (d ∷ ds) a = ne_eqb d.line n (λ e. let lt = a.0 in omega (arith, e, lt))

-- ---- one line more

-- what is left of the numbered lines, with what becomes of each and its place
pub record IsLeft (ns : List ℕ) (vs : List Verdict) (ps : List (Option Place)) (ds : List DroppedLine) (at : ℕ) (items all : List ItemLine) : Type 0 where
  pub dropped : map line_told (dropped_with ns vs) ≡ drop at ds
  pub done : items ++ items_with ns vs ps ≡ all

-- it is dropped, or it is accepted and its item is put behind the others
abbrev pub Next : Bool → (n : ℕ) → Option Place → (ns : List ℕ) → (vs : List Verdict) → (ps : List (Option Place)) → (ds : List DroppedLine) → (at : ℕ) → (items next all : List ItemLine) → Type 0
Next true n p ns vs ps ds at items next all = IsLeft ns vs ps ds (at + 1) items all
Next false n p ns vs ps ds at items next all = next ≡ items ++ with_item n None p [] → IsLeft ns vs ps ds at next all

joined : (n : ℕ) (p : Option Place) (rest : List ItemLine) → with_item n None p [] ++ rest ≡ with_item n None p rest
joined n None rest = refl
joined n (Some p) rest = refl

here : (n : ℕ) (v : Verdict) (p : Option Place) (ns : List ℕ) (vs : List Verdict) (ps : List (Option Place)) (ds : List DroppedLine) (at : ℕ) (items next all : List ItemLine) → AllByRecursion (λ m. n < m) ns
    → (o : Option Reason) → map line_told (with_line n v o (dropped_with ns vs)) ≡ drop at ds → items ++ with_item n o p (items_with ns vs ps) ≡ all
    → (b : Bool) → b ≡ is_line_of n (slice_get ds at) → Next b n p ns vs ps ds at items next all
here n v p ns vs ps ds at items next all above (Some r) left done true is = record {
  dropped = left-more ds at (line_told (record { line = n; frame = v.frame; encoder = v.encoder; reason = r })) (map line_told (dropped_with ns vs)) left;
  done = done;
}
here n v p ns vs ps ds at items next all above (Some r) left done false is =
    let found : is_line_of n (slice_get ds at) ≡ true = ap (is_line_of n) (sym (first-left ds at)) ∙ ap (λ (xs : List DroppedLine). is_line_of n (first_of xs)) (sym left) ∙ eq-eqb n n refl in
    absurd (cc (is ∙ found))
here n v p ns vs ps ds at items next all above None left done true is =
    let none : is_line_of n (slice_get ds at) ≡ false =
    ap (is_line_of n) (sym (first-left ds at)) ∙ ap (λ (xs : List DroppedLine). is_line_of n (first_of xs)) (sym left) ∙ not-first n (dropped_with ns vs) (all-behind n ns vs above) in
    absurd (cc (is ∙ none))
here n v p ns vs ps ds at items next all above None left done false is = λ put. record {
  dropped = left;
  done =
      ap (λ (xs : List ItemLine). xs ++ items_with ns vs ps) put ∙ append_assoc items (with_item n None p []) (items_with ns vs ps)
      ∙ ap (λ (xs : List ItemLine). items ++ xs) (joined n p (items_with ns vs ps)) ∙ done;
}

-- ---- in a list

above-at : (ns : List ℕ) (i : ℕ) (n : ℕ) (rest : List ℕ) → Ascend ns → drop i ns ≡ n ∷ rest → AllByRecursion (λ m. n < m) rest
above-at [] zero n rest a e = absurd (cc e)
above-at [] (suc i) n rest a e = absurd (cc e)
above-at (m ∷ ns) zero n rest a e =
    let same : m ≡ n = cc e in
    let more : ns ≡ rest = cc e in
    subst (λ k. AllByRecursion (λ j. k < j) rest) same (subst (λ (js : List ℕ). AllByRecursion (λ j. m < j) js) more a.0)
above-at (m ∷ ns) (suc i) n rest a e = above-at ns i n rest a.1 e

-- what is left from number i on
abbrev pub Left : (ns : List ℕ) (vs : List Verdict) (ps : List (Option Place)) (ds : List DroppedLine) (i at : ℕ) (items all : List ItemLine) → Type 0
Left ns vs ps ds i at items all = IsLeft (drop i ns) (drop i vs) (drop i ps) ds at items all

pub left-first : (ns : List ℕ) (vs : List Verdict) (ps : List (Option Place)) (ds : List DroppedLine) → ds ≡ map line_told (dropped_with ns vs) → Left ns vs ps ds 0 0 [] (items_with ns vs ps)
left-first ns vs ps ds e = record { dropped = sym e; done = refl }

-- one line more
pub left-next : (ns : List ℕ) (vs : List Verdict) (ps : List (Option Place)) (ds : List DroppedLine) (i at : ℕ) (items next all : List ItemLine) (n : ℕ) (p : Option Place) (b : Bool)
    → Ascend ns → i < length ns → i < length ps → length vs ≡ length ps → Left ns vs ps ds i at items all → b ≡ is_line_of (get_or ns i n) (slice_get ds at)
    → Next b (get_or ns i n) (get_or ps i p) (drop (i + 1) ns) (drop (i + 1) vs) (drop (i + 1) ps) ds at items next all
left-next ns vs ps ds i at items next all n p b ascend lt lp many left found =
    let d : Verdict = record { frame = 0; encoder = None; reason = None } in
    let numbers : drop i ns ≡ get_or ns i n ∷ drop (i + 1) ns = drop_more ns i n lt in
    let judged : drop i vs ≡ get_or vs i d ∷ drop (i + 1) vs = drop_more vs i d (omega (arith, lp, many)) in
    let places : drop i ps ≡ get_or ps i p ∷ drop (i + 1) ps = drop_more ps i p lp in
    here (get_or ns i n) (get_or vs i d) (get_or ps i p) (drop (i + 1) ns) (drop (i + 1) vs) (drop (i + 1) ps) ds at items next all (above-at ns i (get_or ns i n) (drop (i + 1) ns) ascend numbers) (get_or vs i d).reason
    ((λ j. map line_told (dropped_with (sym numbers j) (sym judged j))) ∙ left.dropped)
    ((λ j. items ++ items_with (sym numbers j) (sym judged j) (sym places j)) ∙ left.done)
    b found

no-verdicts : (ns : List ℕ) (ps : List (Option Place)) → items_with ns [] ps ≡ []
no-verdicts [] ps = refl
no-verdicts (n ∷ ns) ps = refl

-- behind the last line
pub left-last : (ns : List ℕ) (vs : List Verdict) (ps : List (Option Place)) (ds : List DroppedLine) (i at : ℕ) (items all : List ItemLine)
    → (length ns ≤ i) ⊎ (length ps ≤ i) → length vs ≡ length ps → Left ns vs ps ds i at items all → items ≡ all
left-last ns vs ps ds i at items all (inl few) many left =
    sym (append-none items) ∙ ap (λ (xs : List ItemLine). items ++ xs) (ap (λ ms. items_with ms (drop i vs) (drop i ps)) (sym (drop_all i ns few))) ∙ left.done
left-last ns vs ps ds i at items all (inr few) many left =
    sym (append-none items)
    ∙ ap (λ (xs : List ItemLine). items ++ xs) (sym (no-verdicts (drop i ns) (drop i ps)) ∙ ap (λ (ws : List Verdict). items_with (drop i ns) ws (drop i ps)) (sym (drop_all i vs (omega (arith, few, many)))))
    ∙ left.done

-- the lesser of two numbers is reached
pub one-reached : (a b m i : ℕ) → (m ≡ a) ⊎ (m ≡ b) → m ≤ i → (a ≤ i) ⊎ (b ≤ i)
one-reached a b m i (inl same) le = inl (omega (arith, same, le))
one-reached a b m i (inr same) le = inr (omega (arith, same, le))
