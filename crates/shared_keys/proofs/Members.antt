-- Members of lists, and tests of some member.
use Rattle.std.proofs.Common.{◌≡◌, ℕ, ◌⊎◌, inl, inr, Bool, true, false, ◌||◌, ◌&&◌, ◌==◌, List, [], ◌∷◌, ◌++◌, refl, sym, ap, subst, ◌∙◌, arith}
use Rattle.std.specs.List.{list_any, AllByRecursion}
use Rattle.std.specs.List.Sorted.{IsPermutation}
use Rattle.std.proofs.lemmas.List.Sorted.{IsPermutation-sym, All-permutation}
use Rattle.std.proofs.lemmas.List.Elements.{All-from_recursion, recursion_from_All}
use Rattle.shared_keys.specs.declared.marks.Mark.{Mark}
use Rattle.shared_keys.specs.Members.{In}
use Rattle.shared_keys.specs.Marks.{is_one_key, marks_share}
use Rattle.shared_keys.proofs.Order.{parts, both}

pub any-of : {A : Type 0} (p : A → Bool) (xs : List A) (x : A) → In x xs → p x ≡ true → list_any p xs ≡ true
any-of p [] x i h = absurd i
any-of p (y ∷ ys) x (inl e) h = go (p y) (ap p (sym e) ∙ h)
  where
    go : (b : Bool) → b ≡ true → (b || list_any p ys) ≡ true
    go true e = refl
    go false e = cc e
any-of p (y ∷ ys) x (inr i) h = go (p y) (any-of p ys x i h)
  where
    go : (b : Bool) → list_any p ys ≡ true → (b || list_any p ys) ≡ true
    go true r = refl
    go false r = r

pub of-any : {A : Type 0} (p : A → Bool) (xs : List A) → list_any p xs ≡ true → (x : A) × In x xs × (p x ≡ true)
of-any p [] h = cc h
of-any {A} p (y ∷ ys) h = go (of-any p ys) (p y) refl h
  where
    go : (list_any p ys ≡ true → (x : A) × In x ys × (p x ≡ true)) → (b : Bool) → p y ≡ b → (b || list_any p ys) ≡ true → (x : A) × In x (y ∷ ys) × (p x ≡ true)
    go rest true e r = (y, inl refl, e)
    go rest false e r = let later = rest r in (later.0, inr later.1, later.2)

pub self-member : {A : Type 0} (xs : List A) (P : A → Type 0) → ((x : A) → In x xs → P x) → AllByRecursion P xs
self-member [] P h = tt
self-member (x ∷ xs) P h = (h x (inl refl), self-member xs P (λ y i. h y (inr i)))

pub member-has : {A : Type 0} (P : A → Type 0) (xs : List A) (x : A) → AllByRecursion P xs → In x xs → P x
member-has P [] x a i = absurd i
member-has P (y ∷ ys) x a (inl e) = subst P (sym e) a.0
member-has P (y ∷ ys) x a (inr i) = member-has P ys x a.1 i

pub member-moves : {A : Type 0} (xs ys : List A) (x : A) → IsPermutation xs ys → In x xs → In x ys
member-moves xs ys x s i = member-has (λ z. In z ys) xs x (recursion_from_All (λ z. In z ys) xs (All-permutation (λ z. In z ys) ys xs (IsPermutation-sym xs ys s) (All-from_recursion (λ z. In z ys) ys (self-member ys (λ z. In z ys) (λ z j. j))))) i

pub member-left : {A : Type 0} (x : A) (xs ys : List A) → In x xs → In x (xs ++ ys)
member-left x [] ys i = absurd i
member-left x (y ∷ xs) ys (inl e) = inl e
member-left x (y ∷ xs) ys (inr i) = inr (member-left x xs ys i)

pub member-right : {A : Type 0} (x : A) (xs ys : List A) → In x ys → In x (xs ++ ys)
member-right x [] ys i = i
member-right x (y ∷ xs) ys i = inr (member-right x xs ys i)

pub member-of-both : {A : Type 0} (x : A) (xs ys : List A) → In x (xs ++ ys) → In x xs ⊎ In x ys
member-of-both x [] ys i = inr i
member-of-both x (y ∷ xs) ys (inl e) = inl (inl e)
member-of-both x (y ∷ xs) ys (inr i) = elim (member-of-both x xs ys i) [ inl j ↦ inl (inr j) | inr j ↦ inr j ]

-- ---- marks that share

same_from_test : (m n : ℕ) → (m == n) ≡ true → m ≡ n
same_from_test m n e = grind (arith, e)

self_test : (m n : ℕ) → m ≡ n → (m == n) ≡ true
self_test m n e = grind (arith, e)

-- two marks of a list, of these encoders and this view, that clash
pub record Share (marks : List Mark) (v a b : ℕ) : Type 0 where
  pub left : Mark
  pub right : Mark
  pub has_left : In left marks
  pub has_right : In right marks
  pub clash : is_one_key left right ≡ true
  pub first : left.encoder ≡ a
  pub second : right.encoder ≡ b
  pub view : left.view ≡ v

pub of-share : (marks : List Mark) (v a b : ℕ) → marks_share marks v a b ≡ true → Share marks v a b
of-share marks v a b h =
    let one = of-any (λ x. (x.encoder == a) && (x.view == v) && list_any (λ y. (y.encoder == b) && is_one_key x y) marks) marks h in
    let x = one.0 in
    let outer = parts ((x.encoder == a) && (x.view == v)) (list_any (λ y. (y.encoder == b) && is_one_key x y) marks) one.2 in
    let own = parts (x.encoder == a) (x.view == v) outer.0 in
    let two = of-any (λ y. (y.encoder == b) && is_one_key x y) marks outer.1 in
    let y = two.0 in
    let other = parts (y.encoder == b) (is_one_key x y) two.2 in
    record {
      left = x;
      right = y;
      has_left = one.1;
      has_right = two.1;
      clash = other.1;
      first = same_from_test x.encoder a own.0;
      second = same_from_test y.encoder b other.0;
      view = same_from_test x.view v own.1;
    }

pub to-share : (marks : List Mark) (v a b : ℕ) → Share marks v a b → marks_share marks v a b ≡ true
to-share marks v a b s =
    let x = s.left in
    let y = s.right in
    any-of (λ x. (x.encoder == a) && (x.view == v) && list_any (λ y. (y.encoder == b) && is_one_key x y) marks) marks x s.has_left
    (both ((x.encoder == a) && (x.view == v)) (list_any (λ y. (y.encoder == b) && is_one_key x y) marks)
    (both (x.encoder == a) (x.view == v) (self_test x.encoder a s.first) (self_test x.view v s.view))
    (any-of (λ y. (y.encoder == b) && is_one_key x y) marks y s.has_right (both (y.encoder == b) (is_one_key x y) (self_test y.encoder b s.second) s.clash)))

-- what is shared among some marks is among others that have these
pub moved : (xs ys : List Mark) (v a b : ℕ) → ((m : Mark) → In m xs → In m ys) → Share xs v a b → Share ys v a b
moved xs ys v a b f s = record {
  left = s.left;
  right = s.right;
  has_left = f s.left s.has_left;
  has_right = f s.right s.has_right;
  clash = s.clash;
  first = s.first;
  second = s.second;
  view = s.view;
}

-- what moves keeps what is shared
pub share-moves : (xs ys : List Mark) (v a b : ℕ) → IsPermutation xs ys → Share xs v a b → Share ys v a b
share-moves xs ys v a b p s = moved xs ys v a b (λ m i. member-moves xs ys m p i) s
