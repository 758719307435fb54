-- Lines as the code answers them are the definition's.
use Rattle.std.proofs.Common.{◌≡◌, ◌≢◌, ℕ, zero, suc, ◌+◌, ◌<◌, Bool, true, false, if◌then◌else◌, List, [], ◌∷◌, ◌++◌, length, map, take, fold, Option, Some, None, Ok, is_some, option_map, refl, sym, ap, ◌∙◌, subst, arith, slice_index_or, slice_set, eq-eqb, ne_eqb}
use Rattle.std.proofs.lemmas.List.{get_or-set_same, get_or-set_other, length-set, append-nil, append_assoc}
use Rattle.std.specs.List.{AllByRecursion}
use Rattle.std.proofs.lemmas.List.Sums.{fold-append}
use native.Mathlib.Decide.{ℕ_discrete}
use mathlib.Core.Logic.{dite}
use Rattle.gfx_model.specs.Words.{Handle}
use Rattle.gfx_model.specs.Resources.{Refusal, or_refusal, Resources, ResourceCall, refusal_of, effect}
use Rattle.call_laws.specs.Calls.{Written, after_call}
use Rattle.resource_laws.proofs.RunLaws.{bare_law}
use Rattle.scene_model.specs.Scene.{Name, ResourceLine}
use Rattle.scene_model.specs.Fold.{Bindings, thing_named, resource_call, created_name, Progress, drop_line, bound_by, after_answer, after_line, after_lines}
use Rattle.scene_model.specs.Fold as model
use Rattle.resource_book.specs.Written.{BookView, after_in}
use Rattle.resource_book.specs.Laws.{bared, WrittenLaw}
use Rattle.resource_book.proofs.WrittenLaws.{written_law}
use Rattle.scene_laws.specs.SceneFrames.{unless_refused, accepted_call, calls_of}
use Rattle.dropped_lines.specs.Reasons.{without_call}
use Rattle.scene_lines.specs.declared.reasons.Reason.{Reason}
use Rattle.scene_lines.specs.Reasons.{told_refusal, told}
use Rattle.scene_lines.specs.Names.{AreNamed, with_bound, HasPlace, LineHasPlace}
use Rattle.scene_lines.specs.Played.{IsAccepted, IsSame, IsCalled, LineCalled, one_if, StandsFor, LinesPlayed}

-- ---- names

named_more : (handles : List (Option Handle)) (bs : Bindings) (n : Name) (h : Handle) → n < length handles → AreNamed handles bs → AreNamed (slice_set handles n (Some h)) ((n, h) ∷ bs)
named_more handles bs n h lt a m = dite (ℕ_discrete n m)
    (λ (e : n ≡ m). ap (λ k. slice_index_or (slice_set handles n (Some h)) k None) (sym e) ∙ get_or-set_same handles n (Some h) None lt ∙ sym (ap (λ b. if b then Some h else thing_named bs m) (eq-eqb n m e)))
    (λ (ne : n ≢ m). get_or-set_other handles n m (Some h) None (λ e. ne (sym e)) ∙ a m ∙ sym (ap (λ b. if b then Some h else thing_named bs m) (ne_eqb n m ne)))

bound_named : (handles : List (Option Handle)) (bs : Bindings) (bound : Option Name) (made : Option Handle) → HasPlace (length handles) bound → AreNamed handles bs → AreNamed (with_bound bound made handles) (bound_by bound made bs)
bound_named handles bs None made place a = a
bound_named handles bs (Some n) None place a = a
bound_named handles bs (Some n) (Some h) place a = named_more handles bs n h place a

pub bound_length : (handles : List (Option Handle)) (bound : Option Name) (made : Option Handle) → length (with_bound bound made handles) ≡ length handles
bound_length handles None made = refl
bound_length handles (Some n) None = refl
bound_length handles (Some n) (Some h) = length-set handles n (Some h)

-- ---- one line

abbrev none_of : (A : Type 0) → Option A
none_of A = None

module _ (names : List (List ℕ)) (w : Written) (p : Progress) (old new : BookView) (before after : List (Option Handle)) (s : StandsFor w p old before) where
  -- the state after a line stands for the definition's, which has so many dropped lines more
  pub record Stands (calls : List ResourceCall) (q : Progress) (dropped : Option Reason) : Type 0 where
    pub stands : StandsFor (fold after_call w calls) q new after
    pub many : q.dropped ≡ p.dropped + one_if dropped

  same_stands : (r : Reason) → IsSame old new before after → Stands [] (drop_line p) (Some r)
  same_stands r same = record {
    stands = record { resources = s.resources; changes = s.changes; book_is = same.0 ∙ s.book_is; named = subst (λ (hs : List (Option Handle)). AreNamed hs p.bindings) (sym same.1) s.named };
    many = refl;
  }

  -- the calls are refused alike
  refused : (c : ResourceCall) → refusal_of old.resources c ≡ refusal_of p.resources c
  refused c =
      ap (λ (v : BookView). refusal_of v.resources c) s.book_is
      ∙ (bare_law w.resources c).0
      ∙ ap (λ (r : Resources). refusal_of r c) s.resources

  done_stands : (line : ResourceLine) (c : ResourceCall) → LineHasPlace (length before) line → IsAccepted c (created_name line) old new before after → Stands (c ∷ []) (after_answer p line (Ok (effect p.resources c))) None
  done_stands line c place a =
      let made_bare : (effect old.resources c).made ≡ (effect w.resources c).made = ap (λ (v : BookView). (effect v.resources c).made) s.book_is ∙ (bare_law w.resources c).1.made in
      let made_w : (effect w.resources c).made ≡ a.made = sym made_bare ∙ a.is_made in
      let made_p : (effect p.resources c).made ≡ a.made = ap (λ (r : Resources). (effect r c).made) (sym s.resources) ∙ made_w in
      let law : WrittenLaw = written_law in
      let named : AreNamed (with_bound (created_name line) a.made before) (bound_by (created_name line) a.made p.bindings) = bound_named before p.bindings (created_name line) a.made place s.named in
      record {
        stands = record {
          resources = ap (λ (r : Resources). (effect r c).after) s.resources;
          changes = (λ j. s.changes j ++ (effect (s.resources j) c).changes);
          book_is = a.effected ∙ ap (λ (v : BookView). after_in c a.made v) s.book_is ∙ ap (λ m. after_in c m (bared w)) (sym made_w) ∙ sym (law w c);
          named = subst (λ (hs : List (Option Handle)). AreNamed hs (bound_by (created_name line) (effect p.resources c).made p.bindings)) (sym a.names)
              (subst (λ (m : Option Handle). AreNamed (with_bound (created_name line) a.made before) (bound_by (created_name line) m p.bindings)) (sym made_p) named);
        };
        many = (let e : p.dropped ≡ p.dropped + 0 = omega arith in e);
      }

  answered : (line : ResourceLine) (c : ResourceCall) (dropped : Option Reason) (without : Reason) (o : Option Refusal) → refusal_of p.resources c ≡ o → LineHasPlace (length before) line → IsCalled dropped (Some c) without (created_name line) old new before after
      → Stands (unless_refused c o) (after_answer p line (or_refusal (effect p.resources c) o)) dropped
  answered line c (Some r) without (Some x) e place a = same_stands r a.1
  answered line c (Some r) without None e place a = absurd (let f : Some r ≡ option_map told_refusal (refusal_of p.resources c) = a.0 ∙ ap (option_map told_refusal) (refused c) in let g : Some r ≡ none_of Reason = f ∙ ap (option_map told_refusal) e in cc)
  answered line c None without (Some x) e place a = absurd (let f : Some x ≡ None = sym e ∙ sym (refused c) ∙ a.passes in cc)
  answered line c None without None e place a = done_stands line c place a

  called : (line : ResourceLine) (dropped : Option Reason) (without : Reason) (o : Option ResourceCall) → LineHasPlace (length before) line → IsCalled dropped o without (created_name line) old new before after
      → Stands (accepted_call p.resources o) (model.after_call p line o) dropped
  called line (Some r) without None place a = same_stands r a.1
  called line None without None place a = absurd a
  called line dropped without (Some c) place a = answered line c dropped without (refusal_of p.resources c) refl place a

  pub line_stands : (line : ResourceLine) (dropped : Option Reason) → LineHasPlace (length before) line → LineCalled dropped names line old new before after
      → Stands (accepted_call p.resources (resource_call p.bindings names line)) (after_line names p line) dropped
  line_stands line dropped place a = called line dropped (told (without_call line)) (resource_call p.bindings names line) place (a p.bindings s.named)

-- ---- one line more

calls_append : (names : List (List ℕ)) (p : Progress) (xs : List ResourceLine) (x : ResourceLine) → calls_of names p (xs ++ x ∷ []) ≡ calls_of names p xs ++ accepted_call (after_lines names p xs).resources (resource_call (after_lines names p xs).bindings names x)
calls_append names p [] x = append-nil (accepted_call p.resources (resource_call p.bindings names x))
calls_append names p (y ∷ ys) x =
    ap (λ cs. accepted_call p.resources (resource_call p.bindings names y) ++ cs) (calls_append names (after_line names p y) ys x)
    ∙ sym (append_assoc (accepted_call p.resources (resource_call p.bindings names y)) (calls_of names (after_line names p y) ys) (accepted_call (after_lines names (after_line names p y) ys).resources (resource_call (after_lines names (after_line names p y) ys).bindings names x)))

-- nothing was played yet
pub none_played : (names : List (List ℕ)) (book : BookView) (handles : List (Option Handle)) → LinesPlayed names [] 0 book book handles handles
none_played names book handles = record { stands = λ w p s. s; dropped_are = λ w p s. (let e : p.dropped ≡ p.dropped + 0 = omega arith in e); many = refl }

pub more_played : (names : List (List ℕ)) (xs : List ResourceLine) (x : ResourceLine) (count : ℕ) (dropped : Option Reason) (old half new : BookView) (before between after : List (Option Handle)) → LineHasPlace (length before) x → length after ≡ length between
    → LinesPlayed names xs count old half before between → LineCalled dropped names x half new between after → LinesPlayed names (xs ++ x ∷ []) (count + one_if dropped) old new before after
more_played names xs x count dropped old half new before between after place many played called = record {
  stands = λ w p s. (let t = step w p s in
      subst (λ (cs : List ResourceCall). StandsFor (fold after_call w cs) (after_lines names p (xs ++ x ∷ [])) new after) (sym (calls_append names p xs x))
      (subst (λ (v : Written). StandsFor v (after_lines names p (xs ++ x ∷ [])) new after) (sym (fold-append after_call w (calls_of names p xs) (accepted_call (after_lines names p xs).resources (resource_call (after_lines names p xs).bindings names x))))
      (subst (λ (q : Progress). StandsFor (fold after_call (fold after_call w (calls_of names p xs)) (accepted_call (after_lines names p xs).resources (resource_call (after_lines names p xs).bindings names x))) q new after) (sym (fold-append (after_line names) p xs (x ∷ []))) t.stands)));
  dropped_are = λ w p s. (let t = step w p s in let d = played.dropped_are w p s in let e : (after_lines names p (xs ++ x ∷ [])).dropped ≡ (after_line names (after_lines names p xs) x).dropped = ap (λ (q : Progress). q.dropped) (fold-append (after_line names) p xs (x ∷ [])) in let f = t.many in omega (arith, d, e, f));
  many = many ∙ played.many;
}
  where
    step : (w : Written) (p : Progress) (s : StandsFor w p old before) → Stands names (fold after_call w (calls_of names p xs)) (after_lines names p xs) half new between after (played.stands w p s)
        (accepted_call (after_lines names p xs).resources (resource_call (after_lines names p xs).bindings names x)) (after_line names (after_lines names p xs) x) dropped
    step w p s = line_stands names (fold after_call w (calls_of names p xs)) (after_lines names p xs) half new between after (played.stands w p s) x dropped (subst (λ n. LineHasPlace n x) (sym played.many) place) called

-- ---- the lines up to a place

pub taken : {A B : Type 0} (f : A → B) (xs : List A) (i : ℕ) (x : A) → i < length xs → x ≡ slice_index_or xs i x → take (i + 1) (map f xs) ≡ take i (map f xs) ++ f x ∷ []
taken f [] i x lt e = absurd (omega (arith, lt))
taken f (y ∷ ys) zero x lt e = ap (λ z. f z ∷ []) (sym e)
taken f (y ∷ ys) (suc i) x lt e = (let n : suc i + 1 ≡ suc (i + 1) = omega arith in ap (λ m. take m (map f (y ∷ ys))) n ∙ ap (λ zs. f y ∷ zs) (taken f ys i x (omega (arith, lt)) e))

pub placed : {A B : Type 0} (P : B → Type 0) (f : A → B) (xs : List A) (i : ℕ) (x : A) → i < length xs → x ≡ slice_index_or xs i x → AllByRecursion P (map f xs) → P (f x)
placed P f [] i x lt e a = absurd (omega (arith, lt))
placed P f (y ∷ ys) zero x lt e a = subst (λ z. P (f z)) (sym e) a.0
placed P f (y ∷ ys) (suc i) x lt e a = placed P f ys i x (omega (arith, lt)) e a.1

pub all_taken : {A B : Type 0} (f : A → B) (xs : List A) → take (length xs) (map f xs) ≡ map f xs
all_taken f [] = refl
all_taken f (x ∷ xs) = ap (λ ys. f x ∷ ys) (all_taken f xs)
