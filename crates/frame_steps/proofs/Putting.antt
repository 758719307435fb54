-- Texts of pictures that are put one behind the other.
use Rattle.std.proofs.Common.{◌≡◌, ◌∙◌, ℕ, zero, suc, ◌+◌, ◌<◌, ◌≤◌, List, [], ◌∷◌, ◌++◌, map, length, take, drop, get_or, Option, Some, None, refl, sym, ap, subst, arith, append_assoc, append-nil}
use Rattle.std.specs.Prelude.{flat_map}
use Rattle.std.proofs.Math.Seq.{take-append_seam, take-append-add}
use Rattle.std.proofs.lemmas.List.{take-append-drop}
use Rattle.io_edge.specs.Edge.{with_back}
use Rattle.io_whole.specs.Whole.{HasFront}
use Rattle.io_whole.proofs.Pieces.{with_back-with_back, with_back-nothing}
use Rattle.scene_model.specs.Output.{picture_text}
use Rattle.store_laws.specs.ByIndex.{Stores}
use Rattle.trace_laws.specs.ByIndex.{stores_after, stores_after_each}
use Rattle.trace_laws.specs.Deeds.{Deed}
use Rattle.frame_record.specs.declared.frame.Frame.{Frame}
use Rattle.view_table.specs.Order.{IsViewTable}
use Rattle.render_core.specs.Seen.{frame_seen, recordings_of, journal_of}
use Rattle.trace_laws.specs.ByIndex.{begun_in, deeds_in}
use Rattle.trace_laws.specs.Doers.{doers_in}
use Rattle.trace_lines.specs.declared.doers.Doer.{Doer}
use Rattle.trace_lines.specs.Seen.{doer_seen}
use Rattle.frame_steps.proofs.Dones.{done-law}
use Rattle.frame_steps.specs.Doing.{deed_of_frame, stores_after_some}
use Rattle.frame_steps.specs.Steps.{deeds_of_doers, steps_text, pictures_in, stores_after_these, texts_after, IsPutSoFar}

-- ---- fronts

-- a front of a piece is a front of what begins with it
front_more : (a b : List ℕ) (n : ℕ) → take (length (take n a)) (a ++ b) ≡ take n a
front_more a b n =
    let parts : a ++ b ≡ take n a ++ (drop n a ++ b) = ap (λ x. x ++ b) (sym (take-append-drop n a)) ∙ append_assoc (take n a) (drop n a) b in
    ap (take (length (take n a))) parts ∙ take-append_seam (take n a) (drop n a ++ b)

-- nothing was put
pub none_put : (old : Option (List ℕ)) (whole : List ℕ) → IsPutSoFar old whole whole old
none_put old whole = record { done = []; put = with_back-nothing old; left = refl }

-- a piece more was put
pub put_more : (old mid new : Option (List ℕ)) (a b whole : List ℕ) → IsPutSoFar old (a ++ b) whole mid → new ≡ with_back mid a → IsPutSoFar old b whole new
put_more old mid new a b whole p e = record {
  done = p.done ++ a;
  put = e ∙ ap (λ o. with_back o a) p.put ∙ with_back-with_back old p.done a;
  left = p.left ∙ sym (append_assoc p.done a b);
}

-- a front of a piece more was put
pub cut_front : (old mid new : Option (List ℕ)) (a b whole : List ℕ) → IsPutSoFar old (a ++ b) whole mid → HasFront mid a new → HasFront old whole new
cut_front old mid new a b whole p (n, e) = (
  length p.done + length (take n a),
  e ∙ ap (λ o. with_back o (take n a)) p.put ∙ with_back-with_back old p.done (take n a)
      ∙ ap (with_back old) (sym (ap (take (length p.done + length (take n a))) p.left ∙ take-append-add p.done (a ++ b) (length (take n a)) ∙ ap (λ t. p.done ++ t) (front_more a b n))),
)

-- what was put so far is a front
pub so_far_front : (old mid : Option (List ℕ)) (rest whole : List ℕ) → IsPutSoFar old rest whole mid → HasFront old whole mid
so_far_front old mid rest whole p = (length p.done, p.put ∙ ap (with_back old) (sym (ap (take (length p.done)) p.left ∙ take-append_seam p.done rest)))

-- nothing is left
pub all_put : (old new : Option (List ℕ)) (whole : List ℕ) → IsPutSoFar old [] whole new → new ≡ with_back old whole
all_put old new whole p = p.put ∙ ap (with_back old) (sym (p.left ∙ append-nil p.done))

-- ---- what is left of a list

drop-suc : {A : Type 0} (xs : List A) (i : ℕ) (d : A) → i < length xs → drop i xs ≡ get_or xs i d ∷ drop (suc i) xs
drop-suc [] i d h = absurd (omega (arith, h))
drop-suc (x ∷ xs) zero d h = refl
drop-suc (x ∷ xs) (suc i) d h = drop-suc xs i d (omega (arith, h))

drop-next : {A : Type 0} (xs : List A) (i : ℕ) (d : A) → i < length xs → drop i xs ≡ get_or xs i d ∷ drop (i + 1) xs
drop-next xs i d h = drop-suc xs i d h ∙ ap (λ k. get_or xs i d ∷ drop k xs) same
  where
    same : suc i ≡ i + 1
    same = omega arith

drop-past : {A : Type 0} (xs : List A) (i : ℕ) → length xs ≤ i → drop i xs ≡ []
drop-past [] zero h = refl
drop-past [] (suc i) h = refl
drop-past (x ∷ xs) zero h = absurd (omega (arith, h))
drop-past (x ∷ xs) (suc i) h = drop-past xs i (omega (arith, h))

-- ---- steps

module _ {D : Type 0} (deed : D → Option Deed) where
  -- what is left of doers' deeds begins with that of the next
  pub texts-next : (h : Stores) (ds : List D) (i : ℕ) (d : D) → i < length ds → get_or ds i d ≡ d
      → texts_after h (map deed (drop i ds)) ≡ picture_text (stores_after_some h (deed d)).back.color ++ texts_after (stores_after_some h (deed d)) (map deed (drop (i + 1) ds))
  texts-next h ds i d lt is = ap (λ es. texts_after h (map deed es)) (drop-next ds i d lt ∙ ap (λ e. e ∷ drop (i + 1) ds) is)

  pub texts-past : (h : Stores) (ds : List D) (i : ℕ) → length ds ≤ i → texts_after h (map deed (drop i ds)) ≡ []
  texts-past h ds i le = ap (λ es. texts_after h (map deed es)) (drop-past ds i le)

-- where each deed is there
pub these-each : (h : Stores) (ds : List Deed) → stores_after_these h (map Some ds) ≡ stores_after_each h ds
these-each h [] = refl
these-each h (d ∷ ds) = ap (λ (hs : List Stores). stores_after h d ∷ hs) (these-each (stores_after h d) ds)

-- the texts after the deeds of a frame
pub texts-whole : (f : Frame) (ds : List Doer) (h : Stores) → IsViewTable f.views → map doer_seen ds ≡ doers_in f.views (recordings_of f) (journal_of f)
    → texts_after h (deeds_of_doers f ds) ≡ flat_map picture_text (pictures_in (stores_after_each h (deeds_in (frame_seen f))))
texts-whole f ds h table is =
    ap (texts_after h) (both ds ∙ ap (map (deed_of_frame f)) is ∙ done-law f table)
    ∙ ap (λ (hs : List Stores). flat_map picture_text (pictures_in hs)) (these-each h (deeds_in (frame_seen f)))
  where
    both : (es : List Doer) → deeds_of_doers f es ≡ map (deed_of_frame f) (map doer_seen es)
    both [] = refl
    both (e ∷ es) = ap (λ (os : List (Option Deed)). deed_of_frame f (doer_seen e) ∷ os) (both es)

-- nothing was put
pub none_front : (old : Option (List ℕ)) (whole : List ℕ) → HasFront old whole old
none_front old whole = (0, with_back-nothing old)

-- all that is left was put but for its end
pub front_all : (old mid new : Option (List ℕ)) (rest whole : List ℕ) → IsPutSoFar old rest whole mid → HasFront mid rest new → HasFront old whole new
front_all old mid new rest whole p front = cut_front old mid new rest [] whole (subst (λ r. IsPutSoFar old r whole mid) (sym (append-nil rest)) p) front

-- all that is left was put
pub whole_all : (old mid new : Option (List ℕ)) (rest whole : List ℕ) → IsPutSoFar old rest whole mid → new ≡ with_back mid rest → new ≡ with_back old whole
whole_all old mid new rest whole p e = all_put old new whole (put_more old mid new rest [] whole (subst (λ r. IsPutSoFar old r whole mid) (sym (append-nil rest)) p) e)

-- ---- a step more

-- an element that is there does not depend on what is taken past the end
pub got-self : {A : Type 0} (xs : List A) (k : ℕ) (d : A) → k < length xs → get_or xs k (get_or xs k d) ≡ get_or xs k d
got-self [] k d h = absurd (omega (arith, h))
got-self (x ∷ xs) zero d h = refl
got-self (x ∷ xs) (suc k) d h = got-self xs k d (omega (arith, h))

module _ (f : Frame) (ds : List Doer) (i : ℕ) (d : Doer) (h : Stores) (old mid new : Option (List ℕ)) (whole : List ℕ) (lt : i < length ds) (is : get_or ds i d ≡ d) where
  abbrev after : Stores
  after = stores_after_some h (deed_of_frame f (doer_seen d))

  next-left : IsPutSoFar old (texts_after h (deeds_of_doers f (drop i ds))) whole mid → IsPutSoFar old (picture_text after.back.color ++ texts_after after (deeds_of_doers f (drop (i + 1) ds))) whole mid
  next-left = subst (λ t. IsPutSoFar old t whole mid) (texts-next (λ e. deed_of_frame f (doer_seen e)) h ds i d lt is)

  pub step-put : (next : Stores) → IsPutSoFar old (texts_after h (deeds_of_doers f (drop i ds))) whole mid
      → next ≡ stores_after_some h (deed_of_frame f (doer_seen d)) → new ≡ with_back mid (picture_text (stores_after_some h (deed_of_frame f (doer_seen d))).back.color)
      → IsPutSoFar old (texts_after next (deeds_of_doers f (drop (i + 1) ds))) whole new
  step-put next p stores e =
      subst (λ u. IsPutSoFar old (texts_after u (deeds_of_doers f (drop (i + 1) ds))) whole new) (sym stores)
      (put_more old mid new (picture_text after.back.color) (texts_after after (deeds_of_doers f (drop (i + 1) ds))) whole (next-left p) e)

  pub step-front : IsPutSoFar old (texts_after h (deeds_of_doers f (drop i ds))) whole mid → HasFront mid (picture_text (stores_after_some h (deed_of_frame f (doer_seen d))).back.color) new → HasFront old whole new
  step-front p front = cut_front old mid new (picture_text after.back.color) (texts_after after (deeds_of_doers f (drop (i + 1) ds))) whole (next-left p) front

pub steps-past : (f : Frame) (ds : List Doer) (i : ℕ) (h : Stores) (old new : Option (List ℕ)) (whole : List ℕ) → length ds ≤ i → IsPutSoFar old (texts_after h (deeds_of_doers f (drop i ds))) whole new → new ≡ with_back old whole
steps-past f ds i h old new whole le p = all_put old new whole (subst (λ t. IsPutSoFar old t whole new) (texts-past (λ e. deed_of_frame f (doer_seen e)) h ds i le) p)

-- ---- all steps of a frame

module _ (f : Frame) (ds : List Doer) (h begun : Stores) (is : begun ≡ begun_in h (frame_seen f)) (table : IsViewTable f.views) (own : map doer_seen ds ≡ doers_in f.views (recordings_of f) (journal_of f)) where
  steps-parts : steps_text h (frame_seen f) ≡ picture_text begun.back.color ++ texts_after begun (deeds_of_doers f ds)
  steps-parts =
      ap (λ u. picture_text u.back.color ++ flat_map picture_text (pictures_in (stores_after_each u (deeds_in (frame_seen f))))) (sym is)
      ∙ ap (λ t. picture_text begun.back.color ++ t) (sym (texts-whole f ds begun table own))

  all-left : (old mid : Option (List ℕ)) → mid ≡ with_back old (picture_text begun.back.color) → IsPutSoFar old (texts_after begun (deeds_of_doers f ds)) (steps_text h (frame_seen f)) mid
  all-left old mid e =
      subst (λ w. IsPutSoFar old (texts_after begun (deeds_of_doers f ds)) w mid) (sym steps-parts)
      (put_more old old mid (picture_text begun.back.color) (texts_after begun (deeds_of_doers f ds)) (picture_text begun.back.color ++ texts_after begun (deeds_of_doers f ds))
      (none_put old (picture_text begun.back.color ++ texts_after begun (deeds_of_doers f ds))) e)

  pub steps-first : (old new : Option (List ℕ)) → HasFront old (picture_text begun.back.color) new → HasFront old (steps_text h (frame_seen f)) new
  steps-first old new front =
      subst (λ w. HasFront old w new) (sym steps-parts)
      (cut_front old old new (picture_text begun.back.color) (texts_after begun (deeds_of_doers f ds)) (picture_text begun.back.color ++ texts_after begun (deeds_of_doers f ds))
      (none_put old (picture_text begun.back.color ++ texts_after begun (deeds_of_doers f ds))) front)

  pub steps-front : (old mid new : Option (List ℕ)) → mid ≡ with_back old (picture_text begun.back.color) → HasFront mid (texts_after begun (deeds_of_doers f ds)) new → HasFront old (steps_text h (frame_seen f)) new
  steps-front old mid new e front = front_all old mid new (texts_after begun (deeds_of_doers f ds)) (steps_text h (frame_seen f)) (all-left old mid e) front

  pub steps-whole : (old mid new : Option (List ℕ)) → mid ≡ with_back old (picture_text begun.back.color) → new ≡ with_back mid (texts_after begun (deeds_of_doers f ds)) → new ≡ with_back old (steps_text h (frame_seen f))
  steps-whole old mid new e all = whole_all old mid new (texts_after begun (deeds_of_doers f ds)) (steps_text h (frame_seen f)) (all-left old mid e) all
