-- Fronts of a text that is put in pieces.
use Rattle.std.proofs.Common.{◌≡◌, ℕ, ◌+◌, List, [], ◌++◌, length, take, drop, Option, refl, sym, ap, ◌∙◌, append_assoc, append-nil}
use Rattle.std.proofs.Math.Seq.{take-append_seam, take-append-add}
use Rattle.std.proofs.lemmas.List.{take-append-drop}
use Rattle.io_edge.specs.Edge.{with_back}
use Rattle.io_whole.specs.Whole.{HasFront}
use Rattle.io_whole.proofs.Pieces.{with_back-with_back, with_back-nothing}
use Rattle.check_running.specs.Putting.{IsPutSoFar}

-- a front of a piece is a front of what begins with it
front_more : (a b : List ℕ) (n : ℕ) → take (length (take n a)) (a ++ b) ≡ take n a
front_more a b n =
    let parts : a ++ b ≡ take n a ++ (drop n a ++ b) = ap (λ x. x ++ b) (sym (take-append-drop n a)) ∙ append_assoc (take n a) (drop n a) b in
    ap (take (length (take n a))) parts ∙ take-append_seam (take n a) (drop n a ++ b)

-- nothing was put
pub none_put : (old : Option (List ℕ)) (whole : List ℕ) → IsPutSoFar old whole whole old
none_put old whole = record { done = []; put = with_back-nothing old; left = refl }

-- a piece more was put
pub put_more : (old mid new : Option (List ℕ)) (a b whole : List ℕ) → IsPutSoFar old (a ++ b) whole mid → new ≡ with_back mid a → IsPutSoFar old b whole new
put_more old mid new a b whole p e = record {
  done = p.done ++ a;
  put = e ∙ ap (λ o. with_back o a) p.put ∙ with_back-with_back old p.done a;
  left = p.left ∙ sym (append_assoc p.done a b);
}

-- a front of a piece more was put
pub cut_front : (old mid new : Option (List ℕ)) (a b whole : List ℕ) → IsPutSoFar old (a ++ b) whole mid → HasFront mid a new → HasFront old whole new
cut_front old mid new a b whole p (n, e) = (
  length p.done + length (take n a),
  e ∙ ap (λ o. with_back o (take n a)) p.put ∙ with_back-with_back old p.done (take n a)
      ∙ ap (with_back old) (sym (ap (take (length p.done + length (take n a))) p.left ∙ take-append-add p.done (a ++ b) (length (take n a)) ∙ ap (λ t. p.done ++ t) (front_more a b n))),
)

-- what was put so far is a front
pub so_far_front : (old mid : Option (List ℕ)) (rest whole : List ℕ) → IsPutSoFar old rest whole mid → HasFront old whole mid
so_far_front old mid rest whole p = (length p.done, p.put ∙ ap (with_back old) (sym (ap (take (length p.done)) p.left ∙ take-append_seam p.done rest)))

-- nothing is left
pub all_put : (old new : Option (List ℕ)) (whole : List ℕ) → IsPutSoFar old [] whole new → new ≡ with_back old whole
all_put old new whole p = p.put ∙ ap (with_back old) (sym (p.left ∙ append-nil p.done))
