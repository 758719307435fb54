-- The lines of the first views.
use Rattle.std.proofs.Common.{◌≡◌, ℕ, ◌+◌, ◌<◌, List, [], ◌∷◌, ◌++◌, map, take, length, slice_index_or, sym, ap, ◌∙◌, append_assoc, append-nil}
use Rattle.std.proofs.lemmas.List.{get_or_default, take_more}
use Rattle.shared_keys.specs.declared.marks.SharedView.{SharedView}
use Rattle.shared_keys.specs.Lines.{shared_line, frame_lines}
use Rattle.shared_keys.specs.Marks.{shared_seen}

lines-snoc : (k : ℕ) (views : List SharedView) (x : SharedView) → frame_lines k (map shared_seen (views ++ x ∷ [])) ≡ frame_lines k (map shared_seen views) ++ shared_line k (shared_seen x)
lines-snoc k [] x = append-nil (shared_line k (shared_seen x))
lines-snoc k (y ∷ views) x =
    ap (λ (t : List ℕ). shared_line k (shared_seen y) ++ t) (lines-snoc k views x)
    ∙ sym (append_assoc (shared_line k (shared_seen y)) (frame_lines k (map shared_seen views)) (shared_line k (shared_seen x)))

-- one line more
pub front-more : (k : ℕ) (views : List SharedView) (i : ℕ) (x : SharedView) (old now new : List ℕ) → i < length views → x ≡ slice_index_or views i x
    → now ≡ old ++ frame_lines k (map shared_seen (take i views)) → new ≡ now ++ shared_line k (shared_seen x) → new ≡ old ++ frame_lines k (map shared_seen (take (i + 1) views))
front-more k views i x old now new lt is before more =
    more
    ∙ ap (λ (t : List ℕ). t ++ shared_line k (shared_seen x)) before
    ∙ append_assoc old (frame_lines k (map shared_seen (take i views))) (shared_line k (shared_seen x))
    ∙ ap (λ (y : SharedView). old ++ (frame_lines k (map shared_seen (take i views)) ++ shared_line k (shared_seen y))) is
    ∙ ap (λ (t : List ℕ). old ++ t) (sym (lines-snoc k (take i views) (slice_index_or views i x)))
    ∙ ap (λ (vs : List SharedView). old ++ frame_lines k (map shared_seen vs)) (sym (take_more views i x lt))

-- the same where the view is named by its place
pub front-more-at : (k : ℕ) (views : List SharedView) (i : ℕ) (d : SharedView) (old now new : List ℕ) → i < length views
    → now ≡ old ++ frame_lines k (map shared_seen (take i views)) → new ≡ now ++ shared_line k (shared_seen (slice_index_or views i d)) → new ≡ old ++ frame_lines k (map shared_seen (take (i + 1) views))
front-more-at k views i d old now new lt before more = front-more k views i (slice_index_or views i d) old now new lt (get_or_default views i d (slice_index_or views i d) lt) before more
