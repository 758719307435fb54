-- One line more.
use Rattle.std.proofs.Common.{◌≡◌, ℕ, ◌+◌, ◌<◌, List, ◌++◌, length, get_or, drop, ap, sym, ◌∙◌, append_assoc}
use Rattle.std.proofs.lemmas.List.{drop_more}
use Rattle.picture_diff.specs.Lines.{frame_line, frame_lines}
use Rattle.picture_diff.specs.declared.difference.Difference.{Difference}

pub line-step : (front : List ℕ) (k : ℕ) (ds : List Difference) (d : Difference) → k < length ds
    → front ++ frame_lines k (drop k ds) ≡ (front ++ frame_line k (get_or ds k d)) ++ frame_lines (k + 1) (drop (k + 1) ds)
line-step front k ds d lt =
    ap (λ (xs : List Difference). front ++ frame_lines k xs) (drop_more ds k d lt)
    ∙ sym (append_assoc front (frame_line k (get_or ds k d)) (frame_lines (k + 1) (drop (k + 1) ds)))
