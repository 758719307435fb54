-- How many of the first lines of a block put items down, with one line more.
use Rattle.std.proofs.Common.{◌≡◌, ℕ, zero, suc, ◌+◌, ◌<◌, ◌≤◌, Bool, true, false, List, [], ◌∷◌, ◌++◌, length, get_or, take, map, filter, refl, ap, sym, ◌∙◌, arith}
use Rattle.std.proofs.lemmas.List.{take_more, map-append, length-append}
use Rattle.std.proofs.lemmas.List.Elements.{filter-append}
use Rattle.scene_model.specs.Scene.{EncoderLine}
use Rattle.scene_text.specs.declared.scene.EncLine.{EncLine}
use Rattle.scene_text.specs.Seen.{encoder_line_seen}
use Rattle.block_recording.specs.Lines.{is_item_line}

-- how many of some lines put items down
abbrev pub items_in : List EncoderLine → ℕ
items_in lines = length (filter is_item_line lines)

one_more : (y : EncoderLine) (rest : List EncoderLine) (b : Bool) → is_item_line y ≡ b → items_in (y ∷ rest) ≤ 1 + items_in rest
one_more y rest true is = rw is (omega arith)
one_more y rest false is = rw is (omega arith)

pub items_few : (lines : List EncLine) (i : ℕ) → items_in (map encoder_line_seen (take i lines)) ≤ i
items_few lines zero = omega arith
items_few [] (suc i) = omega arith
items_few (x ∷ xs) (suc i) = let h = items_few xs i in let m = one_more (encoder_line_seen x) (map encoder_line_seen (take i xs)) (is_item_line (encoder_line_seen x)) refl in omega arith

module _ (lines : List EncLine) (i : ℕ) (x : EncLine) (lt : i < length lines) (is : x ≡ get_or lines i x) where
  seen_more : map encoder_line_seen (take (i + 1) lines) ≡ map encoder_line_seen (take i lines) ++ encoder_line_seen x ∷ []
  seen_more = ap (map encoder_line_seen) (take_more lines i x lt) ∙ map-append encoder_line_seen (take i lines) (get_or lines i x ∷ []) ∙ ap (λ (y : EncLine). map encoder_line_seen (take i lines) ++ encoder_line_seen y ∷ []) (sym is)

  pub items_more : items_in (map encoder_line_seen (take (i + 1) lines)) ≡ items_in (map encoder_line_seen (take i lines)) + items_in (encoder_line_seen x ∷ [])
  items_more =
      ap items_in seen_more
      ∙ ap length (filter-append is_item_line (map encoder_line_seen (take i lines)) (encoder_line_seen x ∷ []))
      ∙ length-append (filter is_item_line (map encoder_line_seen (take i lines))) (filter is_item_line (encoder_line_seen x ∷ []))
