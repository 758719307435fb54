-- The last element of a list, and tests on mapped lists.
use Rattle.std.proofs.Common.{◌≡◌, ℕ, zero, suc, ◌+◌, Bool, ◌||◌, List, [], ◌∷◌, ◌++◌, length, map, get_or, slice_set, Some, refl, ap, ◌∙◌, arith}
use Rattle.std.specs.List.{list_any}
use Rattle.std.proofs.lemmas.List.{map_push}
use Rattle.scene_model.specs.Scene as M
use Rattle.scene_model.specs.Scene.{ResourceLine, EncoderLine, Block}
use Rattle.scene_model.specs.Grammar.{on_last, last_encoder, blocks_of_last, with_before_line, with_beside_line, with_block, with_line, with_encoder_line}
use Rattle.scene_text.specs.Seen.{block_seen, frame_seen, resource_line_seen, encoder_line_seen}
use Rattle.scene_text.specs.declared.scene.ResLine.{ResLine}
use Rattle.scene_text.specs.declared.scene.EncLine.{EncLine}
use Rattle.scene_text.specs.declared.scene.EncBlock.{EncBlock}
use Rattle.scene_text.specs.declared.scene.SceneFrame.{SceneFrame}

pub any_map : {A B : Type 0} (p : B → Bool) (g : A → B) (xs : List A) → list_any p (map g xs) ≡ list_any (λ x. p (g x)) xs
any_map p g [] = refl
any_map p g (x ∷ xs) = ap (λ b. p (g x) || b) (any_map p g xs)

-- a change of the last element
pub last_set : {A B : Type 0} (view : A → B) (f : B → B) (xs : List A) (n : ℕ) (x old : A) → n + 1 ≡ length xs → old ≡ get_or xs n old → view x ≡ f (view old) → map view (slice_set xs n x) ≡ on_last f (map view xs)
last_set view f [] n x old l g e = absurd (omega (arith, l))
last_set view f (y ∷ []) zero x old l g e = ap (λ z. z ∷ []) (e ∙ ap (λ z. f (view z)) g)
last_set view f (y ∷ []) (suc n) x old l g e = absurd (omega (arith, l))
last_set view f (y ∷ z ∷ xs) zero x old l g e = absurd (omega (arith, l))
last_set view f (y ∷ z ∷ xs) (suc n) x old l g e = ap (λ ys. view y ∷ ys) (last_set view f (z ∷ xs) n x old (omega (arith, l)) g e)

abbrev frame_of : List ResourceLine → List Block → List ResourceLine → M.SceneFrame
frame_of before blocks beside = record { before = before; blocks = blocks; beside = beside }

abbrev block_of : ℕ → List EncoderLine → Block
block_of e ls = record { encoder = e; lines = ls }

-- one more line of each part
pub before_more : (o : SceneFrame) (ls : List ResLine) (l : ResLine) → ls ≡ o.before ++ l ∷ [] → frame_seen (record { before = ls; blocks = o.blocks; beside = o.beside }) ≡ with_before_line (resource_line_seen l) (frame_seen o)
before_more o ls l e = ap (λ xs. frame_of xs (map block_seen o.blocks) (map resource_line_seen o.beside)) (ap (map resource_line_seen) e ∙ map_push resource_line_seen o.before l)

pub beside_more : (o : SceneFrame) (ls : List ResLine) (l : ResLine) → ls ≡ o.beside ++ l ∷ [] → frame_seen (record { before = o.before; blocks = o.blocks; beside = ls }) ≡ with_beside_line (resource_line_seen l) (frame_seen o)
beside_more o ls l e = ap (λ xs. frame_of (map resource_line_seen o.before) (map block_seen o.blocks) xs) (ap (map resource_line_seen) e ∙ map_push resource_line_seen o.beside l)

pub blocks_more : (o : SceneFrame) (bs : List EncBlock) (b : EncBlock) → bs ≡ o.blocks ++ b ∷ [] → b.lines ≡ [] → frame_seen (record { before = o.before; blocks = bs; beside = o.beside }) ≡ with_block b.encoder (frame_seen o)
blocks_more o bs b e n = ap (λ xs. frame_of (map resource_line_seen o.before) xs (map resource_line_seen o.beside)) (ap (map block_seen) e ∙ map_push block_seen o.blocks b ∙ ap (λ ls. map block_seen o.blocks ++ block_of b.encoder (map encoder_line_seen ls) ∷ []) n)

pub block_more : (o : EncBlock) (ls : List EncLine) (l : EncLine) → ls ≡ o.lines ++ l ∷ [] → block_seen (record { encoder = o.encoder; lines = ls }) ≡ with_line (encoder_line_seen l) (block_seen o)
block_more o ls l e = ap (λ xs. block_of o.encoder xs) (ap (map encoder_line_seen) e ∙ map_push encoder_line_seen o.lines l)

pub frame_line_more : (o : SceneFrame) (bs : List EncBlock) (l : EncLine) → map block_seen bs ≡ on_last (with_line (encoder_line_seen l)) (map block_seen o.blocks) → frame_seen (record { before = o.before; blocks = bs; beside = o.beside }) ≡ with_encoder_line (encoder_line_seen l) (frame_seen o)
frame_line_more o bs l e = ap (λ xs. frame_of (map resource_line_seen o.before) xs (map resource_line_seen o.beside)) e

pub last_block : (xs : List EncBlock) (n : ℕ) (d : EncBlock) → n + 1 ≡ length xs → Some (get_or xs n d).encoder ≡ last_encoder (map block_seen xs)
last_block [] n d l = absurd (omega (arith, l))
last_block (y ∷ []) zero d l = refl
last_block (y ∷ []) (suc n) d l = absurd (omega (arith, l))
last_block (y ∷ z ∷ xs) zero d l = absurd (omega (arith, l))
last_block (y ∷ z ∷ xs) (suc n) d l = last_block (z ∷ xs) n d (omega (arith, l))

pub last_blocks : (xs : List SceneFrame) (n : ℕ) (d : SceneFrame) → n + 1 ≡ length xs → map block_seen (get_or xs n d).blocks ≡ blocks_of_last (map frame_seen xs)
last_blocks [] n d l = absurd (omega (arith, l))
last_blocks (y ∷ []) zero d l = refl
last_blocks (y ∷ []) (suc n) d l = absurd (omega (arith, l))
last_blocks (y ∷ z ∷ xs) zero d l = absurd (omega (arith, l))
last_blocks (y ∷ z ∷ xs) (suc n) d l = last_blocks (z ∷ xs) n d (omega (arith, l))
