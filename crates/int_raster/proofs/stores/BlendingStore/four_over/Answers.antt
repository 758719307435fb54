use Rattle.std.proofs.Common.{◌≡◌, [], ◌∷◌, slice_index, ◌∙◌}
use Rattle.gfx_model.specs.Pixel.{stored_color}
use Rattle.int_raster.specs.Tiled.{word_bytes}
use Rattle.int_raster.proofs.Vectors.{below_four}
use Rattle.int_raster.proofs.stores.BlendingStore.four_over.Goals as goal

pub returns : goal.returns
returns c state j parts h =
    below_four (λ k. word_bytes (slice_index (c.word_of.result ∷ c.word_of-2.result ∷ c.word_of-3.result ∷ c.word_of-4.result ∷ []) k) ≡ stored_color state (word_bytes (slice_index c.args.new k)) (word_bytes (slice_index c.args.old k)))
    (c.word_of.ensures.bytes ∙ c.stored.ensures state parts ∙ (λ i. stored_color state (c.texel_of.ensures.bytes i) (c.texel_of-2.ensures.bytes i)))
    (c.word_of-2.ensures.bytes ∙ c.stored-2.ensures state parts ∙ (λ i. stored_color state (c.texel_of-3.ensures.bytes i) (c.texel_of-4.ensures.bytes i)))
    (c.word_of-3.ensures.bytes ∙ c.stored-3.ensures state parts ∙ (λ i. stored_color state (c.texel_of-5.ensures.bytes i) (c.texel_of-6.ensures.bytes i)))
    (c.word_of-4.ensures.bytes ∙ c.stored-4.ensures state parts ∙ (λ i. stored_color state (c.texel_of-7.ensures.bytes i) (c.texel_of-8.ensures.bytes i)))
    j h
