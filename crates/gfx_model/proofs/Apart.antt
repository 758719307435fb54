-- No two things of different kinds or indices have one place in the table of place words.
use Rattle.std.proofs.Common.{◌≡◌, ◌∙◌, ℕ, ◌+◌, ◌<◌, Some, refl, sym, ap, arith}
use Rattle.std.proofs.lemmas.Option.{same_Some}
use Rattle.gfx_model.specs.Words.{Kind, layout_kind, vertex_buffer_kind, index_buffer_kind, texture_kind, frame_buffer_kind, program_kind, uniform_kind, kind_number, kind_of_number, first_place, greatest}

-- the kind that a kind's number says
pub kind_again : (k : Kind) → kind_of_number (kind_number k) ≡ Some k
kind_again layout_kind = refl
kind_again vertex_buffer_kind = refl
kind_again index_buffer_kind = refl
kind_again texture_kind = refl
kind_again frame_buffer_kind = refl
kind_again program_kind = refl
kind_again uniform_kind = refl

-- kinds of one number are one
pub kind_same : (k m : Kind) → kind_number k ≡ kind_number m → k ≡ m
kind_same k m e = same_Some k m (sym (kind_again k) ∙ ap kind_of_number e ∙ kind_again m)

-- kinds of one number begin at one place
pub first_by_number : (k m : Kind) → kind_number k ≡ kind_number m → first_place k ≡ first_place m
first_by_number k m e = ap first_place (kind_same k m e)

-- things at one place are of one kind
pub kind_apart : (k m : Kind) (i j : ℕ) → i < greatest k → j < greatest m → first_place k + i ≡ first_place m + j → kind_number k ≡ kind_number m
kind_apart layout_kind layout_kind i j l n e = refl
kind_apart layout_kind vertex_buffer_kind i j l n e = absurd (omega (arith, l, n, e))
kind_apart layout_kind index_buffer_kind i j l n e = absurd (omega (arith, l, n, e))
kind_apart layout_kind texture_kind i j l n e = absurd (omega (arith, l, n, e))
kind_apart layout_kind frame_buffer_kind i j l n e = absurd (omega (arith, l, n, e))
kind_apart layout_kind program_kind i j l n e = absurd (omega (arith, l, n, e))
kind_apart layout_kind uniform_kind i j l n e = absurd (omega (arith, l, n, e))
kind_apart vertex_buffer_kind layout_kind i j l n e = absurd (omega (arith, l, n, e))
kind_apart vertex_buffer_kind vertex_buffer_kind i j l n e = refl
kind_apart vertex_buffer_kind index_buffer_kind i j l n e = absurd (omega (arith, l, n, e))
kind_apart vertex_buffer_kind texture_kind i j l n e = absurd (omega (arith, l, n, e))
kind_apart vertex_buffer_kind frame_buffer_kind i j l n e = absurd (omega (arith, l, n, e))
kind_apart vertex_buffer_kind program_kind i j l n e = absurd (omega (arith, l, n, e))
kind_apart vertex_buffer_kind uniform_kind i j l n e = absurd (omega (arith, l, n, e))
kind_apart index_buffer_kind layout_kind i j l n e = absurd (omega (arith, l, n, e))
kind_apart index_buffer_kind vertex_buffer_kind i j l n e = absurd (omega (arith, l, n, e))
kind_apart index_buffer_kind index_buffer_kind i j l n e = refl
kind_apart index_buffer_kind texture_kind i j l n e = absurd (omega (arith, l, n, e))
kind_apart index_buffer_kind frame_buffer_kind i j l n e = absurd (omega (arith, l, n, e))
kind_apart index_buffer_kind program_kind i j l n e = absurd (omega (arith, l, n, e))
kind_apart index_buffer_kind uniform_kind i j l n e = absurd (omega (arith, l, n, e))
kind_apart texture_kind layout_kind i j l n e = absurd (omega (arith, l, n, e))
kind_apart texture_kind vertex_buffer_kind i j l n e = absurd (omega (arith, l, n, e))
kind_apart texture_kind index_buffer_kind i j l n e = absurd (omega (arith, l, n, e))
kind_apart texture_kind texture_kind i j l n e = refl
kind_apart texture_kind frame_buffer_kind i j l n e = absurd (omega (arith, l, n, e))
kind_apart texture_kind program_kind i j l n e = absurd (omega (arith, l, n, e))
kind_apart texture_kind uniform_kind i j l n e = absurd (omega (arith, l, n, e))
kind_apart frame_buffer_kind layout_kind i j l n e = absurd (omega (arith, l, n, e))
kind_apart frame_buffer_kind vertex_buffer_kind i j l n e = absurd (omega (arith, l, n, e))
kind_apart frame_buffer_kind index_buffer_kind i j l n e = absurd (omega (arith, l, n, e))
kind_apart frame_buffer_kind texture_kind i j l n e = absurd (omega (arith, l, n, e))
kind_apart frame_buffer_kind frame_buffer_kind i j l n e = refl
kind_apart frame_buffer_kind program_kind i j l n e = absurd (omega (arith, l, n, e))
kind_apart frame_buffer_kind uniform_kind i j l n e = absurd (omega (arith, l, n, e))
kind_apart program_kind layout_kind i j l n e = absurd (omega (arith, l, n, e))
kind_apart program_kind vertex_buffer_kind i j l n e = absurd (omega (arith, l, n, e))
kind_apart program_kind index_buffer_kind i j l n e = absurd (omega (arith, l, n, e))
kind_apart program_kind texture_kind i j l n e = absurd (omega (arith, l, n, e))
kind_apart program_kind frame_buffer_kind i j l n e = absurd (omega (arith, l, n, e))
kind_apart program_kind program_kind i j l n e = refl
kind_apart program_kind uniform_kind i j l n e = absurd (omega (arith, l, n, e))
kind_apart uniform_kind layout_kind i j l n e = absurd (omega (arith, l, n, e))
kind_apart uniform_kind vertex_buffer_kind i j l n e = absurd (omega (arith, l, n, e))
kind_apart uniform_kind index_buffer_kind i j l n e = absurd (omega (arith, l, n, e))
kind_apart uniform_kind texture_kind i j l n e = absurd (omega (arith, l, n, e))
kind_apart uniform_kind frame_buffer_kind i j l n e = absurd (omega (arith, l, n, e))
kind_apart uniform_kind program_kind i j l n e = absurd (omega (arith, l, n, e))
kind_apart uniform_kind uniform_kind i j l n e = refl

-- things at one place have one index
pub index_apart : (k m : Kind) (i j : ℕ) → i < greatest k → j < greatest m → first_place k + i ≡ first_place m + j → i ≡ j
index_apart k m i j l n e = omega (arith, e, first_by_number k m (kind_apart k m i j l n e))

-- places are below the number of place words
pub place_below : (k : Kind) (i : ℕ) → i < greatest k → first_place k + i < 3776
place_below layout_kind i l = omega (arith, l)
place_below vertex_buffer_kind i l = omega (arith, l)
place_below index_buffer_kind i l = omega (arith, l)
place_below texture_kind i l = omega (arith, l)
place_below frame_buffer_kind i l = omega (arith, l)
place_below program_kind i l = omega (arith, l)
place_below uniform_kind i l = omega (arith, l)
