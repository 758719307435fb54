-- A rectangle or a clear setting that is read is spelled by its fields.
use Rattle.std.proofs.Common.{◌≡◌, ℕ, ◌+◌, lit<, List, Ok, subst}
use Rattle.std.specs.Fmt.{decimal}
use Rattle.gfx_model.specs.Raster.{Rect}
use Rattle.gfx_model.specs.Views.{Clear}
use Rattle.scene_model.specs.Field.{number_to, u8_number, u16_number, color_field}
use Rattle.scene_model.specs.Grammar.{Field, field, rect_fields, clear_fields}
use Rattle.spelling_model.specs.FieldSpelling.{color_spelled}
use Rattle.spelling_model.proofs.Read.{bind_ok, same_ok}
use Rattle.spelling_model.proofs.Numbers.{number_takes, u8_takes, u16_takes}
use Rattle.spelling_model.proofs.Bytes.{color_takes}

pub rect_takes : (fs : List Field) (k : ℕ) (r : Rect) → rect_fields fs k ≡ Ok r → (field fs k ≡ decimal r.x) × (field fs (k + 1) ≡ decimal r.y) × (field fs (k + 2) ≡ decimal r.w) × (field fs (k + 3) ≡ decimal r.h)
rect_takes fs k r e =
    let x = bind_ok (u16_number (field fs k)) _ r e in
    let y = bind_ok (u16_number (field fs (k + 1))) _ r x.2 in
    let w = bind_ok (u16_number (field fs (k + 2))) _ r y.2 in
    let h = bind_ok (u16_number (field fs (k + 3))) _ r w.2 in
    let made : record { x = x.0; y = y.0; w = w.0; h = h.0 } ≡ r = same_ok h.2 in
    subst (λ r. (field fs k ≡ decimal r.x) × (field fs (k + 1) ≡ decimal r.y) × (field fs (k + 2) ≡ decimal r.w) × (field fs (k + 3) ≡ decimal r.h)) made
    (u16_takes (field fs k) x.0 x.1, u16_takes (field fs (k + 1)) y.0 y.1, u16_takes (field fs (k + 2)) w.0 w.1, u16_takes (field fs (k + 3)) h.0 h.1)

pub clear_takes : (fs : List Field) (c : Clear) → clear_fields fs ≡ Ok c → (field fs 3 ≡ decimal c.flags) × (field fs 4 ≡ color_spelled c.color) × (field fs 5 ≡ decimal c.depth) × (field fs 6 ≡ decimal c.stencil)
clear_takes fs c e =
    let flags = bind_ok (u8_number (field fs 3)) _ c e in
    let color = bind_ok (color_field (field fs 4)) _ c flags.2 in
    let depth = bind_ok (number_to 16777215 (field fs 5)) _ c color.2 in
    let stencil = bind_ok (u8_number (field fs 6)) _ c depth.2 in
    let made : record { flags = flags.0; color = color.0; depth = depth.0; stencil = stencil.0 } ≡ c = same_ok stencil.2 in
    subst (λ c. (field fs 3 ≡ decimal c.flags) × (field fs 4 ≡ color_spelled c.color) × (field fs 5 ≡ decimal c.depth) × (field fs 6 ≡ decimal c.stencil)) made
    (u8_takes (field fs 3) flags.0 flags.1, color_takes (field fs 4) color.0 color.1, number_takes 0 16777215 (field fs 5) depth.0 (lit< tt) depth.1, u8_takes (field fs 6) stencil.0 stencil.1)
