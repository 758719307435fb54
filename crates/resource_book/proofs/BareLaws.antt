-- What is seen of things has no contents.
use Rattle.std.proofs.Common.{◌≡◌, ℕ, List, [], ◌∷◌, ◌++◌, map, length, replicate, refl, sym, ap, ◌∙◌}
use Rattle.std.proofs.lemmas.List.{map-append, length-replicate}
use Rattle.gfx_model.specs.Words.{Kind, Info}
use Rattle.gfx_model.specs.World.{Content}
use Rattle.gfx_model.specs.Resources.{Thing, Resources, make, no_layout}
use Rattle.gfx_words.specs.declared.kinds.UniformKind.TheVariants as uniforms
use Rattle.resource_laws.specs.Bare.{bare, bare_content, bare_of}
use Rattle.resource_book.specs.declared.rows.Fact.{Fact}
use Rattle.resource_book.specs.declared.rows.Fact.TheVariants as facts
use Rattle.resource_book.specs.declared.rows.Row.{Row}
use Rattle.resource_book.specs.Seen.{fact_seen, row_seen, rows_seen}

pub fact_bare : (f : Fact) → bare_content (fact_seen f) ≡ fact_seen f
fact_bare (facts.Layout l) = refl
fact_bare (facts.Vertices n) = ap (λ m. fact_seen (facts.Vertices m)) (length-replicate n 0)
fact_bare (facts.Indices n) = ap (λ m. fact_seen (facts.Indices m)) (length-replicate n 0)
fact_bare (facts.Texture f w h) = refl
fact_bare (facts.FrameBuffer color depth) = refl
fact_bare (facts.Program k) = refl
fact_bare (facts.Uniform uniforms.Vec4 name) = refl
fact_bare (facts.Uniform uniforms.Int name) = refl

pub rows_bare : (rows : List Row) → map bare (rows_seen rows) ≡ rows_seen rows
rows_bare [] = refl
rows_bare (r ∷ rs) = λ j. (record (row_seen r) { content = fact_bare r.fact j }) ∷ rows_bare rs j

abbrev with_content : Content → Thing → Thing
with_content c t = record t { content = c }

-- what is made does not depend on contents
pub make_bare : (k : Kind) (info : Info) (c d : Content) (r : Resources) → bare_content c ≡ d → bare_content d ≡ d → bare_of (make k info d r).after ≡ bare_of (make k info c r).after
make_bare k info c d r e f =
    let t : Thing = record { handle = record { kind = k; index = Rattle.gfx_model.specs.Resources.top_index (Rattle.gfx_model.specs.Resources.book_of r k).free; serial = r.next_serial; info = info }; birth = r.frame; death = Rattle.std.proofs.Common.None; content = c; references = 1 } in
    λ j. record (bare_of (make k info c r).after) { things = (map-append bare r.things (with_content d t ∷ []) ∙ (λ i. map bare r.things ++ with_content ((f ∙ sym e) i) t ∷ []) ∙ sym (map-append bare r.things (t ∷ []))) j }

pub made_after : (s new : Resources) (k : Kind) (info : Info) (c d : Content) → bare_of new ≡ new → bare_content d ≡ d → new ≡ (make k info d s).after → bare_content c ≡ d → new ≡ bare_of (make k info c s).after
made_after s new k info c d b f e is = sym b ∙ ap bare_of e ∙ make_bare k info c d s is f
