-- What a new context keeps.
use Rattle.std.proofs.Common.{◌≡◌, ℕ, List, [], ◌++◌, map, length, refl, sym, ap, ◌∙◌, subst, arith, append-nil}
use Rattle.std.specs.List.{AllByRecursion}
use Rattle.std.proofs.lemmas.List.{length-map, length-replicate, drop_all}
use Rattle.atomic_table.specs.Seated.{TableId}
use Rattle.gfx_model.specs.Views.{plain_view}
use Rattle.gfx_model.specs.World.{Item}
use Rattle.hold_table.specs.Views.{first_view}
use Rattle.frame_record.specs.declared.frame.Frame.{Frame}
use Rattle.frame_record.specs.declared.frame.RenderedFrame.{RenderedFrame}
use Rattle.frame_record.specs.Links.{frames_of, out_of}
use Rattle.resource_book.specs.declared.opening.Start.{Start}
use Rattle.context_core.specs.States.{CoreView, core_of, opened_core}
use Rattle.gfx_context.specs.Kept.{KeepsNames, IsLinked}

none_out : (given : List Frame) (back : List RenderedFrame) → given ≡ frames_of back → out_of given back ≡ []
none_out given back e = drop_all (length back) given (let a = ap length e in let b = length-map back (λ r. r.frame) in omega arith)

module _ {T : TableId} {admits : ℕ → ℕ → List Item → ℕ → Type 0} {views latency : ℕ} {given : List Frame} {back : List RenderedFrame} (start : Start) (c : CoreView) (t : TableId) (is : c ≡ core_of t (opened_core start))
    (table : t ≡ T) (counted : start.views ≡ views) (late : latency ≡ start.latency) (none : given ≡ frames_of back) where
  pub linked_new : IsLinked T admits views latency c given back
  linked_new =
      let outs = none_out given back none in
      subst (λ (x : CoreView). IsLinked T admits views latency x given back) (sym is) (record {
        table_is = table;
        views_are = length-replicate start.views plain_view ∙ counted;
        latency_is = late;
        not_given = refl;
        admitted = tt;
        frames = record {
          counted = (let a = ap length none in let b = length-map back (λ r. r.frame) in omega (arith, a, b));
          prefix = none ∙ sym (append-nil (frames_of back)) ∙ ap (λ l. frames_of back ++ l) (sym outs);
          some = omega arith;
          numbers = ap (map (λ f. f.number)) outs;
          names = subst (AllByRecursion (KeepsNames admits views (first_view start.frame).places)) (sym outs) tt;
        };
      })
