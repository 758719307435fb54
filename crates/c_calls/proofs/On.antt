-- A core stays on its table with its views, and no frame of it is out.
use Rattle.std.proofs.Common.{◌≡◌, Result, Ok, Err, ap, sym, ◌∙◌, subst}
use Rattle.gfx_model.specs.Words.{Handle}
use Rattle.gfx_model.specs.Recorder.{Room}
use Rattle.gfx_model.specs.Views.{view_count}
use Rattle.gfx_model.specs.Resources.{ResourceCall, destroy}
use Rattle.gfx_words.specs.declared.refusals.Refusal.{Refusal}
use Rattle.atomic_table.specs.Seated.{TableId}
use Rattle.hold_table.specs.Views.{SeatView}
use Rattle.draw_encoder.specs.Calls.{EncoderView, RecorderView}
use Rattle.draw_encoder.specs.declared.items.Recording.{Recording}
use Rattle.context_core.specs.Calls.{Creates, Updates, Changes, Destroys, Begins, IsBegin}
use Rattle.context_core.specs.Ended as cores
use Rattle.context_core.specs.States.{CoreView, own}
use Rattle.context_core.specs.declared.ending.NotReady.{NotReady}
use Rattle.context_core.specs.declared.ending.NotReady.TheVariants as causes
use Rattle.context_core.specs.declared.ending.Prepared.{Prepared}
use Rattle.resource_book.proofs.SameLaws.{same_law}
use Rattle.c_calls.specs.Calls.{Gathers, gathers_none, gathers_more}
use Rattle.c_calls.specs.Views.{IsOn}

module _ {t : TableId} {a : CoreView} (o : IsOn t a) (b : CoreView) where
  pub on_same : b ≡ a → IsOn t b
  on_same e = subst (IsOn t) (sym e) o

  pub on_creates : (call : ResourceCall) (result : Result Handle Refusal) → Creates own result call a b → IsOn t b
  on_creates call (Ok h) m = record {
    table_is = ap (λ (c : CoreView). c.table) m.after ∙ o.table_is;
    views_are = ap (λ (c : CoreView). view_count c.state.book.resources.views) m.after ∙ (same_law a.state.book.resources call).0 ∙ o.views_are;
    none_out = ap (λ (c : CoreView). c.state.out) m.after ∙ o.none_out;
    none_given = ap (λ (c : CoreView). c.state.is_given) m.after ∙ o.none_given;
    runs = ap (λ (c : CoreView). c.state.is_ended) m.after ∙ o.runs;
  }
  on_creates call (Err r) m = on_same m.1

  pub on_updates : (call : ResourceCall) (result : Result (Unit {0}) Refusal) → Updates own result call a b → IsOn t b
  on_updates call (Ok u) m = record {
    table_is = ap (λ (c : CoreView). c.table) m.1 ∙ o.table_is;
    views_are = ap (λ (c : CoreView). view_count c.state.book.resources.views) m.1 ∙ (same_law a.state.book.resources call).0 ∙ o.views_are;
    none_out = ap (λ (c : CoreView). c.state.out) m.1 ∙ o.none_out;
    none_given = ap (λ (c : CoreView). c.state.is_given) m.1 ∙ o.none_given;
    runs = ap (λ (c : CoreView). c.state.is_ended) m.1 ∙ o.runs;
  }
  on_updates call (Err r) m = on_same m.1

  pub on_changes : (call : ResourceCall) (result : Result (Unit {0}) Refusal) → Changes own result call a b → IsOn t b
  on_changes call (Ok u) m = record {
    table_is = ap (λ (c : CoreView). c.table) m.1 ∙ o.table_is;
    views_are = ap (λ (c : CoreView). view_count c.state.book.resources.views) m.1 ∙ (same_law a.state.book.resources call).0 ∙ o.views_are;
    none_out = ap (λ (c : CoreView). c.state.out) m.1 ∙ o.none_out;
    none_given = ap (λ (c : CoreView). c.state.is_given) m.1 ∙ o.none_given;
    runs = ap (λ (c : CoreView). c.state.is_ended) m.1 ∙ o.runs;
  }
  on_changes call (Err r) m = on_same m.1

  pub on_destroys : (h : Handle) (result : Result (Unit {0}) Refusal) → Destroys own result h a b → IsOn t b
  on_destroys h (Ok u) m = record {
    table_is = ap (λ (c : CoreView). c.table) m.1 ∙ o.table_is;
    views_are = ap (λ (c : CoreView). view_count c.state.book.resources.views) m.1 ∙ (same_law a.state.book.resources (destroy h)).0 ∙ o.views_are;
    none_out = ap (λ (c : CoreView). c.state.out) m.1 ∙ o.none_out;
    none_given = ap (λ (c : CoreView). c.state.is_given) m.1 ∙ o.none_given;
    runs = ap (λ (c : CoreView). c.state.is_ended) m.1 ∙ o.runs;
  }
  on_destroys h (Err r) m = on_same m.1

  pub on_begins : (room : Room) (e : EncoderView) → Begins own room e a b → IsOn t b
  on_begins room e m = record {
    table_is = ap (λ (c : CoreView). c.table) m.after ∙ o.table_is;
    views_are = ap (λ (c : CoreView). view_count c.state.book.resources.views) m.after ∙ o.views_are;
    none_out = ap (λ (c : CoreView). c.state.out) m.after ∙ o.none_out;
    none_given = ap (λ (c : CoreView). c.state.is_given) m.after ∙ o.none_given;
    runs = ap (λ (c : CoreView). c.state.is_ended) m.after ∙ o.runs;
  }

  pub on_gathers : (r : Recording) (seat : SeatView) → cores.Gathers r seat a b → IsOn t b
  on_gathers r seat m = record {
    table_is = ap (λ (c : CoreView). c.table) m.after ∙ o.table_is;
    views_are = ap (λ (c : CoreView). view_count c.state.book.resources.views) m.after ∙ o.views_are;
    none_out = ap (λ (c : CoreView). c.state.out) m.after ∙ o.none_out;
    none_given = ap (λ (c : CoreView). c.state.is_given) m.after ∙ o.none_given;
    runs = ap (λ (c : CoreView). c.state.is_ended) m.after ∙ o.runs;
  }

  pub on_prepares : (result : Result Prepared NotReady) → cores.Prepares result a b → IsOn t b
  on_prepares (Ok p) m = record {
    table_is = ap (λ (c : CoreView). c.table) m.after ∙ o.table_is;
    views_are = ap (λ (c : CoreView). view_count c.state.book.resources.views) m.after ∙ o.views_are;
    none_out = ap (λ (c : CoreView). c.state.out) m.after ∙ o.none_out;
    none_given = ap (λ (c : CoreView). c.state.is_given) m.after ∙ o.none_given;
    runs = ap (λ (c : CoreView). c.state.is_ended) m.after ∙ o.runs;
  }
  on_prepares (Err causes.EncodersOff) m = on_same m.1
  on_prepares (Err causes.FramesSpent) m = on_same m.2
  on_prepares (Err causes.OutOfMemory) m = on_same m.2

  pub on_begun : (room : Room) (result : Result RecorderView Refusal) → IsBegin own (λ r. r.state) result room a b → IsOn t b
  on_begun room (Ok r) m = on_begins room r.state m
  on_begun room (Err e) m = on_same m.1

-- ---- what has come is gathered

pub gathers_on : {a b c : CoreView} → Gathers a b → Gathers b c → Gathers a c
gathers_on g gathers_none = g
gathers_on g (gathers_more r seat h m) = gathers_more r seat (gathers_on g h) m

pub gathers_one : (r : Recording) (seat : SeatView) (a b : CoreView) → cores.Gathers r seat a b → Gathers a b
gathers_one r seat a b m = gathers_more r seat gathers_none m

pub on_gathered : {t : TableId} {a b : CoreView} → IsOn t a → Gathers a b → IsOn t b
on_gathered o gathers_none = o
on_gathered o (gathers_more r seat g m) = on_gathers (on_gathered o g) _ r seat m
