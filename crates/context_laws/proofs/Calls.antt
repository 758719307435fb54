-- A context's calls are those of its core.
use Rattle.std.proofs.Common.{◌≡◌, Result, Ok, Err, refl, ap}
use Rattle.atomic_table.specs.Seated.{TableId}
use Rattle.gfx_model.specs.Words.{Handle}
use Rattle.gfx_words.specs.declared.refusals.Refusal.{Refusal}
use Rattle.context_core.specs.Calls as cores
use Rattle.context_core.specs.States.{own}
use Rattle.gfx_context.specs.Calls.{Destroys}
use Rattle.gfx_context.specs.States.{ContextView}
use Rattle.context_laws.specs.Contexts.{core_on, CallsOfCores}

module _ (L : Type 0) (table : TableId) (old new : ContextView L) where
  destroys_by : (result : Result (Unit {0}) Refusal) (h : Handle) → Destroys result h old new → cores.Destroys own result h (core_on table old) (core_on table new)
  destroys_by (Ok u) h d = (d.0, ap (core_on table) d.1)
  destroys_by (Err r) h d = (d.0, ap (core_on table) d.1)

pub calls_of_cores : (L : Type 0) → CallsOfCores L
calls_of_cores L table old new = record {
  not_given = refl;
  makes = (λ call h m. record { accepted = m.accepted; made = m.made; placed = m.placed; after = ap (core_on table) m.after });
  destroys = destroys_by L table old new;
  begins = (λ room e b. record { accepted = b.accepted; made = b.made; seat = b.seat; after = ap (core_on table) b.after; state = b.state });
  gathers = (λ r seat g. record { was_off = g.was_off; fewer = g.fewer; after = ap (core_on table) g.after });
}
