-- What calls do to the number of things that live.
use Rattle.std.proofs.Common.{◌≡◌, ℕ, zero, suc, ◌+◌, ◌-◌, ◌≤◌, ◌==◌, nat_lt, Bool, true, false, if◌then◌else◌, List, [], ◌∷◌, ◌++◌, length, Option, Some, None, refl, sym, ap, subst, arith}
use Rattle.std.specs.List.{find}
use Rattle.std.proofs.lemmas.List.{length-append}
use Rattle.gfx_model.specs.Words.{Kind, Handle, Info, UniformKind}
use Rattle.gfx_model.specs.World.{Content}
use Rattle.gfx_model.specs.Commands.{Command}
use Rattle.gfx_model.specs.Resources.{Thing, Resources, ResourceCall, is_live, is_at, is_live_handle, change_of_serial, with_death, with_references, make, top_index, book_of, uniform_effect, zero_value, no_change, on_thing, die, with_views, named_uniform, references_of, refusals, refusal_of, effect, create_layout, create_vertex_buffer, create_index_buffer, create_texture, create_frame_buffer, create_program, create_uniform, update_buffer, update_texture, destroy, change_view, set_view_target, set_view_order}
use Rattle.resource_laws.specs.Lawful.{count_where, IsLawful}
use Rattle.resource_laws.proofs.AttachLaws.{count_snoc}
use Rattle.resource_laws.proofs.DeathLaws.{by_serial, one_changed, has_serial}
use Rattle.resource_laws.proofs.CallLaws.{all_passed}
use Rattle.resource_laws.proofs.LiveLaws.{live_found}
use Rattle.resource_book.specs.Written.{destroys_of}

-- lives and length, before and after, with so many destroys
abbrev pub Counts : (before after : List Thing) → ℕ → Type 0
Counts before after n = n + count_where is_live after + length before ≤ count_where is_live before + length after

abbrev is_one_live : Thing → Bool
is_one_live t = is_live t

counts_same : (ts : List Thing) → Counts ts ts 0
counts_same ts = omega arith

counts_made : (ts : List Thing) (t : Thing) → t.death ≡ None → Counts ts (ts ++ t ∷ []) 0
counts_made ts t e =
    let c = count_snoc is_live ts t in
    let one : (if is_live t then 1 else 0) ≡ suc 0 = ap (λ (o : Option ℕ). if Rattle.std.specs.Prelude.is_none o then 1 else zero) e in
    let l = length-append ts (t ∷ []) in
    omega (arith, c, one, l)

refs_step : (f : Thing → Thing) (s : ℕ) (t : Thing) (ts : List Thing) (b : Bool) → ((u : Thing) → (f u).death ≡ u.death) → count_where is_live (change_of_serial f s ts) ≡ count_where is_live ts
    → count_where is_live (if b then f t ∷ ts else t ∷ change_of_serial f s ts) ≡ count_where is_live (t ∷ ts)
refs_step f s t ts true same e = let h : (if is_live (f t) then 1 else zero) ≡ (if is_live t then 1 else zero) = ap (λ (o : Option ℕ). if Rattle.std.specs.Prelude.is_none o then 1 else zero) (same t) in omega (arith, h)
refs_step f s t ts false same e = omega (arith, e)

refs_count : (f : Thing → Thing) (s : ℕ) (ts : List Thing) → ((u : Thing) → (f u).death ≡ u.death) → count_where is_live (change_of_serial f s ts) ≡ count_where is_live ts
refs_count f s [] same = refl
refs_count f s (t ∷ ts) same = refs_step f s t ts (t.handle.serial == s) same (refs_count f s ts same)

length_step : (f : Thing → Thing) (s : ℕ) (t : Thing) (ts : List Thing) (b : Bool) → length (change_of_serial f s ts) ≡ length ts → length (if b then f t ∷ ts else t ∷ change_of_serial f s ts) ≡ length (t ∷ ts)
length_step f s t ts true e = refl
length_step f s t ts false e = omega (arith, e)

length_change : (f : Thing → Thing) (s : ℕ) (ts : List Thing) → length (change_of_serial f s ts) ≡ length ts
length_change f s [] = refl
length_change f s (t ∷ ts) = length_step f s t ts (t.handle.serial == s) (length_change f s ts)

counts_refs : (f : Thing → Thing) (s : ℕ) (ts : List Thing) → ((u : Thing) → (f u).death ≡ u.death) → Counts ts (change_of_serial f s ts) 0
counts_refs f s ts same = let c = refs_count f s ts same in let l = length_change f s ts in omega (arith, c, l)

counts_dead : (frame : ℕ) (h : Handle) (r : Resources) (t : Thing) → IsLawful r → find (is_at h.kind h.index) r.things ≡ Some t → t.handle.serial ≡ h.serial → t.death ≡ None → Counts r.things (change_of_serial (with_death frame) h.serial r.things) 1
counts_dead frame h r t l is serial live =
    let there : find (has_serial h.serial) r.things ≡ Some t = subst (λ (s : ℕ). find (has_serial s) r.things ≡ Some t) serial (by_serial 0 (is_at h.kind h.index) r.things t l.rises is) in
    let c = one_changed (with_death frame) h.serial is_live r.things t there in
    let one : (if is_live t then 1 else 0) ≡ suc 0 = ap (λ (o : Option ℕ). if Rattle.std.specs.Prelude.is_none o then 1 else zero) live in
    let n = length_change (with_death frame) h.serial r.things in
    omega (arith, c, one, n)

-- what a call does to counts, and to the frame
pub record Moves (r after : Resources) (n : ℕ) : Type 0 where
  pub counts : Counts r.things after.things n
  pub frame : after.frame ≡ r.frame

moves_made : (k : Kind) (info : Info) (c : Content) (r : Resources) → Moves r (make k info c r).after 0
moves_made k info c r = record { counts = counts_made r.things (record { handle = record { kind = k; index = top_index (book_of r k).free; serial = r.next_serial; info = info }; birth = r.frame; death = None; content = c; references = 1 }) refl; frame = refl }

moves_uniform : (r : Resources) (name : List ℕ) (k : UniformKind) (o : Option Thing) → Moves r (uniform_effect r name k o).after 0
moves_uniform r name k None = moves_made Rattle.gfx_model.specs.Words.uniform_kind (Rattle.gfx_model.specs.Words.uniform_info k) (Rattle.gfx_model.specs.World.uniform_content name (zero_value k)) r
moves_uniform r name k (Some t) = record { counts = counts_refs (with_references (λ n. n + 1)) t.handle.serial r.things (λ u. refl); frame = refl }

moves_destroy : (r : Resources) (h : Handle) (b : Bool) → Counts r.things (change_of_serial (with_death r.frame) h.serial r.things) 1
    → Moves r (if b then no_change (on_thing (with_references (λ n. n - 1)) h.serial r) else no_change (die h r)).after (length {A = Command} (if b then [] else Rattle.gfx_model.specs.Commands.destroy_command (Rattle.gfx_model.specs.Words.kind_number h.kind) h.index ∷ []))
moves_destroy r h true c = record { counts = counts_refs (with_references (λ n. n - 1)) h.serial r.things (λ u. refl); frame = refl }
moves_destroy r h false c = record { counts = c; frame = refl }

not_false : (b : Bool) → Rattle.std.specs.Prelude.not b ≡ false → b ≡ true
not_false true e = refl
not_false false e = sym e

same_moves : (r : Resources) (vs : Rattle.gfx_model.specs.Views.Views) → Moves r (with_views vs r) 0
same_moves r vs = record { counts = counts_same r.things; frame = refl }

pub moves : (r : Resources) (c : ResourceCall) → IsLawful r → refusal_of r c ≡ None → Moves r (effect r c).after (length (destroys_of r c))
moves r (create_layout l) law e = moves_made _ _ _ r
moves r (create_vertex_buffer l bytes) law e = moves_made _ _ _ r
moves r (create_index_buffer bytes) law e = moves_made _ _ _ r
moves r (create_texture width height f d source) law e = moves_made _ _ _ r
moves r (create_frame_buffer color depth) law e = moves_made _ _ _ r
moves r (create_program k) law e = moves_made _ _ _ r
moves r (create_uniform name k) law e = moves_uniform r name k (named_uniform r name)
moves r (update_buffer h offset bytes) law e = record { counts = counts_same r.things; frame = refl }
moves r (update_texture h rect bytes) law e = record { counts = counts_same r.things; frame = refl }
moves r (destroy h) law e =
    let passed = all_passed (refusals r (destroy h)) e in
    let live = live_found r h law (not_false (is_live_handle r h) passed.0) in
    moves_destroy r h (nat_lt 1 (references_of (find (is_at h.kind h.index) r.things))) (counts_dead r.frame h r live.0 law live.1 live.2 live.3)
moves r (change_view v c) law e = same_moves r _
moves r (set_view_target v t) law e = same_moves r _
moves r (set_view_order ids) law e = same_moves r _
