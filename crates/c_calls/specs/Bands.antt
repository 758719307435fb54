-- Bands behind handles.
use Rattle.std.specs.Prelude.{◌≡◌, ℕ, ◌≤◌, ◌⊎◌, List, map, take, drop, length, Option, Some, None, Result, Ok, Err, MatchOption, ⊤}
use Rattle.std.specs.List.{AllByRecursion}
use Rattle.render_core.specs.Begun.{IsBefore, IsLast}
use Rattle.render_core.specs.BegunFrames.{BegunView}
use Rattle.c_words.specs.declared.faults.Fault.{Fault}
use Rattle.c_words.specs.Statuses.{fault_number, status_of}
use Rattle.c_calls.specs.Begun.{OpenView}
use Rattle.c_calls.specs.Exports.{context_of, frame_of, without_context, without_frame}
use Rattle.c_calls.specs.Frames.{framed_after}
use Rattle.c_calls.specs.Passes.{BeginsFrame, EndsFrame, ended}
use Rattle.c_calls.specs.Views.{ContextView}
use Rattle.c_calls.specs.declared.frame.Framed.{Framed}
use Rattle.c_calls.specs.declared.objects.Object.{Object}
use Rattle.c_calls.specs.declared.objects.Object.TheVariants.{Blank, Api, Drawing, Recording, Rows}
use Rattle.c_calls.specs.declared.open_frames.Place.{Place}
use Rattle.c_calls.specs.declared.open_frames.Place.TheVariants.{Between, Within}
use Rattle.c_calls.specs.declared.picture.PictureSink.{PictureSink}
use Rattle.c_calls.specs.declared.slot.Slot.{Slot}

-- the objects behind handles
abbrev pub values_of : List Slot → List (Option Object)
values_of slots = map (λ s. s.value) slots

-- a handle stands for a band
abbrev pub IsRows : Option Object → Type 0
IsRows (Some (Rows b)) = ⊤
IsRows (Some (Api c)) = ⊥
IsRows (Some (Drawing o)) = ⊥
IsRows (Some (Recording e)) = ⊥
IsRows (Some Blank) = ⊥
IsRows None = ⊥

-- the handle is null
abbrev pub IsNull : Option Object → Type 0
IsNull v = v ≡ None

-- each handle is null
abbrev pub AreNull : List (Option Object) → Type 0
AreNull vs = AllByRecursion IsNull vs

-- so many handles from the first on stand for bands, and the others are null
pub record AreLent (n : ℕ) (vs : List (Option Object)) : Type 0 where
  pub within : n ≤ length vs
  pub rows : AllByRecursion IsRows (take n vs)
  pub none : AreNull (drop n vs)

-- a handle whose band was taken back is null
abbrev pub without_band : Option Object → Option Object
without_band (Some (Rows b)) = None
without_band (Some (Api c)) = Some (Api c)
without_band (Some (Drawing o)) = Some (Drawing o)
without_band (Some (Recording e)) = Some (Recording e)
without_band (Some Blank) = Some Blank
without_band None = None

-- ---- what C is told

-- the status of a begin, and what its handle stands for then
abbrev pub begin_status : Result OpenView (ContextView × Fault) → ℕ
begin_status (Ok o) = 0
begin_status (Err p) = fault_number p.1

abbrev pub begun_object : Result OpenView (ContextView × Fault) → Option Object
begun_object (Ok o) = Some (Drawing o)
begun_object (Err p) = Some (Api p.0)

-- the status of an end, what its handle stands for then, and what C is told
abbrev pub end_status : Result (ContextView × Result Framed Fault) (OpenView × Fault) → ℕ
end_status (Ok p) = status_of p.1
end_status (Err p) = fault_number p.1

abbrev pub ended_object : Result (ContextView × Result Framed Fault) (OpenView × Fault) → Option Object
ended_object (Ok p) = Some (Api p.0)
ended_object (Err p) = Some (Drawing p.0)

abbrev pub ended_told : Result (ContextView × Result Framed Fault) (OpenView × Fault) → Framed → Framed
ended_told (Ok p) framed = framed_after p.1 framed
ended_told (Err p) framed = framed

-- a band is drawn, and its handle stands for a band still; another handle is as it was
abbrev pub DrawsBand : (old new : Option Object) → (status : ℕ) → Type 0
DrawsBand (Some (Rows b)) new status = (status ≡ 0) × IsRows new
DrawsBand (Some (Api c)) new status = (status ≡ 100) × (new ≡ Some (Api c))
DrawsBand (Some (Drawing o)) new status = (status ≡ 100) × (new ≡ Some (Drawing o))
DrawsBand (Some (Recording e)) new status = (status ≡ 100) × (new ≡ Some (Recording e))
DrawsBand (Some Blank) new status = (status ≡ 100) × (new ≡ Some Blank)
DrawsBand None new status = (status ≡ 100) × (new ≡ None)

-- a frame of a context is begun, or not; a handle that stands for no context is as it was
abbrev pub OpensFrame : (old new : Option Object) → (status : ℕ) → Type 0
OpensFrame old new status =
    MatchOption (context_of old)
    ((status ≡ without_context old) × (new ≡ old))
    (λ c. (r : Result OpenView (ContextView × Fault)) × (status ≡ begin_status r) × (new ≡ begun_object r) × BeginsFrame r c)

-- a call on a context with a frame that is begun; another handle is as it was, and what else the call would write
abbrev pub OnFrame : (old new : Option Object) → (status : ℕ) → (OpenView → Type 0) → (other : Type 0) → Type 0
OnFrame old new status says other = MatchOption (frame_of old) ((status ≡ without_frame old) × (new ≡ old) × other) says

-- where the next pass is begun: none is left, and no handle is set; or it is out, and so many handles stand for its bands
abbrev pub ComesNext : BegunView PictureSink → Place → ℕ → List (Option Object) → Type 0
ComesNext b (Between e) n vs = (e.opening ≡ b.opening) × (e.frame ≡ b.frame) × IsLast e.stage e.frame × (n ≡ 0) × AreNull vs
ComesNext b (Within l) n vs = (l.opening ≡ b.opening) × (l.frame ≡ b.frame) × IsBefore b.stage l.entered × AreLent n vs

-- the next pass of a frame is begun, where none is out
abbrev pub BeginsPass : OpenView → Place → (new : Option Object) → (status : ℕ) → (bands after : List (Option Object)) → (count told : ℕ) → Type 0
BeginsPass o (Between b) new status bands after count told = (status ≡ 0) × (p : Place) × (new ≡ Some (Drawing (record o { place = p }))) × ComesNext b p told after
BeginsPass o (Within l) new status bands after count told = (status ≡ 104) × (new ≡ Some (Drawing o)) × (after ≡ bands) × (told ≡ count)

-- the next pass of a frame for handles that are null; another handle among them is told first, and then all is as it was
abbrev pub NextPass : (old new : Option Object) → (status : ℕ) → (bands after : List (Option Object)) → (count told : ℕ) → Type 0
NextPass old new status bands after count told =
    (AreNull bands × OnFrame old new status (λ o. BeginsPass o o.place new status bands after count told) ((after ≡ bands) × (told ≡ count)))
    ⊎ ((AreNull bands → ⊥) × (status ≡ 105) × (new ≡ old) × (after ≡ bands) × (told ≡ count))

-- the pass that is out ends, unless a band of it is still out
abbrev pub PassEnds : OpenView → Place → (new : Option Object) → (status : ℕ) → Type 0
PassEnds o (Between b) new status = (status ≡ 104) × (new ≡ Some (Drawing o))
PassEnds o (Within l) new status = ((status ≡ 0) × (new ≡ Some (Drawing (record o { place = Between (ended l) })))) ⊎ ((status ≡ 101) × (new ≡ Some (Drawing o)))

-- the bands that are given are taken back in any case, and the pass that is out ends
abbrev pub EndsPass : (old new : Option Object) → (status : ℕ) → (bands after : List (Option Object)) → Type 0
EndsPass old new status bands after =
    (after ≡ map without_band bands) × OnFrame old new status (λ o. PassEnds o o.place new status) ⊤

-- a frame ends, or not, and is told
abbrev pub ClosesFrame : (old new : Option Object) → (status : ℕ) → (picture written : List ℕ) → (framed told : Framed) → Type 0
ClosesFrame old new status picture written framed told =
    OnFrame old new status
    (λ o. (r : Result (ContextView × Result Framed Fault) (OpenView × Fault)) × (status ≡ end_status r) × (new ≡ ended_object r) × (told ≡ ended_told r framed) × EndsFrame r picture written o)
    ((written ≡ picture) × (told ≡ framed))
