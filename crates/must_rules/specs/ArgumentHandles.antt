-- Rules H1 to H5: handle arguments that are wrong, by what became of the handle (MPI 3.1 sections 2.5.1, 3.7.3, 4.1.9 and
-- 6.4.3). The part is the number of the argument, and the value is the handle.
use Rattle.std.specs.Prelude.{ℕ, suc, pos, Bool, true, false, not, ◌&&◌, List, [], ◌∷◌, ◌++◌, Option, Some, None, nat_eq, if◌then◌else◌}
use Rattle.std.specs.Set.{is_member}
use Rattle.must_call.specs.declared.constants.TheConstants.{NULL_HANDLE}
use Rattle.must_call.specs.declared.kind.Kind.{Kind}
use Rattle.must_call.specs.declared.kind.Kind.TheVariants as kind
use Rattle.must_call.specs.declared.field.Handle.TheVariants.{Datatype}
use Rattle.must_call.specs.declared.field.Field.{Field}
use Rattle.must_call.specs.declared.field.Field.TheVariants.{Handle}
use Rattle.must_call.specs.declared.body.Body.{Body}
use Rattle.must_call.specs.declared.life.Life.{Life}
use Rattle.must_call.specs.declared.life.Life.TheVariants.{Never, Live, Freed, Predefined}
use Rattle.must_call.specs.Handles.{ClassedHandle}
use Rattle.must_find.specs.declared.rule.Rule.TheVariants.{H1, H2, H3, H4, H5}
use Rattle.must_rules.specs.Facts.{Facts}
use Rattle.must_rules.specs.Making.{started_of}
use Rattle.must_rules.specs.Breaches.{Breach, breach, breach_with}

-- ---- H1, handle unknown

-- MPI_Wait to MPI_Testsome, which may name the null request
abbrev pub may_complete : Kind → Bool
may_complete kind.Wait = true
may_complete kind.Waitall = true
may_complete kind.Waitany = true
may_complete kind.Waitsome = true
may_complete kind.Test = true
may_complete kind.Testall = true
may_complete kind.Testany = true
may_complete kind.Testsome = true
may_complete _ = false

-- a handle that no call made
abbrev pub unknown : Kind → (part h : ℕ) → Life → List Breach
unknown k part h Never = if may_complete k && nat_eq h NULL_HANDLE then [] else breach H1 part (pos h) ∷ []
unknown k part h _ = []

-- ---- H2, handle used after free

-- a handle that was freed or completed; it sees the call that did
abbrev pub spent : (part h : ℕ) → Life → List Breach
spent part h (Freed made freed) = breach_with H2 part freed (pos h) ∷ []
spent part h _ = []

-- ---- H3, predefined object freed

abbrev pub frees_object : Kind → Bool
frees_object kind.TypeFree = true
frees_object kind.CommFree = true
frees_object kind.OpFree = true
frees_object _ = false

abbrev pub predefined : Kind → (part h : ℕ) → Life → List Breach
predefined k part h Predefined = if frees_object k then breach H3 part (pos h) ∷ [] else []
predefined k part h _ = []

-- ---- H4, type not committed

-- the datatype of a buffer
abbrev pub is_of_buffer : Field → Bool
is_of_buffer (Handle (Datatype s)) = true
is_of_buffer _ = false

-- a type that isn't committed where it describes a buffer; it sees the call that made it
abbrev pub uncommitted : Facts → (of_buffer : Bool) → (part h : ℕ) → Life → List Breach
uncommitted facts of_buffer part h (Live made) = if of_buffer && not (facts.committed h) then breach_with H4 part made (pos h) ∷ [] else []
uncommitted facts of_buffer part h _ = []

-- ---- the handles of a field

abbrev pub by_life : Facts → Kind → (of_buffer : Bool) → (part h : ℕ) → Life → List Breach
by_life facts k of_buffer part h life = unknown k part h life ++ (spent part h life ++ (predefined k part h life ++ uncommitted facts of_buffer part h life))

abbrev pub wrong_handle : Facts → Kind → (of_buffer : Bool) → (part : ℕ) → ClassedHandle → List Breach
wrong_handle facts k of_buffer part h = by_life facts k of_buffer part h.1 (facts.life h.0 h.1)

-- the handles of a field, from its number on
abbrev pub wrong_handles : Facts → Kind → (of_buffer : Bool) → (part : ℕ) → List ClassedHandle → List Breach
wrong_handles facts k of_buffer part [] = []
wrong_handles facts k of_buffer part (h ∷ hs) = wrong_handle facts k of_buffer part h ++ wrong_handles facts k of_buffer (suc part) hs

-- ---- H5, active request started (section 3.9)

-- it sees the start
abbrev pub active : (here : ℕ) → (again : Bool) → (part h : ℕ) → Option ℕ → List Breach
active here again part h (Some start) = breach_with H5 part start (pos h) ∷ []
active here again part h None = if again then breach_with H5 part here (pos h) ∷ [] else []

-- the call that started an active request; none where the number isn't an active request
abbrev pub StartOf : Type 0
StartOf = ℕ → Option ℕ

-- a clear call starts each request that it names and that isn't active yet, in the order of its list: of these a live
-- request is persistent, and a clear call names no other. The requests before are given
abbrev pub active_from : StartOf → (here : ℕ) → (clear : Bool) → (before : List ℕ) → (part : ℕ) → List ℕ → List Breach
active_from start_of here clear before part [] = []
active_from start_of here clear before part (h ∷ hs) = active here (clear && is_member nat_eq before h) part h (start_of h) ++ active_from start_of here clear (before ++ h ∷ []) (suc part) hs

-- here is the number of the call, and clear says whether it is
abbrev pub active_requests : StartOf → (here : ℕ) → (clear : Bool) → Body → List Breach
active_requests start_of here clear b = active_from start_of here clear [] 0 (started_of b)
