-- The datatypes that the handles of a rank stand for: a predefined one, or one that a clear call made of such (docs/RULES.md,
-- "What a rank knows"; MPI 3.1 section 4.1).
use Rattle.std.specs.Prelude.{ℕ, zero, suc, ◌+◌, Bool, ◌&&◌, if◌then◌else◌, List, [], ◌∷◌, Option, Some, None, option_map, is_some, reverse}
use Rattle.must_call.specs.declared.constants.TheConstants.{FIRST_MADE}
use Rattle.must_call.specs.declared.class.Class.TheVariants.{Datatype}
use Rattle.must_call.specs.declared.life.Life.{Life}
use Rattle.must_call.specs.declared.life.Life.TheVariants.{Live}
use Rattle.must_call.specs.declared.body.Body.{Body}
use Rattle.must_call.specs.declared.body.Body.TheVariants.{Derive}
use Rattle.must_call.specs.declared.call.Call.{Call}
use Rattle.must_type.specs.declared.construct.TypeNo.{TypeNo}
use Rattle.must_type.specs.declared.construct.Construct.{Construct}
use Rattle.must_type.specs.declared.tree.Origin.TheVariants.{Derived}
use Rattle.must_type.specs.Olds.{old_numbers}
use Rattle.must_type.specs.Tree.{TypeTree, Trees, Made, none, more}
use Rattle.must_type.specs.Table.{tree_at, predefined, slot_weight}
use Rattle.must_type.specs.Translation.{construct_of}
use Rattle.must_rules.specs.Making.{makes}
use Rattle.must_rules.specs.Lives.{is_live, life, made_count}
use Rattle.must_rules.specs.Starts.{Clearness}

-- ---- the type that a call makes

abbrev pub by_handle : ℕ → Option TypeNo
by_handle handle = Some (record { number = handle })

abbrev pub one_more : Option TypeTree → Option Trees → Option Trees
one_more (Some t) (Some ts) = Some (more t ts)
one_more _ _ = None

-- the types of some handles, where each stands for one
abbrev pub trees_of : (ℕ → Option TypeTree) → List ℕ → Option Trees
trees_of types [] = Some none
trees_of types (handle ∷ handles) = one_more (types handle) (trees_of types handles)

abbrev pub made_from : (ℕ → Option TypeTree) → Option Construct → Option TypeTree
made_from types None = None
made_from types (Some call) = option_map (Made Derived call) (trees_of types (old_numbers call))

-- the type that a call makes, by the types that its handles stand for
abbrev pub type_made : (ℕ → Option TypeTree) → Body → Option TypeTree
type_made types (Derive call) = made_from types (construct_of by_handle call)
type_made types _ = None

-- a call that isn't clear makes a handle that stands for none
abbrev pub clear_type : Bool → (ℕ → Option TypeTree) → Body → Option TypeTree
clear_type clear types b = if clear then type_made types b else None

-- ---- the types of a rank

-- the same of calls of which the last stands first
abbrev pub type_by : Clearness → List Call → ℕ → Option TypeTree
type_by is_clear [] handle = tree_at predefined handle
type_by is_clear (last ∷ before) handle =
    if makes Datatype handle last then clear_type (is_clear (reverse before) last) (type_by is_clear before) last.body else type_by is_clear before handle

-- the type that a handle stands for after these calls, whether or not it was freed
unfoldable pub type_of : Clearness → List Call → ℕ → Option TypeTree
type_of is_clear calls handle = type_by is_clear (reverse calls) handle

-- a sound type: a predefined one, or one that a clear call made of sound types
abbrev pub sound_type : Clearness → List Call → ℕ → Bool
sound_type is_clear calls handle = is_some (type_of is_clear calls handle)

-- ---- their weights

abbrev pub sum_below : (ℕ → ℕ) → ℕ → ℕ
sum_below f zero = 0
sum_below f (suc n) = sum_below f n + f n

abbrev pub while_live : Life → Option TypeTree → Option TypeTree
while_live life t = if is_live life then t else None

-- the weight of the type that a handle stands for while it is live, where it was made
abbrev pub weight_at : Clearness → List Call → ℕ → ℕ
weight_at is_clear calls handle = slot_weight (while_live (life calls Datatype handle) (type_of is_clear calls handle))

-- the weights of a rank's live and sound derived types
abbrev pub types_weight : Clearness → List Call → ℕ
types_weight is_clear calls = sum_below (λ i. weight_at is_clear calls (FIRST_MADE + i)) (made_count calls)
