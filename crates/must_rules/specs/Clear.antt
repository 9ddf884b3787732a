-- Which rules of arguments a call breaks, and which calls break none (docs/RULES.md).
use Rattle.std.specs.Prelude.{ℕ, ℤ, Bool, true, false, List, [], ◌∷◌, ◌++◌, Option, option_map}
use Rattle.must_call.specs.declared.kind.Kind.{Kind}
use Rattle.must_call.specs.declared.field.Field.{Field}
use Rattle.must_call.specs.declared.body.Body.{Body}
use Rattle.must_call.specs.Values.{Typed}
use Rattle.must_call.specs.Kinds.{kind_of}
use Rattle.must_call.specs.Bodies.{inputs_of}
use Rattle.must_call.specs.Handles.{typed_handles}
use Rattle.must_find.specs.declared.rule.Rule.TheVariants.{A1, A2, A3, A4, A5, A7}
use Rattle.must_rules.specs.Facts.{Facts, size_of_comm}
use Rattle.must_rules.specs.Significant.{comm_of, significant_in}
use Rattle.must_rules.specs.Breaches.{Breach, told, part_in, asked_from}
use Rattle.must_rules.specs.ArgumentRules.{negative_count, peer_outside, tag_outside, root_outside, wrong_block, wrong_color, wrong_ranks}
use Rattle.must_rules.specs.ArgumentHandles.{StartOf, is_of_buffer, wrong_handles, active_requests}

-- rules A1 to A5 and A7 at a field: n is how many members the call's communicator has, where it is live and sound
abbrev pub wrong_value : ℤ → Option ℕ → (part : ℕ) → Typed → List Breach
wrong_value tag_ub n part t =
    told A1 part (negative_count n t.0 t.1)
    ++ (told A2 part (peer_outside n t.0 t.1)
    ++ (told A3 part (tag_outside tag_ub t.0 t.1)
    ++ (told A4 part (root_outside n t.0 t.1)
    ++ (told A5 part (wrong_block t.0 t.1)
    ++ told A7 part (wrong_color t.0 t.1)))))

-- rules A1 to A5, A7 and H1 to H4 at a field, whose first handle argument has the number i
abbrev pub wrong_field : Facts → Kind → Option ℕ → (Field → ℕ) → (i : ℕ) → Typed → List Breach
wrong_field facts k n part i t = wrong_value facts.tag_ub n (part t.0) t ++ wrong_handles facts k (is_of_buffer t.0) i (typed_handles t)

-- rules A1 to A7 and H1 to H4 at a call
abbrev pub wrong_arguments : Facts → Body → List Breach
wrong_arguments facts b =
    wrong_ranks facts b
    ++ asked_from (significant_in facts b) (wrong_field facts (kind_of b) (option_map size_of_comm (comm_of facts b)) (part_in b)) 0 (inputs_of b)

abbrev pub is_nil : {X : Type 0} → List X → Bool
is_nil [] = true
is_nil (x ∷ xs) = false

-- a call that breaks none of these
abbrev pub is_clear : Facts → Body → Bool
is_clear facts b = is_nil (wrong_arguments facts b)

-- rules A1 to A7 and H1 to H5 at a call with this number
abbrev pub argument_breaches : Facts → StartOf → ℕ → Body → List Breach
argument_breaches facts start_of here b = wrong_arguments facts b ++ active_requests start_of here (is_clear facts b) b
