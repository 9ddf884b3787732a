-- What the judges of this crate answer, and the breaches that this tells.
use Rattle.std.specs.Prelude.{ℕ, ℤ, pos, List, [], ◌∷◌, Option, Some, None}
use Rattle.must_call.specs.declared.field.Int.TheVariants as int
use Rattle.must_call.specs.declared.field.Ints.TheVariants as ints
use Rattle.must_call.specs.declared.field.Item.TheVariants as item
use Rattle.must_call.specs.declared.field.Field.{Field}
use Rattle.must_call.specs.declared.field.Field.TheVariants.{I32, Items}
use Rattle.must_call.specs.Values.{Value}
use Rattle.must_find.specs.declared.rule.Rule.{Rule}
use Rattle.must_find.specs.declared.rule.Rule.TheVariants.{A1, A2, A3, A4, A5, A7}
use Rattle.must_rules.specs.Breaches.{Breach, breach}
use Rattle.must_rules.specs.ArgumentRules.{negative_count, peer_outside, tag_outside, root_outside, wrong_block, wrong_color}

-- a rule that is broken, with the value of its finding
abbrev pub Broken : Type 0
Broken = Option (Rule × ℤ)

abbrev pub filed : Rule → Option ℤ → Broken
filed rule None = None
filed rule (Some value) = Some (rule, value)

-- a field breaks one of the rules A1 to A5 and A7 at the most: the one that speaks of what it is for
abbrev pub broken_by : ℤ → Option ℕ → (f : Field) → Value f → Broken
broken_by tag_ub n (I32 (int.Count s)) z = filed A1 (negative_count n (I32 (int.Count s)) z)
broken_by tag_ub n (I32 int.Copies) z = filed A1 (negative_count n (I32 int.Copies) z)
broken_by tag_ub n (I32 int.Dest) z = filed A2 (peer_outside n (I32 int.Dest) z)
broken_by tag_ub n (I32 int.Source) z = filed A2 (peer_outside n (I32 int.Source) z)
broken_by tag_ub n (I32 (int.Tag s)) z = filed A3 (tag_outside tag_ub (I32 (int.Tag s)) z)
broken_by tag_ub n (I32 int.Root) z = filed A4 (root_outside n (I32 int.Root) z)
broken_by tag_ub n (I32 int.Block) z = filed A5 (wrong_block (I32 int.Block) z)
broken_by tag_ub n (I32 int.Color) z = filed A7 (wrong_color (I32 int.Color) z)
broken_by tag_ub n (Items (item.Amount s)) amounts = filed A1 (negative_count n (Items (item.Amount s)) amounts)
broken_by tag_ub n (Items (item.Int ints.Counts)) zs = filed A1 (negative_count n (Items (item.Int ints.Counts)) zs)
broken_by tag_ub n (Items item.Block) blocks = filed A5 (wrong_block (Items item.Block) blocks)
broken_by tag_ub n (Items item.ByteBlock) blocks = filed A5 (wrong_block (Items item.ByteBlock) blocks)
broken_by tag_ub n (Items item.StructBlock) blocks = filed A5 (wrong_block (Items item.StructBlock) blocks)
broken_by tag_ub n (Items item.Dim) dims = filed A5 (wrong_block (Items item.Dim) dims)
broken_by tag_ub n _ _ = None

abbrev pub value_told : ℕ → Broken → List Breach
value_told part None = []
value_told part (Some w) = breach w.0 part w.1 ∷ []

-- the rule that a handle breaks, with the call that is seen
abbrev pub handle_told : (part h : ℕ) → Option (Rule × Option ℕ) → List Breach
handle_told part h None = []
handle_told part h (Some w) = record { rule = w.0; part = part; see = w.1; value = pos h } ∷ []
