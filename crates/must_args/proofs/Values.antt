-- What a field breaks, rule by rule.
use Rattle.std.proofs.Common.{◌≡◌, ℕ, ℤ, [], ◌++◌, Option, Some, None, refl, sym, ◌∙◌}
use Rattle.std.proofs.lemmas.List.{append-nil}
use Rattle.must_call.specs.declared.field.Int.TheVariants as int
use Rattle.must_call.specs.declared.field.Ints.TheVariants as ints
use Rattle.must_call.specs.declared.field.Item.TheVariants as item
use Rattle.must_call.specs.declared.field.Field.{Field}
use Rattle.must_call.specs.declared.field.Field.TheVariants.{Handle, Buffer, I32, I64, Bit, Order, Items}
use Rattle.must_call.specs.Values.{Value}
use Rattle.must_find.specs.declared.rule.Rule.{Rule}
use Rattle.must_find.specs.declared.rule.Rule.TheVariants.{A1, A2, A3, A4, A5, A7}
use Rattle.must_rules.specs.Breaches.{told}
use Rattle.must_rules.specs.ArgumentRules.{negative_count, peer_outside, tag_outside, root_outside, wrong_block, wrong_color}
use Rattle.must_rules.specs.Clear.{wrong_value}
use Rattle.must_args.specs.Told.{filed, broken_by, value_told}

filed_told : (rule : Rule) (part : ℕ) (o : Option ℤ) → value_told part (filed rule o) ≡ told rule part o
filed_told rule part None = refl
filed_told rule part (Some z) = refl

alone : (rule : Rule) (part : ℕ) (o : Option ℤ) → value_told part (filed rule o) ≡ told rule part o ++ []
alone rule part o = filed_told rule part o ∙ sym (append-nil (told rule part o))

pub broken_told : (tag_ub : ℤ) (n : Option ℕ) (part : ℕ) (f : Field) (v : Value f) → value_told part (broken_by tag_ub n f v) ≡ wrong_value tag_ub n part (f, v)
broken_told tag_ub n part (I32 (int.Count s)) z = alone A1 part (negative_count n (I32 (int.Count s)) z)
broken_told tag_ub n part (I32 int.Copies) z = alone A1 part (negative_count n (I32 int.Copies) z)
broken_told tag_ub n part (I32 int.Dest) z = alone A2 part (peer_outside n (I32 int.Dest) z)
broken_told tag_ub n part (I32 int.Source) z = alone A2 part (peer_outside n (I32 int.Source) z)
broken_told tag_ub n part (I32 (int.Tag s)) z = alone A3 part (tag_outside tag_ub (I32 (int.Tag s)) z)
broken_told tag_ub n part (I32 int.Root) z = alone A4 part (root_outside n (I32 int.Root) z)
broken_told tag_ub n part (I32 int.Block) z = alone A5 part (wrong_block (I32 int.Block) z)
broken_told tag_ub n part (I32 int.Color) z = filed_told A7 part (wrong_color (I32 int.Color) z)
broken_told tag_ub n part (I32 int.Stride) z = refl
broken_told tag_ub n part (I32 int.Key) z = refl
broken_told tag_ub n part (Items (item.Amount s)) xs = alone A1 part (negative_count n (Items (item.Amount s)) xs)
broken_told tag_ub n part (Items (item.Int ints.Counts)) xs = alone A1 part (negative_count n (Items (item.Int ints.Counts)) xs)
broken_told tag_ub n part (Items (item.Int ints.Ranks)) xs = refl
broken_told tag_ub n part (Items (item.Int ints.Displacements)) xs = refl
broken_told tag_ub n part (Items item.Block) xs = alone A5 part (wrong_block (Items item.Block) xs)
broken_told tag_ub n part (Items item.ByteBlock) xs = alone A5 part (wrong_block (Items item.ByteBlock) xs)
broken_told tag_ub n part (Items item.StructBlock) xs = alone A5 part (wrong_block (Items item.StructBlock) xs)
broken_told tag_ub n part (Items item.Dim) xs = alone A5 part (wrong_block (Items item.Dim) xs)
broken_told tag_ub n part (Items item.Request) xs = refl
broken_told tag_ub n part (Items item.Aint) xs = refl
broken_told tag_ub n part (Handle r) h = refl
broken_told tag_ub n part (Buffer s) x = refl
broken_told tag_ub n part (I64 u) z = refl
broken_told tag_ub n part (Bit u) b = refl
broken_told tag_ub n part Order x = refl
