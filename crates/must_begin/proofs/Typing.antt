-- The types of a rank's table, and what they are elements of.
use Rattle.std.proofs.Common.{◌≡◌, ℕ, true, false, List, [], Option, Some, None, refl, sym, ap, ◌∙◌}
use Rattle.std.specs.Prelude.{is_some}
use Rattle.std.specs.Option.{IsSome}
use Rattle.must_call.specs.declared.basic.Basic.{Basic}
use Rattle.must_type.specs.declared.construct.TypeNo.{TypeNo}
use Rattle.must_type.specs.Maps.{Entry}
use Rattle.must_type.specs.Tree.{TypeTree, type_map}
use Rattle.must_type.specs.Table.{Types, tree_at}
use Rattle.must_sig.specs.Signatures.{Periods, expansion, signature, basics_of, repeated}
use Rattle.must_parts.specs.Matching.{MatchedOption}
use Rattle.must_derived.specs.declared.datatypes.Datatypes.{Datatypes}
use Rattle.must_derived.specs.Numbers.{number_of}
use Rattle.must_items.specs.Typed.{HasTypes}
use Rattle.must_messages.specs.declared.asked.Asked.{Asked}

-- a handle without a number stands for no type
pub untyped : (R : Asked → TypeTree → Type 0) (held : Datatypes) (trees : ℕ → Option TypeTree) (h : ℕ) → HasTypes held trees → number_of held.numbers h ≡ None → MatchedOption R None (trees h)
untyped R held trees h has e = at (trees h) (sym (has.sound h) ∙ ap (λ (o : Option TypeNo). is_some o) e)
  where
    at : (o : Option TypeTree) → is_some o ≡ false → MatchedOption R None o
    at None f = tt
    at (Some t) f = let no : true ≡ false = f in absurd cc

-- the signature of some elements of a type that the table holds is that of the handle's type
pub record IsSigned (o : Option TypeTree) (sig : Periods) (count : ℕ) : Type 0 where
  pub tree : TypeTree
  pub tree_is : o ≡ Some tree
  pub signature_is : expansion sig ≡ signature tree count

pub signed : (held : Datatypes) (table : Types) (trees : ℕ → Option TypeTree) (h : ℕ) (n : TypeNo) (sig : Periods) (count : ℕ) → table ≡ held.table → HasTypes held trees → number_of held.numbers h ≡ Some n
    → IsSome (tree_at table.slots n.number) → ((t : TypeTree) → tree_at table.slots n.number ≡ Some t → expansion sig ≡ signature t count) → IsSigned (trees h) sig count
signed held table trees h n sig count same has number live is = at (tree_at table.slots n.number) refl live
  where
    at : (o : Option TypeTree) → tree_at table.slots n.number ≡ o → IsSome o → IsSigned (trees h) sig count
    at None e l = let bad : false ≡ true = l in absurd cc
    at (Some t) e l =
        let like = has.maps h n t number (ap (λ (x : Types). tree_at x.slots n.number) (sym same) ∙ e) in
        record { tree = like.tree; tree_is = like.is; signature_is = is t e ∙ ap (λ (m : List Entry). repeated count (basics_of m)) like.map_is }

none : (xs : List Basic) → repeated 0 xs ≡ []
unfolding repeated
none xs = refl

-- no elements of any type
pub unsigned : (table : Types) (n : TypeNo) (sig : Periods) → IsSome (tree_at table.slots n.number) → ((t : TypeTree) → tree_at table.slots n.number ≡ Some t → expansion sig ≡ signature t 0) → expansion sig ≡ []
unsigned table n sig live is = at (tree_at table.slots n.number) refl live
  where
    at : (o : Option TypeTree) → tree_at table.slots n.number ≡ o → IsSome o → expansion sig ≡ []
    at None e l = let bad : false ≡ true = l in absurd cc
    at (Some t) e l = is t e ∙ none (basics_of (type_map t))
