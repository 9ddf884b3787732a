-- A tree as a list of tokens that gives it back, by which proofs tell trees apart. No contract speaks of it.
use Rattle.std.specs.Prelude.{◌≡◌, refl, Bool, true, false, ◌⊎◌, List, [], ◌∷◌}
use Rattle.std.proofs.Common.{◌∙◌, ap, inl, inr}
use Rattle.std.specs.Coded.{Coded, code_by, coded_bool, coded_list, coded×, coded⊎}
use Rattle.must_call.specs.declared.basic.Basic.{Basic}
use Rattle.must_call.specs.declared.basic.Basic.TheVariants.{Char}
use Rattle.must_call.specs.contracts.basic.Basic as basic
use Rattle.must_type.specs.declared.construct.Construct.{Construct}
use Rattle.must_type.specs.contracts.construct.Construct as construct
use Rattle.must_type.specs.declared.tree.Origin.{Origin}
use Rattle.must_type.specs.contracts.tree.Origin as origin
use Rattle.must_type.specs.Tree.{TypeTree, Trees, Elementary, Made, none, more}

abbrev Token : Type 0
Token = Basic ⊎ ((Origin × Construct) ⊎ Bool)

-- a tree's tokens, and then the rest: what is made comes behind its old types
abbrev mutual
  pub tokens : TypeTree → List Token → List Token
  tokens (Elementary b) rest = inl b ∷ rest
  tokens (Made o c olds) rest = row_tokens olds (inr (inl (o, c)) ∷ rest)

  pub row_tokens : Trees → List Token → List Token
  row_tokens none rest = inr (inr false) ∷ rest
  row_tokens (more t ts) rest = row_tokens ts (tokens t (inr (inr true) ∷ rest))

-- the rows that are being gathered, after one token more
abbrev step : Token → List Trees → List Trees
step (inl b) rows = more (Elementary b) none ∷ rows
step (inr (inl p)) [] = []
step (inr (inl p)) (olds ∷ rows) = more (Made p.0 p.1 olds) none ∷ rows
step (inr (inr false)) rows = none ∷ rows
step (inr (inr true)) [] = []
step (inr (inr true)) (none ∷ rows) = rows
step (inr (inr true)) (more t ts ∷ []) = []
step (inr (inr true)) (more t ts ∷ row ∷ rows) = more t row ∷ rows

abbrev run : List Token → List Trees → List Trees
run [] rows = rows
run (k ∷ ks) rows = run ks (step k rows)

abbrev first : List Trees → TypeTree
first [] = Elementary Char
first (none ∷ rows) = Elementary Char
first (more t ts ∷ rows) = t

mutual
  run_tokens : (t : TypeTree) (rest : List Token) (rows : List Trees) → run (tokens t rest) rows ≡ run rest (more t none ∷ rows)
  run_tokens (Elementary b) rest rows = refl
  run_tokens (Made o c olds) rest rows = run_row olds (inr (inl (o, c)) ∷ rest) rows

  run_row : (ts : Trees) (rest : List Token) (rows : List Trees) → run (row_tokens ts rest) rows ≡ run rest (ts ∷ rows)
  run_row none rest rows = refl
  run_row (more t ts) rest rows = run_row ts (tokens t (inr (inr true) ∷ rest)) rows ∙ run_tokens t (inr (inr true) ∷ rest) (ts ∷ rows)

abbrev tree_from : List Token → TypeTree
tree_from ks = first (run ks [])

pub tree_back : (t : TypeTree) → tree_from (tokens t []) ≡ t
tree_back t = ap first (run_tokens t [] [])

abbrev pub tree_code : Coded TypeTree
tree_code =
    code_by (List Token) (coded_list (coded⊎ basic.the_row.coded (coded⊎ (coded× origin.the_row.coded construct.the_row.coded) coded_bool))) (λ t. tokens t []) tree_from tree_back
